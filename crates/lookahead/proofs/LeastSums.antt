-- The least sum: its size, that it is that of the shares, and that each choice stays above 0 where it does.
use mathlib.Core.Path.{◌≡◌, refl, sym, ap, ap₂, ◌∙◌}
use mathlib.Core.Bool.{Bool, true, false, ◌&&◌}
use mathlib.Core.List.{List, [], ◌∷◌}
use Prim.Native.Nat.{ℕ, zero, suc, ◌+◌, ◌*◌, ◌≤◌, ◌<◌}
use native.Mathlib.Omega.{arith}
use lib.Dec.{leb}
use lib.IntN.{ℤ, pos, ◌+ℤ◌}
use lib.ListN.{length, drop}
use lib.Signed.{◌≤ℤ◌, ◌<ℤ◌, lt_z}
use borrow.Author.Tests.{lt-leb, le-leb}
use mir.Syntax.{w64}
use mir.Val.{SFits, to_z, of_z}
use Rattle.integers.specs.Numbers.{Within, min_ℤ}
use Rattle.integers.proofs.Machine.{within_more, within-+, fits_within, clean}
use Rattle.integers.proofs.Order.{min_by, min_≤ˡ, min_≤ʳ}
use Rattle.integers.proofs.Solver.{◌&◌, ring, order, solver}
use Rattle.tables.specs.Ranges.{greatest_order, table_room}
use Rattle.tables.specs.Matrix.{Matrix, at, nth}
use Rattle.tables.proofs.Checks.{and_right}
use Rattle.lookahead.specs.declared.least.Share.{Share}
use Rattle.lookahead.specs.Pairs.{same_sign, other_sign, more, open_range, sum_range, raised_range, least_range, PairTables, OpenShares}
use Rattle.lookahead.specs.LeastSums.{least_of, least, look_ahead, passed_over, least_choice, raised, least_one, share_after, shares_after}
use Rattle.lookahead.specs.LeastSums.{least_shares, share_at, shares_from, ShareWithin, AllWithin, LastShares}
use Rattle.lookahead.proofs.Sizes.{row_small}

-- ---- sums of numbers as the machine reads them
module _ {x y : ℤ} (v : Within least_range x) (w : Within least_range y) where
  read-sum : to_z w64 (of_z w64 x) +ℤ to_z w64 (of_z w64 y) ≡ x +ℤ y
  read-sum = ap₂ (λ (a b : ℤ). a +ℤ b) (clean (fits_within v (omega arith))) (clean (fits_within w (omega arith)))

  pub sum_fits : SFits w64 (to_z w64 (of_z w64 x) +ℤ to_z w64 (of_z w64 y))
  sum_fits = rw read-sum (fits_within (within-+ v w) (omega arith))

  pub sum_is : to_z w64 (of_z w64 (to_z w64 (of_z w64 x) +ℤ to_z w64 (of_z w64 y))) ≡ x +ℤ y
  sum_is = clean sum_fits ∙ read-sum

pub share_is : {a b c d : ℤ} → a ≡ b → c ≡ d → ◌≡◌ {A = Share} (record { plus = a; minus = c }) (record { plus = b; minus = d })
share_is e f = ap₂ (λ (x y : ℤ). record { plus = x; minus = y }) e f

-- ---- one law over the count: the shares of entry d and of the k after it give the least sum
swapped : (x s y : ℤ) → x +ℤ s +ℤ y ≡ x +ℤ y +ℤ s
swapped x s y = ring (x ∷ s ∷ y ∷ []) (search solver depth 40 fits 20000) refl

after-from : (S O : Matrix) (d i k : ℕ) (p q : ℕ → ℤ) (s : ℤ) →
    shares_after S O d i (shares_from p q s i k) ≡ shares_from (more S d p) (more O d q) s i k
unfolding shares_after share_after raised
after-from S O d i zero p q s = ap (λ (a : Share). a ∷ []) (share_is (swapped (p i) s (S d i)) (swapped (q i) s (O d i)))
after-from S O d i (suc k) p q s = ap (λ (l : List Share). share_at (more S d p) (more O d q) i ∷ l) (after-from S O d (suc i) k p q s)

pub shares_least : (S O : Matrix) (d k : ℕ) (p q : ℕ → ℤ) (s : ℤ) →
    least_shares S O s d k (shares_from p q s d k) ≡ least S O d (suc k) p q s
unfolding least_shares least least_choice least_one raised
shares_least S O d zero p q s = refl
shares_least S O d (suc k) p q s =
    rw (
      after-from S O d (suc d) k p q s,
      after-from O S d (suc d) k p q s,
      shares_least S O (suc d) k p q s,
      shares_least S O (suc d) k (more S d p) (more O d q) s,
      shares_least S O (suc d) k (more O d p) (more S d q) s,
    )

-- ---- sizes
pub share_more : {m k : ℕ} {a : Share} → m ≤ k → ShareWithin m a → ShareWithin k a
share_more h f = record { plus = within_more h f.plus; minus = within_more h f.minus }

within-least : {m : ℕ} {x y z : ℤ} → Within m x → Within m y → Within m z → Within m (least_of x y z)
unfolding least_of
within-least {m} {x} {y} {z} f g h = min_by (min_ℤ x y) z (Within m) (λ l. min_by x y (Within m) (λ i. f) (λ i. g)) (λ l. h)

pub all_more : {m k : ℕ} → m ≤ k → (l : List Share) → AllWithin m l → AllWithin k l
all_more h [] s = tt
all_more h (x ∷ l) s = (share_more h s.0, all_more h l s.1)

abbrev Small : ℕ → List Share → Type 0
Small d l = AllWithin (sum_range + open_range d) l

after_length : (S O : Matrix) (d i : ℕ) (l : List Share) → length (shares_after S O d i l) ≡ length l
unfolding shares_after
after_length S O d i [] = refl
after_length S O d i (a ∷ l) = ap suc (after_length S O d (suc i) l)

module _ {n : ℕ} {t : List ℤ} (g : PairTables n t) {f o d : ℕ} (a : f ≤ table_room) (b : o ≤ table_room) (h : d < n) where
  abbrev After : ℕ → List Share → List Share
  After i l = shares_after (at n (drop f t)) (at n (drop o t)) d i l

  after_small : (i : ℕ) (l : List Share) → i + length l ≤ greatest_order → Small d l → Small (suc d) (After i l)
  unfolding shares_after share_after
  after_small i [] k s = tt
  after_small i (x ∷ l) k s = (
    record {
      plus = within_more (omega arith) (within-+ s.0.plus (row_small g a h (omega arith)));
      minus = within_more (omega arith) (within-+ s.0.minus (row_small g b h (omega arith)));
    },
    after_small (suc i) l (omega arith) s.1,
  )

-- the entries after the first one, which is chosen
module _ {n : ℕ} {t : List ℤ} {s : ℤ} {d : ℕ} {a : Share} {l : List Share} (g : LastShares n t s d (a ∷ l)) where
  pub last_zero : LastShares n t s (suc d) l
  last_zero = record { pairs = g.pairs; inside = omega (arith, g.inside); sum = g.sum; small = all_more (omega arith) l g.small.1 }

  pub last-after : {f o : ℕ} → f ≤ table_room → o ≤ table_room →
      LastShares n t s (suc d) (shares_after (at n (drop f t)) (at n (drop o t)) d (suc d) l)
  last-after p q =
      let h : d < n = omega (arith, g.inside) in
      record {
        pairs = g.pairs;
        inside = rw after_length (omega (arith, g.inside));
        sum = g.sum;
        small = after_small g.pairs p q h (suc d) l (omega (arith, g.inside, g.pairs.order)) g.small.1;
      }

  pub last_one : LastShares n t s (suc d) (shares_after (same_sign n t) (other_sign n t) d (suc d) l)
  last_one = last-after {f = 0} {o = table_room} (omega arith) (omega arith)

  pub last-minus-one : LastShares n t s (suc d) (shares_after (other_sign n t) (same_sign n t) d (suc d) l)
  last-minus-one = last-after {f = table_room} {o = 0} (omega arith) (omega arith)

  -- what the shares of those entries ask, to be added to
  pub after_asked : {f o : ℕ} → f ≤ table_room → o ≤ table_room →
      PairTables n t × (f ≤ table_room) × (o ≤ table_room) × (d < n) × (d + 1 + length l ≤ greatest_order) × AllWithin least_range l
  after_asked p q =
      let order = g.pairs.order in
      let inside = g.inside in
      (g.pairs, p, q, omega arith, omega arith, all_more (omega arith) l g.small.1)

  first-within : ShareWithin raised_range a
  first-within = share_more (omega (arith, g.inside, g.pairs.order)) g.small.0

  pub first_small : ShareWithin least_range a
  first_small = share_more (omega arith) first-within

-- each entry brings the sum no further than its share
last_within : (k : ℕ) {n : ℕ} {t : List ℤ} {s : ℤ} {d : ℕ} (l : List Share) → LastShares n t s d l →
    Within ((length l + 1) * raised_range) (least_shares (same_sign n t) (other_sign n t) s d k l)
unfolding least_shares least_choice least_one
last_within zero [] g = within_more (omega arith) g.sum
last_within zero (a ∷ l) g =
    within-least (within_more (omega arith) g.sum) (within_more (omega arith) (first-within g).plus)
    (within_more (omega arith) (first-within g).minus)
last_within (suc k) [] g = within_more (omega arith) g.sum
last_within (suc k) {n} {t} {d = d} (a ∷ l) g =
    within-least (within_more (omega arith) (last_within k l (last_zero g)))
    (within_more (omega (arith, after_length (same_sign n t) (other_sign n t) d (suc d) l))
    (within-+ (first-within g).plus (last_within k _ (last_one g))))
    (within_more (omega (arith, after_length (other_sign n t) (same_sign n t) d (suc d) l))
    (within-+ (first-within g).minus (last_within k _ (last-minus-one g))))

-- the search has such shares, of all entries that are left
module _ {n : ℕ} {t : List ℤ} {d : ℕ} {p q : List ℤ} (g : OpenShares n t d p q) {s : ℤ} (w : Within sum_range s) where
  open_small : (i : ℕ) → i < greatest_order → ShareWithin (open_range d) (share_at (nth p) (nth q) i)
  open_small i h = record { plus = g.plus.small i h; minus = g.minus.small i h }

  from-length : (i k : ℕ) → length (shares_from (nth p) (nth q) s i k) ≡ suc k
  from-length i zero = refl
  from-length i (suc k) = ap suc (from-length (suc i) k)

  from-small : (i k : ℕ) → i + k < greatest_order → Small d (shares_from (nth p) (nth q) s i k)
  unfolding raised
  from-small i zero h =
      let f = open_small i (omega arith) in
      (record { plus = within_more (omega arith) (within-+ f.plus w); minus = within_more (omega arith) (within-+ f.minus w) }, tt)
  from-small i (suc k) h = (share_more (omega arith) (open_small i (omega arith)), from-small (suc i) k (omega arith))

  pub open_last : (k : ℕ) → d + suc k ≡ n → LastShares n t s d (shares_from (nth p) (nth q) s d k)
  open_last k e = record {
    pairs = g.pairs;
    inside = rw (from-length d k) e;
    sum = w;
    small = from-small d k (omega (arith, g.pairs.order));
  }

-- ---- one step of the code: y and z are the least sums with the entries after the first, a, where it is 1 and -1
module _ (k : ℕ) {n : ℕ} {t : List ℤ} {s : ℤ} {d : ℕ} {a : Share} {l : List Share} (g : LastShares n t s d (a ∷ l)) {y z : ℤ}
    (e : y ≡ least_shares (same_sign n t) (other_sign n t) s (suc d) k (shares_after (same_sign n t) (other_sign n t) d (suc d) l))
    (f : z ≡ least_shares (same_sign n t) (other_sign n t) s (suc d) k (shares_after (other_sign n t) (same_sign n t) d (suc d) l)) where
  pub choice_small : ShareWithin least_range a × Within least_range y × Within least_range z
  choice_small = let order = g.pairs.order in let inside = g.inside in (
    first_small g,
    rw e (within_more (omega (arith, after_length (same_sign n t) (other_sign n t) d (suc d) l)) (last_within k _ (last_one g))),
    rw f (within_more (omega (arith, after_length (other_sign n t) (same_sign n t) d (suc d) l)) (last_within k _ (last-minus-one g))),
  )

  pub choice_is : {x : ℤ} → x ≡ least_shares (same_sign n t) (other_sign n t) s (suc d) k l →
      least_choice a x y z ≡ least_shares (same_sign n t) (other_sign n t) s d (suc k) (a ∷ l)
  unfolding least_shares
  choice_is h = rw (h, e, f)

-- ---- where the least sum is above 0
module _ (x y z : ℤ) where
  least_first : least_of x y z ≤ℤ x
  unfolding least_of
  least_first =
      order (min_ℤ (min_ℤ x y) z ∷ min_ℤ x y ∷ x ∷ []) (min_≤ˡ (min_ℤ x y) z & min_≤ˡ x y) (search solver depth 40 fits 20000) (omega arith)

  least-second : least_of x y z ≤ℤ y
  unfolding least_of
  least-second =
      order (min_ℤ (min_ℤ x y) z ∷ min_ℤ x y ∷ y ∷ []) (min_≤ˡ (min_ℤ x y) z & min_≤ʳ x y) (search solver depth 40 fits 20000) (omega arith)

  least-third : least_of x y z ≤ℤ z
  unfolding least_of
  least-third = min_≤ʳ (min_ℤ x y) z

-- each of the three choices stays above 0, after what was chosen before
module _ (c x a y b z : ℤ) (h : pos 0 <ℤ (c +ℤ least_of x (a +ℤ y) (b +ℤ z))) where
  abbrev m : ℤ
  m = least_of x (a +ℤ y) (b +ℤ z)

  pub zero_above : pos 0 <ℤ (c +ℤ x)
  zero_above = order (c ∷ m ∷ x ∷ []) (h & least_first x (a +ℤ y) (b +ℤ z)) (search solver depth 40 fits 20000) (omega arith)

  pub one-above : pos 0 <ℤ (c +ℤ a +ℤ y)
  one-above = order (c ∷ m ∷ a ∷ y ∷ []) (h & least-second x (a +ℤ y) (b +ℤ z)) (search solver depth 40 fits 20000) (omega arith)

  pub minus-one-above : pos 0 <ℤ (c +ℤ b +ℤ z)
  minus-one-above = order (c ∷ m ∷ b ∷ z ∷ []) (h & least-third x (a +ℤ y) (b +ℤ z)) (search solver depth 40 fits 20000) (omega arith)

-- ---- the code's question
module _ (S O : Matrix) (d k : ℕ) (p q : ℕ → ℤ) (s : ℤ) where
  abbrev above : Bool
  above = lt_z (pos 0) (least S O d k p q s)

  pub many-left : look_ahead < k → false ≡ passed_over S O d k p q s
  unfolding passed_over
  many-left h = sym (ap (λ (a : Bool). a && above) (lt-leb k look_ahead h))

  pub few_left : k ≤ look_ahead → above ≡ passed_over S O d k p q s
  unfolding passed_over
  few_left h = sym (ap (λ (a : Bool). a && above) (le-leb k look_ahead h))

  -- the entries that are passed over have a least sum above 0
  pub passed-above : passed_over S O d k p q s ≡ true → above ≡ true
  unfolding passed_over
  passed-above = and_right (leb k look_ahead) above
