-- What the open entries would add: how a row of a table is added to it, entry by entry, and how large it gets.
use mathlib.Core.Path.{◌≡◌, refl, sym, ap, ◌∙◌}
use mathlib.Core.Bool.{true, false}
use mathlib.Core.Logic.{by_cases}
use mathlib.Core.List.{List}
use Prim.Native.Nat.{ℕ, suc, ◌+◌, ◌*◌, ◌-◌, ◌/◌, ◌%◌, ◌≤◌, ◌<◌}
use native.Mathlib.Omega.{arith}
use native.Mathlib.Decide.{ℕ_discrete}
use lib.IntN.{ℤ, pos, negsuc, nat_abs, ◌+ℤ◌, ◌-ℤ◌, ◌*ℤ◌}
use lib.Signed.{lt_z}
use lib.ListN.{length, drop, set, replicate, length-drop, length-set, length-replicate, get_or-replicate}
use lib.Seq.{get_or-set_same, get_or-set_other, drop-set-add, drop-set-lt}
use mir.Syntax.{w64}
use mir.Val.{SFits}
use Rattle.integers.specs.Numbers.{Within}
use Rattle.integers.proofs.Machine.{within_more, within-+, within--, within-*, fits_within}
use Rattle.tables.specs.Bounds.{CheckedTables}
use Rattle.tables.specs.Matrix.{at, nth}
use Rattle.tables.specs.Ranges.{greatest_order, table_room, entry_range}
use Rattle.tables.proofs.Buffers.{entry_more}
use Rattle.tables.proofs.Matrix.{inside, table_fits, row_inside, column_inside, nth-at}
use Rattle.lookahead.specs.Pairs.{same_sign, other_sign, pairs_room, pair_range, under_range, open_range, share_range, PairTables, Open, OpenShares, Searching}
use Rattle.lookahead.proofs.Sizes.{row_small, open_within}
use Rattle.tried.specs.Search.{by_sign, after, FilledPairs, Added, Chosen, Diagonal}
use Rattle.tried.proofs.Signs.{by_sign_lem, sign_above, sign_below}

-- entries of a list that are small, with another put among them
small-more : (t : List ℤ) (m : ℕ) (v : ℤ) {b : ℕ} (k : ℕ) → m < length t → Within b v → Within b (nth t k) → Within b (nth (set t m v) k)
small-more t m v {b} k h w f =
    by_cases (ℕ_discrete k m) (λ q. rw (q, get_or-set_same t m v (pos 0) h) w) (λ q. rw (get_or-set_other t m k v (pos 0) q) f)

zero_within : {m : ℕ} → Within m (pos 0)
zero_within = record { size = omega arith }

-- ---- the tables that the search reads
pub pairs_zeros : {n : ℕ} → n ≤ greatest_order → PairTables n (replicate pairs_room (pos 0))
pairs_zeros o = record { order = o; size = length-replicate pairs_room (pos 0); small = λ k h. rw (get_or-replicate pairs_room k (pos 0) (pos 0) h) zero_within }

pairs_more : {n : ℕ} {t : List ℤ} {k : ℕ} {v : ℤ} → k < pairs_room → Within pair_range v → PairTables n t → PairTables n (set t k v)
pairs_more {n} {t} {k} h w d =
    let i : k < length t = omega (arith, d.size) in
    record { order = d.order; size = length-set t k _ ∙ d.size; small = λ j l. small-more t k _ j i w (d.small j l) }

-- an entry, doubled
module _ {n : ℕ} (t : List ℤ) (g : (i j : ℕ) → i < n → j < n → nat_abs (at n t i j) ≤ entry_range) {c : ℤ} (w : Within 2 c) {k : ℕ} (h : k < n * n) where
  twice_within : Within pair_range (c *ℤ nth t k)
  twice_within =
      let e : Within entry_range (nth t k) = rw (nth-at n k t) (record { size = g (k / n) (k % n) (row_inside n k h) (column_inside n k h) }) in
      within_more (omega arith) (within-* w e)

  pub twice_fits : SFits w64 (c *ℤ nth t k)
  twice_fits = fits_within twice_within (omega arith)

module _ {n : ℕ} {l u : List ℤ} where
  pub filled_more : CheckedTables n l u → {k : ℕ} → k < n * n → {t : List ℤ} → FilledPairs n l u t k →
      FilledPairs n l u (set (set t k (pos 2 *ℤ nth l k)) (table_room + k) (negsuc 1 *ℤ nth u k)) (suc k)
  filled_more g {k} h {t} a =
      let b : k < table_room = omega (arith, table_fits g.order) in
      let d = a.tables in
      let i : k < length t = omega (arith, d.size) in
      let j : k < length (drop table_room t) = omega (arith, d.size, length-drop table_room t) in
      let x = pos 2 *ℤ nth l k in
      let y = negsuc 1 *ℤ nth u k in
      let e = drop-set-add table_room (set t k x) k y ∙ ap (λ (z : List ℤ). set z k y) (drop-set-lt table_room t k x b) in
      record {
        tables = pairs_more {k = table_room + k} (omega arith) (twice_within u g.bounds.high_range {c = negsuc 1} (record { size = omega arith }) h)
            (pairs_more {k = k} (omega arith) (twice_within l g.bounds.low_range {c = pos 2} (record { size = omega arith }) h) d);
        same = λ m q. get_or-set_other (set t k x) (table_room + k) m y (pos 0) (omega arith) ∙ entry_more t k _ (λ z. pos 2 *ℤ nth l z) i refl m q (a.same m);
        other = λ m q. rw e (entry_more (drop table_room t) k _ (λ z. negsuc 1 *ℤ nth u z) j refl m q (a.other m));
      }

-- what the code reads, of the tables L and U
module _ {n : ℕ} {l u t : List ℤ} (a : FilledPairs n l u t (n * n)) (i j : ℕ) (h : i < n) (k : j < n) where
  pub same_at : same_sign n t i j ≡ pos 2 *ℤ at n l i j
  unfolding at
  same_at = a.same (i * n + j) (inside h k)

  pub other_at : other_sign n t i j ≡ negsuc 1 *ℤ at n u i j
  unfolding at
  other_at = a.other (i * n + j) (inside h k)

-- ---- a row of a table is added
module _ {n : ℕ} {t : List ℤ} {f d : ℕ} {p : List ℤ} where
  pub added_more : {p' : List ℤ} {m : ℕ} → m < greatest_order → Added n t f d p p' m → Added n t f d p (set p' m (nth p m +ℤ at n (drop f t) d m)) (suc m)
  added_more {p'} {m} h a = record {
    size = length-set p' m _ ∙ a.size;
    entries = λ k l. entry_more p' m _ (λ i. nth p i +ℤ at n (drop f t) d i) (omega (arith, a.size)) refl k l (a.entries k);
  }

  -- sizes
  module _ (g : PairTables n t) (b : f ≤ table_room) (h : d < n) (o : Open d p) where
    sum-within : {k : ℕ} → k < greatest_order → Within (open_range (suc d)) (nth p k +ℤ at n (drop f t) d k)
    sum-within l = within_more (omega arith) (within-+ (o.small _ l) (row_small g b h l))

    pub sum_fits : {k : ℕ} → k < greatest_order → SFits w64 (nth p k +ℤ at n (drop f t) d k)
    sum_fits l = fits_within (sum-within l) (omega (arith, g.order))

    pub added_open : {p' : List ℤ} → Added n t f d p p' greatest_order → Open (suc d) p'
    added_open a = record { size = a.size; small = λ k l. rw (a.entries k l) (sum-within l) }

-- entry d is chosen, and not 0
module _ {n : ℕ} {t : List ℤ} {d : ℕ} {p q : List ℤ} (g : OpenShares n t d p q) (h : d < n) {p' q' : List ℤ} {e : ℤ} where
  pub chosen-one : lt_z (pos 0) e ≡ true → Added n t 0 d p p' greatest_order → Added n t table_room d q q' greatest_order → Chosen n t d e p q p' q'
  unfolding after
  chosen-one s a b = let order = g.pairs.order in record {
    plus = added_open g.pairs (omega arith) h g.plus a;
    minus = added_open g.pairs (omega arith) h g.minus b;
    plus_is = λ k l. a.entries k (omega arith) ∙ sym (ap (λ (f : ℕ → ℤ). f k) (sign_above e _ _ _ s));
    minus_is = λ k l. b.entries k (omega arith) ∙ sym (ap (λ (f : ℕ → ℤ). f k) (sign_above e _ _ _ s));
  }

  pub chosen-minus-one : lt_z (pos 0) e ≡ false → (e ≡ pos 0 → ⊥) → Added n t table_room d p p' greatest_order → Added n t 0 d q q' greatest_order → Chosen n t d e p q p' q'
  unfolding after
  chosen-minus-one s z a b = let order = g.pairs.order in record {
    plus = added_open g.pairs (omega arith) h g.plus a;
    minus = added_open g.pairs (omega arith) h g.minus b;
    plus_is = λ k l. a.entries k (omega arith) ∙ sym (ap (λ (f : ℕ → ℤ). f k) (sign_below e _ _ _ s z));
    minus_is = λ k l. b.entries k (omega arith) ∙ sym (ap (λ (f : ℕ → ℤ). f k) (sign_below e _ _ _ s z));
  }

-- ---- what each entry adds by itself
pub open_zeros : Open 0 (replicate greatest_order (pos 0))
open_zeros = record { size = length-replicate greatest_order (pos 0); small = λ k h. rw (get_or-replicate greatest_order k (pos 0) (pos 0) h) zero_within }

module _ (n : ℕ) (t : List ℤ) (w : ℤ) where
  module _ (o : n ≤ greatest_order) (g : (i j : ℕ) → i < n → j < n → nat_abs (at n t i j) ≤ entry_range) (s : Within under_range w) {m : ℕ} (h : m < n) where
    difference-within : Within (open_range 0) (at n t m m -ℤ w)
    difference-within = within_more (omega arith) (within-- {x = at n t m m} (record { size = g m m h h }) s)

    pub difference_fits : SFits w64 (at n t m m -ℤ w)
    difference_fits = fits_within difference-within (omega arith)

    pub diagonal-more : {p : List ℤ} → Diagonal n t w p m → Diagonal n t w (set p m (at n t m m -ℤ w)) (suc m)
    diagonal-more {p} a =
        let i : m < length p = omega (arith, a.start.size) in
        record {
          start = record { size = length-set p m _ ∙ a.start.size; small = λ k l. small-more p m _ k i difference-within (a.start.small k l) };
          entries = λ k q. entry_more p m _ (λ i. at n t i i -ℤ w) i refl k q (a.entries k);
        }

-- ---- one entry fewer is left
pub open_more : {d : ℕ} {p : List ℤ} → Open d p → Open (suc d) p
open_more o = record { size = o.size; small = λ k h. within_more (omega arith) (o.small k h) }

-- entry n - left - 1 is chosen, the sum is with it, and p and q are what the others would then add
pub next : {n : ℕ} {t : List ℤ} {left : ℕ} {s : ℤ} {p q : List ℤ} → PairTables n t → left < n → Within ((n - left) * share_range) s →
    Open (suc (n - suc left)) p → Open (suc (n - suc left)) q → Searching n t left s p q
next {n} {left = left} g h w o o' =
    let e : n - left ≡ suc (n - suc left) = omega arith in
    record { shares = rw e (record { pairs = g; plus = o; minus = o' }); inside = omega arith; sum = w }

module _ {n : ℕ} {t : List ℤ} {left : ℕ} {s : ℤ} {p q : List ℤ} (g : Searching n t left s p q) (h : 0 < left) where
  pub first-within : {r : List ℤ} → Open (n - left) r → Within share_range (nth r (n - left))
  first-within o = let order = g.shares.pairs.order in let i = g.inside in open_within o (omega arith) (omega arith)

  -- the sum with an entry
  pub next-within : (e : ℤ) → Within ((n - (left - 1)) * share_range) (by_sign e s (s +ℤ nth p (n - left)) (s +ℤ nth q (n - left)))
  next-within e =
      let i = g.inside in
      by_sign_lem e (Within ((n - (left - 1)) * share_range)) (within_more (omega arith) g.sum)
      (within_more (omega arith) (within-+ g.sum (first-within g.shares.plus))) (within_more (omega arith) (within-+ g.sum (first-within g.shares.minus)))

-- ---- where all entries before are 0
pub next-half : {n : ℕ} {t : List ℤ} {left : ℕ} {p : List ℤ} → Searching n t left (pos 0) p p → 0 < left → Searching n t (left - 1) (pos 0) p p
next-half {n} {left = left} g h =
    let i = g.inside in
    let e : suc (n - left) ≡ suc (n - suc (left - 1)) = omega arith in
    let o = rw e at (open_more g.shares.plus) in
    next g.shares.pairs (omega arith) zero_within o o

pub start-half : {n : ℕ} {t : List ℤ} {p : List ℤ} → PairTables n t → Open 0 p → Searching n t n (pos 0) p p
start-half {n} g o =
    let e : n - n ≡ 0 = omega arith in
    record { shares = rw e (record { pairs = g; plus = o; minus = o }); inside = omega arith; sum = zero_within }
