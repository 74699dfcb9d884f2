-- The search finds the first tried vector that is under w: with the entries before d chosen, the sum is their least value less w times their
-- squares, and each open entry has the share that it would add.
use mathlib.Core.Path.{◌≡◌, refl, sym, ap, ap₂, ◌∙◌}
use mathlib.Core.Bool.{Bool, true, false}
use mathlib.Core.List.{List, [], ◌∷◌, ◌++◌, map, append-nil, append_assoc}
use mathlib.Core.Option.{Option, none, some}
use Prim.Native.Nat.{ℕ, zero, suc, ◌+◌, ◌≤◌, ◌<◌}
use native.Mathlib.Omega.{arith}
use native.Mathlib.Numerals.{add-one}
use lib.IntN.{ℤ, pos, negsuc, neg_ℤ, nat_abs, ◌+ℤ◌, ◌-ℤ◌, ◌*ℤ◌, +ℤ_idr, zero-*ℤ}
use lib.Signed.{le_z}
use lib.ListN.{length, length-append, get_or-append, get_or-map}
use lib.Seq.{get_or-append_seam}
use Rattle.integers.specs.Sum.{sum}
use Rattle.integers.proofs.Parts.{le_z_true}
use Rattle.integers.proofs.Solver.{ring, order, solver}
use Rattle.integers.proofs.Sums.{sum_zero, sum_suc, sum_ext, sum-none, sum-+, sum-*}
use Rattle.tables.specs.Matrix.{Matrix, at, nth, norm_squared}
use Rattle.tables.specs.Bounds.{Bounds}
use Rattle.tables.specs.Checks.{same}
use Rattle.tables.proofs.Checks.{all_of, same_true, bool_ext, le_of}
use Rattle.tables.proofs.Matrix.{nth-padded}
use Rattle.vectors.specs.Least.{least_value, nonzero, under}
use Rattle.vectors.specs.LeastShares.{least_term, least_pair, least_row, least_share}
use Rattle.vectors.proofs.Values.{shares_add}
use Rattle.vectors.proofs.Showing.{nonzero_true}
use Rattle.lookahead.specs.Pairs.{more}
use Rattle.tried.specs.Tried.{tried, first}
use Rattle.tried.specs.Search.{front, or_else, reached, seek, seek_half}
use Rattle.tried.proofs.TriedList.{first_ext, tried_zero, tried_suc, part, first_negated}
use Rattle.tried.proofs.Negated.{under_negated}

-- ---- a pair of entries that are 0, 1 or -1
term_zero : (l u : ℤ) → least_term l u (pos 0) ≡ pos 0
unfolding least_term
term_zero l u = ring (l ∷ u ∷ []) (search solver depth 40 fits 20000) refl

term_same : (l u : ℤ) → least_term l u (pos 1) ≡ l
unfolding least_term
term_same l u = ring (l ∷ u ∷ []) (search solver depth 40 fits 20000) refl

term_other : (l u : ℤ) → least_term l u (negsuc 0) ≡ negsuc 0 *ℤ u
unfolding least_term
term_other l u = ring (l ∷ u ∷ []) (search solver depth 40 fits 20000) refl

-- ---- a list and one entry more
module _ (xs : List ℤ) (a : ℤ) where
  before : (j : ℕ) → j < length xs → nth (xs ++ (a ∷ [])) j ≡ nth xs j
  before j h = get_or-append xs (a ∷ []) (pos 0) j h

  length_more : length (xs ++ (a ∷ [])) ≡ suc (length xs)
  length_more = length-append xs (a ∷ []) ∙ add-one (length xs)

  longer : {d : ℕ} → length xs ≡ d → length (xs ++ (a ∷ [])) ≡ suc d
  longer e = length_more ∙ ap suc e

  last : nth (xs ++ (a ∷ [])) (length xs) ≡ a
  last = get_or-append_seam xs a [] (pos 0)

-- zeros, then 1 and -y, are the negatives of zeros, then -1 and y
opposite : (xs : List ℤ) → ((i : ℕ) → nth xs i ≡ pos 0) → (y : List ℤ) (i : ℕ) → nth (xs ++ (negsuc 0 ∷ y)) i ≡ neg_ℤ (nth (xs ++ (pos 1 ∷ map neg_ℤ y)) i)
opposite [] z y zero = refl
opposite [] z y (suc i) =
    order (nth y i ∷ nth (map neg_ℤ y) i ∷ []) (get_or-map neg_ℤ y i (pos 0)) (search solver depth 40 fits 20000) (omega arith)
opposite (a ∷ xs) z y zero = rw (z 0) refl
opposite (a ∷ xs) z y (suc i) = opposite xs (λ j. z (suc j)) y i

-- each entry of a matrix, times a factor
abbrev pub times : ℤ → Matrix → Matrix
times c T i j = c *ℤ T i j

-- a - w·b ≤ 0 is a ≤ w·b
le_moved : (a w b : ℤ) → le_z (a +ℤ neg_ℤ w *ℤ b) (pos 0) ≡ le_z a (w *ℤ b)
le_moved a w b =
    bool_ext (le_z (a +ℤ neg_ℤ w *ℤ b) (pos 0)) (le_z a (w *ℤ b))
    (λ e. le_z_true {x = a} {y = w *ℤ b} (order (a ∷ w ∷ b ∷ []) (le_of (a +ℤ neg_ℤ w *ℤ b) (pos 0) e) (search solver depth 40 fits 20000) (omega arith)))
    (λ e. le_z_true {x = a +ℤ neg_ℤ w *ℤ b} {y = pos 0} (order (a ∷ w ∷ b ∷ []) (le_of a (w *ℤ b) e) (search solver depth 40 fits 20000) (omega arith)))

one_not_zero : pos 1 ≡ pos 0 → ⊥
one_not_zero e = let z : ◌≡◌ {A = ℕ} 1 0 = ap nat_abs e in absurd (omega arith)

module _ (n : ℕ) (l u : List ℤ) (w : ℤ) where
  -- what entry i would add if it were e, to the entries xs before it
  unfoldable open_share : List ℤ → ℕ → ℤ → ℤ
  open_share xs i e = pos 2 *ℤ sum (length xs) (λ j. least_term (at n l i j) (at n u i j) (e *ℤ nth xs j)) +ℤ (at n l i i -ℤ w) *ℤ (e *ℤ e)

  open_share-more : (xs : List ℤ) (a : ℤ) (i : ℕ) (e : ℤ) →
      open_share (xs ++ (a ∷ [])) i e ≡ open_share xs i e +ℤ pos 2 *ℤ least_term (at n l i (length xs)) (at n u i (length xs)) (e *ℤ a)
  unfolding open_share
  open_share-more xs a i e =
      let t : ℤ → ℕ → ℤ = λ z j. least_term (at n l i j) (at n u i j) (e *ℤ z) in
      let d : ℕ = length xs in
      let s : sum (length (xs ++ (a ∷ []))) (λ j. t (nth (xs ++ (a ∷ [])) j) j) ≡ sum d (λ j. t (nth xs j) j) +ℤ t a d =
      rw (length_more xs a)
      (sum_suc d _ ∙ ap₂ (λ (x y : ℤ). x +ℤ y) (sum_ext d _ _ (λ j h. ap (λ (z : ℤ). t z j) (before xs a j h))) (ap (λ (z : ℤ). t z d) (last xs a))) in
      rw s (ring (sum d (λ j. t (nth xs j) j) ∷ t a d ∷ at n l i i ∷ w ∷ e ∷ []) (search solver depth 40 fits 20000) refl)

  zero_share : (xs : List ℤ) (i : ℕ) → open_share xs i (pos 0) ≡ pos 0
  unfolding open_share
  zero_share xs i =
      rw (sum-none (length xs) _ (λ j h. ap (least_term (at n l i j) (at n u i j)) (zero-*ℤ (nth xs j)) ∙ term_zero (at n l i j) (at n u i j)))
      (ring (at n l i i ∷ w ∷ []) (search solver depth 40 fits 20000) refl)

  -- what entry i adds to the least value of those before it, less w times its square
  unfoldable lowered_share : List ℤ → ℕ → ℤ
  lowered_share v i = least_share n l u v i +ℤ neg_ℤ w *ℤ (nth v i *ℤ nth v i)

  -- by the entries of the vector up to its own
  share_by : (v : List ℤ) (i : ℕ) (e : ℤ) (f : ℕ → ℤ) → nth v i ≡ e → ((j : ℕ) → j < i → nth v j ≡ f j) →
      lowered_share v i ≡ pos 2 *ℤ sum i (λ j. least_term (at n l i j) (at n u i j) (e *ℤ f j)) +ℤ (at n l i i -ℤ w) *ℤ (e *ℤ e)
  unfolding lowered_share least_share least_row least_pair
  share_by v i e f h g =
      let s : ℤ = sum i (λ j. least_term (at n l i j) (at n u i j) (e *ℤ f j)) in
      ap₂ (λ (x y : ℤ). pos 2 *ℤ x +ℤ at n l i i *ℤ y +ℤ neg_ℤ w *ℤ y)
      (sum_ext i _ _ (λ j k. ap₂ (λ (x y : ℤ). least_term (at n l i j) (at n u i j) (x *ℤ y)) h (g j k))) (ap₂ (λ (x y : ℤ). x *ℤ y) h h)
      ∙ ring (s ∷ at n l i i ∷ w ∷ e ∷ []) (search solver depth 40 fits 20000) refl

  -- all of them add up to the least value, less w·x'x
  shares_sum : (k : ℕ) (v : List ℤ) → sum k (lowered_share v) ≡ sum k (least_share n l u v) +ℤ neg_ℤ w *ℤ norm_squared k (nth v)
  unfolding lowered_share norm_squared
  shares_sum k v = sum-+ k _ _ ∙ ap (λ (z : ℤ). sum k (least_share n l u v) +ℤ z) (sum-* k (neg_ℤ w) (λ i. nth v i *ℤ nth v i))

  -- the entry after xs adds its share, and those before keep theirs
  sum_more : (xs : List ℤ) (a : ℤ) → sum (length (xs ++ (a ∷ []))) (lowered_share (xs ++ (a ∷ []))) ≡ sum (length xs) (lowered_share xs) +ℤ open_share xs (length xs) a
  unfolding open_share
  sum_more xs a =
      rw (length_more xs a)
      (sum_suc (length xs) _
      ∙ ap₂ (λ (x y : ℤ). x +ℤ y)
      (sum_ext (length xs) _ _ (λ i h. share_by (xs ++ (a ∷ [])) i (nth xs i) (nth xs) (before xs a i h) (λ j k. before xs a j (omega arith)) ∙ sym (share_by xs i _ (nth xs) refl (λ j k. refl))))
      (share_by (xs ++ (a ∷ [])) (length xs) a (nth xs) (last xs a) (before xs a)))

  -- the entries xs are chosen: s is the sum so far, and p and q what the open entries would add if they were 1, and -1
  record Prefix (xs : List ℤ) (s : ℤ) (p q : ℕ → ℤ) : Type 0 where
    sum_is : s ≡ sum (length xs) (lowered_share xs)
    plus : (i : ℕ) → length xs ≤ i → i < n → p i ≡ open_share xs i (pos 1)
    minus : (i : ℕ) → length xs ≤ i → i < n → q i ≡ open_share xs i (negsuc 0)

  module _ (b : Bounds n (at n l) (at n u)) where
    module _ {xs : List ℤ} {s : ℤ} {p q : ℕ → ℤ} (c : Prefix xs s p q) (h : length xs < n) where
      abbrev d : ℕ
      d = length xs

      -- what open entry i would add, if it were e, with a chosen for entry d: m more
      next : (a e m : ℤ) {z : ℤ} (i : ℕ) → length (xs ++ (a ∷ [])) ≤ i → (d ≤ i → z ≡ open_share xs i e) →
          pos 2 *ℤ least_term (at n l i d) (at n u i d) (e *ℤ a) ≡ m → z +ℤ m ≡ open_share (xs ++ (a ∷ [])) i e
      next a e m i k f w = rw (f (omega (arith, length_more xs a)), ← w) (sym (open_share-more xs a i e))

      low_twice : (i : ℕ) → i < n → pos 2 *ℤ least_term (at n l i d) (at n u i d) (pos 1) ≡ pos 2 *ℤ at n l d i
      low_twice i g = rw (term_same (at n l i d) (at n u i d), b.low_symmetric i d g h) refl

      high_twice : (i : ℕ) → i < n → pos 2 *ℤ least_term (at n l i d) (at n u i d) (negsuc 0) ≡ negsuc 1 *ℤ at n u d i
      high_twice i g = rw (term_other (at n l i d) (at n u i d), b.high_symmetric i d g h) (ring (at n u d i ∷ []) (search solver depth 40 fits 20000) refl)

      -- an entry that is 0 adds nothing, now or later
      choose-zero : Prefix (xs ++ (pos 0 ∷ [])) s p q
      choose-zero = record {
        sum_is = sym (+ℤ_idr s) ∙ ap₂ (λ (x y : ℤ). x +ℤ y) c.sum_is (sym (zero_share xs d)) ∙ sym (sum_more xs (pos 0));
        plus = λ i k g. sym (+ℤ_idr (p i)) ∙ next (pos 0) (pos 1) (pos 0) i k (λ m. c.plus i m g) (rw (term_zero (at n l i d) (at n u i d)) refl);
        minus = λ i k g. sym (+ℤ_idr (q i)) ∙ next (pos 0) (negsuc 0) (pos 0) i k (λ m. c.minus i m g) (rw (term_zero (at n l i d) (at n u i d)) refl);
      }

      choose_one : Prefix (xs ++ (pos 1 ∷ [])) (s +ℤ p d) (more (times (pos 2) (at n l)) d p) (more (times (negsuc 1) (at n u)) d q)
      choose_one = record {
        sum_is = ap₂ (λ (x y : ℤ). x +ℤ y) c.sum_is (c.plus d (omega arith) h) ∙ sym (sum_more xs (pos 1));
        plus = λ i k g. next (pos 1) (pos 1) _ i k (λ m. c.plus i m g) (low_twice i g);
        minus = λ i k g. next (pos 1) (negsuc 0) _ i k (λ m. c.minus i m g) (high_twice i g);
      }

      choose-minus-one : Prefix (xs ++ (negsuc 0 ∷ [])) (s +ℤ q d) (more (times (negsuc 1) (at n u)) d p) (more (times (pos 2) (at n l)) d q)
      choose-minus-one = record {
        sum_is = ap₂ (λ (x y : ℤ). x +ℤ y) c.sum_is (c.minus d (omega arith) h) ∙ sym (sum_more xs (negsuc 0));
        plus = λ i k g. next (negsuc 0) (pos 1) _ i k (λ m. c.plus i m g) (high_twice i g);
        minus = λ i k g. next (negsuc 0) (negsuc 0) _ i k (λ m. c.minus i m g) (low_twice i g);
      }

    -- the least value is at most w·x'x
    abbrev lowAs : List ℤ → Bool
    lowAs v = le_z (least_value n (at n l) (at n u) (nth v)) (w *ℤ norm_squared n (nth v))

    -- the vectors xs with all choices of k entries after them
    abbrev low : List ℤ → List ℤ → Bool
    low xs y = lowAs (xs ++ y)

    -- the same of the shares' sum
    low_sum : (xs : List ℤ) → length xs ≡ n → le_z (sum (length xs) (lowered_share xs)) (pos 0) ≡ low xs []
    low_sum xs e = rw (e, append-nil xs, shares_sum n xs, shares_add n l u xs b) (le_moved (least_value n (at n l) (at n u) (nth xs)) w (norm_squared n (nth xs)))

    -- one entry more is chosen
    deeper : (k : ℕ) (xs : List ℤ) (a : ℤ) → first (λ y. low xs (a ∷ y)) (tried k) ≡ first (low (xs ++ (a ∷ []))) (tried k)
    deeper k xs a = first_ext _ _ (λ y. ap lowAs (sym (append_assoc xs (a ∷ []) y))) (tried k)

    agrees : (k d : ℕ) (xs : List ℤ) (s : ℤ) (p q : ℕ → ℤ) → length xs ≡ d → d + k ≡ n → Prefix xs s p q → first (low xs) (tried k) ≡ seek (times (pos 2) (at n l)) (times (negsuc 1) (at n u)) d k p q s
    unfolding seek reached
    agrees zero d xs s p q e f c =
        tried_zero (low xs)
        ∙ ap (λ (t : Bool). elim t as (λ z. Option (List ℤ)) [ true ↦ some [] | false ↦ none ]) (sym (low_sum xs (omega arith)) ∙ ap (λ (z : ℤ). le_z z (pos 0)) (sym c.sum_is))
    agrees (suc k) d xs s p q e f c =
        tried_suc k (low xs)
        ∙ (let h : length xs < n = omega arith in
        ap₂ or_else (ap (front (pos 0)) (deeper k xs (pos 0) ∙ agrees k (suc d) (xs ++ (pos 0 ∷ [])) s p q (longer xs (pos 0) e) (omega arith) (choose-zero c h)))
        (ap₂ or_else
        (ap (front (pos 1)) (deeper k xs (pos 1) ∙ agrees k (suc d) (xs ++ (pos 1 ∷ [])) _ _ _ (longer xs (pos 1) e) (omega arith) (rw e at (choose_one c h))))
        (ap (front (negsuc 0)) (deeper k xs (negsuc 0) ∙ agrees k (suc d) (xs ++ (negsuc 0 ∷ [])) _ _ _ (longer xs (negsuc 0) e) (omega arith) (rw e at (choose-minus-one c h))))))

    -- ---- the entries xs are all 0: the zero vector is under no number, and what x is under -x was under before
    abbrev shown : List ℤ → List ℤ → Bool
    shown xs y = under n (at n l) (at n u) w (nth (xs ++ y))

    shown-none : (xs : List ℤ) → ((i : ℕ) → nth xs i ≡ pos 0) → shown xs [] ≡ false
    unfolding under nonzero
    shown-none xs z =
        rw (append-nil xs, all_of (λ i. same (nth xs i) (pos 0)) n (λ i h. same_true (z i))) refl

    shown-one : (xs : List ℤ) → length xs < n → (y : List ℤ) → shown xs (pos 1 ∷ y) ≡ low xs (pos 1 ∷ y)
    unfolding under
    shown-one xs h y =
        rw (nonzero_true {n = n} {x = nth (xs ++ (pos 1 ∷ y))} (record { index = length xs; inside = h; differs = λ e. one_not_zero (sym (get_or-append_seam xs (pos 1) y (pos 0)) ∙ e) })) refl

    with-one : (k : ℕ) (xs : List ℤ) → length xs < n → first (λ y. shown xs (pos 1 ∷ y)) (tried k) ≡ first (low (xs ++ (pos 1 ∷ []))) (tried k)
    with-one k xs h = first_ext _ _ (shown-one xs h) (tried k) ∙ deeper k xs (pos 1)

    with-minus-one : (k : ℕ) (xs : List ℤ) → ((i : ℕ) → nth xs i ≡ pos 0) → first (λ y. shown xs (pos 1 ∷ y)) (tried k) ≡ none → first (λ y. shown xs (negsuc 0 ∷ y)) (tried k) ≡ none
    with-minus-one k xs z e = first_negated k _ _ (λ y. under_negated _ _ (opposite xs z y) n (at n l) (at n u) w) e

    -- so the vectors with -1 in front bring nothing new
    half-choices : (k : ℕ) (xs : List ℤ) → ((i : ℕ) → nth xs i ≡ pos 0) → or_else (part k (shown xs) (pos 1)) (part k (shown xs) (negsuc 0)) ≡ part k (shown xs) (pos 1)
    unfolding or_else front
    half-choices k xs z = go (first (λ y. shown xs (pos 1 ∷ y)) (tried k)) (with-minus-one k xs z)
      where
        go : (o : Option (List ℤ)) → (o ≡ none → first (λ y. shown xs (negsuc 0 ∷ y)) (tried k) ≡ none) → or_else (front (pos 1) o) (part k (shown xs) (negsuc 0)) ≡ front (pos 1) o
        go none f = ap (front (negsuc 0)) (f refl)
        go (some x) f = refl

    half-agrees : (k d : ℕ) (xs : List ℤ) (p : ℕ → ℤ) → length xs ≡ d → d + k ≡ n → ((i : ℕ) → nth xs i ≡ pos 0) → Prefix xs (pos 0) p p →
        first (shown xs) (tried k) ≡ seek_half (times (pos 2) (at n l)) (times (negsuc 1) (at n u)) d k p
    unfolding seek_half
    half-agrees zero d xs p e f z c = tried_zero (shown xs) ∙ ap (λ (t : Bool). elim t as (λ z. Option (List ℤ)) [ true ↦ some [] | false ↦ none ]) (shown-none xs z)
    half-agrees (suc k) d xs p e f z c =
        tried_suc k (shown xs)
        ∙ (let h : length xs < n = omega arith in
        ap₂ or_else
        (ap (front (pos 0)) (first_ext _ _ (λ y. ap (λ (v : List ℤ). under n (at n l) (at n u) w (nth v)) (sym (append_assoc xs (pos 0 ∷ []) y))) (tried k)
        ∙ half-agrees k (suc d) (xs ++ (pos 0 ∷ [])) p (longer xs (pos 0) e) (omega arith) (λ i. ap (λ (g : ℕ → ℤ). g i) (nth-padded xs 1) ∙ z i) (choose-zero c h)))
        (half-choices k xs z
        ∙ ap (front (pos 1)) (with-one k xs h ∙ agrees k (suc d) (xs ++ (pos 1 ∷ [])) _ _ _ (longer xs (pos 1) e) (omega arith) (rw e at (choose_one c h)))))

    module _ (p : ℕ → ℤ) (g : (i : ℕ) → i < n → p i ≡ at n l i i -ℤ w) where
      start : Prefix [] (pos 0) p p
      unfolding open_share
      start = record {
        sum_is = sym (sum_zero _);
        plus = λ i k h. g i h ∙ rw (sum_zero (λ j. least_term (at n l i j) (at n u i j) (pos 1 *ℤ nth [] j))) (ring (at n l i i ∷ w ∷ []) (search solver depth 40 fits 20000) refl);
        minus = λ i k h. g i h ∙ rw (sum_zero (λ j. least_term (at n l i j) (at n u i j) (negsuc 0 *ℤ nth [] j))) (ring (at n l i i ∷ w ∷ []) (search solver depth 40 fits 20000) refl);
      }

      -- the first tried vector that is under w is the one that the search over half of them finds
      pub tried-half : first (λ v. under n (at n l) (at n u) w (nth v)) (tried n) ≡ seek_half (times (pos 2) (at n l)) (times (negsuc 1) (at n u)) 0 n p
      tried-half = half-agrees n 0 [] p refl (omega arith) (λ i. refl) start
