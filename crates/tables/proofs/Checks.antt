-- Laws of the checks: of &&, of `all`, of each test and of `first_refusal`; that the mended tables of tables which pass are bounds, and that tables pass
-- exactly where each pair does.
use mathlib.Core.Path.{◌≡◌, refl, sym, ap, ◌∙◌, subst}
use mathlib.Core.Logic.{◌⊎◌, inl, inr}
use mathlib.Core.Bool.{Bool, true, false, false≢true, not, ◌&&◌}
use mathlib.Core.List.{List, [], ◌∷◌, ◌++◌}
use Prim.Native.Nat.{ℕ, zero, suc, ◌+◌, ◌*◌, ◌^◌, ◌/◌, ◌%◌, ◌≤◌, ◌<◌}
use native.Mathlib.Decide.{dec_lt, ℕ_discrete}
use native.Mathlib.Numerals.{add-one}
use native.Mathlib.Omega.{arith}
use lib.Dec.{T, eqb}
use lib.IntN.{ℤ, pos, negsuc, neg_ℤ, nat_abs, ◌-ℤ◌, +ℤ_idl}
use lib.ListN.{length}
use lib.Signed.{◌≤ℤ◌, ◌<ℤ◌, le_z, lt_z, mag, non_neg, ≤ℤ_refl, clash_ℤ}
use mir.Syntax.{w64}
use mir.Val.{Fits, SFits, to_z, of_z}
use borrow.Author.Tests.{leb-true, le-leb, eqb-true, eq-eqb, not-true, not-false}
use Rattle.integers.specs.Numbers.{Within, min_ℤ, max_ℤ}
use Rattle.integers.proofs.Order.{min_by, max_by, min_≤ʳ, ≤_maxˡ, max_≤}
use Rattle.integers.proofs.Parts.{≤ℤ_antisym, ≤ℤ_trans, pos_nonneg, ≤_out, le_z_true, le_z_false}
use Rattle.integers.proofs.Machine.{within-neg, within_in, within_low, within-high, fits, lt_yes, lt_no, same_bits, as_usize}
use Rattle.tables.specs.Ranges.{greatest_order, entry_range, linear_range}
use Rattle.tables.specs.Matrix.{nth, at}
use Rattle.tables.specs.Checks.{all, Check, first_refusal, order_ok, sizes_ok, within, all_within, linear_within, tables_within, nowhere_crossed, same, check_range, check_crossed, check_lopsided, bounds_checks, table_checks}
use Rattle.tables.specs.Mending.{mended_low, mended_high, Symmetric}
use Rattle.tables.specs.Entering.{low_bounds, high_bounds}
use Rattle.tables.specs.Pairs.{entry_bounded, pair_even, pair_meets, pair_bounded, tables_bounded}
use Rattle.tables.specs.Bounds.{Bounds}
use Rattle.tables.specs.declared.Refusal.{Refusal}
use Rattle.tables.specs.declared.Refusal.TheVariants.{Range}
use Rattle.std.specs.Prelude.{Ok, Err}
use Rattle.tables.proofs.Matrix.{inside, row_inside, column_inside, nth-at}
use Rattle.tables.proofs.MendedTables.{greater_pairing, smaller_pairing, at-mended, mended_symmetric, mended_twice}

-- ---- tests
pub true_of : (a : Bool) → T a → a ≡ true
true_of true t = refl
true_of false t = absurd t

pub of_true : {a : Bool} → a ≡ true → T a
of_true e = subst T (sym e) tt

-- not true, so false
pub false_of : (a : Bool) → (a ≡ true → ⊥) → a ≡ false
false_of true f = absurd (f refl)
false_of false f = refl

-- two tests that pass together are equal
pub bool_ext : (a b : Bool) → (a ≡ true → b ≡ true) → (b ≡ true → a ≡ true) → a ≡ b
bool_ext true b f g = sym (f refl)
bool_ext false true f g = g refl
bool_ext false false f g = refl

pub and_left : (a b : Bool) → (a && b) ≡ true → a ≡ true
and_left true b e = refl
and_left false b e = e

pub and_right : (a b : Bool) → (a && b) ≡ true → b ≡ true
and_right true b e = e
and_right false true e = refl
and_right false false e = e

pub and_of : {a b : Bool} → a ≡ true → b ≡ true → (a && b) ≡ true
and_of h k = rw (h, k)

pub and_first_false : {a : Bool} (b : Bool) → a ≡ false → (a && b) ≡ false
and_first_false b h = rw h

-- what `let z = a && b` stands for, by what is known of z either way
pub and_by : {a b : Bool} (z : Bool) → (z ≡ true → (a ≡ true) × (b ≡ true)) → (z ≡ false → ((a ≡ true) × (b ≡ false)) ⊎ (a ≡ false)) →
    z ≡ (a && b)
and_by true f g = let h = f refl in sym (and_of h.0 h.1)
and_by {a} {b} false f g = go (g refl)
  where
    go : ((a ≡ true) × (b ≡ false)) ⊎ (a ≡ false) → false ≡ (a && b)
    go (inl h) = rw (h.0, h.1) refl
    go (inr h) = sym (and_first_false b h)

-- what a call found, where the code asks `if !f(..)`
pub call_false : {r t : Bool} → r ≡ t → not r ≡ true → t ≡ false
call_false {r} e q = sym e ∙ not-true r q

pub call_true : {r t : Bool} → r ≡ t → not r ≡ false → t ≡ true
call_true {r} e q = sym e ∙ not-false r q

-- ---- a test of each of 0, .., n - 1
module _ (p : ℕ → Bool) where
  pub all_none : all 0 p ≡ true
  unfolding all
  all_none = refl

  pub all_more : (n : ℕ) → all n p ≡ true → p n ≡ true → all (n + 1) p ≡ true
  unfolding all
  all_more n h k = rw add-one (and_of h k)

  pub all_of : (n : ℕ) → ((i : ℕ) → i < n → p i ≡ true) → all n p ≡ true
  unfolding all
  all_of zero h = refl
  all_of (suc n) h = and_of (all_of n (λ i k. h i (omega arith))) (h n (omega arith))

  pub all-at : (n : ℕ) → all n p ≡ true → (i : ℕ) → i < n → p i ≡ true
  unfolding all
  all-at zero e i h = absurd (omega arith)
  all-at (suc n) e i h = go (ℕ_discrete i n) (all-at n (and_left (all n p) (p n) e) i)
    where
      go : Dec (i ≡ n) → (i < n → p i ≡ true) → p i ≡ true
      go (yes q) f = ap p q ∙ and_right (all n p) (p n) e
      go (no q) f = f (omega arith)

  pub all_false : (n i : ℕ) → i < n → p i ≡ false → all n p ≡ false
  all_false n i h e = false_of (all n p) (λ t. false≢true (sym e ∙ all-at n t i h))

-- ---- the tests of numbers
pub le_of : (x y : ℤ) → le_z x y ≡ true → x ≤ℤ y
le_of x y e = record { le = of_true e }

-- n below 1, and n from 1 up
pub order-no : {n : ℤ} → n <ℤ pos 1 → order_ok n ≡ false
unfolding order_ok
order-no h = and_first_false _ (le_z_false h)

pub order_is : {n : ℤ} → pos 1 ≤ℤ n → order_ok n ≡ le_z n (pos greatest_order)
unfolding order_ok
order_is h = rw (le_z_true h)

pub within_of : (m : ℕ) (x : ℤ) → within m x ≡ true → Within m x
unfolding within
within_of m x e = record { size = leb-true (nat_abs x) m e }

-- both ends of each linear term
pub linear_of : (n : ℕ) (a b : List ℤ) → linear_within n a b ≡ true → (k : ℕ) → k < n → Within linear_range (nth a k) × Within linear_range (nth b k)
unfolding linear_within all_within
linear_of n a b e k h =
    let x = and_left _ (all_within linear_range n b) e in
    (within_of linear_range (nth a k) (all-at _ n x k h), within_of linear_range (nth b k) (all-at _ n (and_right (all_within linear_range n a) _ e) k h))

pub within_true : {m : ℕ} {x : ℤ} → Within m x → within m x ≡ true
unfolding within
within_true {m} {x} w = le-leb (nat_abs x) m w.size

-- a bound can be negated
pub fits_negated : {b : ℤ} → pos 0 ≤ℤ b → SFits w64 b → SFits w64 (pos 0 -ℤ b)
fits_negated {b = pos m} p f =
    let w : Within m (neg_ℤ (pos m)) = within-neg {x = pos m} (record { size = omega arith }) in
    rw +ℤ_idl (fits (omega (arith, f.sfits, w.size)))
fits_negated {b = negsuc m} p f = absurd p.le

-- x below -b, and x from -b up
pub within-no : {x b : ℤ} → pos 0 ≤ℤ b → x <ℤ (pos 0 -ℤ b) → within (nat_abs b) x ≡ false
within-no {x} {b = pos m} p h =
    false_of (within m x) (λ e. clash_ℤ (rw +ℤ_idl at h) (within_low (within_of m x e)))
within-no {b = negsuc m} p h = absurd p.le

pub within_is : {x b : ℤ} → pos 0 ≤ℤ b → (pos 0 -ℤ b) ≤ℤ x → within (nat_abs b) x ≡ le_z x b
within_is {x} {b = pos m} p h =
    bool_ext (within m x) (le_z x (pos m)) (λ e. le_z_true (within-high (within_of m x e)))
    (λ e. within_true (within_in (rw +ℤ_idl at h) (le_of x (pos m) e)))
within_is {b = negsuc m} p h = absurd p.le

pub same_of : (x y : ℤ) → same x y ≡ true → x ≡ y
unfolding same
same_of x y e = ≤ℤ_antisym (le_of x y (and_left (le_z x y) (le_z y x) e)) (le_of y x (and_right (le_z x y) (le_z y x) e))

pub same_true : {x y : ℤ} → x ≡ y → same x y ≡ true
unfolding same
same_true {x} {y} e = rw e (and_of (le_z_true (≤ℤ_refl y)) (le_z_true (≤ℤ_refl y)))

pub same_false : {x y : ℤ} → (x ≡ y → ⊥) → same x y ≡ false
same_false {x} {y} f = false_of (same x y) (λ e. f (same_of x y e))

-- ---- tests of two elements that were just read
module _ (x y : ℤ) (h : mag x < 2 ^ 63) (k : mag y < 2 ^ 63) where
  pub read_less : lt_z (to_z w64 (of_z w64 x)) (to_z w64 (of_z w64 y)) ≡ true → le_z y x ≡ false
  read_less t = le_z_false {x = y} {y = x} (lt_yes (record { sfits = h }) (record { sfits = k }) t)

  pub read_not_less : lt_z (to_z w64 (of_z w64 x)) (to_z w64 (of_z w64 y)) ≡ false → le_z y x ≡ true
  read_not_less t = le_z_true {x = y} {y = x} (lt_no (record { sfits = h }) (record { sfits = k }) t)

  pub read_same : of_z w64 x ≡ of_z w64 y → same x y ≡ true
  read_same e = same_true (same_bits (record { sfits = h }) (record { sfits = k }) e)

  pub read_differs : (of_z w64 x ≡ of_z w64 y → ⊥) → same x y ≡ false
  read_differs f = same_false (λ e. f (ap (of_z w64) e))

-- two numbers are equal where their bits are
pub same_read : {x y : ℤ} → SFits w64 x → SFits w64 y → eqb (of_z w64 x) (of_z w64 y) ≡ same x y
same_read {x} {y} f g =
    bool_ext _ (same x y) (λ e. same_true (same_bits f g (eqb-true _ _ e))) (λ e. eq-eqb _ _ (ap (of_z w64) (same_of x y e)))

-- ---- the first refusal
pub first-none : first_refusal [] ≡ Ok tt
unfolding first_refusal
first-none = refl

module _ (c : Check) (cs : List Check) where
  pub first_passes : c.passes ≡ true → first_refusal (c ∷ cs) ≡ first_refusal cs
  unfolding first_refusal
  first_passes e = rw e

  pub first-refuses : c.passes ≡ false → first_refusal (c ∷ cs) ≡ Err c.otherwise
  unfolding first_refusal
  first-refuses e = rw e

  pub first-passed : first_refusal (c ∷ cs) ≡ Ok tt → c.passes ≡ true
  first-passed e = go c.passes first-refuses
    where
      go : (a : Bool) → (a ≡ false → first_refusal (c ∷ cs) ≡ Err c.otherwise) → a ≡ true
      go true f = refl
      go false f = cc (f refl)

  pub rest-passed : first_refusal (c ∷ cs) ≡ Ok tt → first_refusal cs ≡ Ok tt
  rest-passed e = sym (first_passes (first-passed e)) ∙ e

-- ---- what each check says of the entries
module _ (n : ℕ) (t : List ℤ) where
  range_at : (b : ℕ) → all_within b (n * n) t ≡ true → (i j : ℕ) → i < n → j < n → nat_abs (at n t i j) ≤ b
  unfolding all_within at
  range_at b e i j h k = (within_of b (at n t i j) (all-at _ (n * n) e (i * n + j) (inside h k))).size

  range_of : (b : ℕ) → ((i j : ℕ) → i < n → j < n → nat_abs (at n t i j) ≤ b) → all_within b (n * n) t ≡ true
  unfolding all_within
  range_of b f =
      all_of _ (n * n) (λ k h. rw (nth-at n k t) (within_true (record { size = f (k / n) (k % n) (row_inside n k h) (column_inside n k h) })))

module _ (n : ℕ) (l u : List ℤ) where
  ordered_at : nowhere_crossed (n * n) l u ≡ true → (i j : ℕ) → i < n → j < n → at n l i j ≤ℤ at n u i j
  unfolding nowhere_crossed at
  ordered_at e i j h k = le_of (at n l i j) (at n u i j) (all-at _ (n * n) e (i * n + j) (inside h k))

  ordered_of : ((i j : ℕ) → i < n → j < n → at n l i j ≤ℤ at n u i j) → nowhere_crossed (n * n) l u ≡ true
  unfolding nowhere_crossed
  ordered_of f = all_of _ (n * n) (λ k h. rw (nth-at n k l, nth-at n k u) (le_z_true (f (k / n) (k % n) (row_inside n k h) (column_inside n k h))))

-- where the act's other numbers are not in their ranges, 3 is the first to fail
pub others_outside : (n : ℕ) (l u : List ℤ) → first_refusal (bounds_checks false n l u) ≡ Err Range
unfolding bounds_checks
others_outside n l u = first-refuses (check_range false) (check_crossed n l u ∷ check_lopsided n l u ∷ []) refl

-- ---- tables that pass: the mended ones are bounds
module _ (n : ℕ) (l u : List ℤ) where
  pub passed-bounds : first_refusal (table_checks n l u) ≡ Ok tt → Bounds n (low_bounds n l) (high_bounds n u)
  unfolding bounds_checks tables_within
  passed-bounds e =
      let e₁ = rest-passed _ _ e in
      let range = first-passed _ _ e in
      let low = range_at n l entry_range (and_left _ _ range) in
      let high = range_at n u entry_range (and_right (all_within entry_range (n * n) l) _ range) in
      record {
        low_range = λ i j h k. rw (at-mended max_ℤ n l i j h k)
            (max_by (at n l i j) (at n l j i) (λ z. nat_abs z ≤ entry_range) (λ q. low j i k h) (λ q. low i j h k));
        high_range = λ i j h k. rw (at-mended min_ℤ n u i j h k)
            (min_by (at n u i j) (at n u j i) (λ z. nat_abs z ≤ entry_range) (λ q. high i j h k) (λ q. high j i k h));
        ordered = ordered_at n (mended_low n l) (mended_high n u) (first-passed _ _ (rest-passed _ _ e₁));
        low_symmetric = mended_symmetric max_ℤ n greater_pairing l;
        high_symmetric = mended_symmetric min_ℤ n smaller_pairing u;
      }

-- what passes is, mended, passed again
pub mended-passed : (n : ℕ) (l u : List ℤ) → n * n ≤ length l → n * n ≤ length u → first_refusal (table_checks n l u) ≡ Ok tt →
    first_refusal (table_checks n (mended_low n l) (mended_high n u)) ≡ Ok tt
unfolding bounds_checks tables_within first_refusal
mended-passed n l u h k e =
    let b = passed-bounds n l u e in
    rw (
      mended_twice max_ℤ n greater_pairing l h,
      mended_twice min_ℤ n smaller_pairing u k,
      range_of n (mended_low n l) entry_range b.low_range,
      range_of n (mended_high n u) entry_range b.high_range,
      ordered_of n (mended_low n l) (mended_high n u) b.ordered,
    )

-- ---- checks 3 and 4 at one place
entry-low : (l u : ℤ) → entry_bounded l u ≡ true → neg_ℤ (pos entry_range) ≤ℤ l
unfolding entry_bounded
entry-low l u e = le_of _ _ (and_left (le_z (neg_ℤ (pos entry_range)) l) _ e)

entry-high : (l u : ℤ) → entry_bounded l u ≡ true → u ≤ℤ pos entry_range
unfolding entry_bounded
entry-high l u e = le_of _ _ (and_left (le_z u (pos entry_range)) _ (and_right (le_z (neg_ℤ (pos entry_range)) l) _ e))

entry-ordered : (l u : ℤ) → entry_bounded l u ≡ true → l ≤ℤ u
unfolding entry_bounded
entry-ordered l u e = le_of _ _ (and_right (le_z u (pos entry_range)) _ (and_right (le_z (neg_ℤ (pos entry_range)) l) _ e))

entry_of : {l u : ℤ} → neg_ℤ (pos entry_range) ≤ℤ l → u ≤ℤ pos entry_range → l ≤ℤ u → entry_bounded l u ≡ true
unfolding entry_bounded
entry_of h k o = and_of (le_z_true h) (and_of (le_z_true k) (le_z_true o))

-- ---- a pair that passes 3, 4 and 5
pub record PairFits (l lt u ut : ℤ) : Type 0 where
  pub here : entry_bounded l u ≡ true
  pub there : entry_bounded lt ut ≡ true
  pub across : l ≤ℤ ut
  pub back : lt ≤ℤ u

pair-turned : {l lt u ut : ℤ} → PairFits l lt u ut → PairFits lt l ut u
pair-turned p = record { here = p.there; there = p.here; across = p.back; back = p.across }

module _ (l lt u ut : ℤ) where
  meets_fits : pair_meets l lt u ut ≡ true → PairFits l lt u ut
  unfolding pair_meets
  meets_fits e =
      let f = and_right (entry_bounded l u) _ e in
      let g = and_right (entry_bounded lt ut) _ f in
      record {
        here = and_left (entry_bounded l u) _ e;
        there = and_left (entry_bounded lt ut) _ f;
        across = le_of _ _ (and_left (le_z l ut) _ g);
        back = le_of _ _ (and_right (le_z l ut) _ g);
      }

  even_equal : pair_even l lt u ut ≡ true → (l ≡ lt) × (u ≡ ut)
  unfolding pair_even
  even_equal e = (same_of l lt (and_left (same l lt) _ e), same_of u ut (and_right (same l lt) _ e))

  -- what the pass finds of a pair: the halves agree, or they need not
  pair_split : (even : Bool) → pair_bounded even l lt u ut ≡ true →
      ((pair_even l lt u ut ≡ true) × (entry_bounded l u ≡ true)) ⊎ ((even ≡ false) × (pair_meets l lt u ut ≡ true))
  unfolding pair_bounded
  pair_split even e = go (pair_even l lt u ut) even refl e
    where
      go : (b even : Bool) → pair_even l lt u ut ≡ b →
          elim b as (λ z. Bool) [ true ↦ entry_bounded l u | false ↦ elim even as (λ z. Bool) [ true ↦ false | false ↦ pair_meets l lt u ut ] ] ≡ true →
          ((pair_even l lt u ut ≡ true) × (entry_bounded l u ≡ true)) ⊎ ((even ≡ false) × (pair_meets l lt u ut ≡ true))
      go true even q f = inl (q, f)
      go false true q f = absurd (false≢true f)
      go false false q f = inr (refl, f)

  pair_fits : (even : Bool) → pair_bounded even l lt u ut ≡ true → PairFits l lt u ut
  pair_fits even e = go (pair_split even e)
    where
      go : ((pair_even l lt u ut ≡ true) × (entry_bounded l u ≡ true)) ⊎ ((even ≡ false) × (pair_meets l lt u ut ≡ true)) → PairFits l lt u ut
      go (inl p) =
          let q = even_equal p.0 in
          let o = entry-ordered l u p.1 in
          record { here = p.1; there = rw (← q.0, ← q.1) p.1; across = rw (← q.1) o; back = rw (← q.0) o }
      go (inr p) = meets_fits p.1

  pair_even_lem : pair_bounded true l lt u ut ≡ true → (l ≡ lt) × (u ≡ ut)
  pair_even_lem e = go (pair_split true e)
    where
      go : ((pair_even l lt u ut ≡ true) × (entry_bounded l u ≡ true)) ⊎ ((true ≡ false) × (pair_meets l lt u ut ≡ true)) → (l ≡ lt) × (u ≡ ut)
      go (inl p) = even_equal p.0
      go (inr p) = absurd (false≢true (sym p.0))

  pair_of : PairFits l lt u ut → pair_bounded false l lt u ut ≡ true
  unfolding pair_bounded pair_meets
  pair_of p = go (pair_even l lt u ut)
    where
      go : (b : Bool) → elim b as (λ z. Bool) [ true ↦ entry_bounded l u | false ↦ pair_meets l lt u ut ] ≡ true
      go true = p.here
      go false = and_of p.here (and_of p.there (and_of (le_z_true p.across) (le_z_true p.back)))

-- ---- tables of which each pair passes
module _ (n : ℕ) (l u : List ℤ) where
  abbrev bounded_at : Bool → ℕ → ℕ → Bool
  bounded_at even i j = pair_bounded even (at n l i j) (at n l j i) (at n u i j) (at n u j i)

  module _ (even : Bool) (e : tables_bounded n even l u ≡ true) where
    pair-at : (i j : ℕ) → i < n → j ≤ i → bounded_at even i j ≡ true
    unfolding tables_bounded
    pair-at i j h k = all-at _ (suc i) (all-at _ n e i h) j (omega arith)

    fits-at : (i j : ℕ) → i < n → j < n → PairFits (at n l i j) (at n l j i) (at n u i j) (at n u j i)
    fits-at i j h k = go (dec_lt i j)
      where
        go : Dec (i < j) → PairFits (at n l i j) (at n l j i) (at n u i j) (at n u j i)
        go (yes d) = pair-turned (pair_fits _ _ _ _ even (pair-at j i k (omega arith)))
        go (no d) = pair_fits _ _ _ _ even (pair-at i j h (omega arith))

    pub bounded-passed : first_refusal (table_checks n l u) ≡ Ok tt
    unfolding bounds_checks tables_within first_refusal
    bounded-passed =
        rw (
          range_of n l entry_range (λ i j h k. let f = (fits-at i j h k).here in
              (within_in (entry-low _ _ f) (≤ℤ_trans (entry-ordered _ _ f) (entry-high _ _ f))).size),
          range_of n u entry_range (λ i j h k. let f = (fits-at i j h k).here in
              (within_in (≤ℤ_trans (entry-low _ _ f) (entry-ordered _ _ f)) (entry-high _ _ f)).size),
          ordered_of n l u (λ i j h k. entry-ordered _ _ (fits-at i j h k).here),
          ordered_of n (mended_low n l) (mended_high n u) left,
        )
      where
        left : (i j : ℕ) → i < n → j < n → low_bounds n l i j ≤ℤ high_bounds n u i j
        left i j h k =
            let p = fits-at i j h k in
            rw (at-mended max_ℤ n l i j h k, at-mended min_ℤ n u i j h k)
            (min_by (at n u i j) (at n u j i) (λ z. max_ℤ (at n l i j) (at n l j i) ≤ℤ z)
            (λ q. max_≤ (entry-ordered _ _ p.here) p.back) (λ q. max_≤ p.across (entry-ordered _ _ p.there)))

  -- where the halves have to agree, they do
  pub bounded_symmetric : tables_bounded n true l u ≡ true → Symmetric n l u
  bounded_symmetric e = record { low = λ i j h k. (agree i j h k).0; high = λ i j h k. (agree i j h k).1 }
    where
      agree : (i j : ℕ) → i < n → j < n → (at n l i j ≡ at n l j i) × (at n u i j ≡ at n u j i)
      agree i j h k = go (dec_lt i j)
        where
          go : Dec (i < j) → (at n l i j ≡ at n l j i) × (at n u i j ≡ at n u j i)
          go (yes d) = let q = pair_even_lem _ _ _ _ (pair-at true e j i k (omega arith)) in (sym q.0, sym q.1)
          go (no d) = pair_even_lem _ _ _ _ (pair-at true e i j h (omega arith))

  -- tables that pass are such tables
  pub passed-bounded : first_refusal (table_checks n l u) ≡ Ok tt → tables_bounded n false l u ≡ true
  unfolding bounds_checks tables_within tables_bounded
  passed-bounded e = all_of _ n (λ i h. all_of _ (suc i) (λ j k. pair_of _ _ _ _ (fits i j h (omega arith))))
    where
      range : (all_within entry_range (n * n) l && all_within entry_range (n * n) u) ≡ true
      range = first-passed _ _ e

      place : (i j : ℕ) → i < n → j < n → entry_bounded (at n l i j) (at n u i j) ≡ true
      place i j h k =
          entry_of (within_low (record { size = range_at n l entry_range (and_left _ _ range) i j h k }))
          (within-high (record { size = range_at n u entry_range (and_right (all_within entry_range (n * n) l) _ range) i j h k }))
          (ordered_at n l u (first-passed _ _ (rest-passed _ _ e)) i j h k)

      across : (i j : ℕ) → i < n → j < n → at n l i j ≤ℤ at n u j i
      across i j h k =
          let mended = ordered_at n (mended_low n l) (mended_high n u) (first-passed _ _ (rest-passed _ _ (rest-passed _ _ e))) i j h k in
          ≤ℤ_trans (≤_maxˡ (at n l i j) (at n l j i))
          (≤ℤ_trans (rw (at-mended max_ℤ n l i j h k, at-mended min_ℤ n u i j h k) at mended) (min_≤ʳ (at n u i j) (at n u j i)))

      fits : (i j : ℕ) → i < n → j < n → PairFits (at n l i j) (at n l j i) (at n u i j) (at n u j i)
      fits i j h k = record { here = place i j h k; there = place j i k h; across = across i j h k; back = across j i k h }

-- tests that are equal at each index
pub all_ext : (n : ℕ) (p q : ℕ → Bool) → ((i : ℕ) → i < n → p i ≡ q i) → all n p ≡ all n q
unfolding all
all_ext zero p q h = refl
all_ext (suc n) p q h = rw (all_ext n p q (λ i k. h i (omega arith)), h n (omega arith))

-- ---- checks, and then more of them
pub more-checks : (cs ds : List Check) → first_refusal cs ≡ Ok tt → first_refusal (cs ++ ds) ≡ first_refusal ds
more-checks [] ds e = refl
more-checks (c ∷ cs) ds e = first_passes c (cs ++ ds) (first-passed c cs e) ∙ more-checks cs ds (rest-passed c cs e)

pub no-more-checks : (cs ds : List Check) (r : Refusal) → first_refusal cs ≡ Err r → first_refusal (cs ++ ds) ≡ Err r
no-more-checks [] ds r e = cc first-none
no-more-checks (c ∷ cs) ds r e = go c.passes refl (no-more-checks cs ds r)
  where
    go : (b : Bool) → c.passes ≡ b → (first_refusal cs ≡ Err r → first_refusal (cs ++ ds) ≡ Err r) → first_refusal (c ∷ (cs ++ ds)) ≡ Err r
    go true p ih = first_passes c (cs ++ ds) p ∙ ih (sym (first_passes c cs p) ∙ e)
    go false p ih = first-refuses c (cs ++ ds) p ∙ sym (first-refuses c cs p) ∙ e

-- n is an order
pub order-of : {n : ℤ} → order_ok n ≡ true → (pos 1 ≤ℤ n) × (nat_abs n ≤ greatest_order)
unfolding order_ok
order-of {n} e = (le_of (pos 1) n (and_left _ _ e), small n (le_of n (pos greatest_order) (and_right (le_z (pos 1) n) _ e)) (le_of (pos 1) n (and_left _ _ e)))
  where
    small : (n : ℤ) → n ≤ℤ pos greatest_order → pos 1 ≤ℤ n → nat_abs n ≤ greatest_order
    small (pos m) h k = omega (arith, ≤_out h)
    small (negsuc m) h k = absurd k.le

-- so it can be cast
pub order_usize : {n : ℤ} → SFits w64 n → order_ok n ≡ true → T (non_neg (to_z w64 (of_z w64 n))) × Fits w64 (nat_abs (to_z w64 (of_z w64 n)))
order_usize f e = as_usize f (≤ℤ_trans (pos_nonneg 1) (order-of e).0)

-- buffers that have their sizes
pub sizes-of : (table offer l u v : ℕ) → sizes_ok table offer l u v ≡ true → (l ≡ table) × (u ≡ table) × (v ≡ offer)
unfolding sizes_ok
sizes-of table offer l u v e =
    let t = and_right (eqb l table) _ e in
    (eqb-true l table (and_left _ _ e), eqb-true u table (and_left _ _ t), eqb-true v offer (and_right (eqb u table) _ t))
