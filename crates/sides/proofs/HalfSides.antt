-- From the bounds at the centre to the sides: how large each number gets, the sides as they are written, and the cases of the box.
use mathlib.Core.Path.{◌≡◌, refl, sym, ap, ◌∙◌}
use mathlib.Core.Bool.{Bool, true, false}
use mathlib.Core.Logic.{by_cases}
use mathlib.Core.List.{List, [], ◌∷◌, append_assoc}
use Prim.Native.Nat.{ℕ, zero, suc, ◌+◌, ◌*◌, ◌<◌}
use native.Mathlib.Omega.{arith}
use native.Mathlib.Decide.{ℕ_discrete}
use lib.IntN.{ℤ, pos, ◌+ℤ◌, ◌-ℤ◌, ◌*ℤ◌}
use lib.Signed.{le_z}
use lib.ListN.{set, length-set}
use lib.Seq.{get_or-set_same, get_or-set_other}
use Rattle.std.specs.Prelude.{Some, None}
use mir.Syntax.{w64}
use mir.Val.{SFits}
use Rattle.integers.specs.Numbers.{Within, min_ℤ}
use Rattle.integers.specs.Sum.{sum}
use Rattle.integers.specs.Division.{ceil_div}
use Rattle.integers.specs.Root.{least_root}
use Rattle.integers.proofs.Parts.{choice_by}
use Rattle.integers.proofs.Sums.{sum_ext}
use Rattle.integers.proofs.Machine.{within_more, within-+, within-*, fits_within}
use Rattle.tables.specs.Ranges.{greatest_order}
use Rattle.tables.specs.Matrix.{nth, tabulate}
use Rattle.sides.specs.Sides.{bound, first_half, second_bound, smaller_half, half_side, sides_from, Box, sides, empty, box_of}
use Rattle.tables.specs.Buffers.{Filled}
use Rattle.arithmetic.specs.Required.{bound_range, ProductTerms}
use Rattle.sides.specs.Required.{difference_range, half_range, Near, SidesIn, box_in}
use Rattle.arithmetic.proofs.Quotients.{within_ceil, within_root}
use Rattle.integers.proofs.Extremes.{within_min}
use Rattle.arithmetic.proofs.Products.{terms-within, two-within}

-- ---- B and B2
module _ {n : ℕ} {t : ℤ} {g : List ℤ} (q : Near n t g) where
  pub square_terms : ProductTerms n g g
  square_terms = record {
    order = q.order;
    first-length = omega (arith, q.order, q.size);
    second-length = omega (arith, q.order, q.size);
    products = λ k h. within_more (omega arith) (within-* (q.entries k h) (q.entries k h));
  }

  pub squares-within : Within bound_range (sum n (λ k. nth g k *ℤ nth g k))
  squares-within = within_more (omega arith) (terms-within square_terms n (omega arith))

  pub bound-within : {d : ℤ} → Within difference_range d → Within bound_range (bound n d t (nth g))
  unfolding bound
  bound-within w = within_more (omega arith) (within-+ w (within_ceil t (terms-within square_terms n (omega arith))))

  -- Y(k)
  module _ {b : ℤ} (w : Within bound_range b) where
    half-within : {k : ℕ} → k < n → Within half_range (ceil_div (nth g k) t +ℤ least_root t b)
    half-within {k} h = within-+ (within_ceil t (q.entries k h)) (within_root t b w)

    pub half_fits : {k : ℕ} → k < n → SFits w64 (ceil_div (nth g k) t +ℤ least_root t b)
    half_fits h = fits_within (half-within h) (omega arith)

    module _ {y : List ℤ} (f : Filled greatest_order n (λ k. ceil_div (nth g k) t +ℤ least_root t b) y) where
      pub halves-within : (k : ℕ) → k < n → Within half_range (nth y k)
      halves-within k h = rw (f.entries k h) (half-within h)

      pub half-terms : ProductTerms n g y
      half-terms = record {
        order = q.order;
        first-length = omega (arith, q.order, q.size);
        second-length = omega (arith, q.order, f.size);
        products = λ k h. within_more (omega arith) (within-* (q.entries k h) (halves-within k h));
      }

module _ {n : ℕ} {x y : List ℤ} (f : ProductTerms n x y) where
  pub twice_fits : SFits w64 (pos 2 *ℤ sum n (λ k. nth x k *ℤ nth y k))
  twice_fits = fits_within (within-* two-within (terms-within f n (omega arith))) (omega arith)

  pub second-within : {d : ℤ} → Within difference_range d → Within bound_range (d +ℤ pos 2 *ℤ sum n (λ k. nth x k *ℤ nth y k))
  second-within w = within_more (omega arith) (within-+ w (within-* two-within (terms-within f n (omega arith))))

-- ---- h
module _ (y t b : ℤ) where
  pub half_flat : le_z t (pos 0) ≡ true → y ≡ smaller_half y t b
  unfolding smaller_half
  half_flat e = sym (ap (λ (r : Bool). elim r as (λ z. ℤ) [ true ↦ y | false ↦ min_ℤ y (least_root t b) ]) e)

  pub half_root : le_z t (pos 0) ≡ false → min_ℤ y (least_root t b) ≡ smaller_half y t b
  unfolding smaller_half
  half_root e = sym (ap (λ (r : Bool). elim r as (λ z. ℤ) [ true ↦ y | false ↦ min_ℤ y (least_root t b) ]) e)

  pub smaller_within : Within half_range y → Within bound_range b → Within half_range (smaller_half y t b)
  unfolding smaller_half
  smaller_within v w =
      choice_by (Within half_range) (le_z t (pos 0)) (λ p. v) (λ p. within_min v (within_more (omega arith) (within_root t b w)))

-- ---- the sides as they are written
module _ {c h : ℕ → ℤ} {x : List ℤ} where
  pub sides_more : {m : ℕ} → m < greatest_order → SidesIn m c h x →
      SidesIn (suc m) c h (set (set x (2 * m) (c m -ℤ h m)) (2 * m + 1) (c m +ℤ h m))
  sides_more {m} l w = record {
    size = length-set (set x (2 * m) (c m -ℤ h m)) (2 * m + 1) (c m +ℤ h m) ∙ length-set x (2 * m) (c m -ℤ h m) ∙ w.size;
    low = λ k p.
        get_or-set_other (set x (2 * m) (c m -ℤ h m)) (2 * m + 1) (2 * k) (c m +ℤ h m) (pos 0) (omega arith)
        ∙ by_cases (ℕ_discrete k m) (λ e. rw e (get_or-set_same x (2 * m) (c m -ℤ h m) (pos 0) (omega (arith, w.size))))
        (λ d. get_or-set_other x (2 * m) (2 * k) (c m -ℤ h m) (pos 0) (omega arith) ∙ w.low k (omega arith));
    high = λ k p.
        by_cases (ℕ_discrete k m)
        (λ e. rw e (get_or-set_same (set x (2 * m) (c m -ℤ h m)) (2 * m + 1) (c m +ℤ h m) (pos 0)
        (omega (arith, w.size, length-set x (2 * m) (c m -ℤ h m)))))
        (λ d. get_or-set_other (set x (2 * m) (c m -ℤ h m)) (2 * m + 1) (2 * k + 1) (c m +ℤ h m) (pos 0) (omega arith)
        ∙ get_or-set_other x (2 * m) (2 * k + 1) (c m -ℤ h m) (pos 0) (omega arith) ∙ w.high k (omega arith));
  }

  sides_fewer : {m : ℕ} → SidesIn (suc m) c h x → SidesIn m c h x
  sides_fewer w = record { size = w.size; low = λ k l. w.low k (omega arith); high = λ k l. w.high k (omega arith) }

  sides_are : (n : ℕ) → SidesIn n c h x → sides_from n c h ≡ tabulate (n + n) (nth x)
  unfolding sides_from tabulate
  sides_are zero w = refl
  sides_are (suc n) w =
      let e : suc n + suc n ≡ suc (suc (n + n)) = omega arith in
      let low : c n -ℤ h n ≡ nth x (n + n) = sym (w.low n (omega arith)) ∙ ap (nth x) (omega arith) in
      let high : c n +ℤ h n ≡ nth x (suc (n + n)) = sym (w.high n (omega arith)) ∙ ap (nth x) (omega arith) in
      rw (e, low, high, sides_are n (sides_fewer w))
      (sym (append_assoc (tabulate (n + n) (nth x)) (nth x (n + n) ∷ []) (nth x (suc (n + n)) ∷ [])))

  sides_same : {n : ℕ} {i : ℕ → ℤ} → ((k : ℕ) → k < n → h k ≡ i k) → SidesIn n c h x → SidesIn n c i x
  sides_same e w = record {
    size = w.size;
    low = λ k l. w.low k l ∙ ap (λ (z : ℤ). c k -ℤ z) (e k l);
    high = λ k l. w.high k l ∙ ap (λ (z : ℤ). c k +ℤ z) (e k l);
  }

-- ---- the box
module _ (n : ℕ) (c : ℕ → ℤ) (d t : ℤ) (tk : ℕ → ℤ) (g : ℕ → ℤ) where
  -- by the test of B2, and before it by the test of B
  abbrev second : Bool → Box
  second r = elim r [ true ↦ sides (sides_from n c (half_side n d t g tk)) | false ↦ empty ]

  abbrev first : Bool → Box
  first r = elim r [ true ↦ second (le_z (pos 0) (second_bound n d t g)) | false ↦ empty ]

  pub box_none : le_z (pos 0) (bound n d t g) ≡ false → box_in n None ≡ box_of n c d t tk g
  unfolding box_of box_in
  box_none e = sym (ap first e)

  second_decides : le_z (pos 0) (bound n d t g) ≡ true → (r : Bool) → le_z (pos 0) (second_bound n d t g) ≡ r →
      box_of n c d t tk g ≡ second r
  unfolding box_of
  second_decides e r f = ap first e ∙ ap second f

  module _ {y : List ℤ} (f : Filled greatest_order n (λ k. ceil_div (g k) t +ℤ least_root t (bound n d t g)) y) where
    pub second_is : d +ℤ pos 2 *ℤ sum n (λ k. g k *ℤ nth y k) ≡ second_bound n d t g
    unfolding second_bound first_half
    second_is = ap (λ (z : ℤ). d +ℤ pos 2 *ℤ z) (sum_ext n _ _ (λ k h. ap (λ (z : ℤ). g k *ℤ z) (f.entries k h)))

    pub half_is : (k : ℕ) → k < n → smaller_half (nth y k) (tk k) (second_bound n d t g) ≡ half_side n d t g tk k
    unfolding half_side first_half
    half_is k h = ap (λ (z : ℤ). smaller_half z (tk k) (second_bound n d t g)) (f.entries k h)

    module _ (e : le_z (pos 0) (bound n d t g) ≡ true) where
      pub box_empty : le_z (pos 0) (second_bound n d t g) ≡ false → box_in n None ≡ box_of n c d t tk g
      unfolding box_in
      box_empty p = sym (second_decides e false p)

      pub box_sides : {x : List ℤ} → le_z (pos 0) (second_bound n d t g) ≡ true →
          SidesIn n c (λ k. smaller_half (nth y k) (tk k) (second_bound n d t g)) x → box_in n (Some x) ≡ box_of n c d t tk g
      unfolding box_in
      box_sides p w = sym (second_decides e true p ∙ ap sides (sides_are n (sides_same half_is w)))
