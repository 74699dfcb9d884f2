-- A box is made by the t(k) and the g(k) below n alone.
use mathlib.Core.Path.{◌≡◌, refl, ap, ap₂, ◌∙◌}
use mathlib.Core.Bool.{true, false}
use mathlib.Core.List.{List, [], ◌∷◌, ◌++◌}
use Prim.Native.Nat.{ℕ, zero, suc, ◌<◌}
use native.Mathlib.Omega.{arith}
use lib.IntN.{ℤ, pos, ◌+ℤ◌, ◌-ℤ◌, ◌*ℤ◌}
use lib.Signed.{le_z}
use Rattle.integers.specs.Division.{ceil_div}
use Rattle.integers.specs.Root.{least_root}
use Rattle.integers.proofs.Sums.{sum_ext}
use Rattle.sides.specs.Sides.{bound, first_half, second_bound, smaller_half, half_side, sides_from, Box, sides, empty, box_of}

sides_ext : (n : ℕ) (c h i : ℕ → ℤ) → ((k : ℕ) → k < n → h k ≡ i k) → sides_from n c h ≡ sides_from n c i
unfolding sides_from
sides_ext zero c h i e = refl
sides_ext (suc n) c h i e =
    ap₂ (λ (s : List ℤ) (z : ℤ). s ++ ((c n -ℤ z) ∷ (c n +ℤ z) ∷ [])) (sides_ext n c h i (λ k l. e k (omega arith))) (e n (omega arith))

-- the box, by B, B2 and the sides
abbrev chosen : ℤ → ℤ → List ℤ → Box
chosen b s x = elim (le_z (pos 0) b) [ true ↦ elim (le_z (pos 0) s) [ true ↦ sides x | false ↦ empty ] | false ↦ empty ]

module _ (n : ℕ) (c : ℕ → ℤ) (D t : ℤ) (tk u g h : ℕ → ℤ) (p : (k : ℕ) → k < n → tk k ≡ u k) (q : (k : ℕ) → k < n → g k ≡ h k) where
  bound-same : bound n D t g ≡ bound n D t h
  unfolding bound
  bound-same = ap (λ (z : ℤ). D +ℤ ceil_div z t) (sum_ext n _ _ (λ k l. ap₂ ◌*ℤ◌ (q k l) (q k l)))

  first-same : (k : ℕ) → k < n → first_half n D t g k ≡ first_half n D t h k
  unfolding first_half
  first-same k l = ap₂ (λ (x y : ℤ). ceil_div x t +ℤ least_root t y) (q k l) bound-same

  second-same : second_bound n D t g ≡ second_bound n D t h
  unfolding second_bound
  second-same = ap (λ (z : ℤ). D +ℤ pos 2 *ℤ z) (sum_ext n _ _ (λ k l. ap₂ ◌*ℤ◌ (q k l) (first-same k l)))

  half-same : (k : ℕ) → k < n → half_side n D t g tk k ≡ half_side n D t h u k
  unfolding half_side
  half-same k l =
      ap₂ (λ (y b : ℤ). smaller_half y (tk k) b) (first-same k l) second-same
      ∙ ap (λ (z : ℤ). smaller_half (first_half n D t h k) z (second_bound n D t h)) (p k l)

  pub box_same : box_of n c D t tk g ≡ box_of n c D t u h
  unfolding box_of
  box_same =
      ap₂ (λ (b s : ℤ). chosen b s (sides_from n c (half_side n D t g tk))) bound-same second-same
      ∙ ap (chosen (bound n D t h) (second_bound n D t h)) (sides_ext n c _ _ half-same)
