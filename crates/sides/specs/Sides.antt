-- R14 of docs/RULES.md: the sides of the box, from D, t, t(k) and g(k).
use Rattle.std.specs.Prelude.{true, false, List, [], ◌∷◌, ◌++◌, ℕ, zero, suc, ℤ, pos, ◌+ℤ◌, ◌-ℤ◌, ◌*ℤ◌}
use Rattle.std.specs.Int.Signed.{le_z}
use Rattle.integers.specs.Numbers.{min_ℤ}
use Rattle.integers.specs.Sum.{sum}
use Rattle.integers.specs.Division.{ceil_div}
use Rattle.integers.specs.Root.{least_root}
use Rattle.tables.specs.declared.Refusal.{Refusal}

-- ---- from D, t, t(k) and the g(k), as a vector, to the sides
-- R13.6 and R14.3: h(k) = min(Y(k), Z(k)), from Y(k), t(k) and B2
unfoldable pub smaller_half : ℤ → ℤ → ℤ → ℤ
smaller_half y t b = elim (le_z t (pos 0)) [ true ↦ y | false ↦ min_ℤ y (least_root t b) ]

module _ (n : ℕ) (D t : ℤ) (g : ℕ → ℤ) where
  -- R13.3: B = D + ⌈Σ g(k)² / t⌉
  unfoldable pub bound : ℤ
  bound = D +ℤ ceil_div (sum n (λ k. g k *ℤ g k)) t

  -- R13.4: Y(k) = ⌈g(k) / t⌉ + the least root of B over t
  unfoldable pub first_half : ℕ → ℤ
  first_half k = ceil_div (g k) t +ℤ least_root t bound

  -- R13.5: B2 = D + 2 Σ g(k) Y(k)
  unfoldable pub second_bound : ℤ
  second_bound = D +ℤ pos 2 *ℤ sum n (λ k. g k *ℤ first_half k)

  -- R14.3: h of side k
  unfoldable pub half_side : (ℕ → ℤ) → ℕ → ℤ
  half_side tk k = smaller_half (first_half k) (tk k) second_bound

-- R14.4: the sides c(k) - h(k) and c(k) + h(k), one after the other
unfoldable pub sides_from : ℕ → (ℕ → ℤ) → (ℕ → ℤ) → List ℤ
sides_from zero c h = []
sides_from (suc n) c h = sides_from n c h ++ ((c n -ℤ h n) ∷ (c n +ℤ h n) ∷ [])

-- ---- the answer, with what goes with it
pub data Box : Type 0 where
  sides : List ℤ → Box
  empty : Box
  refused : Refusal → Box

-- R14.1 and R14.2: 'empty' where B < 0, and where B2 < 0
unfoldable pub box_of : ℕ → (ℕ → ℤ) → ℤ → ℤ → (ℕ → ℤ) → (ℕ → ℤ) → Box
box_of n c D t tk g =
    elim (le_z (pos 0) (bound n D t g)) [
      | true ↦ elim (le_z (pos 0) (second_bound n D t g)) [ true ↦ sides (sides_from n c (half_side n D t g tk)) | false ↦ empty ]
      | false ↦ empty
    ]
