-- Entries with a least sum above 0 are passed over: the search would find nothing among their choices.
use mathlib.Core.Path.{◌≡◌, refl, sym, ap, ap₂, ◌∙◌}
use mathlib.Core.Bool.{Bool, true, false}
use mathlib.Core.List.{List, [], ◌∷◌}
use mathlib.Core.Option.{Option, none, some}
use Prim.Native.Nat.{ℕ, zero, suc}
use lib.IntN.{ℤ, pos, negsuc, ◌+ℤ◌, +ℤ_idl}
use lib.Signed.{◌<ℤ◌}
use Rattle.integers.proofs.Machine.{lt_holds}
use Rattle.integers.proofs.Parts.{le_z_false}
use Rattle.integers.proofs.Solver.{ring, solver}
use Rattle.tables.specs.Matrix.{Matrix}
use Rattle.lookahead.specs.Pairs.{more}
use Rattle.lookahead.specs.LeastSums.{least, passed_over}
use Rattle.lookahead.proofs.LeastSums.{zero_above, one-above, minus-one-above, passed-above}
use Rattle.tried.specs.Search.{front, or_else, reached, seek}

swapped : (c x s : ℤ) → c +ℤ s +ℤ x ≡ c +ℤ x +ℤ s
swapped c x s = ring (c ∷ x ∷ s ∷ []) (search solver depth 40 fits 20000) refl

module _ (S O : Matrix) where
  -- c is what the entries chosen since the sum s have added
  none_found : (k d : ℕ) (p q : ℕ → ℤ) (c s : ℤ) → pos 0 <ℤ (c +ℤ least S O d k p q s) → seek S O d k p q (c +ℤ s) ≡ none
  unfolding seek reached least or_else front
  none_found zero d p q c s h = ap (λ (b : Bool). elim b as (λ z. Option (List ℤ)) [ true ↦ some [] | false ↦ none ]) (le_z_false h)
  none_found (suc k) d p q c s h =
      ap₂ or_else (ap (front (pos 0)) (none_found k (suc d) p q c s (zero_above c _ (p d) _ (q d) _ h)))
      (ap₂ or_else
      (ap (front (pos 1)) (ap (seek S O (suc d) k (more S d p) (more O d q)) (swapped c (p d) s) ∙ none_found k (suc d) _ _ (c +ℤ p d) s (one-above c _ (p d) _ (q d) _ h)))
      (ap (front (negsuc 0)) (ap (seek S O (suc d) k (more O d p) (more S d q)) (swapped c (q d) s) ∙ none_found k (suc d) _ _ (c +ℤ q d) s (minus-one-above c _ (p d) _ (q d) _ h))))

  pub passed_none : (d k : ℕ) (p q : ℕ → ℤ) (s : ℤ) → passed_over S O d k p q s ≡ true → seek S O d k p q s ≡ none
  passed_none d k p q s t =
      ap (seek S O d k p q) (sym (+ℤ_idl s))
      ∙ none_found k d p q (pos 0) s (rw (+ℤ_idl (least S O d k p q s)) (lt_holds (passed-above S O d k p q s t)))
