-- A sum of products: how large it gets.
use mathlib.Core.List.{List}
use Prim.Native.Nat.{ℕ, ◌*◌, ◌≤◌, ◌<◌}
use native.Mathlib.Omega.{arith}
use lib.IntN.{ℤ, pos, ◌+ℤ◌, ◌*ℤ◌}
use mir.Syntax.{w64}
use mir.Val.{SFits}
use Rattle.integers.specs.Numbers.{Within}
use Rattle.integers.specs.Sum.{sum}
use Rattle.integers.proofs.Machine.{within_more, within-+, within-sum, fits_within}
use Rattle.tables.specs.Ranges.{greatest_order}
use Rattle.tables.specs.Matrix.{nth}
use Rattle.arithmetic.specs.Required.{term_range, ProductTerms}

module _ {n : ℕ} {x y : List ℤ} (f : ProductTerms n x y) where
  pub term_fits : {k : ℕ} → k < n → SFits w64 (nth x k *ℤ nth y k)
  term_fits {k} h = fits_within (f.products k h) (omega arith)

  pub terms-within : (k : ℕ) → k ≤ n → Within (greatest_order * term_range) (sum k (λ i. nth x i *ℤ nth y i))
  terms-within k h = within_more (omega (arith, f.order)) (within-sum k term_range _ (λ i p. f.products i (omega arith)))

  -- the next product added up
  pub terms_add : {k : ℕ} → k < n → SFits w64 (sum k (λ i. nth x i *ℤ nth y i) +ℤ nth x k *ℤ nth y k)
  terms_add {k} h = fits_within (within-+ (terms-within k (omega arith)) (f.products k h)) (omega arith)

pub two-within : Within 2 (pos 2)
two-within = record { size = omega arith }
