-- Laws of the table that the judge writes: each store adds an entry, and what is written is the table of the factor.
use mathlib.Core.Path.{◌≡◌, sym, ap, ap₂, ◌∙◌}
use mathlib.Core.Logic.{by_cases}
use mathlib.Core.List.{List, []}
use Prim.Native.Nat.{ℕ, suc, ◌+◌, ◌*◌, ◌<◌}
use native.Mathlib.Omega.{arith}
use native.Mathlib.Decide.{ℕ_discrete, dec_lt}
use lib.IntN.{ℤ, pos}
use lib.ListN.{length, set}
use lib.Seq.{get_or-set_same, get_or-set_other}
use Rattle.tables.specs.Matrix.{Matrix, at, nth}
use Rattle.tables.proofs.Matrix.{get_d_tabulate, same_row, same_column}
use Rattle.cholesky.specs.Factoring.{entries}
use Rattle.cholesky.specs.Store.{column_of, columns_of, triangle}
use Rattle.cholesky.proofs.Lists.{nth_past}
use Rattle.cholesky.proofs.Store.{length-column_of, entries-columns_of, triangle_on, triangle-below}
use Rattle.verdict.specs.FactorTable.{Written}

-- ---- the factor's entries
entries_past : (t : List ℤ) (n i j : ℕ) → j < i → j < n → entries (columns_of t n) i j ≡ pos 0
unfolding entries columns_of
entries_past t n i j k h =
    ap (λ (c : List ℤ). nth c i) (get_d_tabulate n _ [] j h)
    ∙ nth_past (column_of t j (suc j)) i (omega (arith, length-column_of t j (suc j)))

-- they are those that factoring left in the table's columns
pub triangle-entries : (t : List ℤ) (n i j : ℕ) → j < n → triangle t i j ≡ entries (columns_of t n) i j
triangle-entries t n i j h =
    by_cases (dec_lt j i) (λ k. triangle-below t i j k ∙ sym (entries_past t n i j k h))
    (λ k. triangle_on t i j (omega arith) ∙ sym (entries-columns_of t n i j (omega arith) h))

-- ---- what is written
module _ {n : ℕ} {M : Matrix} {f : List ℤ} where
  pub written_none : Written n M f 0
  written_none = record { entries = λ i j h k. absurd (omega arith) }

  pub written-more : (i j : ℕ) → j < n → i * n + j < length f → Written n M f (i * n + j) →
      Written n M (set f (i * n + j) (M i j)) (suc (i * n + j))
  unfolding at
  written-more i j h l w = record {
    entries = λ a b k m.
        by_cases (ℕ_discrete (a * n + b) (i * n + j))
        (λ e.
        rw e (get_or-set_same f (i * n + j) (M i j) (pos 0) l)
        ∙ ap₂ M (sym (same_row i j a b h k e)) (sym (same_column i j a b h k e)))
        (λ d. get_or-set_other f (i * n + j) (a * n + b) (M i j) (pos 0) d ∙ w.entries a b k (omega arith));
  }
