use mathlib.Core.Path.{◌≡◌, refl, sym, ◌∙◌}
use mathlib.Core.Bool.{true}
use mathlib.Core.List.{List}
use Prim.Native.Nat.{ℕ, ◌*◌, ◌≤◌}
use lib.IntN.{ℤ}
use lib.ListN.{length}
use Rattle.integers.specs.Numbers.{min_ℤ, max_ℤ}
use Rattle.tables.specs.Checks.{bounds_checks}
use Rattle.tables.specs.Pairs.{tables_bounded}
use Rattle.tables.specs.Entering.{Mended}
use Rattle.std.specs.Prelude.{Ok}
use Rattle.tables.proofs.Checks.{bounded-passed, bounded_symmetric}
use Rattle.tables.proofs.MendedTables.{greater_pairing, smaller_pairing, symmetric_mended}
use Rattle.tables.proofs.mending.mend_bounds.Goals as goal

module _ (n : ℕ) (l u : List ℤ) (h : n * n ≤ length l) (k : n * n ≤ length u) where
  -- halves that agree: nothing is mended
  even : tables_bounded n true l u ≡ true → Mended (bounds_checks true n l u) n l u (Ok tt) l u
  even e =
      let s = bounded_symmetric n l u e in
      record {
        answered = sym (bounded-passed n l u true e);
        low-size = refl;
        high-size = refl;
        low = λ q. sym (symmetric_mended max_ℤ n greater_pairing l h s.low);
        high = λ q. sym (symmetric_mended min_ℤ n smaller_pairing u k s.high);
      }

pub returns-then-tables_bounded : goal.returns-then-tables_bounded
returns-then-tables_bounded c =
    let p = c.requires in
    rw c.if-within.true (even _ _ _ p.1 p.2 (sym c.tables_bounded.ensures ∙ c.if-tables_bounded.true))

pub returns : goal.returns
returns c = c.mend_apart.ensures
