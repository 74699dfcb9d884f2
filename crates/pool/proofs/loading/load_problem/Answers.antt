use mathlib.Core.Path.{◌≡◌, refl, ◌∙◌}
use Prim.Native.Nat.{◌+◌, ◌*◌}
use native.Mathlib.Omega.{arith}
use Rattle.integers.proofs.Machine.{clean_element}
use Rattle.sums.proofs.Fronts.{sums-filled}
use Rattle.pool.proofs.loading.load_problem.Goals as goal

pub returns-clause-problem : goal.returns-clause-problem
returns-clause-problem g c m h =
    let one : m * 1 ≡ m = omega arith in
    let k : c.args.k * 1 + 0 ≡ c.args.k = omega arith in
    sums-filled c.requires.0.1 (c.load_part.ensures m h) (c.load_part-2.ensures m h) (c.load_part-3.ensures m h) (c.load_part-4.ensures m h)
    (clean_element _ (omega arith) ∙ (rw (one, k) at ((c.load_part-5.ensures m h).entries 0 (omega arith)))) refl
