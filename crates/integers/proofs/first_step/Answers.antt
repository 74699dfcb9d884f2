use native.Mathlib.Omega.{arith}
use Rattle.integers.proofs.Roots.{newton_above}
use Rattle.integers.proofs.first_step.Goals as goal

pub returns-then-step-lt4294967295 : goal.returns-then-step-lt4294967295
returns-then-step-lt4294967295 c =
    let n = c.newton-step in
    let g = c.root_guess in
    (rw n.ensures (newton_above _ g.result (omega arith)), omega arith)
