-- Where check 2 passes, the buffer for what the rows have over has its size.
use mathlib.Core.Path.{◌≡◌}
use mathlib.Core.Bool.{true}
use Prim.Native.Nat.{ℕ, ◌*◌}
use borrow.Author.Tests.{eqb-true}
use mir.Syntax.{w64}
use mir.Val.{bytes}
use Rattle.tables.specs.Checks.{sizes_ok}
use Rattle.tables.proofs.Checks.{and_right}
use Rattle.verdict.specs.Judge.{judge_sizes}
use Rattle.buffers.specs.Buffers.{factor_buffers, judge_buffers}

pub factor_over_of : (n l u f o : ℕ) → factor_buffers n l u f o ≡ true → o ≡ bytes w64
unfolding factor_buffers
factor_over_of n l u f o e =
    let size = n * n * bytes w64 in
    eqb-true o (bytes w64) (and_right (sizes_ok size size l u f) _ e)

pub judge_over_of : (n l u f v o : ℕ) → judge_buffers n l u f v o ≡ true → o ≡ bytes w64
unfolding judge_buffers
judge_over_of n l u f v o e =
    eqb-true o (bytes w64) (and_right (judge_sizes (n * n * bytes w64) (n * bytes w64) l u f v) _ e)
