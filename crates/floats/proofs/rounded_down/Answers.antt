use Prim.Native.Nat.{ℕ, ◌/◌, ◌^◌, ◌<◌}
use native.Mathlib.Nat.{div-le_self}
use native.Mathlib.Omega.{arith}
use Rattle.integers.specs.Division.{floor_div}
use Rattle.integers.proofs.Machine.{read_i64}
use Rattle.floats.proofs.rounded_down.Lts as lts
use Rattle.floats.proofs.rounded_down.Reads as reads
use Rattle.floats.proofs.rounded_down.Goals as goal

abbrev Start : Type 0
Start = lts.Start reads.Pre reads.Post

abbrev quotient : Start → ℕ
quotient s = s.args.digits / 2 ^ s.args.places

small : (s : Start) → quotient s < 2 ^ 63
small s = omega (arith, s.requires.0, div-le_self s.args.digits (2 ^ s.args.places))

pub returns : goal.returns
unfolding floor_div
returns c = read_i64 (quotient c) (small c)

pub overflow_cast-result : goal.overflow_cast-result
overflow_cast-result c = record { sfits = small c }
