-- The loop's invariant: the first i ends of both lists are the products with the draw, taken off 0.
use mathlib.Core.List.{List}
use Prim.Native.Nat.{ℕ}
use lib.IntN.{ℤ, pos, ◌-ℤ◌}
use Rattle.tables.specs.Buffers.{Filled}
use Rattle.samples.specs.Samples.{factor_count, between}
use Rattle.samples.specs.Gains.{least_product, greatest_product}
use Rattle.samples.proofs.adding.lay_draws.Given as goal

abbrev pub greatest : List ℤ → List ℤ → ℕ → ℤ
greatest low high i = greatest_product (between low high i) (between low high factor_count)

-- the products of factor i and the draw
abbrev pub least : List ℤ → List ℤ → ℕ → ℤ
least low high i = least_product (between low high i) (between low high factor_count)

abbrev pub invariant-loop-i : goal.invariant-loop-i
invariant-loop-i live =
    Filled factor_count live.i (λ k. pos 0 -ℤ greatest live.low live.high k) live.a
    × Filled factor_count live.i (λ k. pos 0 -ℤ least live.low live.high k) live.b
