-- The loop's invariant: the first k entries of both tables are the products.
use mathlib.Core.List.{List}
use Prim.Native.Nat.{ℕ, ◌*◌, ◌/◌, ◌%◌}
use lib.IntN.{ℤ}
use Rattle.tables.specs.Buffers.{Filled}
use Rattle.samples.specs.Samples.{factor_count, between}
use Rattle.samples.specs.Gains.{least_product, greatest_product}
use Rattle.samples.proofs.adding.lay_products.Given as goal

abbrev pub greatest : List ℤ → List ℤ → ℕ → ℤ
greatest low high k = greatest_product (between low high (k / factor_count)) (between low high (k % factor_count))

-- entry k
abbrev pub least : List ℤ → List ℤ → ℕ → ℤ
least low high k = least_product (between low high (k / factor_count)) (between low high (k % factor_count))

abbrev pub invariant-loop-k : goal.invariant-loop-k
invariant-loop-k l = let s = factor_count * factor_count in Filled s l.k (least l.low l.high) l.l × Filled s l.k (greatest l.low l.high) l.u
