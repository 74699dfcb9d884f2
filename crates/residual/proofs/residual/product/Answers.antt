use mathlib.Core.Path.{◌≡◌}
use Prim.Native.Nat.{suc}
use native.Mathlib.Omega.{arith}
use native.Mathlib.Numerals.{add-one}
use lib.IntN.{◌+ℤ◌, ◌*ℤ◌}
use mir.Syntax.{w64}
use mir.Val.{SFits, to_z}
use Rattle.std.proofs.Common.{rules}
use Rattle.std.proofs.lemmas.Int.{to_z-of_z}
use Rattle.integers.proofs.Sums.{sum_suc}
use Rattle.residual.specs.Scratch.{gram_at}
use Rattle.residual.proofs.Sizes.{product_fits, products_fit}
use Rattle.residual.proofs.residual.product.Goals as goal
use Rattle.residual.proofs.residual.product.Goals.{After-entry-in-loop-k}

-- the two entries, their product, and the sum with it fit
record Fitting (c : After-entry-in-loop-k) : Type 0 where
  first : SFits w64 c.entry.result
  second : SFits w64 c.entry-in-loop-k.result
  times : SFits w64 (c.entry.result *ℤ c.entry-in-loop-k.result)
  more : SFits w64 (to_z w64 c.loop-k.s-bits +ℤ c.entry.result *ℤ c.entry-in-loop-k.result)

fitting : (c : After-entry-in-loop-k) → Fitting c
fitting c =
    let p = c.requires in
    record {
      first = search rules;
      second = search rules;
      times = rw (c.entry.ensures, c.entry-in-loop-k.ensures) (product_fits p.0 _ p.1 p.2 (omega arith));
      more = rw (c.loop-k.invariant, c.entry.ensures, c.entry-in-loop-k.ensures) (products_fit p.0 _ p.1 p.2 (omega arith));
    }

pub overflow_mul-s : goal.overflow_mul-s
overflow_mul-s c = let f = fitting c in rw (to_z-of_z w64 _ f.first, to_z-of_z w64 _ f.second) f.times

pub overflow_add-s : goal.overflow_add-s
overflow_add-s c = let f = fitting c in rw (to_z-of_z w64 _ f.first, to_z-of_z w64 _ f.second, to_z-of_z w64 _ f.times) f.more

pub loop-k-preserved : goal.loop-k-preserved
loop-k-preserved c =
    let f = fitting c in
    rw (to_z-of_z w64 _ f.first, to_z-of_z w64 _ f.second, to_z-of_z w64 _ f.times, to_z-of_z w64 _ f.more)
    (rw (c.loop-k.invariant, c.entry.ensures, c.entry-in-loop-k.ensures, add-one, sum_suc))

pub returns : goal.returns
unfolding gram_at
returns c = let e : c.loop-k.k ≡ suc c.args.i = omega arith in rw e at c.loop-k.invariant
