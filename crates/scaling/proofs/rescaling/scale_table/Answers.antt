use mathlib.Core.Path.{◌≡◌, refl, sym}
use mathlib.Core.Bool.{false≢true}
use Prim.Native.Nat.{suc, ◌+◌}
use native.Mathlib.Omega.{arith}
use Rattle.scaling.proofs.Parts.{part_join, part_range, row_leaves, all_stay}
use Rattle.scaling.proofs.rescaling.scale_table.Goals as goal

pub scale_row-requires : goal.scale_row-requires
scale_row-requires c =
    let p = c.requires in
    let l = c.loop-i in
    (p.0, c.loop-i-test.true, p.1, part_range _ p.2 l.invariant.1, l.invariant.0)

pub returns-in_err-scale_row : goal.returns-in_err-scale_row
returns-in_err-scale_row c =
    let r = c.in_err-scale_row.ensures in
    let l = c.loop-i in
    rw c.from_residual.ensures
    (record {
      answered = sym (row_leaves l.i c.loop-i-test.true l.invariant.1 (sym r.answered));
      size = r.size;
      part = λ e. absurd (false≢true e);
    })

pub loop-i-preserved : goal.loop-i-preserved
loop-i-preserved c =
    let r = c.in_ok-scale_row.ensures in
    let l = c.loop-i in
    let n = c.args.n in
    (r.size, let e : suc l.i ≡ l.i + 1 = omega arith in rw (← e) (part_join (omega arith) (omega arith) l.invariant.1 (r.part refl)))

pub returns : goal.returns
returns c =
    let l = c.loop-i in
    let e : l.i ≡ c.args.n = omega arith in
    let p = rw e at l.invariant.1 in
    record { answered = sym (all_stay p); size = l.invariant.0; part = λ _. p }
