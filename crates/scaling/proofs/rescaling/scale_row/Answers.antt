use mathlib.Core.Path.{◌≡◌, sym, ◌∙◌}
use mathlib.Core.Bool.{false≢true}
use Prim.Native.Nat.{suc, ◌+◌, ◌*◌, ◌<◌}
use native.Mathlib.Omega.{arith}
use lib.ListN.{length-set}
use Rattle.integers.proofs.Machine.{clean_element, clean_result}
use Rattle.tables.specs.Matrix.{at, nth}
use Rattle.tables.proofs.Checks.{call_true, call_false, all_of, all_false}
use Rattle.tables.proofs.Matrix.{inside, table_fits}
use Rattle.scaling.specs.Scaling.{rescaled}
use Rattle.scaling.specs.Scratch.{scale_in}
use Rattle.scaling.proofs.Scales.{scale-exponent}
use Rattle.scaling.proofs.Parts.{part-more}
use Rattle.scaling.proofs.rescaling.scale_row.Goals as goal
use Rattle.scaling.proofs.rescaling.scale_row.Goals.{In-loop-j, After-scaled_entry-scaled}

-- where entry (i, j) stands
place : (c : In-loop-j) → c.args.i * c.args.n + c.loop-j.j < 64
place c = omega (arith, inside c.requires.1 c.loop-j-test.true, table_fits c.requires.0)

-- the entry, and the entry scaled
entry : (c : In-loop-j) → let l = c.loop-j in let a = c.args in
    nth l.t (a.i * a.n + l.j) ≡ at a.n a.t.now a.i l.j
unfolding at
entry c = let l = c.loop-j in let a = c.args in l.invariant.1.behind a.i l.j c.loop-j-test.true (omega arith)

module _ (c : After-scaled_entry-scaled) where
  result : c.scaled_entry-scaled.result ≡ rescaled (scale_in c.args.x.now) (at c.args.n c.args.t.now) c.args.i c.loop-j.j
  unfolding rescaled
  result =
      rw (
        clean_element (nth c.args.x.now c.args.i) c.k-1.given,
        clean_element (nth c.args.x.now c.loop-j.j) c.scaled_entry-arg-1.given,
        clean_element _ c.scaled_entry-arg-in-loop-j-1.given,
        entry c.before.before.before,
      ) at c.scaled_entry-scaled.ensures

pub scaled_entry-scaled-requires : goal.scaled_entry-scaled-requires
scaled_entry-scaled-requires c =
    let h = c.loop-j-test.true in
    rw (
      clean_element _ c.k-1.given,
      clean_element _ c.scaled_entry-arg-1.given,
      clean_element _ c.scaled_entry-arg-in-loop-j-1.given,
      entry c.before.before,
    ) (
      scale-exponent c.requires.2 c.args.i c.requires.1,
      scale-exponent c.requires.2 c.loop-j.j h,
      c.requires.3 c.args.i c.loop-j.j c.requires.1 h,
    )

pub returns-then-not-within : goal.returns-then-not-within
returns-then-not-within c =
    record {
      answered = sym (all_false _ _ c.loop-j.j c.loop-j-test.true
          (rw (← result c.before.before)
          (call_false (rw (clean_result c.scaled_entry-scaled) at c.within.ensures) c.if-not-within.true-raw)));
      size = c.loop-j.invariant.0;
      part = λ e. absurd (false≢true e);
    }

pub loop-j-preserved : goal.loop-j-preserved
loop-j-preserved c =
    let a = c.args in
    let j = c.loop-j.j in
    let e : suc (a.i * a.n + j) ≡ a.i * a.n + (j + 1) = omega arith in (
      length-set c.loop-j.t _ _ ∙ c.loop-j.invariant.0,
      rw (clean_result c.scaled_entry-scaled, result c.before.before, ← e)
          (part-more a.i j c.loop-j-test.true (omega arith)
          (omega (arith, place c.before.before.before.before.before, c.loop-j.invariant.0))
          (rw (← result c.before.before)
          (call_true (rw (clean_result c.scaled_entry-scaled) at c.within.ensures) c.if-not-within.false-raw)) c.loop-j.invariant.1),
    )

pub returns : goal.returns
returns c =
    let l = c.loop-j in
    let a = c.args in
    let e : a.i * a.n + l.j ≡ suc a.i * a.n = omega arith in
    let p = rw e at l.invariant.1 in
    record { answered = sym (all_of _ a.n (λ j h. p.inside a.i j h (omega arith) (omega arith))); size = l.invariant.0; part = λ _. p }
