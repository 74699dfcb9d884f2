use mathlib.Core.Path.{refl, sym, ap, ◌∙◌}
use Prim.Native.Nat.{ℕ}
use native.Mathlib.Omega.{arith}
use Rattle.integers.proofs.Machine.{clean_element}
use Rattle.tables.specs.Checks.{Checked}
use Rattle.tables.specs.Problem.{mended_constraint}
use Rattle.tables.specs.declared.problem.Constraint.{Constraint}
use Rattle.tables.proofs.Answers.{handed_on}
use Rattle.sums.specs.Halving.{fitted}
use Rattle.sums.specs.Required.{sums_at, stated}
use Rattle.sums.specs.Running.{sums_in, stated_in}
use Rattle.sums.specs.Mending.{to_mend}
use Rattle.sums.proofs.Fronts.{mended_answer, mended-front, mended-ranged}
use Rattle.sums.proofs.Laying.{stated_by}
use Rattle.pool.specs.Pool.{added_next}
use Rattle.pool.proofs.Passing.{next-passed, next-refused}
use Rattle.pool.proofs.problems.add_problem.Goals as goal

pub returns-in-Err-clause-sums : goal.returns-in-Err-clause-sums
unfolding stated
returns-in-Err-clause-sums c =
    let q = c.args.problem.now in
    let checks = rw (c.within-within.ensures, clean_element q.limit (omega arith)) at c.in-Err.ensures.mended in
    let refused = sym (mended_answer _ c.requires.0.1 checks q.limit) in
    record { outcome = next-refused (to_mend q) _ refused ∙ sym (c.refused_by.ensures.held c.args.sums.now); rooms = c.requires.1.1 }

pub returns-in_err-done-clause-sums : goal.returns-in_err-done-clause-sums
unfolding stated added_next
returns-in_err-done-clause-sums c =
    let q = c.args.problem.now in
    let s = c.args.sums.now in
    let checks = rw (c.within-within.ensures, clean_element q.limit (omega arith)) at c.in_default.ensures.mended in
    rw (handed_on c.from_residual.ensures.1)
    (record {
      outcome = next-passed (to_mend q) _ (sym (mended_answer _ c.requires.0.1 checks q.limit))
          ∙ ap (λ (r : Checked). added_next (mended_constraint (to_mend q)) (stated_in r s)) c.in_err-done.was;
      rooms = c.requires.1.1;
    })

pub add_fitted-requires : goal.add_fitted-requires
add_fitted-requires c =
    let q = c.args.problem.now in
    let v = c.view-mended.ensures in
    let t = c.mend_sums.ensures.kept in
    let checks = rw (c.within-within.ensures, clean_element q.limit (omega arith)) at c.in_default.ensures.mended in
    let ranged = mended-ranged _ c.requires.0.1 checks q.limit refl refl in (
      (c.requires.1.0, c.requires.3.ranged c.in_ok-done.was),
      rw (v.low, v.high, v.from, v.to, v.limit, t.from, t.to, t.limit) (rw c.requires.2 at ranged),
    )

pub returns-clause-sums : goal.returns-clause-sums
unfolding stated added_next
returns-clause-sums c =
    let q = c.args.problem.now in
    let s = c.args.sums.now in
    let m = c.mend_sums.new.sums in
    let v = c.view-mended.ensures in
    let t = c.mend_sums.ensures.kept in
    let checks = rw (c.within-within.ensures, clean_element q.limit (omega arith)) at c.in_default.ensures.mended in
    let front = mended-front _ c.requires.0.1 checks q.limit refl in
    stated_by
    (ap (λ (g : Constraint). fitted g (sums_in s))
    (ap (λ (n : ℕ). sums_at n m.low.now m.high.now q.from.now q.to.now q.limit) (sym c.requires.2) ∙ front)
    ∙ ap (λ (r : Checked). added_next (mended_constraint (to_mend q)) (stated_in r s)) (sym c.in_ok-done.was)
    ∙ sym (next-passed (to_mend q) _ (sym (mended_answer _ c.requires.0.1 checks q.limit))))
    (rw (v.low, v.high, v.from, v.to, v.limit, t.from, t.to, t.limit) at c.add_fitted.ensures.sums)
