-- 8, then 9, then the box of the numbers.
use mathlib.Core.Path.{◌≡◌, sym, ◌∙◌}
use mathlib.Core.Bool.{false}
use lib.IntN.{pos}
use lib.Signed.{le_z}
use Rattle.integers.proofs.Machine.{clean, clean_element}
use Rattle.tables.specs.Bounded.{low_of, high_of}
use Rattle.centre.specs.Centred.{terms_of}
use Rattle.steps.specs.Steps.{step}
use Rattle.enclosure.specs.Stating.{stated}
use Rattle.enclosure.proofs.Readiness.{ready_of}
use Rattle.enclosure.proofs.Halves.{one_of}
use Rattle.enclosure.proofs.BoxCases.{box_flat, box_far, box_near}
use Rattle.enclosure.proofs.enclose.box_bounds.Goals as goal
use Rattle.enclosure.proofs.enclose.box_bounds.Goals.{Else-t-le0}

-- t is above 0
steep : (c : Else-t-le0) → let b = c.args.problem.bounds in le_z (step b.order (low_of b) (high_of b)) (pos 0) ≡ false
steep c = let s = c.step-t in rw (clean_element s.result s.type_inv, s.ensures) at c.if-t-le0.false

pub returns-then-t-le0 : goal.returns-then-t-le0
unfolding stated
returns-then-t-le0 c =
    let s = c.step-t in
    sym (box_flat _ _ _ _ _ _ (rw (clean_element s.result s.type_inv, s.ensures) at c.if-t-le0.true))

pub returns-then-not-close : goal.returns-then-not-close
unfolding stated
returns-then-not-close c =
    let s = steep (goal.at.returns-then-not-close c).Else-t-le0 in
    sym (box_far _ _ _ (terms_of c.args.problem) _ _ s _ c.gradients.ensures.entries (sym c.if-not-close.ensures))

pub box_of-sides-requires : goal.box_of-sides-requires
unfolding stated
box_of-sides-requires c =
    let p = c.args.problem in
    let t = c.step-t in
    let d = c.at_centre-d in
    let s = steep (goal.at.box_of-sides-requires c).Else-t-le0 in
    rw (clean_element d.result d.type_inv, d.ensures, clean_element t.result t.type_inv, t.ensures, clean c.ranges.limit)
    (ready_of p.bounds.checked p.terms (one_of _ s) c.gradients.ensures (sym c.if-not-close.ensures) c.requires)

pub returns : goal.returns
unfolding stated
returns c =
    let t = c.step-t in
    let d = c.at_centre-d in
    let s = steep (goal.at.returns c).Else-t-le0 in
    (rw (clean_element d.result d.type_inv, d.ensures, clean_element t.result t.type_inv, t.ensures, clean c.ranges.limit)
    at c.box_of-sides.ensures)
    ∙ sym (box_near _ _ _ (terms_of c.args.problem) _ _ s _ c.gradients.ensures.entries
    (sym c.if-not-close.ensures) _ c.steps_at-tk.ensures.entries)
