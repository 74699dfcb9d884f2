use mathlib.Core.Path.{◌≡◌, sym, ap, ◌∙◌}
use mathlib.Core.List.{List}
use Prim.Native.Nat.{ℕ}
use native.Mathlib.Omega.{arith}
use Rattle.std.specs.Prelude.{Some, Ok}
use Rattle.std.proofs.lemmas.Bool.{lt-ltb, le-ltb}
use Rattle.tables.proofs.Answers.{handed_on}
use Rattle.fields.specs.declared.layout.Layout.{Layout}
use Rattle.fields.specs.Fields.{field_at}
use Rattle.fields.specs.Layouts.{walk}
use Rattle.fields.proofs.Finding.{found_inside}
use Rattle.fields.proofs.Walking.{seen_is, falls_is, walk_end, walk_refused, walk_again, walk_falling, walk_more}
use Rattle.fields.proofs.layout.walk.Goals as goal
use Rattle.fields.proofs.layout.walk.Goals.{In-Some}

-- the field at hand
here : (c : In-Some) → field_at c.args.file.now c.loop-field.at ≡ Ok (Some c.in-Some.field)
here c = sym c.field_at.ensures ∙ c.in_ok-field.was ∙ ap Ok c.in-Some.is

-- the walk goes on behind the field's tag, with the field in the layout
onward : (s : List ℕ) (at : ℕ) {t u : ℕ} {l m : Layout} → u ≡ t → m ≡ l → walk s at t l ≡ walk s at u m
onward s at e h = rw (e, h)

pub returns-in_err-field : goal.returns-in_err-field
returns-in_err-field c =
    rw (handed_on c.from_residual.ensures.1)
    (sym (c.loop-field.invariant.1 ∙ walk_refused _ _ _ _ _ (sym c.field_at.ensures ∙ c.in_err-field.was)))

pub returns-then-again : goal.returns-then-again
returns-then-again c =
    sym (c.loop-field.invariant.1
    ∙ walk_again _ _ _ _ _ (here (goal.at.returns-then-again c).In-Some)
    (seen_is _ _ c.part_of.ensures (sym c.is_some-again.ensures ∙ c.if-again.true)))

pub returns-then-falls : goal.returns-then-falls
returns-then-falls c =
    sym (c.loop-field.invariant.1
    ∙ walk_falling _ _ _ _ _ (here (goal.at.returns-then-falls c).In-Some)
    (seen_is _ _ c.part_of.ensures (sym c.is_some-again.ensures ∙ c.if-again.false))
    (falls_is c.in-Some.field.kind _ c.tag-tag.ensures (lt-ltb _ _ c.if-falls.true)))

pub loop-field-smaller : goal.loop-field-smaller
loop-field-smaller c = omega (arith, found_inside _ _ _ (here (goal.at.loop-field-smaller c).In-Some))

pub loop-field-preserved : goal.loop-field-preserved
loop-field-preserved c = (
  omega (arith, found_inside _ _ _ (here (goal.at.loop-field-preserved c).In-Some)),
  c.loop-field.invariant.1
      ∙ walk_more _ _ _ _ _ (here (goal.at.loop-field-preserved c).In-Some)
      (seen_is _ _ c.part_of.ensures (sym c.is_some-again.ensures ∙ c.if-again.false))
      (falls_is c.in-Some.field.kind _ c.tag-tag.ensures (le-ltb _ _ c.if-falls.false))
      ∙ onward _ _ c.tag-tag.ensures c.place.ensures,
)

pub returns : goal.returns
returns c = sym (c.loop-field.invariant.1 ∙ walk_end _ _ _ _ (sym c.field_at.ensures ∙ c.in_ok-field.was ∙ ap Ok c.in_default.is))
