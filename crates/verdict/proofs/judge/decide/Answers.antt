-- The factoring, and where it stops the listed vectors.
use mathlib.Core.Path.{◌≡◌, refl, sym, ap}
use mathlib.Core.List.{List}
use lib.IntN.{ℤ}
use Rattle.std.specs.Prelude.{Option, Some, None}
use Rattle.integers.proofs.Machine.{clean_element}
use Rattle.solved.proofs.Stops.{stopped_ready}
use Rattle.verdict.specs.Deciding.{stated, shown_decision, left_by}
use Rattle.verdict.specs.declared.judge.Decision.{Decision}
use Rattle.verdict.proofs.Decisions.{decided_shown}
use Rattle.verdict.proofs.judge.decide.Goals as goal

-- a factoring that stopped leaves the lent numbers as they were
shown-left : (q : Option (List ℤ)) (f₀ f : List ℤ) {r : Decision} → r ≡ shown_decision q → left_by r f₀ f ≡ f₀
unfolding shown_decision left_by
shown-left (Some x) f₀ f e = ap (λ (r : Decision). left_by r f₀ f) e
shown-left None f₀ f e = ap (λ (r : Decision). left_by r f₀ f) e

pub certify-requires : goal.certify-requires
certify-requires c =
    let p = c.requires in
    (p.0, p.1, p.2, rw c.in-Ok.is at c.factor_tables.ensures, p.3)

pub first_listed-requires : goal.first_listed-requires
first_listed-requires c =
    let p = c.requires in
    stopped_ready p.0.bounds p.0.order (rw c.in-Err.is at c.factor_tables.ensures)

pub returns-in-Ok : goal.returns-in-Ok
unfolding stated left_by
returns-in-Ok c =
    record {
      verdict = rw (← clean_element c.certify.result c.certify.type_inv) at c.certify.ensures;
      left = refl;
      room = c.certify.auto.factor;
    }

pub returns-in-Err : goal.returns-in-Err
unfolding stated left_by
returns-in-Err c =
    let f = c.first_listed.ensures in
    record {
      verdict = decided_shown _ _ _ _ _ (rw c.in-Err.is at c.factor_tables.ensures) _ f c.shown.ensures;
      left = sym (shown-left _ _ _ c.shown.ensures);
      room = refl;
    }
