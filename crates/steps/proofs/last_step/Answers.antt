use mathlib.Core.Path.{◌≡◌, ◌∙◌}
use lib.IntN.{ℤ, pos, ◌-ℤ◌}
use lib.Signed.{◌≤ℤ◌}
use mir.Syntax.{w64}
use mir.Val.{SFits}
use Rattle.integers.specs.Division.{floor_div}
use Rattle.integers.proofs.Machine.{clean, lt_holds, lt_fails, lt_yes, lt_no, fits_literal, clean_element}
use Rattle.cholesky.specs.Scale.{scale}
use Rattle.cholesky.specs.Store.{upper}
use Rattle.steps.proofs.Searches.{less_fits, last_none, last-most, last-all}
use Rattle.steps.proofs.last_step.Goals as goal
use Rattle.steps.proofs.last_step.Goals.{Start, Else-rest-lt1, After-floor_div-most}

-- the diagonal entry
abbrev rest : Start → ℤ
rest c = upper c.args.h.now c.args.k c.args.k

fits_rest : (c : Else-rest-lt1) → SFits w64 (rest (goal.at.Else-rest-lt1 c).Start)
unfolding upper
fits_rest c = record { sfits = c.rest-1.given }

-- at least 1 is left of it
one : (c : Else-rest-lt1) → pos 1 ≤ℤ rest (goal.at.Else-rest-lt1 c).Start
unfolding upper
one c = lt_no (fits_rest c) (fits_literal {z = pos 1} tt) c.if-rest-lt1.false

most_is : (c : After-floor_div-most) → c.floor_div-most.result ≡ floor_div (rest (goal.at.After-floor_div-most c).Start -ℤ pos 1) scale
unfolding upper
most_is c =
    let p = (goal.at.After-floor_div-most c).Else-rest-lt1 in
    rw (clean (fits_rest p), clean (less_fits (fits_rest p) (one p))) at c.floor_div-most.ensures

pub returns-then-rest-lt1 : goal.returns-then-rest-lt1
unfolding upper
returns-then-rest-lt1 c = last_none _ _ (lt_yes (record { sfits = c.rest-1.given }) (fits_literal {z = pos 1} tt) c.if-rest-lt1.true)

pub returns-then-most-lt-MOST_STEP : goal.returns-then-most-lt-MOST_STEP
unfolding upper
returns-then-most-lt-MOST_STEP c =
    let p = goal.at.returns-then-most-lt-MOST_STEP c in
    let e = clean_element c.floor_div-most.result c.floor_div-most.type_inv ∙ most_is p.After-floor_div-most in
    e ∙ last-most _ _ (one p.Else-rest-lt1) (lt_holds (rw e at c.if-most-lt-MOST_STEP.true))

pub returns-else-most-lt-MOST_STEP : goal.returns-else-most-lt-MOST_STEP
unfolding upper
returns-else-most-lt-MOST_STEP c =
    let p = goal.at.returns-else-most-lt-MOST_STEP c in
    let e = clean_element c.floor_div-most.result c.floor_div-most.type_inv ∙ most_is p.After-floor_div-most in
    last-all _ _ (one p.Else-rest-lt1) (lt_fails (rw e at c.if-most-lt-MOST_STEP.false))
