use mathlib.Core.Path.{◌≡◌, ap, ◌∙◌}
use mathlib.Core.Bool.{Bool, ◌&&◌}
use mathlib.Core.List.{List}
use Prim.Native.Nat.{ℕ}
use lib.Dec.{eqb}
use lib.ListN.{length}
use mir.Syntax.{w64}
use mir.Val.{bytes}
use borrow.Author.Tests.{eq-eqb, ne_eqb, eqb-true}
use Rattle.std.specs.Prelude.{Ok}
use Rattle.integers.proofs.Machine.{clean}
use Rattle.tables.specs.Checks.{order_of}
use Rattle.tables.proofs.Checks.{and_left, and_right}
use Rattle.tables.proofs.Answers.{handed_on}
use Rattle.stiffness.specs.Bracket.{Bracketed, stored, bracketing, bracket_act}
use Rattle.stiffness.proofs.Meanings.{answered-sized}
use Rattle.buffers.specs.Buffers.{table_of, vector_buffers}
use Rattle.words.specs.Numbers.{bytes_of}
use Rattle.stiffness_buffers.specs.StiffnessBuffers.{stiffness_buffers, stored_ends, StoredStiffness, beside}
use Rattle.stiffness_buffers.proofs.bracketing.bracket.Goals as goal
use Rattle.stiffness_buffers.proofs.bracketing.bracket.Goals.{Start, Joined-step-eq-SIZE, then-step-eq-SIZE, else-step-eq-SIZE}
use Rattle.stiffness_buffers.proofs.bracketing.bracket.Goals.{After-bracket_among}

-- whether the buffers of step and bound have their sizes
abbrev ends_sized : Start → Bool
ends_sized s = eqb (length s.args.step.now) (bytes w64) && eqb (length s.args.bound.now) (bytes w64)

others : (c : Joined-step-eq-SIZE) → c.if-step-eq-SIZE.others ≡ ends_sized (goal.at.Joined-step-eq-SIZE c).Start
others c =
    elim c.if-step-eq-SIZE.branch [
      | then-step-eq-SIZE w ↦ rw (eq-eqb _ _ w.if-step-eq-SIZE.true) w.others-is
      | else-step-eq-SIZE w ↦
          let e = ne_eqb (length c.args.step.now) (bytes w64) w.if-step-eq-SIZE.false in rw e (w.others-is ∙ e)
    ]

-- the lengths of the act's own buffers, and what it leaves
abbrev own_sized : Start → Bool
own_sized s = let a = s.args in vector_buffers (order_of a.n) (length a.low.now) (length a.high.now) (length a.vector.now)

abbrev left : Start → Bracketed (List ℕ)
left s =
    let a = s.args in
    let k = order_of a.n in
    stored (bytes_of w64) k (bracketing a.n (own_sized s && ends_sized s) (table_of k a.low.now) (table_of k a.high.now)) a.vector.now

came : (c : After-bracket_among) → ◌≡◌ {A = Bracketed (List ℕ)}
    (record { stiffness = c.bracket_among.result; vector = c.bracket_among.new.vector }) (left (goal.at.After-bracket_among c).Start)
unfolding bracket_act
came c = rw (clean c.ranges.n, others (goal.at.After-bracket_among c).Joined-step-eq-SIZE) at c.bracket_among.ensures.exact

-- the buffers with it
abbrev given : Start → Bracketed (List ℕ) → StoredStiffness
given s j = beside j (stored_ends j.stiffness s.args.step.now s.args.bound.now)

pub returns-in_err-found : goal.returns-in_err-found
unfolding stiffness_buffers
returns-in_err-found c =
    let s = (goal.at.returns-in_err-found c).Start in
    let e = came (goal.at.returns-in_err-found c).After-bracket_among in
    rw (handed_on c.from_residual.ensures.1) (ap (given s) (rw c.in_err-found.was at e))

pub store_ends-requires : goal.store_ends-requires
store_ends-requires c =
    let s = (goal.at.store_ends-requires c).Start in
    let e = rw c.in_ok-found.was at (came (goal.at.store_ends-requires c).After-bracket_among) in
    let answered = ap (λ (j : Bracketed (List ℕ)). j.stiffness) e in
    let k = order_of s.args.n in
    let z = and_right (own_sized s) (ends_sized s) (answered-sized s.args.n _ _ _ (λ x. bytes_of w64 x k) s.args.vector.now answered) in
    (eqb-true _ _ (and_left _ _ z), eqb-true _ _ (and_right (eqb (length s.args.step.now) (bytes w64)) _ z))

pub returns : goal.returns
unfolding stiffness_buffers
returns c =
    let s = (goal.at.returns c).Start in
    let e = came (goal.at.returns c).After-bracket_among in
    let j : Bracketed (List ℕ) = record { stiffness = Ok c.in_ok-found.found; vector = c.bracket_among.new.vector } in
    ap (beside j) c.store_ends.ensures ∙ ap (given s) (rw c.in_ok-found.was at e)
