use mathlib.Core.Path.{◌≡◌, refl, sym, ap, ◌∙◌}
use mathlib.Core.List.{List}
use Prim.Native.Nat.{ℕ}
use lib.ListN.{length}
use Rattle.std.specs.Prelude.{Result, Ok}
use Rattle.integers.proofs.Machine.{clean}
use Rattle.tables.specs.Checks.{order_of}
use Rattle.tables.specs.declared.Refusal.{Refusal}
use Rattle.tables.proofs.Answers.{handed_on}
use Rattle.residual.specs.FactorTest.{factor_tested, factor_act}
use Rattle.residual.specs.declared.factor_test.FactorAnswer.{FactorAnswer}
use Rattle.residual.proofs.Meaning.{tested-sized}
use Rattle.buffers.specs.Buffers.{table_of, factor_buffers, StoredAnswer, stored_over}
use Rattle.buffers.proofs.Sizes.{factor_over_of}
use Rattle.buffers.proofs.tests.test_factor.Goals as goal
use Rattle.buffers.proofs.tests.test_factor.Goals.{Start, After-test_factor_among}

-- the test of the numbers that the buffers spell
abbrev tested : Start → Result FactorAnswer Refusal
tested s =
    let a = s.args in
    let k = order_of a.n in
    factor_tested a.n (factor_buffers k (length a.low.now) (length a.high.now) (length a.factor.now) (length a.over.now))
    (table_of k a.low.now) (table_of k a.high.now) (table_of k a.factor.now)

answered : (c : After-test_factor_among) → c.test_factor_among.result ≡ tested (goal.at.After-test_factor_among c).Start
unfolding factor_act factor_buffers
answered c = rw (clean c.ranges.n) at c.test_factor_among.ensures.exact

-- the buffer with an answer
abbrev given : Start → Result FactorAnswer Refusal → StoredAnswer
given s r = stored_over r s.args.over.now

pub returns-in_err-answer : goal.returns-in_err-answer
returns-in_err-answer c =
    let w = sym c.in_err-answer.was ∙ answered (goal.at.returns-in_err-answer c).After-test_factor_among in
    rw (handed_on c.from_residual.ensures.1) (ap (given (goal.at.returns-in_err-answer c).Start) w)

pub store_over-requires : goal.store_over-requires
store_over-requires c =
    let w = sym (answered (goal.at.store_over-requires c).After-test_factor_among) ∙ c.in_ok-answer.was in
    factor_over_of _ _ _ _ _ (tested-sized _ _ _ _ _ w)

-- an answer that is stored is handed on
with_answer : (a : FactorAnswer) (o : List ℕ) → record { answer = Ok a; over = (stored_over (Ok a) o).over } ≡ stored_over (Ok a) o
with_answer (FactorAnswer.Accepted v) o = refl
with_answer (FactorAnswer.NotAccepted v) o = refl

pub returns : goal.returns
returns c =
    let w = sym c.in_ok-answer.was ∙ answered (goal.at.returns c).After-test_factor_among in
    rw c.store_over.ensures (with_answer c.in_ok-answer.answer c.args.over.now ∙ ap (given (goal.at.returns c).Start) w)
