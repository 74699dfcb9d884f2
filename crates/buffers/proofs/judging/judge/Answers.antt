-- The generic judge's answer, with the buffer for what the rows have over.
use mathlib.Core.Path.{◌≡◌, refl, sym, ap, ◌∙◌}
use mathlib.Core.Bool.{Bool, false≢true}
use mathlib.Core.List.{List}
use Prim.Native.Nat.{ℕ}
use native.Mathlib.Omega.{arith}
use lib.IntN.{ℤ}
use lib.ListN.{length}
use mir.Syntax.{w64}
use mir.Val.{bytes}
use Rattle.std.specs.Prelude.{Result, Ok, Err}
use Rattle.integers.proofs.Machine.{clean, clean_element}
use Rattle.words.specs.Numbers.{bytes_of}
use Rattle.tables.specs.Checks.{order_of}
use Rattle.tables.specs.declared.Refusal.{Refusal}
use Rattle.tables.proofs.Answers.{handed_on}
use Rattle.verdict.specs.Judge.{Judgement, Judged, stored, judging, judge_act}
use Rattle.verdict.specs.declared.judge.Verdict.{Verdict}
use Rattle.verdict.proofs.Meanings.{judging-sized}
use Rattle.buffers.specs.Buffers.{table_of, judge_buffers, over_by, StoredVerdict}
use Rattle.buffers.proofs.Stores.{number-stored}
use Rattle.buffers.proofs.Sizes.{judge_over_of}
use Rattle.buffers.proofs.judging.judge.Goals as goal
use Rattle.buffers.proofs.judging.judge.Goals.{Start, After-judge_among}

module _ (s : Start) where
  abbrev order : ℕ
  order = order_of s.args.n

  abbrev sized : Bool
  sized =
      let a = s.args in
      judge_buffers order (length a.low.now) (length a.high.now) (length a.factor.now) (length a.vector.now) (length a.over.now)

  abbrev by_judgement : Judgement → Judged (List ℕ)
  by_judgement g = stored (bytes_of w64) order g s.args.factor.now s.args.vector.now

  abbrev given : Judged (List ℕ)
  given = by_judgement (judging s.args.n sized (table_of order s.args.low.now) (table_of order s.args.high.now))

  -- the buffer for what the rows have over beside it
  abbrev beside : Judged (List ℕ) → StoredVerdict
  beside j = record { verdict = j.verdict; factor = j.factor; vector = j.vector; over = over_by j.verdict s.args.over.now }

judged : (c : After-judge_among) → let j = c.judge_among in
    ◌≡◌ {A = Judged (List ℕ)} (record { verdict = j.result; factor = j.new.factor; vector = j.new.vector })
    (given (goal.at.After-judge_among c).Start)
unfolding judge_act judge_buffers
judged c = rw (clean c.ranges.n) at c.judge_among.ensures.exact

pub returns-in_err-verdict : goal.returns-in_err-verdict
returns-in_err-verdict c =
    let s = (goal.at.returns-in_err-verdict c).Start in
    let j = judged (goal.at.returns-in_err-verdict c).After-judge_among in
    rw (handed_on c.from_residual.ensures.1) (rw c.in_err-verdict.was at (ap (beside s) j))

-- with 'definite' its buffer has its size
not_refused : {w : ℤ} {r : Refusal} → ◌≡◌ {A = Result Verdict Refusal} (Ok (Verdict.Definite w)) (Err r) → ⊥
not_refused e = absurd (false≢true (cc e))

room : (c : After-judge_among) → (w : ℤ) → c.judge_among.result ≡ Ok (Verdict.Definite w) → length c.args.over.now ≡ bytes w64
room c w e =
    let s = (goal.at.After-judge_among c).Start in
    let j = sym e ∙ ap (λ (j : Judged (List ℕ)). j.verdict) (judged c) in
    judge_over_of _ _ _ _ _ _
    (judging-sized _ _ _ _ (λ r q. not_refused (j ∙ ap (λ (g : Judgement). (by_judgement s g).verdict) q)))

pub store_signed-requires : goal.store_signed-requires
store_signed-requires c =
    let d = (goal.at.store_signed-requires c).After-judge_among in
    (refl, omega (arith, room d _ (c.in_ok-verdict.was ∙ ap Ok c.in-Definite.is)))

pub returns-in-Definite : goal.returns-in-Definite
returns-in-Definite c =
    let s = (goal.at.returns-in-Definite c).Start in
    let d = (goal.at.returns-in-Definite c).After-judge_among in
    let e = c.in_ok-verdict.was ∙ ap Ok c.in-Definite.is in
    let v = clean_element c.in-Definite.v (omega arith) in
    rw (number-stored c.args.over.now (room d _ e) v c.store_signed.ensures) (rw e at (ap (beside s) (judged d)))

-- and with another verdict it is kept
kept : (r : Verdict) (o : List ℕ) → ((w : ℤ) → r ≡ Verdict.Definite w → ⊥) → over_by (Ok r) o ≡ o
kept (Verdict.Definite w) o h = absurd (h w refl)
kept Verdict.NotDefinite o h = refl
kept Verdict.Undecided o h = refl

pub returns-in_default : goal.returns-in_default
returns-in_default c =
    let s = (goal.at.returns-in_default c).Start in
    let j = rw c.in_ok-verdict.was at (ap (beside s) (judged (goal.at.returns-in_default c).After-judge_among)) in
    rw (kept _ c.args.over.now c.in_default.not-Definite) at j
