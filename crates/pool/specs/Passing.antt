-- How the code goes through the problems: once, each checked and then added, with the earliest refusal kept.
use Rattle.std.specs.Prelude.{true, false, ℕ, zero, suc, leb, Ok, Err}
use Rattle.tables.specs.Refusals.{refusal_number}
use Rattle.tables.specs.Checks.{Checked, first_refusal}
use Rattle.tables.specs.Answers.{after}
use Rattle.tables.specs.Problem.{mended_constraint}
use Rattle.tables.specs.declared.Refusal.{Refusal}
use Rattle.tables.specs.declared.problem.Constraint.{Constraint}
use Rattle.sums.specs.Sums.{Outcome, own_checks}
use Rattle.pool.specs.Pool.{added_next}

-- where a refusal stands among 3, 4, 5, 16 and 18: their numbers rise as they are asked
abbrev pub place : Refusal → ℕ
place r = refusal_number r

-- the refusal that is asked first
unfoldable pub earlier : Refusal → Refusal → Refusal
earlier r s = elim (leb (place r) (place s)) [ true ↦ r | false ↦ s ]

-- a problem is refused by r: and so is the pool, unless an earlier check has refused it
unfoldable pub refused_by : Refusal → Outcome → Outcome
refused_by r (Ok c) = Err r
refused_by r (Err s) = Err (earlier r s)

-- one problem more: p, whose checks found k
unfoldable pub passed_on : Checked → Constraint → Outcome → Outcome
passed_on (Ok _) p o = added_next (mended_constraint p) o
passed_on (Err r) p o = refused_by r o

abbrev pub next : Constraint → Outcome → Outcome
next p o = passed_on (first_refusal (own_checks p)) p o

-- sums c, and after them m problems
unfoldable pub passing : Constraint → (ℕ → Constraint) → ℕ → Outcome
passing c p zero = after Err (first_refusal (own_checks c)) (Ok (mended_constraint c))
passing c p (suc m) = next (p m) (passing c p m)
