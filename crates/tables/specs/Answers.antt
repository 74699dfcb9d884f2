-- What the acts answer, R5 and R15.4 of docs/RULES.md: the first refusal, or else what was asked for; and its number at the C entries.
use Rattle.std.specs.Prelude.{Bool, true, false, ℤ, pos, negsuc, Result, Ok, Err}
use Rattle.tables.specs.Refusals.{refusal_number}
use Rattle.tables.specs.Checks.{Checked}
use Rattle.tables.specs.declared.Refusal.{Refusal}

-- the refusal, or else the answer: of any kind of answer that can be a refusal
unfoldable pub after : {A : Type 0} → (Refusal → A) → Checked → A → A
after refused (Err r) a = refused r
after refused (Ok _) a = a

-- R15.4: the number of 'yes' and 'no' at the C entry, 0 and -1
abbrev pub yes_or_no_code : Bool → ℤ
yes_or_no_code true = pos 0
yes_or_no_code false = negsuc 0

-- the number of what an act answers: the answer's, or the refusal's
abbrev pub answer_code : {A : Type 0} → (A → ℤ) → Result A Refusal → ℤ
answer_code code (Ok a) = code a
answer_code code (Err r) = pos (refusal_number r)
