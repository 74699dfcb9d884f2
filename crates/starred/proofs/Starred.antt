-- The starred cases of docs/RULES.md, W1 to W12, W24 to W33, W39 to W44 and W47 to W60: what the definitions give, beside what is expected.
-- One list with one proof.
use mathlib.Core.Path.{◌≡◌, refl}
use mathlib.Core.Bool.{Bool, true, false}
use mathlib.Core.List.{List, [], ◌∷◌, map}
use Prim.Native.Nat.{ℕ}
use lib.IntN.{ℤ, pos, negsuc}
use Rattle.integers.specs.Numbers.{abs_ℤ, min_ℤ, max_ℤ, least_of}
use Rattle.integers.specs.Sum.{sum, only, except}
use Rattle.integers.specs.Division.{floor_div, ceil_div}
use Rattle.integers.specs.Root.{whole_root, root_within, root_above, least_root}
use Rattle.tables.specs.Matrix.{at, nth, table, tabulate, form, norm_squared, gram, row_width}
use Rattle.tables.specs.Checks.{Checked, all, first_refusal, order_ok, order_of, entry_checks, within, all_within, tables_within, linear_within, terms_within, nowhere_crossed, same, bounds_checks, ends_checks}
use Rattle.tables.specs.Mending.{mended_by}
use Rattle.tables.specs.Entering.{entered}
use Rattle.tables.specs.Problem.{problem_of, constraint_entered}
use Rattle.tables.specs.Answers.{after}
use Rattle.tables.specs.Members.{PositiveDefinite}
use Rattle.tables.specs.declared.Refusal.TheVariants.{Range, Crossed, Lopsided, Again, Reversed, Falling}
use Rattle.tables.specs.declared.Refusal.{Refusal}
use Rattle.std.specs.Prelude.{Result, Ok, Err}
use Rattle.cholesky.specs.Scale.{take_off, scaled_by}
use Rattle.cholesky.specs.Factoring.{factoring, columns_from, next_column, rows, goes_on, next_entry, entries}
use Rattle.residual.specs.Residual.{residual, radius, row_passes, rows_pass, accepts, row_over, least_over, over}
use Rattle.residual.specs.FactorTest.{factor_entry, factor_shape, tested, factor_answer, factor_tested}
use Rattle.residual.specs.declared.factor_test.FactorAnswer.{FactorAnswer}
use Rattle.residual.specs.declared.factor_test.FactorAnswer.TheVariants.{Accepted, NotAccepted}
use Rattle.residual.proofs.Meaning.{tested-means}
use Rattle.vectors.specs.VectorTest.{vector_shape, vector_answer, vector_tested}
use Rattle.vectors.specs.Least.{least_member, least_value, nonzero, shows, under}
use Rattle.tried.specs.Tried.{tried, first}
use Rattle.solved.specs.Solved.{stopped_factor, solved_entry, solved_rows, solved}
use Rattle.verdict.specs.Judge as Judge
use Rattle.verdict.specs.Judge.{Judgement, definite, not_definite, undecided, listed, judged, judging}
use Rattle.steps.specs.Steps.{lowered, trial, bits, step, step_at}
use Rattle.centre.specs.Centre.{low_gradient, high_gradient, gradient, at_centre}
use Rattle.sides.specs.Sides.{bound, first_half, second_bound, smaller_half, half_side, sides_from, box_of}
use Rattle.enclosure.specs.Box.{Box, sides, empty, refused, boxed, problem_box, boxing}
use Rattle.stiffness.specs.Bracket.{Bracketing, between, at_most, quotient, least_quotient, least_bound, first_under, bracketed, bracketing}
use Rattle.words.specs.Numbers.{from_le_bytes, unsigned_at}
use Rattle.fields.specs.Fields.{kind_in, kind_of, tagged, field_at}
use Rattle.fields.specs.Layouts.{part_of, start_of, seen, unseen, placed, walk_on, walk_fields, walk, walked}
use Rattle.summary.specs.Problems.{checked_of, read_walked, reading}

data Answer : Type 0 where
  verdict : Judgement → Answer
  factor : Result FactorAnswer Refusal → Answer
  vector : Result Bool Refusal → Answer
  value : ℤ → Answer
  box : Box → Answer
  bracket : Bracketing → Answer
  file : Checked → Answer

record Line : Type 0 where
  rules : Answer
  expected : Answer

-- the judge's verdict, on thin tables (L = U) and on others
abbrev bounded : ℕ → List ℤ → List ℤ → Judgement → Line
bounded n l u j = record { rules = verdict (judging (pos n) true l u); expected = verdict j }

abbrev thin : ℕ → List ℤ → Judgement → Line
thin n t j = bounded n t t j

-- the factor test's answer to a factor that is offered, for a thin table and for others
abbrev offered_for : ℕ → List ℤ → List ℤ → List ℤ → Result FactorAnswer Refusal → Line
offered_for n l u f a = record { rules = factor (factor_tested (pos n) true l u f); expected = factor a }

abbrev offered : ℕ → List ℤ → List ℤ → Result FactorAnswer Refusal → Line
offered n t f a = offered_for n t t f a

-- the vector test's answer to a vector that is offered
abbrev tried_on : ℕ → List ℤ → List ℤ → List ℤ → Result Bool Refusal → Line
tried_on n l u x a = record { rules = vector (vector_tested (pos n) true l u x); expected = vector a }

-- the least value of x over the one member of a thin table
abbrev least : ℕ → List ℤ → List ℤ → ℤ → Line
least n t x v = record { rules = value (least_value n (at n t) (at n t) (nth x)); expected = value v }

-- the box: tables, linear terms from a to b, α, c; of a thin table; of order 1; and there with equal ends
abbrev boxed_for : ℕ → List ℤ → List ℤ → List ℤ → List ℤ → ℤ → List ℤ → Box → Line
boxed_for n l u a b α c x = record { rules = box (boxing (pos n) true (problem_of n l u a b α c)); expected = box x }

abbrev boxed-thin : ℕ → List ℤ → List ℤ → List ℤ → ℤ → List ℤ → Box → Line
boxed-thin n t a b α c x = boxed_for n t t a b α c x

abbrev boxed-between : ℤ → ℤ → ℤ → ℤ → ℤ → Box → Line
boxed-between m a b α c x = boxed-thin 1 (m ∷ []) (a ∷ []) (b ∷ []) α (c ∷ []) x

abbrev boxed-one : ℤ → ℤ → ℤ → ℤ → Box → Line
boxed-one m a α c x = boxed-between m a a α c x

-- the bracket of the stiffness, of a thin table and of others
abbrev bracketed_for : ℕ → List ℤ → List ℤ → Bracketing → Line
bracketed_for n l u g = record { rules = bracket (bracketing (pos n) true l u); expected = bracket g }

abbrev bracketed-thin : ℕ → List ℤ → Bracketing → Line
bracketed-thin n t g = bracketed_for n t t g

-- a file of fields with no content, and of bytes behind them
abbrev fields_of : List ℕ → List ℕ → List ℕ
fields_of [] s = s
fields_of (t ∷ ts) s = t ∷ 0 ∷ 0 ∷ fields_of ts s

abbrev refused_file : List ℕ → Refusal → Line
refused_file s r = record { rules = file (checked_of (reading s)); expected = file (Err r) }

-- [1 3; 3 10], and 2^16 times its exact Cholesky factor
abbrev narrow : List ℤ
narrow = pos 1 ∷ pos 3 ∷ pos 3 ∷ pos 10 ∷ []

abbrev exact_factor : List ℤ
exact_factor = pos 65536 ∷ pos 196608 ∷ pos 0 ∷ pos 65536 ∷ []

-- the judge's factor of [2 1; 1 2]
abbrev judged_factor : List ℤ
judged_factor = pos 89738 ∷ pos 47861 ∷ pos 0 ∷ pos 75910 ∷ []

-- tables whose halves are rounded apart, and which mended are both [2 1; 1 2]
abbrev apart_low : List ℤ
apart_low = pos 2 ∷ pos 0 ∷ pos 1 ∷ pos 2 ∷ []

abbrev apart_high : List ℤ
apart_high = pos 2 ∷ pos 1 ∷ pos 2 ∷ pos 2 ∷ []

abbrev lines : List Line
lines =
    thin 1 (pos 1 ∷ []) (definite (pos 61303 ∷ []) (pos 536909487))
    ∷ bounded 1 (pos 1 ∷ []) (pos 2 ∷ []) (definite (pos 61303 ∷ []) (pos 536909487))
    ∷ thin 1 (pos 0 ∷ []) (not_definite (pos 1 ∷ []))
    ∷ bounded 1 (pos 0 ∷ []) (pos 5 ∷ []) (not_definite (pos 1 ∷ []))
    ∷ thin 2 (pos 2 ∷ pos 1 ∷ pos 1 ∷ pos 2 ∷ []) (definite judged_factor (pos 536914293))
    ∷ thin 2 (pos 1 ∷ pos 2 ∷ pos 2 ∷ pos 5 ∷ []) (definite (pos 61303 ∷ pos 140122 ∷ pos 0 ∷ pos 36108 ∷ []) (pos 536838306))
    ∷ thin 2 (pos 1 ∷ pos 2 ∷ pos 2 ∷ pos 1 ∷ []) (not_definite (pos 1 ∷ negsuc 0 ∷ []))
    ∷ thin 2 (pos 1 ∷ pos 1 ∷ pos 1 ∷ pos 1 ∷ []) (not_definite (pos 1 ∷ negsuc 0 ∷ []))
    ∷ thin 2 (pos 1 ∷ pos 1000 ∷ pos 1000 ∷ pos 10000 ∷ []) (not_definite (negsuc 1142 ∷ pos 1 ∷ []))
    ∷ least 2 (pos 1 ∷ pos 1000 ∷ pos 1000 ∷ pos 10000 ∷ []) (negsuc 1142 ∷ pos 1 ∷ []) (negsuc 969550)
    ∷ thin 2 narrow undecided
    ∷ boxed-one (pos 4) (pos 0) (negsuc 0) (pos 0) empty
    ∷ boxed-one (pos 4) (pos 0) (pos 0) (pos 0) (sides (pos 0 ∷ pos 0 ∷ []))
    -- case P, W21
    ∷ thin 1 (pos 4 ∷ []) (definite (pos 129007 ∷ []) (pos 537063135))
    ∷ boxed-one (pos 4) (negsuc 7) (pos 0) (pos 2) (sides (negsuc 0 ∷ pos 5 ∷ []))
    -- ends apart, W24 to W26
    ∷ boxed-between (pos 4) (negsuc 3) (pos 4) (pos 0) (pos 0) (sides (negsuc 3 ∷ pos 4 ∷ []))
    ∷ boxed-between (pos 4) (negsuc 7) (negsuc 3) (pos 0) (pos 2) (sides (negsuc 2 ∷ pos 7 ∷ []))
    ∷ boxed-between (pos 4) (negsuc 0) (pos 1) (negsuc 2) (pos 0) empty
    -- around a centre below 0, W30
    ∷ boxed-between (pos 4) (pos 4) (pos 8) (pos 0) (negsuc 1) (sides (negsuc 6 ∷ pos 3 ∷ []))
    -- 16, also where 8 would be next, and behind 5: W27 to W29
    ∷ boxed-between (pos 4) (pos 1) (pos 0) (pos 0) (pos 0) (refused Reversed)
    ∷ boxed-between (pos 1) (pos 1) (pos 0) (pos 0) (pos 0) (refused Reversed)
    ∷ boxed-thin 2 (pos 1 ∷ pos 2 ∷ pos 3 ∷ pos 4 ∷ []) (pos 1 ∷ pos 0 ∷ []) (pos 0 ∷ pos 0 ∷ []) (pos 0) (pos 0 ∷ pos 0 ∷ []) (refused Lopsided)
    -- 19 behind 12 of its field, and before 10 of the next, W31 to W33
    ∷ refused_file (fields_of (1 ∷ 2 ∷ 1 ∷ []) []) Again
    ∷ refused_file (fields_of (1 ∷ 3 ∷ 2 ∷ []) []) Falling
    ∷ refused_file (fields_of (2 ∷ 1 ∷ []) (3 ∷ [])) Falling
    -- halves rounded apart: judge, vector test and box on the mended tables, W39, W43 and W44
    ∷ bounded 2 apart_low apart_high (definite judged_factor (pos 536914293))
    ∷ tried_on 2 (pos 1 ∷ negsuc 2 ∷ pos 1 ∷ pos 1 ∷ []) (pos 1 ∷ pos 1 ∷ pos 2 ∷ pos 1 ∷ []) (pos 1 ∷ pos 1 ∷ []) (Ok false)
    ∷ boxed_for 2 (pos 9 ∷ negsuc 8 ∷ pos 0 ∷ pos 9 ∷ []) (pos 9 ∷ pos 0 ∷ pos 9 ∷ pos 9 ∷ []) (pos 0 ∷ pos 0 ∷ []) (pos 0 ∷ pos 0 ∷ []) (pos 9) (pos 0 ∷ pos 0 ∷ [])
    (sides (negsuc 1 ∷ pos 2 ∷ negsuc 1 ∷ pos 2 ∷ []))
    -- a pair that leaves no number, 5; but 4 and 3 of the tables as they are handed in come first, W40 to W42
    ∷ bounded 2 apart_low (pos 2 ∷ pos 0 ∷ pos 2 ∷ pos 2 ∷ []) (Judge.refused Lopsided)
    ∷ bounded 2 (pos 2 ∷ pos 3 ∷ pos 1 ∷ pos 2 ∷ []) apart_high (Judge.refused Crossed)
    ∷ bounded 2 (pos 2 ∷ negsuc 1048576 ∷ pos 1 ∷ pos 2 ∷ []) apart_high (Judge.refused Range)
    -- the factor test, with what the rows have over: 0 and less than 0, W47 and W48
    ∷ offered 1 (pos 1 ∷ []) (pos 65536 ∷ []) (Ok (Accepted (pos 0)))
    ∷ offered 1 (pos 1 ∷ []) (pos 65537 ∷ []) (Ok (NotAccepted (negsuc 131072)))
    -- W10 is definite all the same, since its exact factor is accepted; and a factor with less over in its first row, W49 and W50
    ∷ offered 2 narrow exact_factor (Ok (Accepted (pos 0)))
    ∷ offered 2 narrow (pos 65536 ∷ pos 196607 ∷ pos 0 ∷ pos 65536 ∷ []) (Ok (NotAccepted (negsuc 65535)))
    -- halves rounded apart, W39 and W51
    ∷ offered_for 2 apart_low apart_high judged_factor (Ok (Accepted (pos 536914293)))
    -- the bracket: t and v, and v alone where factoring stops, W52 to W56
    ∷ bracketed-thin 1 (pos 1 ∷ []) (between (pos 0) (pos 1) (pos 1 ∷ []))
    ∷ bracketed-thin 1 (pos 4 ∷ []) (between (pos 3) (pos 4) (pos 1 ∷ []))
    ∷ bracketed-thin 1 (pos 0 ∷ []) (at_most (pos 0) (pos 1 ∷ []))
    ∷ bracketed-thin 2 (pos 5 ∷ pos 2 ∷ pos 2 ∷ pos 5 ∷ []) (between (pos 2) (pos 3) (pos 1 ∷ negsuc 0 ∷ []))
    ∷ bracketed-thin 2 (pos 1 ∷ pos 2 ∷ pos 2 ∷ pos 1 ∷ []) (at_most (negsuc 0) (pos 1 ∷ negsuc 0 ∷ []))
    -- the first vector that is under v, a quotient below 0 rounded up, and W10, which is undecided: W57 to W59
    ∷ bracketed-thin 2 (pos 4 ∷ pos 1 ∷ pos 1 ∷ pos 3 ∷ []) (between (pos 2) (pos 3) (pos 0 ∷ pos 1 ∷ []))
    ∷ bracketed-thin 2 (pos 0 ∷ pos 1 ∷ pos 1 ∷ pos 1 ∷ []) (at_most (pos 0) (pos 1 ∷ pos 0 ∷ []))
    ∷ bracketed-thin 2 narrow (at_most (pos 1) (pos 1 ∷ pos 0 ∷ []))
    -- halves rounded apart, W60
    ∷ bracketed_for 2 (pos 3 ∷ negsuc 0 ∷ pos 1 ∷ pos 3 ∷ []) (pos 4 ∷ pos 2 ∷ pos 3 ∷ pos 4 ∷ []) (between (pos 0) (pos 1) (pos 1 ∷ negsuc 0 ∷ []))
    ∷ []

as_printed : map (λ (l : Line). l.rules) lines ≡ map (λ (l : Line). l.expected) lines
unfolding bracketing bracketed least_bound least_quotient quotient first_under under norm_squared judging judged listed vector_tested vector_answer vector_shape factor_tested factor_answer factor_shape factor_entry tested accepts rows_pass row_passes over least_over least_of row_over radius residual gram except after entered first_refusal entry_checks order_ok order_of bounds_checks ends_checks constraint_entered tables_within all_within nowhere_crossed mended_by same all within factoring columns_from next_column rows goes_on next_entry entries take_off scaled_by at table tabulate form row_width least_member least_value nonzero shows tried first stopped_factor solved_entry solved_rows solved sum only floor_div whole_root root_within boxing problem_box linear_within terms_within boxed box_of sides_from half_side smaller_half second_bound first_half bound at_centre gradient high_gradient low_gradient step step_at bits trial lowered abs_ℤ min_ℤ max_ℤ ceil_div root_above least_root reading read_walked walked walk walk_fields walk_on seen part_of start_of unseen placed field_at tagged kind_of kind_in unsigned_at from_le_bytes
as_printed = refl

-- so every member of [1 3; 3 10], on which the judge is undecided, is positive definite
undecided_definite : PositiveDefinite 2 (at 2 narrow) (at 2 narrow)
unfolding factor_tested factor_answer factor_shape factor_entry tested accepts rows_pass row_passes over least_over least_of row_over radius residual gram except after entered first_refusal entry_checks order_ok order_of bounds_checks tables_within all_within nowhere_crossed mended_by same all within at table tabulate sum abs_ℤ min_ℤ max_ℤ
undecided_definite = (tested-means (pos 2) narrow narrow exact_factor true).definite (pos 0) refl
