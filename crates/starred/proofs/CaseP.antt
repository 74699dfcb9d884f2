-- Case P, W21 of docs/RULES.md: the program's whole output, computed from the bytes of the file.
use mathlib.Core.Path.{◌≡◌, refl}
use mathlib.Core.List.{List, [], ◌∷◌, ◌++◌}
use Prim.Native.Nat.{ℕ}
use lib.ListN.{replicate}
use Rattle.integers.specs.Numbers.{abs_ℤ, min_ℤ, max_ℤ, least_of}
use Rattle.integers.specs.Sum.{sum, only, except}
use Rattle.integers.specs.Division.{floor_div, ceil_div}
use Rattle.integers.specs.Root.{whole_root, root_within, root_above, least_root}
use Rattle.tables.specs.Matrix.{at, table, tabulate, form, gram, row_width}
use Rattle.tables.specs.Checks.{order_ok, all, first_refusal, within, all_within, tables_within, linear_within, terms_within, nowhere_crossed, bounds_checks, ends_checks}
use Rattle.tables.specs.Mending.{mended_by}
use Rattle.cholesky.specs.Scale.{take_off, scaled_by}
use Rattle.cholesky.specs.Factoring.{factoring, columns_from, next_column, rows, goes_on, next_entry, entries}
use Rattle.tables.specs.Answers.{after}
use Rattle.residual.specs.Residual.{residual, radius, row_over, least_over, over}
use Rattle.vectors.specs.Least.{least_member, least_value, nonzero, shows}
use Rattle.tried.specs.Tried.{tried, first}
use Rattle.solved.specs.Solved.{stopped_factor, solved_entry, solved_rows, solved}
use Rattle.verdict.specs.Judge.{listed, judged}
use Rattle.steps.specs.Steps.{lowered, trial, bits, step, step_at}
use Rattle.centre.specs.Centre.{low_gradient, high_gradient, gradient, at_centre}
use Rattle.sides.specs.Sides.{bound, first_half, second_bound, smaller_half, half_side, sides_from, box_of}
use Rattle.enclosure.specs.Box.{boxed, problem_box}
use Rattle.fields.specs.Fields.{kind_in, kind_of, tagged, field_at}
use Rattle.fields.specs.Layouts.{part_of, start_of, length_of, seen, unseen, placed, walk_on, walk_fields, walk, walked, content}
use Rattle.summary.specs.Problems.{all_present, order_in, lengths_ok, field_checks, problem_in, reading_of, read_in, read_walked, reading}
use Rattle.words.specs.Numbers.{from_le_bytes, unsigned_at, signed_at, numbers_of, padded_numbers_of}
use Rattle.text.specs.Text.{ascii, digits, natural, decimal, numbers, line, lines}
use Rattle.report.specs.Lines.{numbered, verdict_text, box_text}
use Rattle.report.specs.Report.{problem_verdict, problem_text, reading_text, printed}

-- "01 0100 01, 02 0400 04000000, 03 0400 04000000, 04 0800 F8FFFFFFFFFFFFFF, 05 0800 0000000000000000, 06 0800 0200000000000000,
-- 07 0800 F8FFFFFFFFFFFFFF"
abbrev file_p : List ℕ
file_p =
    (1 ∷ 1 ∷ 0 ∷ 1 ∷ [])
    ++ (2 ∷ 4 ∷ 0 ∷ 4 ∷ 0 ∷ 0 ∷ 0 ∷ [])
    ++ (3 ∷ 4 ∷ 0 ∷ 4 ∷ 0 ∷ 0 ∷ 0 ∷ [])
    ++ (4 ∷ 8 ∷ 0 ∷ 0xf8 ∷ replicate 7 0xff)
    ++ (5 ∷ 8 ∷ 0 ∷ replicate 8 0)
    ++ (6 ∷ 8 ∷ 0 ∷ 2 ∷ replicate 7 0)
    ++ (7 ∷ 8 ∷ 0 ∷ 0xf8 ∷ replicate 7 0xff)

case_p : printed file_p ≡ ascii "definite\nrow 129007\nover 537063135\nside -1 5\n"
unfolding kind_in kind_of tagged field_at start_of length_of seen unseen placed walk_on walk_fields walk walked content part_of after from_le_bytes unsigned_at signed_at numbers_of padded_numbers_of order_ok reading read_walked read_in reading_of problem_in field_checks all_present order_in lengths_ok problem_verdict judged listed over least_over least_of row_over radius residual gram except first_refusal bounds_checks ends_checks tables_within linear_within terms_within all_within nowhere_crossed mended_by all within factoring columns_from next_column rows goes_on next_entry entries take_off scaled_by at table tabulate form row_width least_member least_value nonzero shows tried first stopped_factor solved_entry solved_rows solved sum only floor_div whole_root root_within problem_box boxed box_of sides_from half_side smaller_half second_bound first_half bound at_centre gradient high_gradient low_gradient step step_at bits trial lowered abs_ℤ min_ℤ max_ℤ ceil_div root_above least_root printed reading_text problem_text verdict_text box_text numbered lines line numbers decimal natural digits
case_p = refl
