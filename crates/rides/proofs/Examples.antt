-- Samples gathered: what the rules give, beside what was worked out apart from them.
use mathlib.Core.Path.{◌≡◌, refl}
use mathlib.Core.Bool.{true, false}
use mathlib.Core.List.{List, [], ◌∷◌}
use Prim.Native.Nat.{ℕ, ◌*◌}
use lib.Ieee.{Float, nan, fin}
use lib.IntN.{ℤ, pos, negsuc}
use lib.ListN.{set}
use Rattle.integers.specs.Numbers.{min_ℤ, max_ℤ}
use Rattle.integers.specs.Division.{floor_div, ceil_div}
use Rattle.tables.specs.Matrix.{at, table, tabulate}
use Rattle.tables.specs.Mending.{mended_by}
use Rattle.tables.specs.Checks.{all, first_refusal, order_ok, order_of, entry_checks, within, all_within, linear_within, tables_within, nowhere_crossed, bounds_checks, ends_checks}
use Rattle.tables.specs.Answers.{after}
use Rattle.tables.specs.Entering.{entered}
use Rattle.tables.specs.Problem.{constraint_of, constraint_entered}
use Rattle.tables.specs.declared.Refusal.TheVariants as Refused
use Rattle.tables.specs.declared.problem.Constraint.{Constraint}
use Rattle.floats.specs.Brackets.{signed, units_of, sixteenth, finite_within, in_range, whole_next_to}
use Rattle.sums.specs.Sums.{plus, sums_within}
use Rattle.std.specs.Prelude.{Ok, Err}
use Rattle.sums.specs.Halving.{halved, added_in, fitted}
use Rattle.samples.specs.declared.sample.Sample.{Sample}
use Rattle.samples.specs.Samples.{sample_fits}
use Rattle.samples.specs.Gains.{gains, gains_of}
use Rattle.samples.specs.Gathering.{gathering}
use Rattle.rides.specs.Rides.{no_sums, gathered}

-- rolling 1, climb 1/32, air -1/32, start -0, draw 2: 16 times them lie from 16 to 16, 0 to 1, -1 to 0, 0 to 0, 32 to 32
abbrev sample : Float → Sample
sample draw = record {
  rolling = fin false 1 (pos 0);
  climb = fin false 1 (negsuc 4);
  air = fin true 1 (negsuc 4);
  start = fin true 0
      (pos 0);
  draw = draw;
}

abbrev low : List ℤ
low =
    pos 256 ∷ pos 0 ∷ negsuc 15 ∷ pos 0
    ∷ pos 0 ∷ pos 0 ∷ negsuc 0 ∷ pos 0
    ∷ negsuc 15 ∷ negsuc 0 ∷ pos 0 ∷ pos 0
    ∷ pos 0 ∷ pos 0 ∷ pos 0 ∷ pos 0
    ∷ []

abbrev high : List ℤ
high =
    pos 256 ∷ pos 16 ∷ pos 0 ∷ pos 0
    ∷ pos 16 ∷ pos 1 ∷ pos 0 ∷ pos 0
    ∷ pos 0 ∷ pos 0 ∷ pos 1 ∷ pos 0
    ∷ pos 0 ∷ pos 0 ∷ pos 0 ∷ pos 0
    ∷ []

-- the sample alone, with bounds l and u
abbrev summed : List ℤ → List ℤ → Constraint
summed l u = constraint_of 4 l u (negsuc 511 ∷ negsuc 31 ∷ pos 0 ∷ pos 0 ∷ []) (negsuc 511 ∷ pos 0 ∷ pos 32 ∷ pos 0 ∷ []) (negsuc 1023)

-- a table with x and y for the entries j of row 0 and of column 0
abbrev halves : List ℤ → ℕ → ℤ → ℤ → List ℤ
halves t j x y = set (set t j x) (4 * j) y

-- sums of zeros, but for bounds whose halves are apart there: l and lt below, u and ut above
abbrev apart : ℕ → ℤ → ℤ → ℤ → ℤ → Constraint
apart j l lt u ut = constraint_of 4 (halves no_sums.low j l lt) (halves no_sums.high j u ut) no_sums.linear.low no_sums.linear.high (pos 0)

abbrev drawn : Sample
drawn = sample (fin false 1 (pos 1))

-- Sums of nothing; sums from 3 to 8 and from 1 to 5, which are mended to 3 to 5 in both places, and from 6 to 8 and from 1 to 5, which
-- leave no number;
-- and sums of which one half is -2^20 and the other 0: mended they are sums of nothing, and the half that is mended away would have left
-- its range.
taken :
    (gathered drawn no_sums ≡ Ok (summed low high))
    × (gathered drawn (apart 1 (pos 3) (pos 1) (pos 8) (pos 5)) ≡ Ok
    (summed (halves low 1 (pos 3) (pos 3)) (halves high 1 (pos 21) (pos 21))))
    × (gathered drawn (apart 1 (pos 6) (pos 1) (pos 8) (pos 5)) ≡ Err Refused.Lopsided)
    × (gathered drawn (apart 2 (negsuc 1048575) (pos 0) (pos 0) (pos 0)) ≡ Ok (summed low high))
    × (sums_within (plus (gains_of drawn) (apart 2 (negsuc 1048575) (pos 0) (pos 0) (pos 0))) ≡ false)
unfolding gathering gains plus fitted added_in halved sums_within sample_fits no_sums constraint_entered entered after first_refusal entry_checks bounds_checks ends_checks
    order_ok order_of within all_within linear_within tables_within nowhere_crossed mended_by all at table tabulate
    signed units_of sixteenth finite_within in_range whole_next_to floor_div ceil_div min_ℤ max_ℤ
taken = (refl, refl, refl, refl, refl)

-- W72: rolling 1 and nothing else, into sums of zeros but for the first entry of the bounds, which is v in both
abbrev first : ℤ → Constraint
first v = constraint_of 4 (set no_sums.low 0 v) (set no_sums.high 0 v) no_sums.linear.low no_sums.linear.high (pos 0)

abbrev rolling : Sample
rolling = let none = fin false 0 (pos 0) in record { rolling = fin false 1 (pos 0); climb = none; air = none; start = none; draw = none }

halved-first : gathered rolling (first (pos 1048576)) ≡ Ok (first (pos 524544))
unfolding gathering gains plus fitted added_in halved sums_within sample_fits no_sums constraint_entered entered after first_refusal entry_checks bounds_checks ends_checks
    order_ok order_of within all_within linear_within tables_within nowhere_crossed mended_by all at table tabulate
    signed units_of sixteenth finite_within in_range whole_next_to floor_div ceil_div min_ℤ max_ℤ
halved-first = refl

-- a draw that is no number
refused : gathered (sample nan) no_sums ≡ Err Refused.Sample
unfolding gathering sample_fits all finite_within in_range
refused = refl
