-- R22.6 of docs/RULES.md: gathering a sample: its checks, what it answers, and the sums as they are left.
use Rattle.std.specs.Prelude.{Bool, true, false, ◌&&◌, ℕ, ◌*◌, eqb, ℤ, Err}
use Rattle.tables.specs.Ranges.{limit_range}
use Rattle.tables.specs.Checks.{first_refusal, within}
use Rattle.tables.specs.Answers.{after}
use Rattle.tables.specs.Problem.{mended_constraint, constraint_sized, constraint_entered}
use Rattle.tables.specs.declared.Refusal.TheVariants.{Sample}
use Rattle.tables.specs.declared.problem.Constraint.{Constraint}
use Rattle.tables.specs.declared.problem.Lengths.{Lengths}
use Rattle.floats.specs.declared.Neighbours.{Neighbours}
use Rattle.sums.specs.Sums.{Outcome, terms_in, own_checks}
use Rattle.sums.specs.Halving.{fitted}
use Rattle.samples.specs.declared.sample.Sample as Declared
use Rattle.samples.specs.Samples.{factor_count, sample_fits, factor_next, draw_next}
use Rattle.samples.specs.Gains.{gains}

-- ---- the checks of sums that are handed in
-- 2, R4.2: the order is that of a sample, and each lent buffer has its size, where so many numbers take `taken` elements
unfoldable pub sums_sized : (ℕ → ℕ) → ℕ → Lengths → ℕ → Bool
sums_sized taken n lengths limit =
    eqb n factor_count
    && (constraint_sized (record { table = taken (factor_count * factor_count); vector = taken factor_count }) lengths
    && eqb limit (taken 1))

-- ---- gathering
-- of factors between the ends F and a draw between the ends D, added to mended sums, R2.10; 18 is asked there
abbrev pub added_within : (ℕ → Neighbours) → Neighbours → Constraint → Outcome
added_within F D c = fitted (gains F D) (mended_constraint c)

-- 3, 4, 5 and 16 of the sums as they are handed in, and then the sample is added
unfoldable pub checked_sums : (ℕ → Neighbours) → Neighbours → Constraint → Outcome
checked_sums F D c =
    after Err (first_refusal (own_checks c)) (added_within F D c)

-- 1 and 2 before them
abbrev pub entered_sums : (ℕ → Neighbours) → Neighbours → ℤ → Bool → Constraint → Outcome
entered_sums F D n sized c =
    constraint_entered Err n sized (terms_in (within limit_range c.limit) c) c (added_within F D c)

-- 17; then 1 to 5 and 16 of the sums handed in, where check 2 finds `sized`; then 18
unfoldable pub gathering : Declared.Sample → ℤ → Bool → Constraint → Outcome
gathering s n sized c =
    elim (sample_fits s) [ true ↦ entered_sums (factor_next s) (draw_next s) n sized c | false ↦ Err Sample ]
