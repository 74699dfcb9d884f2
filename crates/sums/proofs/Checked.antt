-- What holds of sums that passed checks 3, 4, 5 and 16, and of sums in their ranges.
use mathlib.Core.Path.{◌≡◌, sym, ◌∙◌}
use mathlib.Core.Bool.{Bool, true, ◌&&◌}
use mathlib.Core.List.{List, ◌++◌}
use Prim.Native.Nat.{ℕ, ◌*◌, ◌≤◌, ◌<◌}
use lib.IntN.{ℤ}
use lib.ListN.{length}
use Rattle.integers.specs.Numbers.{Within}
use Rattle.tables.specs.Ranges.{entry_range, linear_range, limit_range}
use Rattle.tables.specs.Matrix.{nth}
use Rattle.tables.specs.Checks.{Check, Checked, first_refusal, within, all_within, linear_within, tables_within, bounds_checks}
use Rattle.tables.specs.Answers.{after}
use Rattle.tables.specs.Entering.{Mended}
use Rattle.tables.specs.Problem.{mended_constraint, constraint_ends}
use Rattle.std.specs.Prelude.{Ok, Err}
use Rattle.tables.specs.declared.problem.Constraint.{Constraint}
use Rattle.tables.proofs.Checks.{and_left, and_right, and_of, all-at, within_of, linear_of, first-passed, more-checks, no-more-checks}
use Rattle.tables.proofs.Answers.{prefix_passed}
use Rattle.tables.proofs.Admission.{bounds-mended}
use Rattle.sums.specs.Sums.{terms_in, sums_checks, own_checks, sums_within}

-- ---- checks, and then more of them
pub both_checks : (cs ds : List Check) {k r : Checked} → k ≡ first_refusal cs → r ≡ after Err k (first_refusal ds) →
    r ≡ first_refusal (cs ++ ds)
unfolding after
both_checks cs ds {k} e f = f ∙ go k e
  where
    go : (k : Checked) → k ≡ first_refusal cs → after Err k (first_refusal ds) ≡ first_refusal (cs ++ ds)
    go (Ok _) e = sym (more-checks cs ds (sym e))
    go (Err r) e = sym (no-more-checks cs ds r (sym e))

-- of tables that are mended where the first ones pass
pub mended_both : (cs ds : List Check) {n : ℕ} {l u l' u' : List ℤ} {k r : Checked} → Mended cs n l u k l' u' →
    r ≡ after Err k (first_refusal ds) →
    Mended (cs ++ ds) n l u r l' u'
mended_both cs ds m e =
    let answered = both_checks cs ds m.answered e in
    record {
      answered = answered;
      low-size = m.low-size;
      high-size = m.high-size;
      low = λ q. m.low (m.answered ∙ prefix_passed cs ds (sym answered ∙ q));
      high = λ q. m.high (m.answered ∙ prefix_passed cs ds (sym answered ∙ q));
    }

-- entries of both tables
tables-of : (m : ℕ) (l u : List ℤ) → tables_within m l u ≡ true → (k : ℕ) → k < m →
    Within entry_range (nth l k) × Within entry_range (nth u k)
unfolding tables_within all_within
tables-of m l u e k h = (
  within_of entry_range (nth l k) (all-at _ m (and_left _ (all_within entry_range m u) e) k h),
  within_of entry_range (nth u k) (all-at _ m (and_right (all_within entry_range m l) _ e) k h),
)

module _ (limits : Bool) (c : Constraint) (e : first_refusal (sums_checks limits c) ≡ Ok tt) where
  -- check 3
  terms : terms_in limits c ≡ true
  unfolding bounds_checks
  terms = and_left (terms_in limits c) _ (first-passed _ _ e)

  pub limits_passed : limits ≡ true
  limits_passed = and_right (linear_within c.order c.linear.low c.linear.high) limits terms

  pub linear_passed : linear_within c.order c.linear.low c.linear.high ≡ true
  linear_passed = and_left _ limits terms

  pub tables-passed : tables_within (c.order * c.order) c.low c.high ≡ true
  unfolding bounds_checks
  tables-passed = and_right (terms_in limits c) _ (first-passed _ _ e)

-- sums that pass, mended, pass again
pub sums-mended : (limits : Bool) (c : Constraint) → c.order * c.order ≤ length c.low → c.order * c.order ≤ length c.high →
    first_refusal (sums_checks limits c) ≡ Ok tt → first_refusal (sums_checks limits (mended_constraint c)) ≡ Ok tt
sums-mended limits c h k e =
    let bounds = bounds_checks (terms_in limits c) c.order c.low c.high in
    let passed = prefix_passed bounds (constraint_ends c) e in
    more-checks _ (constraint_ends c) (bounds-mended (terms_in limits c) c.order c.low c.high h k passed)
    ∙ sym (more-checks bounds (constraint_ends c) passed) ∙ e

-- sums that passed 3, 4, 5 and 16 are, mended, in their ranges
pub mended-within : (c : Constraint) → c.order * c.order ≤ length c.low → c.order * c.order ≤ length c.high →
    first_refusal (own_checks c) ≡ Ok tt →
    sums_within (mended_constraint c) ≡ true
unfolding sums_within
mended-within c h k e =
    let limits = within limit_range c.limit in
    let m = mended_constraint c in
    let passed = sums-mended limits c h k e in
    and_of (linear_passed limits m passed) (and_of (limits_passed limits m passed) (tables-passed limits m passed))

-- ---- sums in their ranges
module _ (c : Constraint) (e : sums_within c ≡ true) where
  beside : (within limit_range c.limit && tables_within (c.order * c.order) c.low c.high) ≡ true
  unfolding sums_within
  beside = and_right (linear_within c.order c.linear.low c.linear.high) _ e

  pub within_linear : (k : ℕ) → k < c.order → Within linear_range (nth c.linear.low k) × Within linear_range (nth c.linear.high k)
  unfolding sums_within
  within_linear = linear_of c.order c.linear.low c.linear.high
      (and_left _ (within limit_range c.limit && tables_within (c.order * c.order) c.low c.high) e)

  pub within-limit : Within limit_range c.limit
  within-limit = within_of limit_range c.limit (and_left _ (tables_within (c.order * c.order) c.low c.high) beside)

  pub within-tables : (k : ℕ) → k < c.order * c.order → Within entry_range (nth c.low k) × Within entry_range (nth c.high k)
  within-tables = tables-of (c.order * c.order) c.low c.high (and_right (within limit_range c.limit) _ beside)
