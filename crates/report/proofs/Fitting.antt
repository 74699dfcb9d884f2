-- A problem that passes the checks is behind the door of every act; and one that was let through, whose tables are mended, has what the
-- acts ask of its numbers.
use mathlib.Core.Path.{◌≡◌, refl, ap, ◌∙◌}
use mathlib.Core.Bool.{true}
use Prim.Native.Nat.{ℕ, ◌*◌, ◌≤◌, ◌<◌}
use native.Mathlib.Omega.{arith}
use lib.IntN.{pos}
use lib.ListN.{length}
use Rattle.integers.specs.Numbers.{Within, min_ℤ, max_ℤ}
use Rattle.integers.proofs.Parts.{≤_out}
use Rattle.tables.specs.Ranges.{limit_range}
use Rattle.tables.specs.Matrix.{at, nth}
use Rattle.tables.specs.Mending.{mended_low, mended_high}
use Rattle.tables.specs.Bounds.{Bounds, CheckedTables}
use Rattle.tables.specs.Checks.{order_ok, order_of, entry_checks, first_refusal}
use Rattle.tables.specs.Entering.{low_bounds, high_bounds, Rooms}
use Rattle.tables.specs.Problem.{ends_in, problem_within, constraint_ends, problem_checks, mended_problem}
use Rattle.std.specs.Prelude.{Ok}
use Rattle.tables.specs.declared.problem.Constraint.{Constraint}
use Rattle.tables.specs.declared.problem.Problem.{Problem}
use Rattle.tables.proofs.Matrix.{table_fits}
use Rattle.tables.proofs.MendedTables.{greater_pairing, smaller_pairing, mended_twice}
use Rattle.tables.proofs.Checks.{more-checks, order-of, passed-bounds}
use Rattle.tables.proofs.Answers.{prefix_passed}
use Rattle.tables.proofs.Admission.{Behind, behind, entry-passes, order-known}
use Rattle.verdict.specs.Judge.{judged}
use Rattle.centre.specs.Required.{LinearTerms}
use Rattle.enclosure.specs.Box.{boxed, problem_box}
use Rattle.enclosure.proofs.BoxCases.{limit-within, centre-terms}
use Rattle.summary.specs.Problems.{LetThrough}
use Rattle.report.specs.Report.{problem_verdict, problem_text}

-- ---- a problem and the mended one have the same verdict, the same box and so the same text
pub text_mended : (p : Problem) → let c = p.constraint in c.order * c.order ≤ length c.low → c.order * c.order ≤ length c.high →
    problem_text (mended_problem p) ≡ problem_text p
unfolding problem_text problem_verdict problem_box
text_mended p h k =
    let c = p.constraint in
    rw (mended_twice max_ℤ c.order greater_pairing c.low h, mended_twice min_ℤ c.order smaller_pairing c.high k) refl

-- ---- behind the door
module _ (p : Problem) (o : order_ok (pos p.constraint.order) ≡ true) (e : first_refusal (problem_checks p) ≡ Ok tt) where
  abbrev d : Constraint
  d = p.constraint

  pub known : order_of (pos d.order) ≡ d.order
  known = order-known (pos d.order) o

  pub positive : 0 < d.order
  positive = omega (arith, ≤_out (order-of o).0)

  pub opened : Behind (pos d.order) true (problem_within p) d.low d.high
  opened =
      behind (pos d.order) true (problem_within p) d.low d.high
      (more-checks (entry_checks (pos d.order) true) _ (entry-passes (pos d.order) o refl)
      ∙ prefix_passed _ (constraint_ends d) (rw known e))

  pub bounded : Bounds d.order (low_bounds d.order d.low) (high_bounds d.order d.high)
  bounded = passed-bounds d.order d.low d.high (rw known at opened.tables)

-- ---- what the acts ask
module _ {p : Problem} (l : LetThrough p) where
  abbrev c : Constraint
  c = p.constraint

  abbrev n : ℕ
  n = c.order

  through : Behind (pos n) true (problem_within p) c.low c.high
  through = opened p l.order l.checks

  -- its bounds are those of its tables as they stand
  low-mended : mended_low n c.low ≡ c.low
  low-mended = ap (λ (q : Problem). q.constraint.low) l.mended

  high-mended : mended_high n c.high ≡ c.high
  high-mended = ap (λ (q : Problem). q.constraint.high) l.mended

  pub verdict_is : problem_verdict p ≡ judged n (at n c.low) (at n c.high)
  unfolding problem_verdict
  verdict_is = rw (low-mended, high-mended) refl

  pub box_is : problem_box p ≡ boxed n (at n c.low) (at n c.high) (ends_in c) c.limit (nth p.centre)
  unfolding problem_box
  box_is = rw (low-mended, high-mended) refl

  pub tables : CheckedTables n c.low c.high
  tables =
      let t = table_fits l.rooms.order in
      record {
        order = l.rooms.order;
        low-length = omega (arith, l.rooms.low);
        high-length = omega (arith, l.rooms.high);
        bounds = rw (low-mended, high-mended) at (bounded p l.order l.checks);
      }

  pub rooms : Rooms c.low c.high
  rooms = record { low-size = l.rooms.low; high-size = l.rooms.high }

  pub order-positive : 0 < n
  order-positive = positive p l.order l.checks

  pub terms : LinearTerms n c.linear.low c.linear.high p.centre
  terms =
      centre-terms n c.linear.low c.linear.high c.limit p.centre through.within l.rooms.order
      (omega (arith, l.rooms.order, l.rooms.linear_low)) (omega (arith, l.rooms.order, l.rooms.linear_high))
      (omega (arith, l.rooms.order, l.rooms.centre))

  pub limit : Within limit_range c.limit
  limit = limit-within n c.linear.low c.linear.high c.limit p.centre through.within
