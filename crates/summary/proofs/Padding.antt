-- A problem as it is handed in, in lists of exactly the sizes that its order calls for, and the same in arrays with zeros behind its
-- numbers: the checks find the same of both, and both have the same file.
use mathlib.Core.Path.{◌≡◌, refl, sym, ap, subst, ◌∙◌}
use mathlib.Core.Bool.{true}
use mathlib.Core.List.{List, ◌++◌}
use Prim.Native.Nat.{ℕ, ◌*◌, ◌-◌, ◌≤◌}
use native.Mathlib.Omega.{arith}
use lib.IntN.{ℤ, pos}
use lib.ListN.{length, take, drop, replicate, length-append, length-replicate}
use lib.Seq.{take_all, take_at, length-take-le}
use mir.Syntax.{Width, w32, w64}
use Rattle.words.specs.Numbers.{numbers_of, padded_numbers_of}
use Rattle.words.proofs.Laws.{length-numbers_of}
use Rattle.words.proofs.Lists.{drop-replicate}
use Rattle.tables.specs.Ranges.{greatest_order, table_room, linear_range, centre_range}
use Rattle.tables.specs.Matrix.{nth}
use Rattle.tables.specs.Checks.{order_ok, linear_within, terms_within, ends_checks, first_refusal}
use Rattle.tables.specs.Problem.{problem_within, constraint_ends, problem_checks, mended_problem}
use Rattle.tables.specs.declared.problem.Problem.{Problem}
use Rattle.std.specs.Prelude.{Ok}
use Rattle.tables.proofs.Matrix.{table_fits}
use Rattle.tables.proofs.Checks.{order-of}
use Rattle.tables.proofs.Admission.{Padded, padded-nth, range_same, crossed_same, checks-padded}
use Rattle.fields.specs.declared.field.Kind.{Kind}
use Rattle.fields.proofs.Whole.{whole_ext}
use Rattle.summary.specs.Problems.{contents_of, file_of, padded_to, padded, checked_of, reading, ProblemRooms, LetThrough}
use Rattle.summary.proofs.Spelled.{reading_checked}
use Rattle.summary.proofs.MendedProblems.{nth-padded_to, mended-padded-problem, mended-through}
use Rattle.summary.proofs.RoundTrip.{InFields, Holds, bytes_ext, file-read}

-- ---- lists
length-padded_to : (room k : ℕ) (x : List ℤ) → k ≤ length x → k ≤ room → length (padded_to room k x) ≡ room
length-padded_to room k x h l = rw (length-append, length-take-le k x h, length-replicate) (omega arith)

padded_again : (room k : ℕ) (x : List ℤ) → k ≤ length x → padded_to room k (padded_to room k x) ≡ padded_to room k x
padded_again room k x h = ap (λ (y : List ℤ). y ++ replicate (room - k) (pos 0)) (take_at (take k x) _ k (length-take-le k x h))

padded_list : (room k : ℕ) (x : List ℤ) → length x ≡ k → Padded x (padded_to room k x)
padded_list room k x e =
    record { rest = room - k; list = ap (λ (y : List ℤ). y ++ replicate (room - k) (pos 0)) (take_all k x (omega arith)) }

-- numbers that are copied over zeros, and those that bytes spell
pub over_zeros : (room k : ℕ) (x : List ℤ) → k ≤ room → take k x ++ drop k (replicate room (pos 0)) ≡ padded_to room k x
over_zeros room k x h = ap (λ (z : List ℤ). take k x ++ z) (drop-replicate room k (pos 0) h)

pub spelled-padded : (w : Width) (room : ℕ) (s : List ℕ) (k : ℕ) → padded_numbers_of w room s k ≡ padded_to room k (numbers_of w s k)
unfolding padded_numbers_of
spelled-padded w room s k =
    let e : length (numbers_of w s k) ≤ k = omega (arith, length-numbers_of w s k) in
    ap (λ (z : List ℤ). z ++ replicate (room - k) (pos 0)) (sym (take_all k (numbers_of w s k) e))

-- ---- both have the same file
padded_contents : (p : Problem) (k : Kind) → contents_of (padded p) k ≡ contents_of p k
padded_contents p Kind.Order = refl
padded_contents p Kind.Low = bytes_ext w32 _ _ _ (nth-padded_to table_room _ _)
padded_contents p Kind.High = bytes_ext w32 _ _ _ (nth-padded_to table_room _ _)
padded_contents p Kind.LinearLow = bytes_ext w64 _ _ _ (nth-padded_to greatest_order _ _)
padded_contents p Kind.Limit = refl
padded_contents p Kind.Centre = bytes_ext w64 _ _ _ (nth-padded_to greatest_order _ _)
padded_contents p Kind.LinearHigh = bytes_ext w64 _ _ _ (nth-padded_to greatest_order _ _)

pub padded-file : (p : Problem) → file_of (padded p) ≡ file_of p
unfolding file_of
padded-file p = whole_ext _ _ (padded_contents p)

-- ---- lists of exactly the sizes that the order calls for
pub record Sized (p : Problem) : Type 0 where
  pub low : length p.constraint.low ≡ p.constraint.order * p.constraint.order
  pub high : length p.constraint.high ≡ p.constraint.order * p.constraint.order
  pub linear_low : length p.constraint.linear.low ≡ p.constraint.order
  pub linear_high : length p.constraint.linear.high ≡ p.constraint.order
  pub centre : length p.centre ≡ p.constraint.order

module _ (p : Problem) (z : Sized p) where
  abbrev n : ℕ
  n = p.constraint.order

  abbrev a : List ℤ
  a = p.constraint.linear.low

  abbrev b : List ℤ
  b = p.constraint.linear.high

  abbrev c : List ℤ
  c = p.centre

  abbrev vector : List ℤ → List ℤ
  vector x = padded_to greatest_order n x

  vector-nth : (x : List ℤ) → length x ≡ n → nth (vector x) ≡ nth x
  vector-nth x e = padded-nth (padded_list greatest_order n x e)

  padded-within : problem_within (padded p) ≡ problem_within p
  unfolding terms_within linear_within
  padded-within =
      rw (
        range_same linear_range n a (vector a) (vector-nth a z.linear_low),
        range_same linear_range n b (vector b) (vector-nth b z.linear_high),
        range_same centre_range n c (vector c) (vector-nth c z.centre),
      )

  padded-ends : constraint_ends (padded p).constraint ≡ constraint_ends p.constraint
  unfolding ends_checks
  padded-ends = rw (crossed_same n a (vector a) b (vector b) (vector-nth a z.linear_low) (vector-nth b z.linear_high))

  -- the checks find the same of both
  pub padded-checks : problem_checks (padded p) ≡ problem_checks p
  padded-checks =
      let low = padded_list table_room (n * n) p.constraint.low z.low in
      let high = padded_list table_room (n * n) p.constraint.high z.high in
      rw (padded-within, padded-ends, checks-padded low high (problem_within p) n z.low z.high)

  -- the arrays have their sizes
  pub padded_rooms : p.constraint.order ≤ greatest_order → ProblemRooms (padded p)
  padded_rooms h =
      let t = table_fits h in
      record {
        order = h;
        low = length-padded_to table_room (n * n) _ (omega (arith, z.low)) t;
        high = length-padded_to table_room (n * n) _ (omega (arith, z.high)) t;
        linear_low = length-padded_to greatest_order n a (omega (arith, z.linear_low)) h;
        linear_high = length-padded_to greatest_order n b (omega (arith, z.linear_high)) h;
        centre = length-padded_to greatest_order n c (omega (arith, z.centre)) h;
      }

  zeros-behind : padded (padded p) ≡ padded p
  zeros-behind =
      rw (
        padded_again table_room (n * n) p.constraint.low (omega (arith, z.low)),
        padded_again table_room (n * n) p.constraint.high (omega (arith, z.high)),
        padded_again greatest_order n a (omega (arith, z.linear_low)),
        padded_again greatest_order n b (omega (arith, z.linear_high)),
        padded_again greatest_order n c (omega (arith, z.centre)),
      )

  -- mended before it is put into arrays, or there
  pub padded-mending : padded (mended_problem p) ≡ mended_problem (padded p)
  padded-mending = mended-padded-problem p (omega (arith, z.low)) (omega (arith, z.high))

  -- so where they pass the mended one in arrays is let through
  pub padded-through : order_ok (pos p.constraint.order) ≡ true → first_refusal (problem_checks p) ≡ Ok tt →
      LetThrough (padded (mended_problem p))
  padded-through o e =
      subst LetThrough (sym padded-mending)
      (mended-through (padded p) (padded_rooms (order-of o).1) o (ap first_refusal padded-checks ∙ e) zeros-behind)

  -- and a file whose numbers fit their fields gets the refusal that the checks find
  pub file_checked : order_ok (pos p.constraint.order) ≡ true → InFields p →
      checked_of (reading (file_of p)) ≡ first_refusal (problem_checks p)
  file_checked o f =
      let w : Holds p =
      record {
        low = omega (arith, z.low);
        high = omega (arith, z.high);
        linear_low = omega (arith, z.linear_low);
        linear_high = omega (arith, z.linear_high);
        centre = omega (arith, z.centre);
      } in
      ap checked_of (file-read p w f o) ∙ reading_checked (padded p) ∙ ap first_refusal padded-checks
