-- R24.3 of docs/RULES.md: a file that is accepted, written again from the numbers of its problem: the one file of that problem, and the
-- same bytes where the tables of the file are symmetric.
use mathlib.Core.Path.{◌≡◌, sym, ap, ◌∙◌}
use mathlib.Core.Bool.{true}
use mathlib.Core.List.{List}
use Prim.Native.Nat.{ℕ, ◌*◌, ◌≤◌}
use native.Mathlib.Omega.{arith}
use borrow.Author.Tests.{eq-eqb}
use lib.IntN.{ℤ, pos}
use lib.ListN.{length, take}
use lib.Seq.{take_all, length-take-le}
use Rattle.words.proofs.Laws.{AllBytes}
use Rattle.tables.specs.Checks.{sizes_ok, order_of, first_refusal}
use Rattle.tables.specs.Problem.{problem_of, lengths_of, constraint_sized, problem_checks, mended_problem}
use Rattle.std.specs.Prelude.{Ok}
use Rattle.tables.specs.declared.problem.Problem.{Problem}
use Rattle.tables.proofs.Matrix.{table_fits}
use Rattle.tables.proofs.Checks.{and_of}
use Rattle.tables.proofs.Answers.{after-passed}
use Rattle.tables.proofs.Admission.{order-known}
use Rattle.summary.specs.Problems.{file_size, file_of, padded, reading, LetThrough, spelled_by, SymmetricTables}
use Rattle.summary.proofs.OneFile.{accepted-size}
use Rattle.summary.proofs.RoundTrip.{reading-means}
use Rattle.summary.proofs.Padding.{Sized, padded-file, padded-checks, padded-mending}
use Rattle.writer.specs.Writing.{kept, written, checked_writing, write_sizes, write_act, write}
use Rattle.writer.proofs.Acting.{writing-sized}

take_again : (k : ℕ) (x : List ℤ) → k ≤ length x → take k (take k x) ≡ take k x
take_again k x h = take_all k (take k x) (omega (arith, length-take-le k x h))

-- the numbers of a problem that is let through, without the zeros behind them
module _ (p : Problem) (t : LetThrough p) where
  abbrev n : ℕ
  n = p.constraint.order

  abbrev low : List ℤ
  low = take (n * n) p.constraint.low

  abbrev high : List ℤ
  high = take (n * n) p.constraint.high

  abbrev from : List ℤ
  from = take n p.constraint.linear.low

  abbrev to : List ℤ
  to = take n p.constraint.linear.high

  abbrev centre : List ℤ
  centre = take n p.centre

  abbrev fronts : Problem
  fronts = problem_of n low high from to p.constraint.limit centre

  low_room : n * n ≤ length p.constraint.low
  low_room = omega (arith, t.rooms.low, table_fits t.rooms.order)

  high_room : n * n ≤ length p.constraint.high
  high_room = omega (arith, t.rooms.high, table_fits t.rooms.order)

  from_room : n ≤ length p.constraint.linear.low
  from_room = omega (arith, t.rooms.linear_low, t.rooms.order)

  to_room : n ≤ length p.constraint.linear.high
  to_room = omega (arith, t.rooms.linear_high, t.rooms.order)

  centre_room : n ≤ length p.centre
  centre_room = omega (arith, t.rooms.centre, t.rooms.order)

  fronts-sized : Sized fronts
  fronts-sized =
      record {
        low = length-take-le (n * n) p.constraint.low low_room;
        high = length-take-le (n * n) p.constraint.high high_room;
        linear_low = length-take-le n p.constraint.linear.low from_room;
        linear_high = length-take-le n p.constraint.linear.high to_room;
        centre = length-take-le n p.centre centre_room;
      }

  fronts-padded : padded fronts ≡ p
  fronts-padded =
      rw (
        take_again (n * n) p.constraint.low low_room,
        take_again (n * n) p.constraint.high high_room,
        take_again n p.constraint.linear.low from_room,
        take_again n p.constraint.linear.high to_room,
        take_again n p.centre centre_room,
      )
      t.zeros

  -- the checks pass, and the file is the problem's
  fronts-checks : first_refusal (problem_checks fronts) ≡ Ok tt
  fronts-checks = ap first_refusal (sym (padded-checks fronts fronts-sized) ∙ ap problem_checks fronts-padded) ∙ t.checks

  fronts-mended : padded (mended_problem fronts) ≡ p
  fronts-mended = padded-mending fronts fronts-sized ∙ ap mended_problem fronts-padded ∙ t.mended

  fronts-file : file_of (mended_problem fronts) ≡ file_of p
  fronts-file = sym (padded-file (mended_problem fronts)) ∙ ap file_of fronts-mended

  fronts-written : (s : List ℕ) → checked_writing fronts s ≡ record { answer = Ok tt; file = file_of p }
  unfolding checked_writing
  fronts-written s =
      sym (after-passed (kept s) (written fronts) fronts-checks) ∙ ap (λ (f : List ℕ). record { answer = Ok tt; file = f }) fronts-file

  module _ (s : List ℕ) (h : length s ≡ file_size n) where
    sizes : write_sizes n (record { table = n * n; vector = n }) (lengths_of (length low) (length high) (length from) (length to))
        (length centre) (length s) ≡ true
    unfolding write_sizes constraint_sized sizes_ok
    sizes =
        let z = fronts-sized in
        and_of (and_of (and_of (eq-eqb _ _ z.low) (and_of (eq-eqb _ _ z.high) (eq-eqb _ _ z.linear_low))) (eq-eqb _ _ z.linear_high))
        (and_of (eq-eqb _ _ z.centre) (eq-eqb _ _ h))

    -- they are written as its file, into a buffer of its size
    pub fronts-write : write (pos n) low high from to p.constraint.limit centre s ≡ record { answer = Ok tt; file = file_of p }
    unfolding write write_act
    fronts-write =
        let known : order_of (pos n) ≡ n = order-known (pos n) t.order in
        rw known (sym (writing-sized (pos n) _ fronts s t.order sizes (sym known)) ∙ fronts-written s)

-- a file that is accepted, into any buffer of its length
module _ (s : List ℕ) (v : AllBytes s) {p : Problem} (e : reading s ≡ Ok p) (f : List ℕ) (h : length f ≡ length s) where
  abbrev Rewritten : List ℕ → Type 0
  Rewritten t =
      let c = p.constraint in
      let n = c.order in
      write (pos n) (take (n * n) c.low) (take (n * n) c.high) (take n c.linear.low) (take n c.linear.high) c.limit (take n p.centre) f
      ≡ record { answer = Ok tt; file = t }

  pub written-mended : Rewritten (file_of p)
  written-mended = fronts-write p ((reading-means s v).through e) f (h ∙ accepted-size s e v)

  -- where its tables are symmetric
  pub written_again : SymmetricTables (spelled_by s) → Rewritten s
  written_again y = written-mended ∙ ap (λ (t : List ℕ). record { answer = Ok tt; file = t }) ((reading-means s v).back e y)
