-- A problem that is let through, written from the fronts of the buffers in which it is stored: its one file.
use mathlib.Core.Path.{◌≡◌, sym, ap, ◌∙◌}
use mathlib.Core.Bool.{true}
use mathlib.Core.List.{List, [], append-nil}
use Prim.Native.Nat.{ℕ, ◌-◌, ◌*◌}
use lib.IntN.{ℤ, pos}
use lib.ListN.{length, replicate}
use lib.Seq.{take_at}
use mir.Syntax.{w64}
use mir.Val.{bytes}
use borrow.Author.Tests.{eq-eqb}
use Rattle.words.specs.Numbers.{bytes_of}
use Rattle.words.proofs.Laws.{length-bytes_of}
use Rattle.tables.specs.Ranges.{greatest_order, table_room}
use Rattle.tables.specs.Checks.{sizes_ok, order_of}
use Rattle.tables.specs.Problem.{lengths_of, constraint_sized}
use Rattle.std.specs.Prelude.{Ok}
use Rattle.tables.specs.declared.problem.Problem.{Problem}
use Rattle.tables.proofs.Checks.{and_of}
use Rattle.tables.proofs.Admission.{order-known}
use Rattle.summary.specs.Problems.{file_size, file_of, LetThrough}
use Rattle.writer.specs.Writing.{write_sizes}
use Rattle.buffers.specs.Buffers.{number_of}
use Rattle.file_buffers.specs.Parts.{parts_of, in_front, spelled, order_in}
use Rattle.file_buffers.specs.Filing.{write_summary, front}
use Rattle.file_buffers.proofs.Back.{parts-order, problem-spelled}
use Rattle.file_buffers.proofs.Filed.{write_buffers, writing-passed, as-spelled}

-- the front of a buffer has the bytes of the numbers
front_bytes : (room k : ℕ) (x : List ℤ) → front k (in_front room k x) ≡ bytes_of w64 x k
front_bytes room k x = take_at (bytes_of w64 x k) (replicate ((room - k) * bytes w64) 0) (k * bytes w64) (length-bytes_of w64 x k)

-- ---- buffers of their sizes
module _ (n : ℕ) (l u a b c s : List ℕ) (hl : length l ≡ n * n * bytes w64) (hu : length u ≡ n * n * bytes w64)
    (ha : length a ≡ n * bytes w64) (hb : length b ≡ n * bytes w64)
    (hc : length c ≡ n * bytes w64) (hs : length s ≡ file_size n) where
  sizes-asked : write_buffers n (lengths_of (length l) (length u) (length a) (length b)) (length c) (length s) ≡ true
  unfolding write_sizes constraint_sized sizes_ok
  sizes-asked =
      and_of (and_of (and_of (eq-eqb _ _ hl) (and_of (eq-eqb _ _ hu) (eq-eqb _ _ ha))) (eq-eqb _ _ hb))
      (and_of (eq-eqb _ _ hc) (eq-eqb _ _ hs))

module _ (problem : Problem) (t : LetThrough problem) (f : List ℕ) (h : length f ≡ file_size problem.constraint.order) where
  abbrev order : ℕ
  order = problem.constraint.order

  -- what is lent
  abbrev low : List ℕ
  low = bytes_of w64 problem.constraint.low (order * order)

  abbrev high : List ℕ
  high = bytes_of w64 problem.constraint.high (order * order)

  abbrev from : List ℕ
  from = bytes_of w64 problem.constraint.linear.low order

  abbrev to : List ℕ
  to = bytes_of w64 problem.constraint.linear.high order

  abbrev centre : List ℕ
  centre = bytes_of w64 problem.centre order

  abbrev limit : ℤ
  limit = number_of (parts_of problem).limit

  spelled_again : spelled order low high from to limit centre ≡ problem
  unfolding parts_of
  spelled_again =
      rw (append-nil low, append-nil high, append-nil from, append-nil to, append-nil centre) at (problem-spelled problem t [] [] [] [] [])

  known : order_of (pos order) ≡ order
  known = order-known (pos order) t.order

  sizes : write_buffers order (lengths_of (length low) (length high) (length from) (length to)) (length centre) (length f) ≡ true
  sizes =
      sizes-asked order low high from to centre f (length-bytes_of w64 _ _) (length-bytes_of w64 _ _) (length-bytes_of w64 _ _)
      (length-bytes_of w64 _ _) (length-bytes_of w64 _ _) h

  writes : write_summary (pos order) low high from to limit centre f ≡ record { answer = Ok tt; file = file_of problem }
  writes =
      as-spelled (pos order) low high from to limit centre f
      ∙ rw (known, spelled_again)
      (writing-passed (pos order) _ problem f (sym known) t.order sizes t.checks
      ∙ ap (λ (p : Problem). record { answer = Ok tt; file = file_of p }) t.mended)

  pub rewritten :
      let d = parts_of problem in
      let k = order_in d in
      write_summary (number_of d.order) (front (k * k) d.low) (front (k * k) d.high) (front k d.from) (front k d.to) (number_of d.limit)
      (front k d.centre) f
      ≡ record { answer = Ok tt; file = file_of problem }
  unfolding parts_of
  rewritten =
      rw (
        parts-order problem t,
        known,
        front_bytes table_room (order * order) problem.constraint.low,
        front_bytes table_room (order * order) problem.constraint.high,
        front_bytes greatest_order order problem.constraint.linear.low,
        front_bytes greatest_order order problem.constraint.linear.high,
        front_bytes greatest_order order problem.centre,
      )
      writes
