-- A problem that is let through, read back from the buffers in which it is stored.
use mathlib.Core.Path.{◌≡◌, ap, ◌∙◌}
use mathlib.Core.List.{List, ◌++◌}
use Prim.Native.Nat.{ℕ, ◌*◌, ◌≤◌, ◌<◌}
use native.Mathlib.Omega.{arith}
use lib.IntN.{ℤ, pos}
use lib.ListN.{length}
use mir.Syntax.{w32, w64}
use mir.Val.{SFits}
use Rattle.integers.proofs.Machine.{fits}
use Rattle.words.specs.Numbers.{padded_numbers_of, bytes_of}
use Rattle.words.proofs.Sign.{narrow-of}
use Rattle.tables.specs.Ranges.{greatest_order, table_room}
use Rattle.tables.specs.Matrix.{nth}
use Rattle.tables.specs.Checks.{order_of}
use Rattle.tables.specs.Problem.{problem_of}
use Rattle.tables.specs.declared.problem.Constraint.{Constraint}
use Rattle.tables.specs.declared.problem.Problem.{Problem}
use Rattle.tables.proofs.Admission.{order-known}
use Rattle.summary.specs.Problems.{padded_to, LetThrough}
use Rattle.summary.proofs.RoundTrip.{InFields, Holds, front_read, fields_of_lem, holds_of}
use Rattle.buffers.specs.Buffers.{number_of, bytes_of_number}
use Rattle.buffers.proofs.Stores.{read_number}
use Rattle.file_buffers.specs.Parts.{parts_of, spelled, problem_in}

-- a number of a table takes 8 bytes in a buffer, and 4 in a file
wide : {z : ℤ} → SFits w32 z → SFits w64 z
wide f = record { sfits = omega (arith, f.sfits) }

problem_by : {n : ℕ} {l u a b c l' u' a' b' c' : List ℤ} {α α' : ℤ} → l ≡ l' → u ≡ u' → a ≡ a' → b ≡ b' → α ≡ α' → c ≡ c' →
    problem_of n l u a b α c ≡ problem_of n l' u' a' b' α' c'
problem_by d e f g h i = rw (d, e, f, g, h, i)

module _ (p : Problem) (t : LetThrough p) where
  abbrev c : Constraint
  c = p.constraint

  abbrev n : ℕ
  n = c.order

  holds : Holds p
  holds = holds_of p t.rooms

  in_fields : InFields p
  in_fields = fields_of_lem p t.checks

  -- one of its arrays, at the front of a buffer, whatever is behind it
  table-read : (x : List ℤ) → n * n ≤ length x → ((i : ℕ) → i < n * n → SFits w32 (nth x i)) → padded_to table_room (n * n) x ≡ x →
      (r : List ℕ) →
      padded_numbers_of w64 table_room (bytes_of w64 x (n * n) ++ r) (n * n) ≡ x
  table-read x h f e r = front_read (narrow-of 8) x (n * n) h (λ i l. wide (f i l)) table_room r ∙ e

  vector-read : (x : List ℤ) → n ≤ length x → ((i : ℕ) → i < n → SFits w64 (nth x i)) → padded_to greatest_order n x ≡ x → (r : List ℕ) →
      padded_numbers_of w64 greatest_order (bytes_of w64 x n ++ r) n ≡ x
  vector-read x h f e r = front_read (narrow-of 8) x n h f greatest_order r ∙ e

  -- its order and its limit, from buffers of one number
  pub parts-order : number_of (parts_of p).order ≡ pos n
  unfolding parts_of
  parts-order = read_number (pos n) (fits (omega (arith, t.rooms.order)))

  limit-read : number_of (bytes_of_number c.limit) ≡ c.limit
  limit-read = read_number c.limit in_fields.limit

  -- its numbers, whatever is behind them in each buffer
  pub problem-spelled : (l u a b d : List ℕ) →
      spelled n (bytes_of w64 c.low (n * n) ++ l) (bytes_of w64 c.high (n * n) ++ u) (bytes_of w64 c.linear.low n ++ a)
      (bytes_of w64 c.linear.high n ++ b) (number_of (bytes_of_number c.limit)) (bytes_of w64 p.centre n ++ d) ≡ p
  problem-spelled l u a b d =
      let z = t.zeros in
      problem_by
      (table-read c.low holds.low in_fields.low (ap (λ (q : Problem). q.constraint.low) z) l)
      (table-read c.high holds.high in_fields.high (ap (λ (q : Problem). q.constraint.high) z) u)
      (vector-read c.linear.low holds.linear_low in_fields.linear_low (ap (λ (q : Problem). q.constraint.linear.low) z) a)
      (vector-read c.linear.high holds.linear_high in_fields.linear_high (ap (λ (q : Problem). q.constraint.linear.high) z) b)
      limit-read
      (vector-read p.centre holds.centre in_fields.centre (ap (λ (q : Problem). q.centre) z) d)

  pub problem-back : problem_in (parts_of p) ≡ p
  unfolding parts_of
  problem-back = rw (ap order_of parts-order ∙ order-known (pos n) t.order) (problem-spelled _ _ _ _ _)
