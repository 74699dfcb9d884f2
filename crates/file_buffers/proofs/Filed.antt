-- Laws of the problem that buffers spell, and of the file of the mended one: what is written is
-- read back, number by number and byte by byte.
use mathlib.Core.Path.{◌≡◌, refl, sym, ap, ◌∙◌}
use mathlib.Core.Bool.{Bool, true}
use mathlib.Core.List.{List, ◌++◌}
use Prim.Native.Nat.{ℕ, ◌-◌, ◌*◌, ◌≤◌}
use native.Mathlib.Omega.{arith}
use lib.IntN.{ℤ, pos, negsuc, nat_abs}
use lib.Signed.{◌≤ℤ◌}
use lib.ListN.{length, replicate}
use lib.Seq.{take_all}
use mir.Syntax.{w64}
use mir.Val.{bytes}
use Rattle.integers.specs.Numbers.{min_ℤ, max_ℤ}
use Rattle.words.specs.Numbers.{padded_numbers_of, bytes_of}
use Rattle.words.proofs.Laws.{AllBytes, length-numbers_of, length-bytes_of, length-padded_numbers_of, bytes_of-numbers_of}
use Rattle.words.proofs.Sign.{narrow-of}
use Rattle.tables.specs.Ranges.{greatest_order, table_room}
use Rattle.tables.specs.Checks.{Checked, order_ok, order_of, entry_checks, first_refusal}
use Rattle.tables.specs.Answers.{after}
use Rattle.tables.specs.Mending.{mended_by}
use Rattle.tables.specs.Problem.{problem_of, lengths_of, problem_checks, mended_problem}
use Rattle.tables.specs.declared.Refusal.TheVariants.{Range}
use Rattle.std.specs.Prelude.{Ok, Err}
use Rattle.tables.specs.declared.problem.Lengths.{Lengths}
use Rattle.tables.specs.declared.problem.Problem.{Problem}
use Rattle.tables.proofs.Matrix.{table_fits}
use Rattle.tables.proofs.Checks.{more-checks, order-of}
use Rattle.tables.proofs.Answers.{prefix_passed, after-passed, after-refused}
use Rattle.tables.proofs.Admission.{entry-passed, entry-passes, order-known}
use Rattle.tables.proofs.MendedTables.{Pairing, greater_pairing, smaller_pairing}
use Rattle.tables.proofs.Problems.{problem-door}
use Rattle.summary.specs.Problems.{file_of, padded_to, padded, checked_of, reading, ProblemRooms, LetThrough}
use Rattle.summary.proofs.MendedProblems.{nth-padded_to, padded-mended, mended-through}
use Rattle.summary.proofs.Spelled.{padded-numbers}
use Rattle.summary.proofs.RoundTrip.{InFields, bytes_ext, read_back}
use Rattle.summary.proofs.Padding.{Sized, spelled-padded}
use Rattle.writer.specs.Writing.{Written, kept, written, writing, write_sizes, write_act}
use Rattle.writer.proofs.Acting.{write-sizes-of, writing-arrays, same_refusal, too_large_lem}
use Rattle.buffers.specs.Buffers.{table_of, vector_of, bytes_of_number}
use Rattle.file_buffers.specs.Parts.{parts_of, in_front, spelled}
use Rattle.file_buffers.specs.Filing.{write_summary, filled, laid_out}
use Rattle.file_buffers.proofs.Handing.{parts_by}

-- ---- writing, of any problem of the order of n
module _ (n : ℤ) (sized : Bool) (p : Problem) (s : List ℕ) (e : p.constraint.order ≡ order_of n) where
  writing-door : writing n sized p s ≡ after (kept s) (first_refusal (entry_checks n sized ++ problem_checks p)) (written p)
  unfolding writing
  writing-door = problem-door (kept s) n sized p (written p) e

  pub writing-passed : order_ok n ≡ true → sized ≡ true → first_refusal (problem_checks p) ≡ Ok tt → writing n sized p s ≡ written p
  writing-passed o z q =
      writing-door ∙ sym (after-passed (kept s) (written p) (more-checks (entry_checks n sized) _ (entry-passes n o z) ∙ q))

  -- an answer that is no refusal
  pub record Wrote : Type 0 where
    pub order : order_ok n ≡ true
    pub sizes : sized ≡ true
    pub checks : first_refusal (problem_checks p) ≡ Ok tt
    pub file : (writing n sized p s).file ≡ file_of (mended_problem p)

  pub writing_wrote : (writing n sized p s).answer ≡ Ok tt → Wrote
  writing_wrote h = go (first_refusal (entry_checks n sized ++ problem_checks p)) refl
    where
      go : (k : Checked) → first_refusal (entry_checks n sized ++ problem_checks p) ≡ k → Wrote
      go (Ok tt) q =
          let d = prefix_passed (entry_checks n sized) (problem_checks p) q in
          let f = entry-passed n sized d in
          record {
            order = f.0;
            sizes = f.1;
            checks = sym (more-checks (entry_checks n sized) (problem_checks p) d) ∙ q;
            file = ap (λ (w : Written). w.file) (writing-door ∙ sym (after-passed (kept s) (written p) q));
          }
      go (Err r) q =
          let w : (writing n sized p s).answer ≡ Err r =
          ap (λ (w : Written). w.answer) (writing-door ∙ sym (after-refused (kept s) r (written p) q)) in
          cc (h, w)

-- ---- the problem that buffers spell
module _ (n : ℕ) (l u a b : List ℕ) (α : ℤ) (c : List ℕ) where
  pub spelled_rooms : n ≤ greatest_order → ProblemRooms (spelled n l u a b α c)
  spelled_rooms h =
      record {
        order = h;
        low = length-padded_numbers_of w64 table_room l (n * n) (table_fits h);
        high = length-padded_numbers_of w64 table_room u (n * n) (table_fits h);
        linear_low = length-padded_numbers_of w64 greatest_order a n h;
        linear_high = length-padded_numbers_of w64 greatest_order b n h;
        centre = length-padded_numbers_of w64 greatest_order c n h;
      }

  -- it is the problem of the lists of numbers that they spell, in arrays
  abbrev pub listed : Problem
  listed = problem_of n (table_of n l) (table_of n u) (vector_of n a) (vector_of n b) α (vector_of n c)

  listed-sized : Sized listed
  listed-sized =
      record {
        low = length-numbers_of w64 l (n * n);
        high = length-numbers_of w64 u (n * n);
        linear_low = length-numbers_of w64 a n;
        linear_high = length-numbers_of w64 b n;
        centre = length-numbers_of w64 c n;
      }

  pub spelled-listed : spelled n l u a b α c ≡ padded listed
  spelled-listed =
      rw (
        spelled-padded w64 table_room l (n * n),
        spelled-padded w64 table_room u (n * n),
        spelled-padded w64 greatest_order a n,
        spelled-padded w64 greatest_order b n,
        spelled-padded w64 greatest_order c n,
      )

  -- where the checks pass it is mended let through
  spelled-zeros : padded (spelled n l u a b α c) ≡ spelled n l u a b α c
  spelled-zeros =
      rw (
        padded-numbers w64 table_room l (n * n),
        padded-numbers w64 table_room u (n * n),
        padded-numbers w64 greatest_order a n,
        padded-numbers w64 greatest_order b n,
        padded-numbers w64 greatest_order c n,
      )

  spelled-through : order_ok (pos n) ≡ true → first_refusal (problem_checks (spelled n l u a b α c)) ≡ Ok tt →
      LetThrough (mended_problem (spelled n l u a b α c))
  spelled-through o e = mended-through (spelled n l u a b α c) (spelled_rooms (order-of o).1) o e spelled-zeros

-- ---- as the reader lays it out
-- numbers that fill a buffer, and zeros behind them
numbers-filled : (room : ℕ) (t : List ℕ) (k : ℕ) → AllBytes t → length t ≡ k * bytes w64 →
    in_front room k (padded_numbers_of w64 room t k) ≡ filled room t
unfolding padded_numbers_of
numbers-filled room t k v h =
    let e : (room - k) * bytes w64 ≡ room * bytes w64 - length t = omega arith in
    rw (bytes_of-numbers_of (narrow-of 8) t (replicate (room - k) (pos 0)) k v (omega arith), take_all (k * bytes w64) t (omega arith), e)

-- a table that is mended in its array
module _ (m : ℤ → ℤ → ℤ) (q : Pairing m) (k : ℕ) (t : List ℕ) where
  abbrev mended : List ℤ
  mended = mended_by m k (table_of k t)

  mended-filled : in_front table_room (k * k) (mended_by m k (padded_numbers_of w64 table_room t (k * k))) ≡
      filled table_room (bytes_of w64 mended (k * k))
  mended-filled =
      let h : k * k ≤ length (table_of k t) = omega (arith, length-numbers_of w64 t (k * k)) in
      let e : (table_room - k * k) * bytes w64 ≡ table_room * bytes w64 - length (bytes_of w64 mended (k * k)) =
      omega (arith, length-bytes_of w64 mended (k * k)) in
      rw (
        spelled-padded w64 table_room t (k * k),
        ← padded-mended m q table_room k (table_of k t) h,
        bytes_ext w64 (padded_to table_room (k * k) mended) mended (k * k) (nth-padded_to table_room (k * k) mended),
        e,
      )

-- an order is not negative
order_pos : (n : ℤ) → pos 1 ≤ℤ n → pos (nat_abs n) ≡ n
order_pos (pos m) h = refl
order_pos (negsuc m) h = absurd h.le

-- 2: each buffer has 8 bytes for each of its numbers, and the file's has exactly the size of the file
abbrev pub write_buffers : ℕ → Lengths → ℕ → ℕ → Bool
write_buffers n = write_sizes n (record { table = n * n * bytes w64; vector = n * bytes w64 })

-- what is written, of buffers of bytes
module _ (n : ℤ) (l u a b : List ℕ) (α : ℤ) (c s : List ℕ) where
  abbrev k : ℕ
  k = order_of n

  abbrev problem : Problem
  problem = spelled k l u a b α c

  abbrev sized : Bool
  sized = write_buffers k (lengths_of (length l) (length u) (length a) (length b)) (length c) (length s)

  -- it is the writing of the problem of the lists of numbers, and so of the same in arrays
  as-listed : write_summary n l u a b α c s ≡ writing n sized (listed k l u a b α c) s
  unfolding write_summary write_act
  as-listed = refl

  pub as-spelled : write_summary n l u a b α c s ≡ writing n sized problem s
  as-spelled =
      as-listed ∙ sym (writing-arrays n sized (listed k l u a b α c) s refl (listed-sized k l u a b α c))
      ∙ ap (λ (p : Problem). writing n sized p s) (sym (spelled-listed k l u a b α c))

  module _ (h : (write_summary n l u a b α c s).answer ≡ Ok tt) where
    wrote : Wrote n sized problem s refl
    wrote = writing_wrote n _ problem s refl (ap (λ (w : Written). w.answer) (sym as-spelled) ∙ h)

    through : LetThrough (mended_problem problem)
    through = spelled-through k l u a b α c (rw (order-known n wrote.order, order_pos n (order-of wrote.order).0) wrote.order) wrote.checks

    -- it is read back, mended
    pub written_read : reading (write_summary n l u a b α c s).file ≡ Ok (mended_problem problem)
    written_read =
        ap reading (ap (λ (w : Written). w.file) as-spelled ∙ wrote.file) ∙ read_back (mended_problem problem) through

    pub written-laid : AllBytes a → AllBytes b → AllBytes c → parts_of (mended_problem problem) ≡ laid_out n l u a b α c
    unfolding parts_of
    written-laid va vb vc =
        let z = write-sizes-of _ _ _ _ _ wrote.sizes in
        parts_by (ap bytes_of_number (ap pos (order-known n wrote.order) ∙ order_pos n (order-of wrote.order).0))
        (mended-filled max_ℤ greater_pairing k l) (mended-filled min_ℤ smaller_pairing k u)
        (numbers-filled greatest_order a k va z.linear_low) (numbers-filled greatest_order b k vb z.linear_high) refl
        (numbers-filled greatest_order c k vc z.centre)

  -- ---- R24.5: where n is an order and the buffers have their sizes, the problem is refused by the number that its file would get
  module _ (o : order_ok n ≡ true) (z : sized ≡ true) where
    pub refused_as_file : InFields (listed k l u a b α c) →
        (write_summary n l u a b α c s).answer ≡ checked_of (reading (file_of (listed k l u a b α c)))
    refused_as_file f =
        ap (λ (w : Written). w.answer) as-listed ∙ same_refusal n sized (listed k l u a b α c) s o z refl (listed-sized k l u a b α c) f

    -- and by 3 where a number does not fit its field
    pub refused_too_large : (InFields (listed k l u a b α c) → ⊥) → (write_summary n l u a b α c s).answer ≡ Err Range
    refused_too_large f = ap (λ (w : Written). w.answer) as-listed ∙ too_large_lem n sized (listed k l u a b α c) s o z refl f
