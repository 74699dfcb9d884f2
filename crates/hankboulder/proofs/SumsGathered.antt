-- What hb_gather's number means: the sums that it stores are read back from the buffers as they are left.
use mathlib.Core.Path.{◌≡◌, refl, ap, subst}
use mathlib.Core.List.{List}
use Prim.Native.Nat.{ℕ, ◌*◌}
use native.Mathlib.Omega.{arith}
use lib.IntN.{ℤ, pos, nat_abs}
use mir.Syntax.{w64}
use mir.Val.{bytes}
use Rattle.words.specs.Numbers.{numbers_of, bytes_of}
use Rattle.tables.specs.Refusals.{refusal_number}
use Rattle.tables.specs.Matrix.{tabulate}
use Rattle.tables.specs.Elements.{bytes_whole}
use Rattle.tables.specs.Checks.{Checked, order_of}
use Rattle.tables.specs.declared.Refusal.{Refusal}
use Rattle.tables.specs.declared.Refusal.TheVariants as Refused
use Rattle.tables.specs.declared.problem.Constraint.{Constraint}
use Rattle.tables.proofs.Answers.{refusal_positive}
use Rattle.std.specs.Prelude.{Ok, Err}
use Rattle.sums.specs.Lent.{Lent, Left, gathered_code}
use Rattle.samples.specs.declared.sample.Sample.{Sample}
use Rattle.samples.specs.Samples.{factor_count}
use Rattle.samples.proofs.Measuring.{Narrow}
use Rattle.rides.specs.Act.{held_lent, gather_act, Meaning}
use Rattle.rides.proofs.Stored.{Whole}
use Rattle.rides.proofs.Meaning.{gather-means}
use Rattle.pool.proofs.Whole as Pooled
use Rattle.sums_buffers.specs.SumsBuffers.{spelled_sums, stored_sums}
use Rattle.hankboulder.specs.Entries.{gather_stored, gather_entry}
use Rattle.hankboulder.specs.Meanings.{GatherMeaning}

-- ---- stored and read back
pub back : (n : ℕ) (c : Constraint) (b : Lent (List ℕ)) → Whole n c → spelled_sums n (stored_sums n (Ok c) b).sums ≡ c
unfolding tabulate numbers_of bytes_of
back n c b w =
    let whole : Pooled.Whole n c = record {
      order = w.order;
      low = w.low;
      high = w.high;
      linear_low = w.linear_low;
      linear_high = w.linear_high;
      within = w.within;
    } in
    Pooled.back bytes_whole n c b whole

-- ---- a refusal's number is not 0
pub number-nonzero : (r : Refusal) → pos (refusal_number r) ≡ pos 0 → ⊥
number-nonzero r e = let h = refusal_positive r in let z : refusal_number r ≡ 0 = ap nat_abs e in omega arith

-- and 18 for one alone
number_full : (r : Refusal) → refusal_number r ≡ refusal_number Refused.Full → r ≡ Refused.Full
number_full Refused.Order e = absurd (omega (arith, e))
number_full Refused.Length e = absurd (omega (arith, e))
number_full Refused.Range e = absurd (omega (arith, e))
number_full Refused.Crossed e = absurd (omega (arith, e))
number_full Refused.Lopsided e = absurd (omega (arith, e))
number_full Refused.Factor e = absurd (omega (arith, e))
number_full Refused.Vector e = absurd (omega (arith, e))
number_full Refused.Flat e = absurd (omega (arith, e))
number_full Refused.Far e = absurd (omega (arith, e))
number_full Refused.Cut e = absurd (omega (arith, e))
number_full Refused.Tag e = absurd (omega (arith, e))
number_full Refused.Again e = absurd (omega (arith, e))
number_full Refused.Absent e = absurd (omega (arith, e))
number_full Refused.Size e = absurd (omega (arith, e))
number_full Refused.Long e = absurd (omega (arith, e))
number_full Refused.Reversed e = absurd (omega (arith, e))
number_full Refused.Sample e = absurd (omega (arith, e))
number_full Refused.Full e = refl
number_full Refused.Falling e = absurd (omega (arith, e))
number_full Refused.Busy e = absurd (omega (arith, e))

code_full : (a : Checked) → gathered_code a ≡ pos (refusal_number Refused.Full) → a ≡ Err Refused.Full
code_full (Ok _) e = let z : 0 ≡ refusal_number Refused.Full = ap nat_abs e in absurd (omega (arith, z))
code_full (Err r) e = ap Err (number_full r (ap nat_abs e))

-- 0 is the number of no refusal
pub code_zero : (a : Checked) → gathered_code a ≡ pos 0 → a ≡ Ok tt
code_zero (Ok _) e = refl
code_zero (Err r) e = absurd (number-nonzero r e)

-- ---- the act at the entry
module _ (s : Sample) (n : ℤ) (b : Lent (List ℕ)) where
  -- what buffers of bytes hold is what they spell, and what gathering leaves there is what the entry says
  held-spelled : (k : ℕ) (d : Lent (List ℕ)) → held_lent (numbers_of w64) k d ≡ spelled_sums k d
  unfolding numbers_of
  held-spelled k d = refl

  pub bytes-gathered : gather_act (λ k. k * bytes w64) (numbers_of w64) (bytes_of w64) s n b ≡ gather_stored s n b
  unfolding gather_act gather_stored tabulate numbers_of bytes_of
  bytes-gathered = refl

  -- what the number means, of what the act's answer means
  pub gathered-number : (j : Left (List ℕ)) →
      (let k = order_of n in Meaning s j.answer (held_lent (numbers_of w64) k b) (held_lent (numbers_of w64) k j.sums)) →
      GatherMeaning s n b j.sums (gathered_code j.answer)
  gathered-number j m =
      let w = rw (held-spelled (order_of n) b, held-spelled (order_of n) j.sums) at m in
      record { explains = λ e. w.explains (code_zero j.answer e); room = λ e. w.room (code_full j.answer e) }

-- and so what the entry's means, of a sample of 32-bit numbers
module _ (s : Sample) (narrow : Narrow s) (n : ℤ) (b : Lent (List ℕ)) where
  abbrev Means : Left (List ℕ) → Type 0
  Means j = let k = order_of n in Meaning s j.answer (held_lent (numbers_of w64) k b) (held_lent (numbers_of w64) k j.sums)

  pub gathered-means : (let j = gather_entry s n b in GatherMeaning s n b j.sums j.number)
  unfolding gather_entry
  gathered-means =
      gathered-number s n b (gather_stored s n b) (subst Means (bytes-gathered s n b) (gather-means bytes_whole s narrow n b))
