-- What hb_read_sums' number means: the limit that it stores is read back from the buffer as it is left.
use mathlib.Core.Path.{◌≡◌, refl, ap}
use mathlib.Core.List.{List}
use Prim.Native.Nat.{ℕ}
use native.Mathlib.Omega.{arith}
use lib.IntN.{ℤ, nat_abs}
use lib.ListN.{length}
use mir.Syntax.{w64}
use mir.Val.{SFits}
use Rattle.tables.specs.Refusals.{refusal_number}
use Rattle.tables.specs.Checks.{order_of}
use Rattle.tables.specs.Problem.{lengths_of}
use Rattle.tables.proofs.Answers.{refusal_positive}
use Rattle.std.specs.Prelude.{Result, Ok, Err}
use Rattle.tables.specs.declared.Refusal.{Refusal}
use Rattle.rides.specs.Reading.{read_sums, reading_code, ReadingMeaning}
use Rattle.rides.proofs.Readings.{reading_fits, reading-means}
use Rattle.sums_buffers.specs.SumsBuffers.{read_buffers, stored_limit}
use Rattle.buffers.proofs.Stores.{read_number}
use Rattle.hankboulder.specs.Entries.{spelled_with, read_stored, read_entry}
use Rattle.hankboulder.specs.Meanings.{ReadMeaning}

module _ (n : ℤ) (l u a b : List ℕ) (α K : ℤ) (s : List ℕ) where
  -- what is read back is what was to be written
  stored-means : (r : Result ℤ Refusal) → ((β : ℤ) → r ≡ Ok β → SFits w64 β) → ReadingMeaning r K (spelled_with n l u a b α) →
      (let j = stored_limit r s in ReadMeaning n l u a b α K (reading_code j.answer) j.limit)
  stored-means (Ok β) f m = record { allows = λ e. rw (read_number β (f β refl)) (m.allows β refl) }
  stored-means (Err r) f m = record { allows = λ e. let h = refusal_positive r in let z : refusal_number r ≡ 0 = ap nat_abs e in absurd (omega arith) }

  pub read-means : (let j = read_entry n l u a b α K s in ReadMeaning n l u a b α K j.number j.limit)
  unfolding read_entry read_stored
  read-means =
      let sized = read_buffers (order_of n) (lengths_of (length l) (length u) (length a) (length b)) (length s) in
      let c = spelled_with n l u a b α in
      stored-means (read_sums n sized K c) (reading_fits n sized K c) (reading-means n sized K c)
