-- What hb_stiffness's number means: step and bound are read back from the buffers as they are left, and the vector by the generic bracket.
use mathlib.Core.Path.{◌≡◌, refl, ap}
use mathlib.Core.Bool.{Bool, false≢true}
use mathlib.Core.List.{List}
use Prim.Native.Nat.{ℕ, ◌*◌}
use native.Mathlib.Omega.{arith}
use lib.IntN.{ℤ, nat_abs}
use lib.ListN.{length}
use Rattle.integers.specs.Numbers.{Within}
use Rattle.integers.proofs.Parts.{≤_out}
use Rattle.integers.proofs.Machine.{fits_within}
use Rattle.tables.specs.Elements.{bytes_whole}
use Rattle.tables.specs.Ranges.{entry_range}
use Rattle.tables.specs.Checks.{order_of}
use Rattle.tables.specs.Refusals.{refusal_number}
use Rattle.tables.proofs.Answers.{refusal_positive}
use Rattle.tables.proofs.Admission.{order_small}
use Rattle.stiffness.specs.Bracket.{Bracketing, between, at_most, refused, bracketing, bracket_code, Meaning}
use Rattle.stiffness.proofs.Fitting.{Fitting, bracketing_fitting, act-means}
use Rattle.buffers.specs.Buffers.{table_of, vector_of, number_of, bytes_of_number}
use Rattle.buffers.proofs.Stores.{read_number}
use Rattle.stiffness_buffers.specs.StiffnessBuffers.{stiffness_buffers, stored_stiffness}
use Rattle.hankboulder.specs.Entries.{stiffness_stored, stiffness_entry}
use Rattle.hankboulder.specs.Meanings.{StiffnessMeaning}

module _ (n : ℤ) (l u s b y : List ℕ) where
  abbrev k : ℕ
  k = order_of n

  -- a number of a bracket is read back
  back : (v : ℤ) → Within (k * entry_range) v → number_of (bytes_of_number v) ≡ v
  back v w = read_number v (fits_within w (omega (arith, order_small n)))

  -- what an answer means, by its number and by the numbers in the buffers
  coded : (g : Bracketing) → Fitting k g →
      (let j = stored_stiffness k g s b y in Meaning n (table_of k l) (table_of k u) j.stiffness (vector_of k j.vector)) →
      (let j = stored_stiffness k g s b y in StiffnessMeaning n l u (bracket_code j.stiffness) j.step j.bound j.vector)
  coded (between t v x) z m =
      let step = back t z.0 in
      let bound = back v z.1 in
      record {
        nonneg = λ e. rw step (m.nonneg t refl);
        stiffer = λ e. rw step (m.stiffer t refl);
        ordered = λ e. rw (step, bound) (m.ordered t v refl refl);
        from_list = λ e. m.from_list v refl;
        witness = λ e. rw bound (m.witness v refl);
        least = λ e. rw bound (m.least v refl);
      }
  coded (at_most v x) z m =
      let bound = back v z.0 in
      record {
        nonneg = λ e. absurd (false≢true cc);
        stiffer = λ e. absurd (false≢true cc);
        ordered = λ e. absurd (false≢true cc);
        from_list = λ e. m.from_list v refl;
        witness = λ e. rw bound (m.witness v refl);
        least = λ e. rw bound (m.least v refl);
      }
  coded (refused r) z m =
      let h = refusal_positive r in
      record {
        nonneg = λ e. let q : refusal_number r ≡ 0 = ap nat_abs e in absurd (omega arith);
        stiffer = λ e. let q : refusal_number r ≡ 0 = ap nat_abs e in absurd (omega arith);
        ordered = λ e. let q : refusal_number r ≡ 0 = ap nat_abs e in absurd (omega arith);
        from_list = λ e. absurd (omega (arith, ≤_out e));
        witness = λ e. absurd (omega (arith, ≤_out e));
        least = λ e y i a. omega (arith, ≤_out e);
      }

  abbrev sized : Bool
  sized = stiffness_buffers k (length l) (length u) (length s) (length b) (length y)

  pub stiffness_means : (let j = stiffness_entry n l u s b y in StiffnessMeaning n l u j.number j.step j.bound j.vector)
  unfolding stiffness_entry stiffness_stored
  stiffness_means =
      coded (bracketing n sized (table_of k l) (table_of k u)) (bracketing_fitting n sized (table_of k l) (table_of k u))
      (act-means n sized (table_of k l) (table_of k u) bytes_whole y)
