-- What the numbers of the two tests mean, and where these are 0.
use mathlib.Core.Path.{◌≡◌, refl, ap}
use mathlib.Core.Bool.{true, false≢true}
use mathlib.Core.List.{List}
use mathlib.Core.Logic.{inl, inr}
use Prim.Native.Nat.{ℕ, ◌<◌}
use native.Mathlib.Omega.{arith}
use lib.IntN.{ℤ, pos, nat_abs}
use lib.ListN.{length}
use Rattle.integers.specs.Numbers.{Within}
use Rattle.integers.proofs.Parts.{≤_out}
use Rattle.integers.proofs.Machine.{fits_within}
use Rattle.tables.specs.Checks.{order_of}
use Rattle.tables.specs.Answers.{yes_or_no_code, answer_code}
use Rattle.tables.specs.Refusals.{refusal_number}
use Rattle.std.specs.Prelude.{Result, Ok, Err}
use Rattle.tables.specs.declared.Refusal.{Refusal}
use Rattle.tables.proofs.Answers.{refusal_positive, code_yes, code_no}
use Rattle.residual.specs.Residual.{over_limit}
use Rattle.residual.specs.FactorTest as Rule
use Rattle.residual.specs.FactorTest.{factor_tested, factor_code}
use Rattle.residual.specs.declared.factor_test.FactorAnswer.{FactorAnswer}
use Rattle.residual.proofs.Meaning as Law
use Rattle.vectors.specs.VectorTest.{vector_tested}
use Rattle.vectors.proofs.Answers.{tested-means}
use Rattle.buffers.specs.Buffers.{table_of, vector_of, number_of, bytes_of_number, factor_buffers, vector_buffers, stored_over}
use Rattle.buffers.proofs.Stores.{read_number}
use Rattle.hankboulder.specs.Entries.{test_stored, test_factor_entry, test_vector_entry}
use Rattle.hankboulder.specs.Meanings.{FactorMeaning, VectorMeaning}

-- a number below that limit is read back
read_small : (w : ℤ) → nat_abs w < over_limit → number_of (bytes_of_number w) ≡ w
read_small w h = let b : Within over_limit w = record { size = omega arith } in read_number w (fits_within b (omega arith))

module _ (n : ℤ) (l u f : List ℕ) where
  abbrev order : ℕ
  order = order_of n

  abbrev Rules : Result FactorAnswer Refusal → Type 0
  Rules = Rule.Meaning n (table_of order l) (table_of order u) (table_of order f)

  -- what an answer means, by its number and by the number in the buffer
  coded : (o : List ℕ) (r : Result FactorAnswer Refusal) → Rules r → FactorMeaning n l u f (factor_code (stored_over r o).answer) (stored_over r o).over
  coded o (Ok (FactorAnswer.Accepted w)) m =
      let e = read_small w (m.small w (inl refl)) in
      record {
        definite = λ q. m.definite w refl;
        enough = λ q. rw e (m.enough w refl);
        lacking = λ q. absurd (false≢true cc);
        small = λ q. rw e (m.small w (inl refl));
        bound = λ q. rw e (m.bound w (inl refl));
      }
  coded o (Ok (FactorAnswer.NotAccepted w)) m =
      let e = read_small w (m.small w (inr refl)) in
      record {
        definite = λ q. absurd (false≢true cc);
        enough = λ q. absurd (false≢true cc);
        lacking = λ q. rw e (m.lacking w refl);
        small = λ q. rw e (m.small w (inr refl));
        bound = λ q. rw e (m.bound w (inr refl));
      }
  coded o (Err r) m =
      let h = refusal_positive r in
      record {
        definite = λ q. let z : refusal_number r ≡ 0 = ap nat_abs q in absurd (omega arith);
        enough = λ q. let z : refusal_number r ≡ 0 = ap nat_abs q in absurd (omega arith);
        lacking = λ q. absurd (false≢true cc);
        small = λ q. absurd (omega (arith, ≤_out q));
        bound = λ q. absurd (omega (arith, ≤_out q));
      }

  pub factor-means : (o : List ℕ) → (let j = test_factor_entry n l u f o in FactorMeaning n l u f j.number j.over)
  unfolding test_factor_entry test_stored
  factor-means o = coded o _ (Law.tested-means n (table_of order l) (table_of order u) (table_of order f) _)

  -- buffers of the sizes that the order calls for, with a factor that the test accepts
  pub factor-accepted : (w : ℤ) (o : List ℕ) → factor_buffers order (length l) (length u) (length f) (length o) ≡ true →
      factor_tested n true (table_of order l) (table_of order u) (table_of order f) ≡ Ok (FactorAnswer.Accepted w) →
      test_factor_entry n l u f o ≡ record { number = pos 0; over = bytes_of_number w }
  unfolding test_factor_entry test_stored
  factor-accepted w o z e = rw z (ap (λ (r : Result FactorAnswer Refusal). let j = stored_over r o in record { number = factor_code j.answer; over = j.over }) e)

module _ (n : ℤ) (l u v : List ℕ) where
  abbrev k : ℕ
  k = order_of n

  pub vector-means : VectorMeaning n l u v (test_vector_entry n l u v)
  unfolding test_vector_entry
  vector-means =
      let m = tested-means n (vector_buffers k (length l) (length u) (length v)) (table_of k l) (table_of k u) (vector_of k v) in
      record { yes = λ e. m.yes (code_yes _ e); no = λ e. m.no (code_no _ e) }

  -- buffers of the sizes that the order calls for, of which the test says yes
  pub vector_code : vector_buffers k (length l) (length u) (length v) ≡ true → vector_tested n true (table_of k l) (table_of k u) (vector_of k v) ≡ Ok true → test_vector_entry n l u v ≡ pos 0
  unfolding test_vector_entry
  vector_code z e = rw z (ap (answer_code yes_or_no_code) e)
