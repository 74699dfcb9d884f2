-- D3.1 and D3.8 of docs/RULES.md: what the factor test's answers mean.
use mathlib.Core.Path.{◌≡◌, refl, sym, ap, subst, ◌∙◌}
use mathlib.Core.Bool.{Bool, true, false, not, ◌&&◌, false≢true}
use mathlib.Core.Logic.{◌⊎◌, inl, inr}
use mathlib.Core.List.{List}
use Prim.Native.Nat.{ℕ, ◌≤◌, ◌<◌, compare, Ordering}
use native.Mathlib.Omega.{arith}
use lib.Dec.{T, is_le, compare_is_eq, eqb, leb→le, nleb→lt, eqb→eq, eqb_refl}
use lib.IntN.{ℤ, pos}
use lib.Signed.{◌≤ℤ◌, ◌<ℤ◌, le_z}
use Rattle.integers.proofs.Parts.{≤ℤ_or_<ℤ, le_z_true}
use Rattle.tables.specs.Ranges.{factor_range}
use Rattle.tables.specs.Matrix.{Matrix, at}
use Rattle.tables.specs.Members.{PositiveDefinite}
use Rattle.tables.specs.Bounds.{Bounds}
use Rattle.tables.specs.Checks.{within, same, order_of}
use Rattle.tables.specs.Entering.{low_bounds, high_bounds}
use Rattle.tables.specs.declared.Refusal.{Refusal}
use Rattle.tables.proofs.MendedTables.{member_mended, definite-handed}
use Rattle.tables.proofs.Checks.{true_of, of_true, and_left, all-at, le_of, same_of, first-passed, passed-bounds}
use Rattle.tables.proofs.Answers.{after-means}
use Rattle.tables.proofs.Admission.{order_small, entered-means}
use Rattle.tables.proofs.Triangular.{UpperTriangular}
use Rattle.residual.specs.Residual.{residual, accepts, over, FormBound}
use Rattle.residual.specs.FactorTest.{factor_entry, factor_shape, tested, factor_answer, factor_tested, Carries, Meaning, carried}
use Rattle.std.specs.Prelude.{Result, Ok, Err}
use Rattle.residual.specs.declared.factor_test.FactorAnswer.{FactorAnswer}
use Rattle.residual.proofs.Rows.{rows-over, over_below}
use Rattle.residual.proofs.Sizes.{over-within}
use Rattle.residual.proofs.Definite.{over-bound, accepted-definite}

-- ---- check 6, of an offered factor: the test of entry (i, j), by cases
pub entry_by : (i j : ℕ) (x : ℤ) (P : Bool → Type 0) → (i < j → P (within factor_range x)) →
    (i ≡ j → P (le_z (pos 1) x && le_z x (pos factor_range))) → (j < i → P (same x (pos 0))) → P (factor_entry i j x)
unfolding factor_entry
entry_by i j x P f g h =
    go (compare i j) (leb→le i j) (nleb→lt i j) (eqb→eq i j) (λ e. subst (λ (k : ℕ). T (eqb i k)) e (eqb_refl i))
  where
    go : (o : Ordering) → (T (is_le o) → i ≤ j) → (T (not (is_le o)) → j < i) → (T (compare_is_eq o) → i ≡ j) →
        (i ≡ j → T (compare_is_eq o)) →
        P (elim o as (λ z. Bool) [
          | Ordering.lt ↦ within factor_range x
          | Ordering.eq ↦ le_z (pos 1) x && le_z x (pos factor_range)
          | Ordering.gt ↦ same x (pos 0)
        ])
    go Ordering.lt le gt to of = let l = le tt in let d : i ≡ j → ⊥ = of in f (omega arith)
    go Ordering.eq le gt to of = g (to tt)
    go Ordering.gt le gt to of = h (gt tt)

module _ (n : ℕ) (R : Matrix) where
  -- one that passes is upper triangular
  pub shape_upper : T (factor_shape n R) → UpperTriangular n R
  unfolding factor_shape
  shape_upper t =
      record {
        below = λ i j l h.
            entry_by i j (R i j) (λ b. b ≡ true → R i j ≡ pos 0) (λ m. absurd (omega arith)) (λ m. absurd (omega arith))
            (λ m e. same_of (R i j) (pos 0) e) (entry i j h (omega arith));
        diagonal = λ j h.
            entry_by j j (R j j) (λ b. b ≡ true → pos 1 ≤ℤ R j j) (λ m. absurd (omega arith))
            (λ m e. le_of (pos 1) (R j j) (and_left _ _ e)) (λ m. absurd (omega arith)) (entry j j h h);
      }
    where
      entry : (i j : ℕ) → i < n → j < n → factor_entry i j (R i j) ≡ true
      entry i j h k = all-at _ n (all-at _ n (true_of (factor_shape n R) t) i h) j k

-- ---- an offered factor
-- D3.1: where a factor of the right form passes the residual test, the bounds are positive definite,
-- whoever made the factor
pub offered-definite : (n : ℕ) (R L U : Matrix) → T (factor_shape n R) → T (accepts n R L U) → PositiveDefinite n L U
offered-definite n R L U s t = accepted-definite n R L U t (shape_upper n R s)

-- ---- what an answer means, by what it is
ok-same : {a b : FactorAnswer} → ◌≡◌ {A = Result FactorAnswer Refusal} (Ok a) (Ok b) → a ≡ b
ok-same e = cc e

accepted-means : (b : Bool) (w v : ℤ) → ◌≡◌ {A = Result FactorAnswer Refusal} (Ok (tested b w)) (Ok (FactorAnswer.Accepted v)) →
    (b ≡ true) × (w ≡ v)
unfolding tested
accepted-means true w v e = (refl, ap carried (ok-same e))
accepted-means false w v e = absurd (false≢true cc)

not_accepted-means : (b : Bool) (w v : ℤ) → ◌≡◌ {A = Result FactorAnswer Refusal} (Ok (tested b w)) (Ok (FactorAnswer.NotAccepted v)) →
    (b ≡ false) × (w ≡ v)
unfolding tested
not_accepted-means true w v e = absurd (false≢true cc)
not_accepted-means false w v e = (refl, ap carried (ok-same e))

-- accepted with 0 or more over, and only so
pub accepts-over : (n : ℕ) (R L U : Matrix) → accepts n R L U ≡ le_z (pos 0) (over n R L U)
unfolding accepts over
accepts-over n R L U = rows-over n (residual n R L) (residual n R U)

below : (v : ℤ) → le_z (pos 0) v ≡ false → v <ℤ pos 0
below v e = go (≤ℤ_or_<ℤ (pos 0) v)
  where
    go : (pos 0 ≤ℤ v) ⊎ (v <ℤ pos 0) → v <ℤ pos 0
    go (inl h) = absurd (false≢true (sym e ∙ le_z_true h))
    go (inr h) = h

no_number : (r : Refusal) (v : ℤ) → Carries (Err r) v → ⊥
no_number r v (inl e) = false≢true cc
no_number r v (inr e) = false≢true cc

module _ (n : ℤ) (l u f : List ℤ) where
  abbrev k : ℕ
  k = order_of n

  abbrev L : Matrix
  L = low_bounds k l

  abbrev U : Matrix
  U = high_bounds k u

  abbrev R : Matrix
  R = at k f

  -- a bound for the mended tables is one for the tables as they are handed in
  bound-handed : {v : ℤ} → over k R L U ≡ v → FormBound k R (at k l) (at k u) v
  bound-handed e = record { bound = λ N q m. rw (← e) ((over-bound k R L U).bound N q (member_mended k l u m)) }

  -- what an answer carries is what the rows have over
  carries : (v : ℤ) → Carries (Ok (tested (accepts k R L U) (over k R L U))) v → over k R L U ≡ v
  carries v (inl e) = (accepted-means _ _ v e).1
  carries v (inr e) = (not_accepted-means _ _ v e).1

  shaped_means : Bounds k L U → factor_shape k R ≡ true → Meaning n l u f (Ok (tested (accepts k R L U) (over k R L U)))
  shaped_means b s = record {
    definite = λ v e. definite-handed k l u (offered-definite k R L U (of_true s) (of_true (accepted-means _ _ v e).0));
    enough = λ v e. let p = accepted-means _ _ v e in rw (← p.1) (le_of _ _ (sym (accepts-over k R L U) ∙ p.0));
    lacking = λ v e. let p = not_accepted-means _ _ v e in rw (← p.1) (below _ (sym (accepts-over k R L U) ∙ p.0));
    small = λ v c. let w = over-within k R (order_small n) s L U b in rw (← carries v c) (omega (arith, w.size, over_below));
    bound = λ v c. bound-handed (carries v c);
  }

  refused-means : (r : Refusal) → Meaning n l u f (Err r)
  refused-means r = record {
    definite = λ v e. absurd (false≢true cc);
    enough = λ v e. absurd (false≢true cc);
    lacking = λ v e. absurd (false≢true cc);
    small = λ v c. absurd (no_number r v c);
    bound = λ v c. absurd (no_number r v c);
  }

  pub tested-means : (sized : Bool) → Meaning n l u f (factor_tested n sized l u f)
  unfolding factor_tested factor_answer
  tested-means sized =
      entered-means n sized true l u Err _ (Meaning n l u f) refused-means
      (λ b. after-means Err _ _ (Meaning n l u f) refused-means (λ q. shaped_means (passed-bounds k l u b.tables) (first-passed _ _ q)))

  -- an answer that is no refusal: check 2 passed
  pub tested-sized : (sized : Bool) {a : FactorAnswer} → factor_tested n sized l u f ≡ Ok a → sized ≡ true
  unfolding factor_tested
  tested-sized sized {a} =
      entered-means n sized true l u Err _ (λ (r : Result FactorAnswer Refusal). r ≡ Ok a → sized ≡ true) (λ r e. cc) (λ b e. b.sizes)
