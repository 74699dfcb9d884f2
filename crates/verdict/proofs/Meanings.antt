-- What a verdict means: D3.2, D3.6 and D3.8 of 'definite', D2.4 of 'not definite' (docs/RULES.md).
use mathlib.Core.Path.{◌≡◌, refl, sym, ap, ap₂, subst, ◌∙◌}
use mathlib.Core.Logic.{inl}
use mathlib.Core.Bool.{Bool, true, false, false≢true}
use mathlib.Core.List.{List}
use mathlib.Core.Option.{Option, none, some}
use Prim.Native.Nat.{ℕ, ◌*◌, ◌^◌, ◌<◌}
use native.Mathlib.Omega.{arith}
use lib.Dec.{T}
use lib.IntN.{ℤ, pos}
use borrow.Table.Steps.{cases}
use Rattle.integers.proofs.Machine.{fits_within}
use Rattle.tables.specs.Elements.{BuffersWhole}
use Rattle.tables.specs.Ranges.{vector_range}
use Rattle.tables.specs.Matrix.{Matrix, at, nth, table}
use Rattle.tables.specs.Bounds.{Bounds}
use Rattle.tables.specs.Checks.{within, order_of}
use Rattle.tables.specs.Entering.{low_bounds, high_bounds}
use Rattle.std.specs.Prelude.{Result, Ok, Err}
use Rattle.tables.specs.declared.Refusal.{Refusal}
use Rattle.tables.proofs.Checks.{of_true, true_of, and_left, and_of, all_of, within_true, first_passes, first-none, passed-bounds}
use Rattle.tables.proofs.Matrix.{at_table}
use Rattle.tables.proofs.MendedTables.{definite-handed}
use Rattle.tables.proofs.Answers.{after-passed}
use Rattle.tables.proofs.Admission.{Behind, order_small, behind-entered, entered-means}
use Rattle.cholesky.specs.Factoring.{entries, factored}
use Rattle.residual.specs.Residual.{over}
use Rattle.residual.specs.FactorTest.{tested, factor_answer, factor_tested}
use Rattle.residual.specs.declared.factor_test.FactorAnswer.TheVariants as FactorAnswer
use Rattle.residual.proofs.Offers.{shape_ext, accepts_ext, over_ext}
use Rattle.residual.proofs.Meaning.{tested-means}
use Rattle.theorems.proofs.Theorems.{ends_shape_take_off, ends-accepted-take_off, ends-definite-take_off, margin-ends-take_off}
use Rattle.vectors.specs.Least.{nonzero, shows}
use Rattle.vectors.specs.VectorTest.{vector_shape, vector_answer, vector_tested}
use Rattle.vectors.proofs.Showing.{shows-witness, shows_not_definite, witness-handed}
use Rattle.tried.specs.Tried.{first}
use Rattle.tried.proofs.TriedVectors.{Picks, first_picks}
use Rattle.verdict.specs.Judge.{Judgement, definite, not_definite, undecided, refused, listed, shown_by, definite_by, judged, judging}
use Rattle.verdict.specs.Judge.{written, stored, Meaning}
use Rattle.verdict.specs.declared.judge.Verdict.{Verdict}
use Rattle.verdict.proofs.Decisions.{judged-ends, judged_stops}
use Rattle.tables.proofs.Buffers.{Small}
use Rattle.verdict.proofs.Fitting.{Fitting, stops_fitting, judging_fitting}

-- the number that goes with a verdict; 0 with others than 'definite'
unfoldable pub carried : Verdict → ℤ
carried (Verdict.Definite w) = w
carried Verdict.NotDefinite = pos 0
carried Verdict.Undecided = pos 0

pub same_verdict : {a b : Verdict} → ◌≡◌ {A = Result Verdict Refusal} (Ok a) (Ok b) → a ≡ b
same_verdict e = cc e

-- ---- what the definition of the verdict gives, behind the door
module _ (n : ℤ) (sized : Bool) (l u : List ℤ) (b : Behind n sized true l u) where
  abbrev k : ℕ
  k = order_of n

  abbrev L : Matrix
  L = low_bounds k l

  abbrev U : Matrix
  U = high_bounds k u

  bounds : Bounds k L U
  bounds = passed-bounds k l u b.tables

  -- where factoring ends no vector shows anything
  pub ends-shows_nothing : T (factored k L U).ends → (x : ℕ → ℤ) → shows k L U x ≡ true → ⊥
  ends-shows_nothing t x e = shows_not_definite x bounds e (ends-definite-take_off k (order_small n) L U bounds t)

  -- both tests let the bounds in
  open_door : Behind n true true l u
  open_door = record { ordered = b.ordered; sizes = refl; within = refl; checked = b.checked; tables = b.tables }

  -- the factor test accepts the table of the factor
  abbrev R : Matrix
  R = entries (factored k L U).columns

  factor-accepted : T (factored k L U).ends → factor_tested n true l u (table k R) ≡ Ok (FactorAnswer.Accepted (over k R L U))
  unfolding factor_tested factor_answer tested
  factor-accepted t =
      let same = at_table k R in
      let shape = shape_ext k (at k (table k R)) R same ∙ true_of _ (ends_shape_take_off k (order_small n) L U bounds t) in
      sym (behind-entered n true true l u Err _ open_door) ∙ sym (after-passed Err _ (first_passes _ _ shape ∙ first-none))
      ∙ ap₂ (λ b v. Ok (tested b v))
      (accepts_ext k (at k (table k R)) R L U same ∙ true_of _ (ends-accepted-take_off k (order_small n) L U bounds t))
      (over_ext k (at k (table k R)) R L U same)

  -- the vector test says yes of a vector in its range that shows it
  vector-confirmed : (x : List ℤ) → Small k vector_range x → shows k L U (nth x) ≡ true → vector_tested n true l u x ≡ Ok true
  unfolding vector_tested vector_answer vector_shape shows
  vector-confirmed x z e =
      let small = all_of (λ i. within vector_range (nth x i)) k (λ i h. within_true (z.small i)) in
      let shape = and_of (and_left (nonzero k (nth x)) _ e) small in
      sym (behind-entered n true true l u Err _ open_door) ∙ sym (after-passed Err _ (first_passes _ _ shape ∙ first-none)) ∙ ap Ok e

  abbrev Means : Judgement → List ℤ → List ℤ → Type 0
  Means g f v = Meaning n l u (written g f v).verdict (written g f v).factor (written g f v).vector

  module _ (f v : List ℤ) where
    -- 'definite' has one number
    number : {y w : ℤ} → ◌≡◌ {A = Result Verdict Refusal} (Ok (Verdict.Definite y)) (Ok (Verdict.Definite w)) → y ≡ w
    unfolding carried
    number e = ap carried (same_verdict e)

    ends-means : T (factored k L U).ends → Means (definite_by k L U R) f v
    ends-means t =
        let m = tested-means n l u (table k R) true in
        record {
          definite = λ w e. definite-handed k l u (ends-definite-take_off k (order_small n) L U bounds t);
          accepted = λ w e. factor-accepted t ∙ ap (λ v. Ok (FactorAnswer.Accepted v)) (number e);
          enough = λ w e. m.enough w (factor-accepted t ∙ ap (λ v. Ok (FactorAnswer.Accepted v)) (number e));
          bound = λ w e. m.bound w (inl (factor-accepted t ∙ ap (λ v. Ok (FactorAnswer.Accepted v)) (number e)));
          shown = λ e. absurd (false≢true cc);
          confirmed = λ e. absurd (false≢true cc);
          from_list = λ e. absurd (false≢true cc);
          exactly = λ a x m e. absurd (ends-shows_nothing t (nth x) e);
          margin = λ a m. record { over = over k R L U; verdict = refl };
        }

    stops-means : (factored k L U).ends ≡ false → (q : Option (List ℤ)) → Picks (λ x. shows k L U (nth x)) (listed k L U) q →
        Fitting k (shown_by q) → Means (shown_by q) f v
    stops-means s (some x) h z = record {
      definite = λ w e. absurd (false≢true cc);
      accepted = λ w e. absurd (false≢true cc);
      enough = λ w e. absurd (false≢true cc);
      bound = λ w e. absurd (false≢true cc);
      shown = λ e. witness-handed k l u (shows-witness bounds h.1);
      confirmed = λ e. vector-confirmed x z h.1;
      from_list = λ e. h.0;
      exactly = λ a x m e. refl;
      margin = λ a m. absurd (false≢true (sym s ∙ true_of _ (margin-ends-take_off k (order_small n) L U bounds m)));
    }
    stops-means s none h z = record {
      definite = λ w e. absurd (false≢true cc);
      accepted = λ w e. absurd (false≢true cc);
      enough = λ w e. absurd (false≢true cc);
      bound = λ w e. absurd (false≢true cc);
      shown = λ e. absurd (false≢true cc);
      confirmed = λ e. absurd (false≢true cc);
      from_list = λ e. absurd (false≢true cc);
      exactly = λ a x m e. absurd (h x m e);
      margin = λ a m. absurd (false≢true (sym s ∙ true_of _ (margin-ends-take_off k (order_small n) L U bounds m)));
    }

    pub judged-means : Means (judged k L U) f v
    judged-means =
        cases (factored k L U).ends
        (λ e. subst (λ (g : Judgement). Means g f v) (sym (judged-ends k L U e)) (ends-means (of_true e)))
        (λ e. subst (λ (g : Judgement). Means g f v) (sym (judged_stops k L U e))
        (stops-means e (first (λ x. shows k L U (nth x)) (listed k L U)) (first_picks (λ x. shows k L U (nth x)) (listed k L U))
        (stops_fitting k (order_small n) L U bounds e)))

-- ---- of any call at all
refused-means : (n : ℤ) (l u f v : List ℤ) (r : Refusal) → Meaning n l u (Err r) f v
refused-means n l u f v r = record {
  definite = λ w e. absurd (false≢true cc);
  accepted = λ w e. absurd (false≢true cc);
  enough = λ w e. absurd (false≢true cc);
  bound = λ w e. absurd (false≢true cc);
  shown = λ e. absurd (false≢true cc);
  confirmed = λ e. absurd (false≢true cc);
  from_list = λ e. absurd (false≢true cc);
  exactly = λ a x m e. absurd (a r refl);
  margin = λ a m. absurd (a r refl);
}

pub judging-means : (n : ℤ) (sized : Bool) (l u f v : List ℤ) →
    (let j = written (judging n sized l u) f v in Meaning n l u j.verdict j.factor j.vector)
unfolding judging
judging-means n sized l u f v =
    entered-means n sized true l u refused _ (λ (g : Judgement). let j = written g f v in Meaning n l u j.verdict j.factor j.vector)
    (refused-means n l u f v) (λ b. judged-means n sized l u b f v)

-- a call that is not refused has passed check 2
pub judging-sized : (n : ℤ) (sized : Bool) (l u : List ℤ) → ((r : Refusal) → judging n sized l u ≡ refused r → ⊥) → sized ≡ true
unfolding judging
judging-sized n sized l u =
    entered-means n sized true l u refused _ (λ (g : Judgement). ((r : Refusal) → g ≡ refused r → ⊥) → sized ≡ true)
    (λ r h. absurd (h r refl)) (λ b h. b.sizes)

-- ---- of buffers: the numbers that are stored are read back
module _ {A : Type 0} {taken : ℕ → ℕ} {numbers : List A → ℕ → List ℤ} {elements : List ℤ → ℕ → List A}
    (laws : BuffersWhole taken numbers elements) (n : ℤ) (l u : List ℤ) (f v : List A) where
  abbrev order : ℕ
  order = order_of n

  abbrev StoredMeans : Judgement → Type 0
  StoredMeans g =
      let j = stored elements order g f v in
      Meaning n l u j.verdict (numbers j.factor (order * order)) (numbers j.vector order)

  read_back : {m b : ℕ} (x : List ℤ) → Small m b x → b < 2 ^ 63 → numbers (elements x m) m ≡ x
  read_back {m} x s h = laws.read_back x m s.size (λ i. fits_within (s.small i) h)

  stored-means : (g : Judgement) → Fitting order g →
      (let j = written g (numbers f (order * order)) (numbers v order) in Meaning n l u j.verdict j.factor j.vector) → StoredMeans g
  stored-means (definite t w) z m = rw (read_back t z.0 (omega arith)) m
  stored-means (not_definite x) z m = rw (read_back x z (omega arith)) m
  stored-means undecided z m = m
  stored-means (refused r) z m = m

  pub act-means : (sized : Bool) → StoredMeans (judging n sized l u)
  act-means sized =
      stored-means (judging n sized l u) (judging_fitting n sized l u)
      (judging-means n sized l u (numbers f (order * order)) (numbers v order))
