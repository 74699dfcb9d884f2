-- What hb_judge's number means: the numbers that it stores are read back from the buffers as they are left.
use mathlib.Core.Path.{◌≡◌, refl, sym, ap, subst, ◌∙◌}
use mathlib.Core.Bool.{Bool, true, false≢true}
use mathlib.Core.List.{List}
use Prim.Native.Nat.{ℕ, ◌*◌}
use native.Mathlib.Omega.{arith}
use borrow.Author.Tests.{eq-eqb}
use lib.Dec.{eqb}
use lib.IntN.{ℤ, pos}
use lib.ListN.{length}
use mir.Syntax.{w64}
use mir.Val.{bytes}
use Rattle.integers.proofs.Machine.{fits_within}
use Rattle.words.proofs.Laws.{length-bytes_of}
use Rattle.tables.specs.Elements.{bytes_whole}
use Rattle.tables.specs.Checks.{order_of, sizes_ok}
use Rattle.tables.proofs.Checks.{and_left, and_right, and_of}
use Rattle.verdict.specs.Judge.{Judgement, definite, not_definite, undecided, refused, judging, judge_sizes, verdict_code, NotRefused}
use Rattle.std.specs.Prelude.{Result, Ok}
use Rattle.tables.specs.declared.Refusal.{Refusal}
use Rattle.verdict.specs.declared.judge.Verdict.{Verdict}
use Rattle.verdict.proofs.Fitting.{Fitting, judging_fitting}
use Rattle.verdict.proofs.Decisions.{judge-sizes-of}
use Rattle.verdict.proofs.Meanings.{carried, same_verdict, judging-sized, act-means}
use Rattle.verdict.proofs.Codes.{code_definite, code_not, code_given}
use Rattle.buffers.specs.Buffers.{table_of, number_of, bytes_of_number}
use Rattle.buffers.specs.Buffers.{factor_buffers, vector_buffers, judge_buffers, stored_verdict}
use Rattle.buffers.proofs.Stores.{read_number}
use Rattle.hankboulder.specs.Entries.{judge_stored, judge_entry}
use Rattle.hankboulder.specs.Meanings.{JudgeMeaning}
use Rattle.hankboulder.proofs.Codes.{factor-accepted, vector_code}

-- ---- what the rows have over is read back
module _ (n : ℤ) (f v o : List ℕ) where
  abbrev order : ℕ
  order = order_of n

  -- with 'definite' goes the number in the buffer over
  number-means : (g : Judgement) → Fitting order g → (w : ℤ) → (stored_verdict order g f v o).verdict ≡ Ok (Verdict.Definite w) →
      ((stored_verdict order g f v o).over ≡ bytes_of_number w) × (number_of (stored_verdict order g f v o).over ≡ w)
  unfolding carried
  number-means (definite t y) z w e =
      let q : y ≡ w = ap carried (same_verdict e) in
      (ap bytes_of_number q, read_number y (fits_within z.1 (omega arith)) ∙ q)
  number-means (not_definite x) z w e = absurd (false≢true cc)
  number-means undecided z w e = absurd (false≢true cc)
  number-means (refused r) z w e = absurd (false≢true cc)

-- ---- a buffer that is written keeps its length
module _ (k : ℕ) (f v o : List ℕ) where
  factor-length : (g : Judgement) → length f ≡ k * k * bytes w64 → length (stored_verdict k g f v o).factor ≡ length f
  factor-length (definite t w) e = length-bytes_of w64 t (k * k) ∙ sym e
  factor-length (not_definite x) e = refl
  factor-length undecided e = refl
  factor-length (refused r) e = refl

  vector-length : (g : Judgement) → length v ≡ k * bytes w64 → length (stored_verdict k g f v o).vector ≡ length v
  vector-length (definite t w) e = refl
  vector-length (not_definite x) e = length-bytes_of w64 x k ∙ sym e
  vector-length undecided e = refl
  vector-length (refused r) e = refl

-- the judge's sizes are those of both tests
module _ (table entries l u f v : ℕ) (e : judge_sizes table entries l u f v ≡ true) where
  factor-sizes : sizes_ok table table l u f ≡ true
  unfolding judge_sizes
  factor-sizes = and_left (sizes_ok table table l u f) (eqb v entries) e

  vector-sizes : sizes_ok table entries l u v ≡ true
  unfolding judge_sizes sizes_ok
  vector-sizes =
      let b = and_right (eqb l table) _ factor-sizes in
      and_of (and_left (eqb l table) _ factor-sizes) (and_of (and_left (eqb u table) _ b) (and_right (sizes_ok table table l u f) _ e))

module _ (n : ℤ) (l u f v o : List ℕ) where
  abbrev k : ℕ
  k = order_of n

  abbrev sized : Bool
  sized = judge_buffers k (length l) (length u) (length f) (length v) (length o)

  abbrev judgement : Judgement
  judgement = judging n sized (table_of k l) (table_of k u)

  abbrev verdict : Result Verdict Refusal
  verdict = (stored_verdict k judgement f v o).verdict

  -- the buffers have their sizes where the call is not refused
  sizes : NotRefused verdict → sized ≡ true
  sizes h = judging-sized _ _ _ _ (λ r e. h r (ap (λ (g : Judgement). (stored_verdict k g f v o).verdict) e))

  -- and those of both tests
  factor-sized : NotRefused verdict → (s : List ℕ) → length s ≡ bytes w64 →
      factor_buffers k (length l) (length u) (length (stored_verdict k judgement f v o).factor) (length s) ≡ true
  unfolding factor_buffers judge_buffers
  factor-sized h s e =
      let T = k * k * bytes w64 in
      let c = and_left _ _ (sizes h) in
      let z = judge-sizes-of _ _ _ _ _ _ c in
      let same = sym (factor-length k f v o judgement z.2) in
      and_of (subst (λ (i : ℕ). sizes_ok T T (length l) (length u) i ≡ true) same (factor-sizes _ _ _ _ _ _ c))
      (eq-eqb (length s) (bytes w64) e)

  vector-sized : NotRefused verdict → vector_buffers k (length l) (length u) (length (stored_verdict k judgement f v o).vector) ≡ true
  unfolding judge_buffers
  vector-sized h =
      let T = k * k * bytes w64 in
      let c = and_left _ _ (sizes h) in
      let z = judge-sizes-of _ _ _ _ _ _ c in
      let e = sym (vector-length k f v o judgement z.3) in
      subst (λ (i : ℕ). sizes_ok T (k * bytes w64) (length l) (length u) i ≡ true) e (vector-sizes _ _ _ _ _ _ c)

  pub judge-means : (let j = judge_entry n l u f v o in JudgeMeaning n l u j.number j.factor j.vector j.over)
  unfolding judge_entry judge_stored
  judge-means =
      let j = judge_stored n l u f v o in
      let z = judging_fitting n sized (table_of k l) (table_of k u) in
      let m = act-means bytes_whole n (table_of k l) (table_of k u) f v sized in
      let number = number-means n f v o judgement z in
      record {
        definite = λ e. let d = code_definite verdict e in m.definite d.over d.verdict;
        accepted = λ e s h.
            let d = code_definite verdict e in
            let given = subst NotRefused (sym d.verdict) (λ r q. false≢true cc) in
            factor-accepted n l u j.factor d.over s (factor-sized given s h) (m.accepted d.over d.verdict)
            ∙ ap (λ (b : List ℕ). record { number = pos 0; over = b }) (sym (number d.over d.verdict).0);
        enough = λ e. let d = code_definite verdict e in rw (number d.over d.verdict).1 (m.enough d.over d.verdict);
        bound = λ e. let d = code_definite verdict e in rw (number d.over d.verdict).1 (m.bound d.over d.verdict);
        shown = λ e. m.shown (code_not verdict e);
        confirmed = λ e.
            let w = code_not verdict e in
            vector_code n l u j.vector (vector-sized (subst NotRefused (sym w) (λ r q. false≢true cc))) (m.confirmed w);
        from_list = λ e. m.from_list (code_not verdict e);
        exactly = λ h x i e. ap verdict_code (m.exactly (code_given verdict h) x i e);
        margin = λ h e. ap verdict_code (m.margin (code_given verdict h) e).verdict;
      }
