-- What is wanted of gathered rides: a point whose squares are at most K together is allowed by the sums with the allowance K, and so lies
-- in every box of them.
use mathlib.Core.Path.{◌≡◌, refl, ap, subst, ◌∙◌}
use mathlib.Core.Bool.{Bool, true, false}
use mathlib.Core.List.{List, [], ◌∷◌}
use Prim.Native.Nat.{ℕ}
use native.Mathlib.Omega.{arith}
use lib.IntN.{ℤ, pos, ◌+ℤ◌, ◌*ℤ◌}
use lib.Signed.{◌≤ℤ◌, ≤ℤ_refl}
use Rattle.integers.specs.Sum.{sum}
use Rattle.integers.proofs.Parts.{≤ℤ_trans, *ℤ-nonneg, square_nonneg, pos_nonneg}
use Rattle.integers.proofs.Solver.{◌&◌, ring, order, solver}
use Rattle.integers.proofs.Order.{*ℤ_mono, *ℤ_cancel}
use Rattle.integers.proofs.Sums.{sum-none}
use Rattle.tables.specs.Matrix.{form}
use Rattle.tables.specs.Problem.{mended_constraint}
use Rattle.tables.specs.declared.Refusal.{Refusal}
use Rattle.tables.specs.declared.Refusal.TheVariants as Refused
use Rattle.tables.specs.declared.problem.Constraint.{Constraint}
use Rattle.tables.proofs.Matrix.{at_table, nth-tabulate}
use Rattle.tables.proofs.Problems.{constraint_means}
use Rattle.tables.specs.Ranges.{limit_range}
use Rattle.tables.specs.Checks.{order_ok, order_of, within}
use Rattle.enclosure.specs.Points.{Allowed, Contains}
use Rattle.enclosure.specs.Box.{boxing}
use Rattle.enclosure.specs.Act.{laid_sides}
use Rattle.enclosure.specs.declared.enclose.BoxAnswer.TheVariants as BoxAnswer
use Rattle.enclosure.proofs.BoxMeanings.{boxing-means}
use Rattle.floats.specs.Brackets.{sixteenth}
use Rattle.sums.specs.Sums.{Outcome, terms_in, allowing}
use Rattle.std.specs.Prelude.{Ok, Err}
use Rattle.sums.specs.Halving.{fitted}
use Rattle.sums.specs.Explaining.{Explained}
use Rattle.sums.proofs.Explained.{whole-*, mended_explains, fitted-ordered}
use Rattle.samples.specs.declared.sample.Sample.{Sample}
use Rattle.samples.specs.Samples.{factor_count, sample_fits, factor_next, draw_next}
use Rattle.samples.specs.Gains.{gains_of}
use Rattle.samples.specs.Gathering.{entered_sums, gathering}
use Rattle.samples.specs.Explaining.{misfit}
use Rattle.samples.proofs.Gains.{one, added_explains}
use Rattle.rides.specs.Rides.{no_sums, sums_after, gathered_all, if_taken, squares}

-- ---- fractions
module _ (c : Constraint) {u v : ℤ} {X : ℕ → ℤ} {p : ℤ} where
  -- a common factor of u and v plays no part
  reduced : (t : ℤ) → pos 1 ≤ℤ t → Explained c (u *ℤ t) (v *ℤ t) X p → Explained c u v X p
  reduced t h P =
      let q = P.denominator in
      let s = P.scale in
      record {
        nonneg = *ℤ_cancel t h (order (t ∷ u ∷ []) P.nonneg (search solver depth 40 fits 20000) (omega arith));
        matrix = P.matrix;
        denominator = q;
        member = P.member;
        terms = P.terms;
        scale = s;
        between = P.between;
        under = *ℤ_cancel t h (order (t ∷ u ∷ v ∷ c.limit ∷ p ∷ q ∷ s ∷ form c.order P.matrix X ∷ sum c.order
            (λ k. P.terms k *ℤ X k) ∷ []) P.under (search solver depth 40 fits 20000) (omega arith));
      }

  -- explained up to K: allowed with the allowance K
  pub allowed : pos 1 ≤ℤ v → pos 1 ≤ℤ p → (K : ℤ) → u ≤ℤ (K *ℤ v) → Explained c u v X p → Allowed (allowing K c) X p
  allowed one-v one-p K h P =
      let q = P.denominator in
      let s = P.scale in
      let room = *ℤ-nonneg (*ℤ-nonneg (square_nonneg p) (≤ℤ_trans (pos_nonneg 1) P.member.whole))
      (≤ℤ_trans (pos_nonneg 1) P.between.whole) in
      record {
        matrix = P.matrix;
        denominator = q;
        member = P.member;
        terms = P.terms;
        scale = s;
        between = P.between;
        whole = one-p;
        inside =
            *ℤ_cancel v one-v (order (u ∷ v ∷ K ∷ c.limit ∷ p ∷ q ∷ s ∷ form c.order P.matrix X ∷ sum c.order (λ k. P.terms k *ℤ X k) ∷ [])
            (P.under & *ℤ_mono room h) (search solver depth 40 fits 20000) (omega arith));
      }

-- ---- what gathering gives: the mended sums with the sample in them, halved first or not; or a refusal
abbrev pub with_sample : Sample → Constraint → Outcome
with_sample s c = fitted (gains_of s) (mended_constraint c)

module _ (s : Sample) (n : ℤ) (sized : Bool) (c : Constraint) where
  pub by_outcome : (P : Outcome → Type 0) → (sized ≡ true → (d : Constraint) → with_sample s c ≡ Ok d → P (Ok d)) →
      ((r : Refusal) → P (Err r)) → P (gathering s n sized c)
  unfolding gathering
  by_outcome P f g = go (sample_fits s)
    where
      last : sized ≡ true → (o : Outcome) → with_sample s c ≡ o → P o
      last z (Ok d) e = f z d e
      last z (Err r) e = g r

      go : (b : Bool) → P (elim b as (λ z. Outcome) [
        | true ↦ entered_sums (factor_next s)
            (draw_next s) n sized c
        | false ↦ Err Refused.Sample
      ])
      go true = constraint_means Err n sized (terms_in (within limit_range c.limit) c) c (with_sample s c) P g
          (λ d. last d.sizes (with_sample s c) refl)
      go false = g Refused.Sample

-- ---- no sample: the sums of zeros explain 0 at every point
pub none_explained : (v : ℤ) (X : ℕ → ℤ) (p : ℤ) → Explained no_sums (pos 0) v X p
unfolding no_sums form
none_explained v X p =
    record {
      nonneg = ≤ℤ_refl (pos 0);
      matrix = λ i j. pos 0;
      denominator = pos 1;
      member = record {
        whole = ≤ℤ_refl (pos 1);
        symmetric = λ i j h k. refl;
        low = λ i j h k. rw (at_table factor_count (λ i j. pos 0) i j h k) (≤ℤ_refl (pos 0));
        high = λ i j h k. rw (at_table factor_count (λ i j. pos 0) i j h k) (≤ℤ_refl (pos 0));
      };
      terms = λ i. pos 0;
      scale = pos 1;
      between = record {
        whole = ≤ℤ_refl (pos 1);
        low = λ i h. rw (nth-tabulate factor_count (λ i. pos 0) i h) (≤ℤ_refl (pos 0));
        high = λ i h. rw (nth-tabulate factor_count (λ i. pos 0) i h) (≤ℤ_refl (pos 0));
      };
      under =
          order (v ∷ p ∷ form factor_count (λ i j. pos 0) X ∷ sum factor_count (λ k. pos 0 *ℤ X k) ∷ [])
          (ap (λ (z : ℤ). v *ℤ z) no-form & ap (λ (z : ℤ). v *ℤ (pos 2 *ℤ p) *ℤ z) no-sum) (search solver depth 40 fits 20000)
          (omega arith);
    }
  where
    no-form : form factor_count (λ i j. pos 0) X ≡ pos 0
    no-form = sum-none factor_count _ (λ i h. sum-none factor_count _
        (λ j k. ring (X i ∷ X j ∷ []) (search solver depth 40 fits 20000) refl))

    no-sum : sum factor_count (λ k. pos 0 *ℤ X k) ≡ pos 0
    no-sum = sum-none factor_count _ (λ k h. ring (X k ∷ []) (search solver depth 40 fits 20000) refl)

-- ---- samples, one after the other
module _ (X : ℕ → ℤ) (p : ℤ) (whole : pos 1 ≤ℤ p) where
  -- the denominator of all squares
  abbrev Z : ℤ
  Z = p *ℤ p *ℤ (sixteenth *ℤ sixteenth)

  one-Z : pos 1 ≤ℤ Z
  one-Z = whole-* (whole-* whole whole) (whole-* one one)

  abbrev σ : Sample → ℤ
  σ s = misfit s X p *ℤ misfit s X p

  taken_explained : (s : Sample) (c : Constraint) → c.order ≡ factor_count → (u : ℤ) → Explained c u Z X p → {d : Constraint} →
      with_sample s c ≡ Ok d → Explained d (u +ℤ σ s) Z X p
  taken_explained s c e u P {d} q =
      reduced d Z one-Z
      (subst (λ (z : ℤ). Explained d z (Z *ℤ Z) X p) (ring (u ∷ Z ∷ misfit s X p ∷ []) (search solver depth 40 fits 20000) refl)
      (added_explains s X p (mended_constraint c) e (≤ℤ_trans (pos_nonneg 1) one-Z) (mended_explains c P) q))

  all_explained : (ss : List Sample) (c : Constraint) → c.order ≡ factor_count → (u : ℤ) → Explained c u Z X p →
      Explained (gathered_all ss c) (u +ℤ squares ss c X p) Z X p
  unfolding gathered_all squares sums_after if_taken
  all_explained [] c e u P = subst (λ (z : ℤ). Explained c z Z X p) (ring (u ∷ []) (search solver depth 40 fits 20000) refl) P
  all_explained (s ∷ ss) c e u P =
      by_outcome s (pos factor_count) true c (λ (t : Outcome). Explained (gathered_all ss (sums_after c t))
      (u +ℤ (if_taken t (σ s) +ℤ squares ss (sums_after c t) X p)) Z X p)
      (λ q d f. subst (λ (z : ℤ). Explained (gathered_all ss d) z Z X p)
      (ring (u ∷ misfit s X p ∷ squares ss d X p ∷ []) (search solver depth 40 fits 20000) refl)
      (all_explained ss d (fitted-ordered (gains_of s) (mended_constraint c) f ∙ e) (u +ℤ σ s) (taken_explained s c e u P f)))
      (λ r. subst (λ (z : ℤ). Explained (gathered_all ss c) z Z X p)
      (ring (u ∷ squares ss c X p ∷ []) (search solver depth 40 fits 20000) refl) (all_explained ss c e u P))

  -- a point whose squares are at most K is allowed by the sums, begun at 0, with the allowance K
  pub gathered_allows : (ss : List Sample) (K : ℤ) → squares ss no_sums X p ≤ℤ (K *ℤ Z) → Allowed (allowing K (gathered_all ss no_sums)) X p
  unfolding no_sums
  gathered_allows ss K h =
      allowed (gathered_all ss no_sums) one-Z whole K
      (subst (λ (z : ℤ). z ≤ℤ (K *ℤ Z)) (ring (squares ss no_sums X p ∷ []) (search solver depth 40 fits 20000) refl) h)
      (all_explained ss no_sums refl (pos 0) (none_explained Z X p))

  -- the order of the sums stays
  all-ordered : (ss : List Sample) (c : Constraint) → c.order ≡ factor_count → (gathered_all ss c).order ≡ factor_count
  unfolding gathered_all sums_after
  all-ordered [] c e = e
  all-ordered (s ∷ ss) c e =
      by_outcome s (pos factor_count) true c (λ (t : Outcome). (gathered_all ss (sums_after c t)).order ≡ factor_count)
      (λ q d f. all-ordered ss d (fitted-ordered (gains_of s) (mended_constraint c) f ∙ e)) (λ r. all-ordered ss c e)

  -- so it lies in every box of them that is given, around any centre, and where the answer is 'empty' there is no such point
  pub gathered-boxed : (ss : List Sample) (K : ℤ) → squares ss no_sums X p ≤ℤ (K *ℤ Z) → (sized : Bool) (centre sides : List ℤ) →
      (let c = allowing K (gathered_all ss no_sums) in
      let j = laid_sides (λ x. x) (boxing (pos factor_count) sized (record { constraint = c; centre = centre })) sides in
      (j.answer ≡ Ok BoxAnswer.Sides → Contains factor_count j.sides X p) × (j.answer ≡ Ok BoxAnswer.Empty → ⊥))
  unfolding order_of order_ok no_sums
  gathered-boxed ss K h sized centre sides =
      let g = gathered_all ss no_sums in
      let e = all-ordered ss no_sums refl in
      let P = gathered_allows ss K h in
      let m = boxing-means (pos factor_count) sized g.low g.high g.linear.low g.linear.high (K +ℤ g.limit) centre sides in
      rw e (let Q = rw e at P in (λ q. m.holds q X p Q, λ q. m.none q X p Q))
