-- R23.3 of docs/RULES.md: what sums explain, they explain mended and halved; and with something added to them they explain both parts
-- together.
use mathlib.Core.Path.{◌≡◌, refl, sym, ap, ap₂, ◌∙◌}
use mathlib.Core.Bool.{Bool, true, false, false≢true}
use mathlib.Core.List.{[], ◌∷◌}
use Prim.Native.Nat.{ℕ, ◌+◌, ◌*◌}
use native.Mathlib.Omega.{arith}
use lib.IntN.{ℤ, pos, ◌+ℤ◌, ◌*ℤ◌}
use lib.Signed.{◌≤ℤ◌, le_z_yes}
use Rattle.integers.specs.Sum.{sum}
use Rattle.integers.proofs.Parts.{≤ℤ_trans, *ℤ-nonneg, square_nonneg, pos_nonneg}
use Rattle.integers.proofs.Solver.{◌&◌, ring, order, solver}
use Rattle.integers.proofs.Order.{*ℤ_mono, product_mono}
use Rattle.integers.proofs.Sums.{sum_ext, sum-+, sum-*}
use Rattle.integers.proofs.Division.{floor_law, ceil_law}
use Rattle.tables.specs.Matrix.{Matrix, nth, at, form}
use Rattle.tables.specs.Problem.{mended_constraint, ends_in}
use Rattle.tables.specs.declared.Refusal.TheVariants.{Full}
use Rattle.tables.specs.declared.problem.Constraint.{Constraint}
use Rattle.tables.proofs.Matrix.{inside, nth-tabulate}
use Rattle.tables.proofs.Forms.{form-+, form-*}
use Rattle.tables.proofs.MendedTables.{member_mended}
use Rattle.sums.specs.Sums.{Outcome, plus, sums_within}
use Rattle.std.specs.Prelude.{Ok, Err}
use Rattle.sums.specs.Halving.{half_down, half_up, halved, added_in, fitted}
use Rattle.sums.specs.Explaining.{Explains, Explained}

-- a product of denominators is one
pub whole-* : {x y : ℤ} → pos 1 ≤ℤ x → pos 1 ≤ℤ y → pos 1 ≤ℤ (x *ℤ y)
whole-* h k = product_mono (pos_nonneg 1) (pos_nonneg 1) h k

-- ---- mended sums: they have the same members, R2.10
pub mended_explains : (c : Constraint) {u v : ℤ} {X : ℕ → ℤ} {p : ℤ} → Explained c u v X p → Explained (mended_constraint c) u v X p
mended_explains c P = record {
  nonneg = P.nonneg;
  matrix = P.matrix;
  denominator = P.denominator;
  member = member_mended c.order c.low c.high P.member;
  terms = P.terms;
  scale = P.scale;
  between = P.between;
  under = P.under;
}

-- ---- halved sums, R23.5
two : pos 1 ≤ℤ pos 2
two = le_z_yes tt

-- from d x on, and so from 2 d times half of x on
from-half : (x : ℤ) {d y : ℤ} → pos 0 ≤ℤ d → (d *ℤ x) ≤ℤ y → (pos 2 *ℤ d *ℤ half_down x) ≤ℤ y
from-half x {d} {y} h k =
    order (d ∷ x ∷ y ∷ half_down x ∷ []) (*ℤ_mono h (floor_law x (pos 2) two).low & k) (search solver depth 40 fits 20000) (omega arith)

to-half : (x : ℤ) {d y : ℤ} → pos 0 ≤ℤ d → y ≤ℤ (d *ℤ x) → y ≤ℤ (pos 2 *ℤ d *ℤ half_up x)
to-half x {d} {y} h k =
    order (d ∷ x ∷ y ∷ half_up x ∷ []) (*ℤ_mono h (ceil_law x (pos 2) two).high & k) (search solver depth 40 fits 20000) (omega arith)

-- the member N over 2q, and the terms A over 2s
pub halved_explains : (c : Constraint) {u v : ℤ} {X : ℕ → ℤ} {p : ℤ} → pos 0 ≤ℤ v → Explained c u v X p → Explained (halved c) u v X p
unfolding halved at
halved_explains c {u} {v} {X} {p} h P =
    let n = c.order in
    let q = P.denominator in
    let s = P.scale in
    let q-nonneg = ≤ℤ_trans (pos_nonneg 1) P.member.whole in
    let s-nonneg = ≤ℤ_trans (pos_nonneg 1) P.between.whole in
    let room = *ℤ-nonneg (*ℤ-nonneg (square_nonneg p) q-nonneg) s-nonneg in
    record {
      nonneg = P.nonneg;
      matrix = P.matrix;
      denominator = pos 2 *ℤ q;
      member = record {
        whole = whole-* two P.member.whole;
        symmetric = P.member.symmetric;
        low = λ i j h k. rw (nth-tabulate (n * n) (λ k. half_down (nth c.low k)) (i * n + j) (inside h k))
            (from-half _ q-nonneg (P.member.low i j h k));
        high = λ i j h k. rw (nth-tabulate (n * n) (λ k. half_up (nth c.high k)) (i * n + j) (inside h k))
            (to-half _ q-nonneg (P.member.high i j h k));
      };
      terms = P.terms;
      scale = pos 2 *ℤ s;
      between = record {
        whole = whole-* two P.between.whole;
        low = λ i h. rw (nth-tabulate n (λ k. half_down (nth c.linear.low k)) i h) (from-half _ s-nonneg (P.between.low i h));
        high = λ i h. rw (nth-tabulate n (λ k. half_up (nth c.linear.high k)) i h) (to-half _ s-nonneg (P.between.high i h));
      };
      under =
          order (u ∷ v ∷ c.limit ∷ half_up c.limit ∷ p ∷ q ∷ s ∷ form n P.matrix X ∷ sum n (λ k. P.terms k *ℤ X k) ∷ [])
          (P.under & *ℤ-nonneg room P.nonneg & *ℤ_mono (*ℤ-nonneg room h) (ceil_law c.limit (pos 2) two).high)
          (search solver depth 40 fits 20000) (omega arith);
    }

-- ---- something added, R23.6: members, linear terms and limits are added over common denominators
-- N over q and N' over q' between bounds are (q' N + q N') over q q' between the sums of these
from_both : (x y : ℤ) {d e a b : ℤ} → pos 0 ≤ℤ d → pos 0 ≤ℤ e → (d *ℤ x) ≤ℤ a → (e *ℤ y) ≤ℤ b → (d *ℤ e *ℤ (x +ℤ y)) ≤ℤ (e *ℤ a +ℤ d *ℤ b)
from_both x y {d} {e} {a} {b} h k l m =
    order (d ∷ e ∷ x ∷ y ∷ a ∷ b ∷ []) (*ℤ_mono k l & *ℤ_mono h m) (search solver depth 40 fits 20000) (omega arith)

to_both : (x y : ℤ) {d e a b : ℤ} → pos 0 ≤ℤ d → pos 0 ≤ℤ e → a ≤ℤ (d *ℤ x) → b ≤ℤ (e *ℤ y) → (e *ℤ a +ℤ d *ℤ b) ≤ℤ (d *ℤ e *ℤ (x +ℤ y))
to_both x y {d} {e} {a} {b} h k l m =
    order (d ∷ e ∷ x ∷ y ∷ a ∷ b ∷ []) (*ℤ_mono k l & *ℤ_mono h m) (search solver depth 40 fits 20000) (omega arith)

module _ (g c : Constraint) (ordered : g.order ≡ c.order) {u v u' v' : ℤ} {X : ℕ → ℤ} {p : ℤ} (v-nonneg : pos 0 ≤ℤ v)
    (v'-nonneg : pos 0 ≤ℤ v')
    (P : Explained c u v X p) (Q : Explained g u' v' X p) where
  abbrev n : ℕ
  n = c.order

  added : Explains n (at n g.low) (at n g.high) (ends_in g) g.limit u' v' X p
  added = rw ordered at Q

  abbrev q : ℤ
  q = P.denominator

  abbrev q' : ℤ
  q' = added.denominator

  abbrev s : ℤ
  s = P.scale

  abbrev s' : ℤ
  s' = added.scale

  abbrev a : ℤ
  a = sum n (λ k. P.terms k *ℤ X k)

  abbrev a' : ℤ
  a' = sum n (λ k. added.terms k *ℤ X k)

  abbrev N : Matrix
  N i j = q' *ℤ P.matrix i j +ℤ q *ℤ added.matrix i j

  abbrev A : ℕ → ℤ
  A k = s' *ℤ P.terms k +ℤ s *ℤ added.terms k

  q-nonneg : pos 0 ≤ℤ q
  q-nonneg = ≤ℤ_trans (pos_nonneg 1) P.member.whole

  q'-nonneg : pos 0 ≤ℤ q'
  q'-nonneg = ≤ℤ_trans (pos_nonneg 1) added.member.whole

  s-nonneg : pos 0 ≤ℤ s
  s-nonneg = ≤ℤ_trans (pos_nonneg 1) P.between.whole

  s'-nonneg : pos 0 ≤ℤ s'
  s'-nonneg = ≤ℤ_trans (pos_nonneg 1) added.between.whole

  forms : form n N X ≡ q' *ℤ form n P.matrix X +ℤ q *ℤ form n added.matrix X
  forms = form-+ n (λ i j. q' *ℤ P.matrix i j) (λ i j. q *ℤ added.matrix i j) X
      ∙ ap₂ ◌+ℤ◌ (form-* n q' P.matrix X) (form-* n q added.matrix X)

  linears : sum n (λ k. A k *ℤ X k) ≡ s' *ℤ a +ℤ s *ℤ a'
  linears =
      sum_ext n _ (λ k. s' *ℤ (P.terms k *ℤ X k) +ℤ s *ℤ (added.terms k *ℤ X k))
      (λ k h. ring (s ∷ s' ∷ P.terms k ∷ added.terms k ∷ X k ∷ []) (search solver depth 40 fits 20000) refl)
      ∙ sum-+ n _ _ ∙ ap₂ ◌+ℤ◌ (sum-* n s' _) (sum-* n s _)

  pub plus_explains : Explained (plus g c) (u *ℤ v' +ℤ u' *ℤ v) (v *ℤ v') X p
  unfolding plus at
  plus_explains = record {
    nonneg = order (u ∷ v ∷ u' ∷ v' ∷ []) (*ℤ-nonneg P.nonneg v'-nonneg & *ℤ-nonneg added.nonneg v-nonneg)
        (search solver depth 40 fits 20000) (omega arith);
    matrix = N;
    denominator = q *ℤ q';
    member = record {
      whole = whole-* P.member.whole added.member.whole;
      symmetric = λ i j h k. ap₂ (λ (x y : ℤ). q' *ℤ x +ℤ q *ℤ y) (P.member.symmetric i j h k) (added.member.symmetric i j h k);
      low = λ i j h k. rw (nth-tabulate (n * n) (λ k. nth c.low k +ℤ nth g.low k) (i * n + j) (inside h k))
          (from_both _ _ q-nonneg q'-nonneg (P.member.low i j h k) (added.member.low i j h k));
      high = λ i j h k. rw (nth-tabulate (n * n) (λ k. nth c.high k +ℤ nth g.high k) (i * n + j) (inside h k))
          (to_both _ _ q-nonneg q'-nonneg (P.member.high i j h k) (added.member.high i j h k));
    };
    terms = A;
    scale = s *ℤ s';
    between = record {
      whole = whole-* P.between.whole added.between.whole;
      low = λ i h. rw (nth-tabulate n (λ k. nth c.linear.low k +ℤ nth g.linear.low k) i h)
          (from_both _ _ s-nonneg s'-nonneg (P.between.low i h) (added.between.low i h));
      high = λ i h. rw (nth-tabulate n (λ k. nth c.linear.high k +ℤ nth g.linear.high k) i h)
          (to_both _ _ s-nonneg s'-nonneg (P.between.high i h) (added.between.high i h));
    };
    under =
        order
        (u ∷ v ∷ u' ∷ v' ∷ c.limit ∷ g.limit ∷ p ∷ q ∷ q' ∷ s ∷ s' ∷ form n N X ∷ form n P.matrix X ∷ form n added.matrix X ∷ sum n
        (λ k. A k *ℤ X k) ∷ a ∷ a' ∷ [])
        (ap (λ (z : ℤ). v *ℤ v' *ℤ (s *ℤ s') *ℤ z) forms & ap (λ (z : ℤ). v *ℤ v' *ℤ (pos 2 *ℤ p *ℤ (q *ℤ q')) *ℤ z) linears
        & *ℤ_mono (*ℤ-nonneg v'-nonneg (*ℤ-nonneg q'-nonneg s'-nonneg)) P.under
        & *ℤ_mono (*ℤ-nonneg v-nonneg (*ℤ-nonneg q-nonneg s-nonneg)) added.under)
        (search solver depth 40 fits 20000) (omega arith);
  }

-- ---- adding with at most one halving
pub fitted_cases : (P : Outcome → Type 0) (g c : Constraint) → (sums_within (plus g c) ≡ true → P (Ok (plus g c))) →
    (sums_within (plus g (halved c)) ≡ true → P (Ok (plus g (halved c)))) → (sums_within (plus g (halved c)) ≡ false → P (Err Full)) →
    P (fitted g c)
unfolding fitted added_in
fitted_cases P g c f k r = go (sums_within (plus g c)) refl
  where
    halves : (b : Bool) → sums_within (plus g (halved c)) ≡ b →
        P (elim b as (λ z. Outcome) [ true ↦ Ok (plus g (halved c)) | false ↦ Err Full ])
    halves true e = k e
    halves false e = r e

    go : (b : Bool) → sums_within (plus g c) ≡ b → P (elim b as (λ z. Outcome) [ true ↦ Ok (plus g c) | false ↦ added_in g (halved c) ])
    go true e = f e
    go false e = halves (sums_within (plus g (halved c))) refl

pub fitted_by : (P : Outcome → Type 0) (g c : Constraint) → (sums_within (plus g c) ≡ true → P (Ok (plus g c))) →
    (sums_within (plus g (halved c)) ≡ true → P (Ok (plus g (halved c)))) → P (Err Full) → P (fitted g c)
fitted_by P g c f k r = fitted_cases P g c f k (λ e. r)

pub taken-same : {c d : Constraint} → ◌≡◌ {A = Outcome} (Ok c) (Ok d) → c ≡ d
taken-same e = cc

pub fitted_explains : (g c : Constraint) → g.order ≡ c.order → {u v u' v' : ℤ} {X : ℕ → ℤ} {p : ℤ} → pos 0 ≤ℤ v → pos 0 ≤ℤ v' →
    Explained c u v X p →
    Explained g u' v' X p → {d : Constraint} → fitted g c ≡ Ok d → Explained d (u *ℤ v' +ℤ u' *ℤ v) (v *ℤ v') X p
unfolding halved
fitted_explains g c ordered {u} {v} {u'} {v'} {X} {p} h k P Q {d} =
    fitted_by (λ o. o ≡ Ok d → Explained d (u *ℤ v' +ℤ u' *ℤ v) (v *ℤ v') X p) g c
    (λ w e. rw (← taken-same e) (plus_explains g c ordered h k P Q))
    (λ w e. rw (← taken-same e) (plus_explains g (halved c) ordered h k (halved_explains c h P) Q))
    (λ e. absurd (false≢true cc))

-- the order stays
pub fitted-ordered : (g c : Constraint) {d : Constraint} → fitted g c ≡ Ok d → d.order ≡ c.order
unfolding plus halved
fitted-ordered g c {d} =
    fitted_by (λ o. o ≡ Ok d → d.order ≡ c.order) g c (λ w e. ap (λ (t : Constraint). t.order) (sym (taken-same e)))
    (λ w e. ap (λ (t : Constraint). t.order) (sym (taken-same e)))
    (λ e. absurd (false≢true cc))
