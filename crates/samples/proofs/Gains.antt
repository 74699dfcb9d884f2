-- What a sample explains, R23.3 of docs/RULES.md: at X over p the square of how far it is; and so do sums with the sample in them, beside
-- what they did.
use mathlib.Core.Path.{◌≡◌, refl, sym, ap, ◌∙◌}
use mathlib.Core.Logic.{◌⊎◌, inl, inr}
use mathlib.Core.List.{[], ◌∷◌}
use Prim.Native.Nat.{ℕ}
use native.Mathlib.Omega.{arith}
use lib.IntN.{ℤ, pos, ◌+ℤ◌, ◌-ℤ◌, ◌*ℤ◌, *ℤ_comm}
use lib.Signed.{◌≤ℤ◌, le_z_yes}
use Rattle.integers.specs.Numbers.{min_ℤ}
use Rattle.integers.specs.Sum.{sum}
use Rattle.integers.proofs.Parts.{≤ℤ_trans, *ℤ-nonneg, gap-nonneg, square_nonneg, pos_nonneg}
use Rattle.integers.proofs.Solver.{◌&◌, ring, order, solver}
use Rattle.integers.proofs.Order.{≤ℤ_total, ≤_unless, <_suc, *ℤ_mono, product_mono, min_≤ˡ, min_≤ʳ}
use Rattle.integers.proofs.Sums.{sum_ext, sum-*, sum_product}
use Rattle.integers.proofs.Division.{IsFloor, IsCeil}
use Rattle.tables.specs.Matrix.{form}
use Rattle.tables.specs.declared.problem.Constraint.{Constraint}
use Rattle.tables.proofs.Matrix.{at_table, nth-tabulate}
use Rattle.floats.specs.Brackets.{sixteenth, whole_next_to}
use Rattle.floats.specs.declared.Neighbours.{Neighbours}
use Rattle.floats.proofs.Next.{NextTo, next-to}
use Rattle.std.specs.Prelude.{Ok}
use Rattle.sums.specs.Halving.{fitted}
use Rattle.sums.specs.Explaining.{Explained}
use Rattle.sums.proofs.Explained.{whole-*, fitted_explains}
use Rattle.samples.specs.declared.sample.Sample.{Sample}
use Rattle.samples.specs.Samples.{factor_count, factor_units, draw_units, factor_next, draw_next}
use Rattle.samples.specs.Gains.{least_product, greatest_product, least_square, low_gain, high_gain, from_gain, to_gain, gains, gains_of}
use Rattle.samples.specs.Explaining.{misfit}
use Rattle.samples.proofs.Products.{product_low, product_high}

abbrev w : ℤ
w = sixteenth

pub one : pos 1 ≤ℤ sixteenth
unfolding sixteenth
one = le_z_yes tt

nonneg : pos 0 ≤ℤ w
nonneg = ≤ℤ_trans (pos_nonneg 1) one

-- x over w lies between its neighbours
next : (x : ℤ) → NextTo x w (whole_next_to x w)
next x = next-to x w one

-- ---- products and the square
module _ (x y : ℤ) where
  abbrev u : Neighbours
  u = whole_next_to x w

  abbrev v : Neighbours
  v = whole_next_to y w

  least_is : (w *ℤ w *ℤ least_product u v) ≤ℤ (x *ℤ y)
  least_is = product_low w u.low u.high v.low v.high x y nonneg (next x).below.low (next x).above.high (next y).below.low
      (next y).above.high

  greatest_is : (x *ℤ y) ≤ℤ (w *ℤ w *ℤ greatest_product u v)
  greatest_is = product_high w u.low u.high v.low v.high x y nonneg (next x).below.low (next x).above.high (next y).below.low
      (next y).above.high

-- where no whole number lies strictly between l and h, x² over w² is no less than the least square of the ends
module _ (l h x : ℤ) (f : IsFloor x w l) (c : IsCeil x w h) where
  -- the end nearer to 0 is on the side of x
  low-nonneg : pos 0 ≤ℤ x → pos 0 ≤ℤ l
  low-nonneg p = ≤_unless (λ k. order (w ∷ l ∷ x ∷ []) (*ℤ_mono nonneg (<_suc k) & f.high & p) (search solver depth 40 fits 20000)
      (omega arith))

  high-negative : x ≤ℤ pos 0 → h ≤ℤ pos 0
  high-negative p = ≤_unless (λ k. order (w ∷ h ∷ x ∷ []) (*ℤ_mono nonneg (<_suc k) & c.low & p) (search solver depth 40 fits 20000)
      (omega arith))

  square_low : (w *ℤ w *ℤ min_ℤ (l *ℤ l) (h *ℤ h)) ≤ℤ (x *ℤ x)
  square_low = go (≤ℤ_total (pos 0) x)
    where
      go : (pos 0 ≤ℤ x) ⊎ (x ≤ℤ pos 0) → (w *ℤ w *ℤ min_ℤ (l *ℤ l) (h *ℤ h)) ≤ℤ (x *ℤ x)
      go (inl p) =
          let z = *ℤ-nonneg nonneg (low-nonneg p) in
          order (w ∷ l ∷ x ∷ min_ℤ (l *ℤ l) (h *ℤ h) ∷ []) (product_mono z z f.low f.low & *ℤ_mono (*ℤ-nonneg nonneg nonneg)
          (min_≤ˡ (l *ℤ l) (h *ℤ h)))
          (search solver depth 40 fits 20000) (omega arith)
      go (inr p) =
          let z = *ℤ-nonneg nonneg (gap-nonneg (high-negative p)) in
          let k : (w *ℤ (pos 0 -ℤ h)) ≤ℤ (pos 0 -ℤ x) = order (w ∷ h ∷ x ∷ []) c.high (search solver depth 40 fits 20000) (omega arith) in
          order (w ∷ h ∷ x ∷ min_ℤ (l *ℤ l) (h *ℤ h) ∷ []) (product_mono z z k k & *ℤ_mono (*ℤ-nonneg nonneg nonneg)
          (min_≤ʳ (l *ℤ l) (h *ℤ h)))
          (search solver depth 40 fits 20000) (omega arith)

-- ---- what a sample explains
module _ (s : Sample) (X : ℕ → ℤ) (p : ℤ) where
  abbrev n : ℕ
  n = factor_count

  abbrev F : ℕ → ℤ
  F = factor_units s

  abbrev D : ℤ
  D = draw_units s

  abbrev ends : ℕ → Neighbours
  ends = factor_next s

  abbrev draw : Neighbours
  draw = draw_next s

  abbrev Q : ℤ
  Q = w *ℤ w

  -- Σ F(i) X(i)
  abbrev φ : ℤ
  φ = sum n (λ i. F i *ℤ X i)

  -- X'(FF')X = φ²
  outer : form n (λ i j. F i *ℤ F j) X ≡ φ *ℤ φ
  unfolding form
  outer =
      sum_ext n _ _ (λ i h. sum_ext n _ _ (λ j k. ring (X i ∷ F i ∷ F j ∷ X j ∷ []) (search solver depth 40 fits 20000) refl))
      ∙ sym (sum_product n n (λ i. F i *ℤ X i) (λ j. F j *ℤ X j))

  linear : sum n (λ i. (pos 0 -ℤ F i *ℤ D) *ℤ X i) ≡ (pos 0 -ℤ D) *ℤ φ
  linear = sum_ext n _ _ (λ i h. ring (F i ∷ D ∷ X i ∷ []) (search solver depth 40 fits 20000) refl) ∙ sum-* n (pos 0 -ℤ D) _

  -- the member FF' over w², the terms −F·D over w²
  pub sample_explains : Explained (gains_of s) (misfit s X p *ℤ misfit s X p) (p *ℤ p *ℤ (sixteenth *ℤ sixteenth)) X p
  unfolding gains misfit
  sample_explains =
      let m = least_square draw in
      let Q-nonneg = *ℤ-nonneg nonneg nonneg in
      record {
        nonneg = square_nonneg (p *ℤ D -ℤ φ);
        matrix = λ i j. F i *ℤ F j;
        denominator = Q;
        member = record {
          whole = whole-* one one;
          symmetric = λ i j h k. *ℤ_comm (F i) (F j);
          low = λ i j h k. rw (at_table n (low_gain ends draw) i j h k) (least_is (F i) (F j));
          high = λ i j h k. rw (at_table n (high_gain ends draw) i j h k) (greatest_is (F i) (F j));
        };
        terms = λ i. pos 0 -ℤ F i *ℤ D;
        scale = Q;
        between = record {
          whole = whole-* one one;
          low = λ i h. rw (nth-tabulate n (from_gain ends draw) i h)
              (order (w ∷ F i ∷ D ∷ greatest_product (ends i) draw ∷ []) (greatest_is (F i) D) (search solver depth 40 fits 20000)
              (omega arith));
          high = λ i h. rw (nth-tabulate n (to_gain ends draw) i h)
              (order (w ∷ F i ∷ D ∷ least_product (ends i) draw ∷ []) (least_is (F i) D) (search solver depth 40 fits 20000) (omega arith));
        };
        under =
            order (w ∷ p ∷ D ∷ φ ∷ m ∷ form n (λ i j. F i *ℤ F j) X ∷ sum n (λ i. (pos 0 -ℤ F i *ℤ D) *ℤ X i) ∷ [])
            (ap (λ (z : ℤ). p *ℤ p *ℤ Q *ℤ Q *ℤ z) outer & ap (λ (z : ℤ). p *ℤ p *ℤ Q *ℤ (pos 2 *ℤ p *ℤ Q) *ℤ z) linear
            & *ℤ_mono (*ℤ-nonneg (square_nonneg (p *ℤ p)) (*ℤ-nonneg Q-nonneg Q-nonneg)) (square_low _ _ D (next D).below (next D).above))
            (search solver depth 40 fits 20000) (omega arith);
      }

  -- sums with the sample in them explain, beside what they did, the square of how far it is
  pub added_explains : (c : Constraint) → c.order ≡ factor_count → {u v : ℤ} → pos 0 ≤ℤ v → Explained c u v X p → {d : Constraint} →
      fitted (gains_of s) c ≡ Ok d →
      (let z = p *ℤ p *ℤ (sixteenth *ℤ sixteenth) in Explained d (u *ℤ z +ℤ misfit s X p *ℤ misfit s X p *ℤ v) (v *ℤ z) X p)
  unfolding gains
  added_explains c ordered h P = fitted_explains (gains_of s) c (sym ordered) h
      (*ℤ-nonneg (square_nonneg p) (*ℤ-nonneg nonneg nonneg)) P sample_explains
