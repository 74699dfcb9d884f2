-- A point X over p of the ellipsoid, seen from the centre c. With Y = X - p c, a member N over q, linear terms A over s, and D and g(k)
-- of R13: Y'NY ≤ p² q D + 2 p q Σ g(k) |Y(k)|.
use mathlib.Core.Path.{◌≡◌, refl, ap, ap₂, ◌∙◌, fun_ext}
use mathlib.Core.List.{[], ◌∷◌}
use Prim.Native.Nat.{ℕ, ◌<◌}
use native.Mathlib.Omega.{arith}
use lib.IntN.{ℤ, pos, neg_ℤ, ◌+ℤ◌, ◌-ℤ◌, ◌*ℤ◌}
use lib.Signed.{◌≤ℤ◌}
use Rattle.integers.specs.Numbers.{abs_ℤ, min_ℤ, max_ℤ}
use Rattle.integers.specs.Sum.{sum}
use Rattle.integers.proofs.Parts.{≤ℤ_trans, *ℤ-nonneg, square_nonneg, gap-nonneg, pos_nonneg}
use Rattle.integers.proofs.Solver.{◌&◌, ring, order, solver}
use Rattle.integers.proofs.Order.{*ℤ_mono, *ℤ_cancel, ≤-abs, neg-≤-abs, ≤_maxˡ, ≤_maxʳ}
use Rattle.integers.proofs.Sums.{sum_ext, sum-+, sum-*, sum_mono}
use Rattle.arithmetic.proofs.Between.{times-low, times-high}
use Rattle.tables.specs.Matrix.{Matrix, form, image}
use Rattle.tables.specs.Members.{Member, Ends, Between}
use Rattle.tables.proofs.Forms.{form-shift}
use Rattle.vectors.specs.Least.{least_value}
use Rattle.vectors.proofs.Showing.{least-below}
use Rattle.centre.specs.Centre.{least_sum, greatest_sum, low_gradient, high_gradient, gradient, at_centre}
use Rattle.enclosure.specs.Points.{Point}

-- ---- numbers from q l to q u, and their sum with c
module _ (n : ℕ) (q : ℤ) (l u z c : ℕ → ℤ) (nonneg : pos 0 ≤ℤ q) (low : (j : ℕ) → j < n → (q *ℤ l j) ≤ℤ z j) (high : (j : ℕ) → j < n → z j ≤ℤ (q *ℤ u j)) where
  sum-high : sum n (λ j. z j *ℤ c j) ≤ℤ (q *ℤ greatest_sum n l u c)
  sum-high = rw (← sum-* n q (λ j. max_ℤ (l j *ℤ c j) (u j *ℤ c j))) (sum_mono n _ _ (λ j h. times-high q (l j) (u j) (z j) (c j) nonneg (low j h) (high j h)))

  sum_low : (q *ℤ least_sum n l u c) ≤ℤ sum n (λ j. z j *ℤ c j)
  sum_low = rw (← sum-* n q (λ j. min_ℤ (l j *ℤ c j) (u j *ℤ c j))) (sum_mono n _ _ (λ j h. times-low q (l j) (u j) (z j) (c j) nonneg (low j h) (high j h)))

-- ---- |s (Nc)(k) + q A(k)| ≤ s q g(k) for a member N over q and linear terms A over s
module _ {n : ℕ} {L U N : Matrix} {q : ℤ} (m : Member n L U N q) {e : Ends} {A : ℕ → ℤ} {s : ℤ} (t : Between n e A s) (c : ℕ → ℤ) (k : ℕ) (h : k < n) where
  abbrev low : ℤ
  low = low_gradient n L U e c k

  abbrev high : ℤ
  high = high_gradient n L U e c k

  abbrev slant : ℤ
  slant = s *ℤ image n N c k +ℤ q *ℤ A k

  q-nonneg : pos 0 ≤ℤ q
  q-nonneg = ≤ℤ_trans (pos_nonneg 1) m.whole

  s-nonneg : pos 0 ≤ℤ s
  s-nonneg = ≤ℤ_trans (pos_nonneg 1) t.whole

  high_law : slant ≤ℤ (s *ℤ q *ℤ high)
  unfolding image high_gradient
  high_law =
      order (q ∷ s ∷ sum n (λ j. N k j *ℤ c j) ∷ A k ∷ e.high k ∷ greatest_sum n (L k) (U k) c ∷ [])
      (*ℤ_mono s-nonneg (sum-high n q (L k) (U k) (N k) c q-nonneg (λ j l. m.low k j h l) (λ j l. m.high k j h l)) & *ℤ_mono q-nonneg (t.high k h))
      (search solver depth 40 fits 20000) (omega arith)

  low_law : (s *ℤ q *ℤ low) ≤ℤ slant
  unfolding image low_gradient
  low_law =
      order (q ∷ s ∷ sum n (λ j. N k j *ℤ c j) ∷ A k ∷ e.low k ∷ least_sum n (L k) (U k) c ∷ [])
      (*ℤ_mono s-nonneg (sum_low n q (L k) (U k) (N k) c q-nonneg (λ j l. m.low k j h l) (λ j l. m.high k j h l)) & *ℤ_mono q-nonneg (t.low k h))
      (search solver depth 40 fits 20000) (omega arith)

  nonneg : pos 0 ≤ℤ (s *ℤ q)
  nonneg = *ℤ-nonneg s-nonneg q-nonneg

  pub gradient-high : slant ≤ℤ (s *ℤ q *ℤ gradient n L U e c k)
  unfolding gradient
  gradient-high = ≤ℤ_trans high_law (*ℤ_mono nonneg (≤ℤ_trans (≤-abs high) (≤_maxʳ (abs_ℤ low) (abs_ℤ high))))

  pub gradient-low : neg_ℤ (s *ℤ q *ℤ gradient n L U e c k) ≤ℤ slant
  unfolding gradient
  gradient-low =
      let g = max_ℤ (abs_ℤ low) (abs_ℤ high) in
      order (q ∷ s ∷ g ∷ low ∷ image n N c k ∷ A k ∷ []) (low_law & *ℤ_mono nonneg (≤ℤ_trans (neg-≤-abs low) (≤_maxˡ (abs_ℤ low) (abs_ℤ high))))
      (search solver depth 40 fits 20000) (omega arith)

-- ---- Y = X - p c
unfoldable pub offset : (ℕ → ℤ) → ℤ → (ℕ → ℤ) → ℕ → ℤ
offset X p c k = X k -ℤ p *ℤ c k

pub from-offset : (X : ℕ → ℤ) (p : ℤ) (c : ℕ → ℤ) (k : ℕ) → X k ≡ offset X p c k +ℤ p *ℤ c k
unfolding offset
from-offset X p c k = ring (X k ∷ p ∷ c k ∷ []) (search solver depth 40 fits 20000) refl

module _ {n : ℕ} {L U : Matrix} {e : Ends} {α : ℤ} {X : ℕ → ℤ} {p : ℤ} (P : Point n L U e α X p) (c : ℕ → ℤ) where
  abbrev N : Matrix
  N = P.matrix

  abbrev q : ℤ
  q = P.denominator

  abbrev A : ℕ → ℤ
  A = P.terms

  abbrev s : ℤ
  s = P.scale

  abbrev Y : ℕ → ℤ
  Y = offset X p c

  abbrev g : ℕ → ℤ
  g = gradient n L U e c

  -- (Nc)'Y
  abbrev cross : ℤ
  cross = sum n (λ k. image n N c k *ℤ Y k)

  -- Σ g(k) |Y(k)|
  abbrev spread : ℤ
  spread = sum n (λ k. g k *ℤ abs_ℤ (Y k))

  abbrev AY : ℤ
  AY = sum n (λ k. A k *ℤ Y k)

  abbrev Ac : ℤ
  Ac = sum n (λ k. A k *ℤ c k)

  -- the least sum of a(k) c(k)
  abbrev least : ℤ
  least = least_sum n e.low e.high c

  -- X'NX = Y'NY + 2 p (Nc)'Y + p² c'Nc
  form_is : form n N X ≡ form n N Y +ℤ pos 2 *ℤ p *ℤ cross +ℤ p *ℤ p *ℤ form n N c
  form_is = ap (λ (x : ℕ → ℤ). form n N x) (fun_ext (from-offset X p c)) ∙ form-shift n N Y c p P.member.symmetric

  linear_is : sum n (λ k. A k *ℤ X k) ≡ AY +ℤ p *ℤ Ac
  linear_is =
      sum_ext n _ (λ k. A k *ℤ Y k +ℤ p *ℤ (A k *ℤ c k))
      (λ k h. rw (from-offset X p c k) (ring (Y k ∷ p ∷ c k ∷ A k ∷ []) (search solver depth 40 fits 20000) refl))
      ∙ sum-+ n _ _ ∙ ap (λ (z : ℤ). AY +ℤ z) (sum-* n p _)

  -- Σ (s (Nc)(k) + q A(k)) Y(k)
  abbrev slope : ℤ
  slope = sum n (λ k. (s *ℤ image n N c k +ℤ q *ℤ A k) *ℤ Y k)

  slope_is : slope ≡ s *ℤ cross +ℤ q *ℤ AY
  slope_is =
      sum_ext n _ (λ k. s *ℤ (image n N c k *ℤ Y k) +ℤ q *ℤ (A k *ℤ Y k))
      (λ k h. ring (image n N c k ∷ Y k ∷ q ∷ s ∷ A k ∷ []) (search solver depth 40 fits 20000) refl)
      ∙ sum-+ n _ _ ∙ ap₂ ◌+ℤ◌ (sum-* n s _) (sum-* n q _)

  -- it is no less than -s q Σ g(k) |Y(k)|
  slope-low : (neg_ℤ (s *ℤ q) *ℤ spread) ≤ℤ slope
  slope-low =
      rw (← sum-* n (neg_ℤ (s *ℤ q)) (λ k. g k *ℤ abs_ℤ (Y k))) (sum_mono n _ _ (λ k h.
      order (q ∷ s ∷ g k ∷ abs_ℤ (Y k) ∷ Y k ∷ image n N c k ∷ A k ∷ [])
      (*ℤ-nonneg (gap-nonneg (gradient-low P.member P.between c k h)) (gap-nonneg (neg-≤-abs (Y k)))
      & *ℤ-nonneg (gap-nonneg (gradient-high P.member P.between c k h)) (gap-nonneg (≤-abs (Y k))))
      (search solver depth 40 fits 20000) (omega arith)))

  -- A'c is no less than s times the least sum
  terms-low : (s *ℤ least) ≤ℤ Ac
  terms-low = sum_low n s e.low e.high A c (≤ℤ_trans (pos_nonneg 1) P.between.whole) P.between.low P.between.high

  abbrev around_bound : ℤ
  around_bound = p *ℤ p *ℤ q *ℤ at_centre n L U e c α +ℤ pos 2 *ℤ p *ℤ q *ℤ spread

  -- s times what is wanted
  scaled : (s *ℤ form n N Y) ≤ℤ (s *ℤ around_bound)
  unfolding at_centre
  scaled =
      order (form n N Y ∷ form n N X ∷ form n N c ∷ sum n (λ k. A k *ℤ X k) ∷ p ∷ q ∷ s ∷ α ∷ least_value n L U c ∷ spread ∷ cross ∷ AY ∷ Ac ∷ least ∷ [])
      (P.inside & ap (λ (z : ℤ). s *ℤ z) form_is & ap (λ (z : ℤ). pos 2 *ℤ p *ℤ q *ℤ z) linear_is
      & *ℤ-nonneg (≤ℤ_trans (pos_nonneg 1) P.whole) (gap-nonneg (rw slope_is at slope-low))
      & *ℤ_mono (*ℤ-nonneg (≤ℤ_trans (pos_nonneg 1) P.between.whole) (square_nonneg p)) (least-below P.member c)
      & *ℤ_mono (*ℤ-nonneg (≤ℤ_trans (pos_nonneg 1) P.member.whole) (square_nonneg p)) terms-low)
      (search solver depth 40 fits 20000) (omega arith)

  pub around : form n N Y ≤ℤ around_bound
  around = *ℤ_cancel s P.between.whole scaled
