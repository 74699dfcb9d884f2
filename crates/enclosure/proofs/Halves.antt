-- From the centre to the sides: B and B2 are not below 0 where there is a point, and no |Y(k)| is above p h.
use mathlib.Core.Path.{◌≡◌, refl, sym, ap₂, ◌∙◌}
use mathlib.Core.Bool.{Bool, true, false, false≢true}
use mathlib.Core.Logic.{◌⊎◌, inl, inr}
use mathlib.Core.List.{[], ◌∷◌}
use Prim.Native.Nat.{ℕ, ◌<◌}
use native.Mathlib.Omega.{arith}
use lib.IntN.{ℤ, pos, negsuc, ◌+ℤ◌, ◌-ℤ◌, ◌*ℤ◌}
use lib.Signed.{◌≤ℤ◌, ◌<ℤ◌, le_z}
use Rattle.integers.specs.Numbers.{abs_ℤ, min_ℤ}
use Rattle.integers.specs.Sum.{sum}
use Rattle.integers.specs.Division.{ceil_div}
use Rattle.integers.specs.Root.{least_root}
use Rattle.integers.proofs.Parts.{≤ℤ_trans, ≤ℤ_or_<ℤ, le_z_true, *ℤ-nonneg, square_nonneg, gap-nonneg, pos_nonneg}
use Rattle.integers.proofs.Solver.{◌&◌, ring, order, solver}
use Rattle.integers.proofs.Order.{<_suc, *ℤ_mono, *ℤ_cancel, square_cancel, abs_square, min_by}
use Rattle.integers.proofs.Sums.{sum_ext, sum-+, sum-*, sum_mono, sum_nonneg, term_≤-sum}
use Rattle.integers.proofs.Division.{ceil_law}
use Rattle.integers.proofs.Roots.{least_root-nonneg, least_root_law}
use Rattle.sides.specs.Sides.{bound, first_half, second_bound, smaller_half, half_side}

-- x is not 0 or less
pub one_of : (x : ℤ) → le_z x (pos 0) ≡ false → pos 1 ≤ℤ x
one_of x e = go (≤ℤ_or_<ℤ x (pos 0))
  where
    go : (x ≤ℤ pos 0) ⊎ (pos 0 <ℤ x) → pos 1 ≤ℤ x
    go (inl h) = absurd (false≢true (sym e ∙ le_z_true h))
    go (inr h) = <_suc h

one_product : {x y : ℤ} → pos 1 ≤ℤ x → pos 1 ≤ℤ y → pos 1 ≤ℤ (x *ℤ y)
one_product {x} {y} h k =
    order (x ∷ y ∷ []) (*ℤ-nonneg (gap-nonneg h) (gap-nonneg k) & h & k) (search solver depth 40 fits 20000) (omega arith)

-- What the centre leaves of a point: its offsets Y(k) from the centre, over p, and the value F = Y'NY of a member N over q.
pub record Near (n : ℕ) (p q D t F : ℤ) (g Y : ℕ → ℤ) : Type 0 where
  pub one-p : pos 1 ≤ℤ p
  pub one-q : pos 1 ≤ℤ q
  pub one-t : pos 1 ≤ℤ t
  pub nonneg : (k : ℕ) → k < n → pos 0 ≤ℤ g k
  pub strong : (q *ℤ t *ℤ sum n (λ k. Y k *ℤ Y k)) ≤ℤ F
  pub around : F ≤ℤ (p *ℤ p *ℤ q *ℤ D +ℤ pos 2 *ℤ p *ℤ q *ℤ sum n (λ k. g k *ℤ abs_ℤ (Y k)))

module _ {n : ℕ} {p q D t F : ℤ} {g Y : ℕ → ℤ} (N : Near n p q D t F g Y) where
  p-nonneg : pos 0 ≤ℤ p
  p-nonneg = ≤ℤ_trans (pos_nonneg 1) N.one-p

  q-nonneg : pos 0 ≤ℤ q
  q-nonneg = ≤ℤ_trans (pos_nonneg 1) N.one-q

  t-nonneg : pos 0 ≤ℤ t
  t-nonneg = ≤ℤ_trans (pos_nonneg 1) N.one-t

  abbrev YY : ℤ
  YY = sum n (λ k. Y k *ℤ Y k)

  abbrev gg : ℤ
  gg = sum n (λ k. g k *ℤ g k)

  abbrev g_y : ℤ
  g_y = sum n (λ k. g k *ℤ abs_ℤ (Y k))

  abbrev B : ℤ
  B = bound n D t g

  abbrev B2 : ℤ
  B2 = second_bound n D t g

  -- t Σ Y(k)² ≤ p² D + 2 p Σ g(k) |Y(k)|
  near : (t *ℤ YY) ≤ℤ (p *ℤ p *ℤ D +ℤ pos 2 *ℤ p *ℤ g_y)
  near =
      *ℤ_cancel q N.one-q (order (q ∷ t ∷ YY ∷ p ∷ D ∷ g_y ∷ F ∷ []) (N.strong & N.around) (search solver depth 40 fits 20000) (omega arith))

  -- times t and completed to squares: Σ (t |Y(k)| - p g(k))² ≤ p² t B
  unfoldable excess : ℕ → ℤ
  excess k = t *ℤ abs_ℤ (Y k) -ℤ p *ℤ g k

  squares : sum n (λ k. excess k *ℤ excess k) ≡ t *ℤ t *ℤ YY +ℤ (negsuc 1 *ℤ t *ℤ p *ℤ g_y +ℤ p *ℤ p *ℤ gg)
  unfolding excess
  squares =
      sum_ext n _ (λ k. t *ℤ t *ℤ (Y k *ℤ Y k) +ℤ (negsuc 1 *ℤ t *ℤ p *ℤ (g k *ℤ abs_ℤ (Y k)) +ℤ p *ℤ p *ℤ (g k *ℤ g k)))
      (λ k h. rw (← abs_square (Y k)) (ring (t ∷ p ∷ abs_ℤ (Y k) ∷ g k ∷ []) (search solver depth 40 fits 20000) refl))
      ∙ sum-+ n _ _
      ∙ ap₂ (λ (x y : ℤ). x +ℤ y) (sum-* n (t *ℤ t) _)
      (sum-+ n _ _ ∙ ap₂ (λ (x y : ℤ). x +ℤ y) (sum-* n (negsuc 1 *ℤ t *ℤ p) _) (sum-* n (p *ℤ p) _))

  total : sum n (λ k. excess k *ℤ excess k) ≤ℤ (p *ℤ p *ℤ t *ℤ B)
  unfolding bound
  total =
      order (sum n (λ k. excess k *ℤ excess k) ∷ t ∷ p ∷ YY ∷ gg ∷ g_y ∷ D ∷ ceil_div gg t ∷ [])
      (squares & *ℤ_mono t-nonneg near & *ℤ_mono (square_nonneg p) (ceil_law gg t N.one-t).high) (search solver depth 40 fits 20000) (omega arith)

  -- so B below 0 says that there is no such point
  pub bound-nonneg : pos 0 ≤ℤ bound n D t g
  bound-nonneg =
      *ℤ_cancel (p *ℤ p *ℤ t) (one_product (one_product N.one-p N.one-p) N.one-t)
      (order (p ∷ t ∷ B ∷ sum n (λ k. excess k *ℤ excess k) ∷ []) (total & sum_nonneg n _ (λ k h. square_nonneg (excess k)))
      (search solver depth 40 fits 20000) (omega arith))

  -- with t s² ≥ B each square gives t |Y(k)| - p g(k) ≤ p t s
  abbrev s : ℤ
  s = least_root t B

  excess-high : (k : ℕ) → k < n → excess k ≤ℤ (p *ℤ t *ℤ s)
  excess-high k h =
      square_cancel (*ℤ-nonneg (*ℤ-nonneg p-nonneg t-nonneg) (least_root-nonneg t B))
      (order (excess k ∷ p ∷ t ∷ s ∷ B ∷ sum n (λ k. excess k *ℤ excess k) ∷ [])
      (term_≤-sum n k (λ k. excess k *ℤ excess k) h (λ i l. square_nonneg (excess i)) & total
      & *ℤ_mono (*ℤ-nonneg (square_nonneg p) t-nonneg) (least_root_law t B N.one-t))
      (search solver depth 40 fits 20000) (omega arith))

  -- and so |Y(k)| ≤ p Y(k), the latter that of R13.4
  pub first-half : (k : ℕ) → k < n → abs_ℤ (Y k) ≤ℤ (p *ℤ first_half n D t g k)
  unfolding first_half excess
  first-half k h =
      *ℤ_cancel t N.one-t (order (abs_ℤ (Y k) ∷ p ∷ t ∷ s ∷ g k ∷ ceil_div (g k) t ∷ [])
      (excess-high k h & *ℤ_mono p-nonneg (ceil_law (g k) t N.one-t).high) (search solver depth 40 fits 20000) (omega arith))

  -- Σ g(k) |Y(k)| is at most p times that sum, so Y'NY ≤ p² q B2
  abbrev gh : ℤ
  gh = sum n (λ k. g k *ℤ first_half n D t g k)

  spread-high : g_y ≤ℤ (p *ℤ gh)
  spread-high =
      rw (← sum-* n p (λ k. g k *ℤ first_half n D t g k)) (sum_mono n _ _ (λ k h.
      order (g k ∷ abs_ℤ (Y k) ∷ p ∷ first_half n D t g k ∷ []) (*ℤ_mono (N.nonneg k h) (first-half k h)) (search solver depth 40 fits 20000) (omega arith)))

  value_high : F ≤ℤ (p *ℤ p *ℤ q *ℤ B2)
  unfolding second_bound
  value_high =
      order (F ∷ p ∷ q ∷ D ∷ g_y ∷ gh ∷ []) (N.around & *ℤ_mono (*ℤ-nonneg p-nonneg q-nonneg) spread-high)
      (search solver depth 40 fits 20000) (omega arith)

  value_nonneg : pos 0 ≤ℤ F
  value_nonneg =
      order (q ∷ t ∷ YY ∷ F ∷ [])
      (N.strong & *ℤ-nonneg (*ℤ-nonneg q-nonneg t-nonneg) (sum_nonneg n (λ k. Y k *ℤ Y k) (λ k h. square_nonneg (Y k))))
      (search solver depth 40 fits 20000) (omega arith)

  -- so B2 below 0 says it too
  pub second-bound-nonneg : pos 0 ≤ℤ second_bound n D t g
  second-bound-nonneg =
      *ℤ_cancel (p *ℤ p *ℤ q) (one_product (one_product N.one-p N.one-p) N.one-q)
      (order (p ∷ q ∷ B2 ∷ F ∷ []) (value_high & value_nonneg) (search solver depth 40 fits 20000) (omega arith))

  -- t(k) Y(k)² ≤ p² B2 ≤ p² t(k) Z(k)²
  second-half : (k : ℕ) (u : ℤ) → pos 1 ≤ℤ u → (q *ℤ u *ℤ (Y k *ℤ Y k)) ≤ℤ F → abs_ℤ (Y k) ≤ℤ (p *ℤ least_root u B2)
  second-half k u h strong =
      let z = least_root u B2 in
      square_cancel (*ℤ-nonneg p-nonneg (least_root-nonneg u B2)) (rw (abs_square (Y k)) (
      *ℤ_cancel (q *ℤ u) (one_product N.one-q h) (order (q ∷ u ∷ Y k ∷ z ∷ p ∷ B2 ∷ F ∷ [])
      (strong & value_high & *ℤ_mono (*ℤ-nonneg (square_nonneg p) q-nonneg) (least_root_law u B2 h)) (search solver depth 40 fits 20000) (omega arith))))

  pub half_side_lem : (tk : ℕ → ℤ) (k : ℕ) → k < n → (pos 1 ≤ℤ tk k → (q *ℤ tk k *ℤ (Y k *ℤ Y k)) ≤ℤ F) → abs_ℤ (Y k) ≤ℤ (p *ℤ half_side n D t g tk k)
  unfolding half_side smaller_half
  half_side_lem tk k h strong = go (le_z (tk k) (pos 0)) (one_of (tk k))
    where
      go : (b : Bool) → (b ≡ false → pos 1 ≤ℤ tk k) →
          abs_ℤ (Y k) ≤ℤ (p *ℤ elim b as (λ z. ℤ) [ true ↦ first_half n D t g k | false ↦ min_ℤ (first_half n D t g k) (least_root (tk k) B2) ])
      go true f = first-half k h
      go false f =
          min_by (first_half n D t g k) (least_root (tk k) B2) (λ z. abs_ℤ (Y k) ≤ℤ (p *ℤ z)) (λ l. first-half k h)
          (λ l. second-half k (tk k) (f refl) (strong (f refl)))
