-- Orders of products, squares, absolute values, and of the smaller and the greater of two integers.
use mathlib.Core.Path.{◌≡◌, refl}
use mathlib.Core.Bool.{Bool, true, false}
use mathlib.Core.Logic.{◌≢◌, ◌⊎◌, inl, inr, ⊎_elim}
use mathlib.Core.List.{[], ◌∷◌}
use Prim.Native.Nat.{zero, suc}
use native.Mathlib.Omega.{arith}
use lib.Dec.{T}
use lib.IntN.{ℤ, pos, negsuc, neg_ℤ, ◌+ℤ◌, ◌-ℤ◌, ◌*ℤ◌}
use lib.Signed.{◌≤ℤ◌, ◌<ℤ◌, le_z, ≤ℤ_refl}
use Rattle.integers.specs.Numbers.{abs_ℤ, min_ℤ, max_ℤ}
use Rattle.integers.proofs.Parts.{≤_in, ≤ℤ_or_<ℤ, ≤ℤ_trans, ≤ℤ_antisym, *ℤ-nonneg, square_nonneg, gap-nonneg, pos_nonneg}
use Rattle.integers.proofs.Solver.{◌&◌, order, solver}

-- x lies from a to b
pub record Between (a x b : ℤ) : Type 0 where
  pub low : a ≤ℤ x
  pub high : x ≤ℤ b

-- ---- orders of whole numbers
pub <-≤ : {x y : ℤ} → x <ℤ y → x ≤ℤ y
<-≤ {x} {y} h = order (x ∷ y ∷ []) h (search solver depth 40 fits 20000) (omega arith)

pub ≤ℤ_total : (x y : ℤ) → (x ≤ℤ y) ⊎ (y ≤ℤ x)
≤ℤ_total x y = ⊎_elim (λ h. inl h) (λ h. inr (<-≤ h)) (≤ℤ_or_<ℤ x y)

pub <_suc : {x y : ℤ} → x <ℤ y → (x +ℤ pos 1) ≤ℤ y
<_suc {x} {y} h = order (x ∷ y ∷ []) h (search solver depth 40 fits 20000) (omega arith)

-- by contradiction: y < x is absurd
pub ≤_unless : {x y : ℤ} → (y <ℤ x → x ≤ℤ y) → x ≤ℤ y
≤_unless {x} {y} f = ⊎_elim (λ h. h) f (≤ℤ_or_<ℤ x y)

-- ---- products
pub *ℤ_mono : {c x y : ℤ} → pos 0 ≤ℤ c → x ≤ℤ y → (c *ℤ x) ≤ℤ (c *ℤ y)
*ℤ_mono {c} {x} {y} h k = order (c ∷ x ∷ y ∷ []) (*ℤ-nonneg h (gap-nonneg k)) (search solver depth 40 fits 20000) (omega arith)

-- 0 ≤ a ≤ x and 0 ≤ b ≤ y give a b ≤ x y
pub product_mono : {a b x y : ℤ} → pos 0 ≤ℤ a → pos 0 ≤ℤ b → a ≤ℤ x → b ≤ℤ y → (a *ℤ b) ≤ℤ (x *ℤ y)
product_mono {a} {b} {x} {y} h k l m =
    order (a ∷ b ∷ x ∷ y ∷ []) (*ℤ-nonneg h (gap-nonneg m) & *ℤ-nonneg (gap-nonneg l) (≤ℤ_trans k m))
    (search solver depth 40 fits 20000) (omega arith)

-- a factor from 1 up is cancelled
pub *ℤ_cancel : (q : ℤ) {x y : ℤ} → pos 1 ≤ℤ q → (q *ℤ x) ≤ℤ (q *ℤ y) → x ≤ℤ y
*ℤ_cancel q {x} {y} h k =
    ≤_unless (λ e. order (q ∷ x ∷ y ∷ []) (*ℤ-nonneg (gap-nonneg h) (gap-nonneg (<_suc e)) & h & k & e)
    (search solver depth 40 fits 20000) (omega arith))

-- x² ≤ y² gives x ≤ y, for a y that is not negative
pub square_cancel : {x y : ℤ} → pos 0 ≤ℤ y → (x *ℤ x) ≤ℤ (y *ℤ y) → x ≤ℤ y
square_cancel {x} {y} h k =
    ≤_unless (λ e.
    let s : y ≤ℤ (x +ℤ y) = order (x ∷ y ∷ []) (e & h) (search solver depth 40 fits 20000) (omega arith) in
    order (x ∷ y ∷ []) (*ℤ-nonneg (gap-nonneg (<_suc e)) (≤ℤ_trans h s) & h & k & e) (search solver depth 40 fits 20000) (omega arith))

-- a whole number but 0 has a square from 1 up
pub square_positive : {x : ℤ} → x ≢ pos 0 → pos 1 ≤ℤ (x *ℤ x)
square_positive {x} h = go (≤ℤ_or_<ℤ x (pos 0)) (≤ℤ_or_<ℤ (pos 0) x)
  where
    go : (x ≤ℤ pos 0) ⊎ (pos 0 <ℤ x) → (pos 0 ≤ℤ x) ⊎ (x <ℤ pos 0) → pos 1 ≤ℤ (x *ℤ x)
    go (inr p) q = order (x ∷ []) (square_nonneg (x -ℤ pos 1) & p) (search solver depth 40 fits 20000) (omega arith)
    go (inl p) (inr q) = order (x ∷ []) (square_nonneg (x +ℤ pos 1) & q) (search solver depth 40 fits 20000) (omega arith)
    go (inl p) (inl q) = absurd (h (≤ℤ_antisym p q))

-- ---- the absolute value
pub abs-nonneg : (x : ℤ) → pos 0 ≤ℤ abs_ℤ x
unfolding abs_ℤ
abs-nonneg x = pos_nonneg _

pub ≤-abs : (x : ℤ) → x ≤ℤ abs_ℤ x
unfolding abs_ℤ
≤-abs (pos a) = ≤_in (omega arith)
≤-abs (negsuc a) = ≤_in (omega arith)

pub neg-≤-abs : (x : ℤ) → neg_ℤ x ≤ℤ abs_ℤ x
unfolding abs_ℤ
neg-≤-abs (pos zero) = ≤_in (omega arith)
neg-≤-abs (pos (suc a)) = ≤_in (omega arith)
neg-≤-abs (negsuc a) = ≤_in (omega arith)

pub abs-≤ : {x m : ℤ} → x ≤ℤ m → neg_ℤ x ≤ℤ m → abs_ℤ x ≤ℤ m
unfolding abs_ℤ
abs-≤ {x = pos a} h k = h
abs-≤ {x = negsuc a} h k = k

pub abs_square : (x : ℤ) → abs_ℤ x *ℤ abs_ℤ x ≡ x *ℤ x
unfolding abs_ℤ
abs_square (pos a) = refl
abs_square (negsuc a) = refl

-- ---- the smaller and the greater of two
le_z_by : (x y : ℤ) (P : Bool → Type 0) → (x ≤ℤ y → P true) → (y ≤ℤ x → P false) → P (le_z x y)
le_z_by x y P f g = go (le_z x y) (λ t. record { le = t }) (≤ℤ_total x y) (λ h. h.le)
  where
    go : (b : Bool) → (T b → x ≤ℤ y) → (x ≤ℤ y) ⊎ (y ≤ℤ x) → (x ≤ℤ y → T b) → P b
    go true to total of = f (to tt)
    go false to (inl h) of = absurd (of h)
    go false to (inr h) of = g h

-- the smaller is one of the two, and at most the other
pub min_by : (x y : ℤ) (P : ℤ → Type 0) → (x ≤ℤ y → P x) → (y ≤ℤ x → P y) → P (min_ℤ x y)
unfolding min_ℤ
min_by x y P f g = le_z_by x y (λ b. P (elim b as (λ z. ℤ) [ true ↦ x | false ↦ y ])) f g

pub max_by : (x y : ℤ) (P : ℤ → Type 0) → (x ≤ℤ y → P y) → (y ≤ℤ x → P x) → P (max_ℤ x y)
unfolding max_ℤ
max_by x y P f g = le_z_by x y (λ b. P (elim b as (λ z. ℤ) [ true ↦ y | false ↦ x ])) f g

pub min_≤ˡ : (x y : ℤ) → min_ℤ x y ≤ℤ x
min_≤ˡ x y = min_by x y (λ z. z ≤ℤ x) (λ h. ≤ℤ_refl x) (λ h. h)

pub min_≤ʳ : (x y : ℤ) → min_ℤ x y ≤ℤ y
min_≤ʳ x y = min_by x y (λ z. z ≤ℤ y) (λ h. h) (λ h. ≤ℤ_refl y)

pub ≤_maxˡ : (x y : ℤ) → x ≤ℤ max_ℤ x y
≤_maxˡ x y = max_by x y (λ z. x ≤ℤ z) (λ h. h) (λ h. ≤ℤ_refl x)

pub ≤_maxʳ : (x y : ℤ) → y ≤ℤ max_ℤ x y
≤_maxʳ x y = max_by x y (λ z. y ≤ℤ z) (λ h. ≤ℤ_refl y) (λ h. h)

pub max_≤ : {x y m : ℤ} → x ≤ℤ m → y ≤ℤ m → max_ℤ x y ≤ℤ m
max_≤ {x} {y} {m} h k = max_by x y (λ z. z ≤ℤ m) (λ l. k) (λ l. h)
