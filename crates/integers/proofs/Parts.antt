-- Integers by their positive and negative parts, in ℕ, where `omega` applies: the ring and order laws that lib.IntN and lib.Signed lack.
-- Nothing outside this file takes an integer apart by `pos` and `negsuc` but for a definition's own cases.
use mathlib.Core.Path.{◌≡◌, refl, ap, subst}
use mathlib.Core.Bool.{Bool, true, false, not, cond}
use mathlib.Core.Logic.{◌⊎◌, inl, inr, by_cases}
use Prim.Native.Nat.{ℕ, zero, suc, ◌+◌, ◌*◌, ◌-◌, ◌<◌, ◌≤◌}
use native.Mathlib.Omega.{arith}
use native.Mathlib.Decide.{dec_le}
use lib.Dec.{T, ltb, lt→ltb, ltb→lt, nltb→le, leb→le, le→leb}
use lib.IntN.{ℤ, pos, negsuc, neg_ℤ, sub_ℕ, ◌+ℤ◌, ◌-ℤ◌, ◌*ℤ◌}
use lib.Signed.{◌≤ℤ◌, ◌<ℤ◌, le_z, le_z_yes, clash_ℤ}

-- x is plus x - minus x, and one of the two is 0
abbrev pub plus : ℤ → ℕ
plus (pos a) = a
plus (negsuc a) = zero

abbrev pub minus : ℤ → ℕ
minus (pos a) = zero
minus (negsuc a) = suc a

-- x is a - b
pub record Diff (x : ℤ) (a b : ℕ) : Type 0 where
  pub is : plus x + b ≡ a + minus x

-- ---- the order and equality, by the parts
pub ≤_out : {x y : ℤ} → x ≤ℤ y → plus x + minus y ≤ plus y + minus x
≤_out {x = pos a} {y = pos b} h = omega (arith, leb→le a b h.le)
≤_out {x = pos a} {y = negsuc b} h = absurd h.le
≤_out {x = negsuc a} {y = pos b} h = omega arith
≤_out {x = negsuc a} {y = negsuc b} h = omega (arith, leb→le b a h.le)

pub ≤_in : {x y : ℤ} → plus x + minus y ≤ plus y + minus x → x ≤ℤ y
≤_in {x = pos a} {y = pos b} h = record { le = le→leb a b (omega arith) }
≤_in {x = pos a} {y = negsuc b} h = absurd (omega arith)
≤_in {x = negsuc a} {y = pos b} h = record { le = tt }
≤_in {x = negsuc a} {y = negsuc b} h = record { le = le→leb b a (omega arith) }

pub <_out : {x y : ℤ} → x <ℤ y → plus x + minus y < plus y + minus x
<_out {x = pos a} {y = pos b} h = omega (arith, ltb→lt a b h.lt)
<_out {x = pos a} {y = negsuc b} h = absurd h.lt
<_out {x = negsuc a} {y = pos b} h = omega arith
<_out {x = negsuc a} {y = negsuc b} h = omega (arith, ltb→lt b a h.lt)

pub <_in : {x y : ℤ} → plus x + minus y < plus y + minus x → x <ℤ y
<_in {x = pos a} {y = pos b} h = record { lt = lt→ltb a b (omega arith) }
<_in {x = pos a} {y = negsuc b} h = absurd (omega arith)
<_in {x = negsuc a} {y = pos b} h = record { lt = tt }
<_in {x = negsuc a} {y = negsuc b} h = record { lt = lt→ltb b a (omega arith) }

pub ≡_out : {x y : ℤ} → x ≡ y → plus x + minus y ≡ plus y + minus x
≡_out {x} {y} e = subst (λ (z : ℤ). plus x + minus z ≡ plus z + minus x) e refl

pub ≡_in : {x y : ℤ} → plus x + minus y ≡ plus y + minus x → x ≡ y
≡_in {x = pos a} {y = pos b} h = ap pos (omega arith)
≡_in {x = pos a} {y = negsuc b} h = absurd (omega arith)
≡_in {x = negsuc a} {y = pos b} h = absurd (omega arith)
≡_in {x = negsuc a} {y = negsuc b} h = ap negsuc (omega arith)

-- ---- the operations, by the parts
pub cond_by : (c : Bool) (x y : ℤ) (P : ℤ → Type 0) → (T c → P x) → (T (not c) → P y) → P (cond c x y)
cond_by true x y P f g = f tt
cond_by false x y P f g = g tt

-- what a test chooses, by its two cases
pub choice_by : {A : Type 0} (P : A → Type 0) (c : Bool) {x y : A} → (T c → P x) → (T (not c) → P y) → P (elim c as (λ z. A) [ true ↦ x | false ↦ y ])
choice_by P true f g = f tt
choice_by P false f g = g tt

sub_ℕ_diff : (a b : ℕ) → Diff (sub_ℕ a b) a b
sub_ℕ_diff a b =
    cond_by (ltb a b) (negsuc (b - suc a)) (pos (a - b)) (λ z. Diff z a b)
    (λ t. let h = ltb→lt a b t in record { is = omega arith }) (λ t. let h = nltb→le a b t in record { is = omega arith })

pub self_diff : (x : ℤ) → Diff x (plus x) (minus x)
self_diff x = record { is = refl }

pub as_diff : {x : ℤ} {a b c d : ℕ} → Diff x a b → a + d ≡ c + b → Diff x c d
as_diff h e = record { is = let k = h.is in omega arith }

pub neg_diff : {x : ℤ} {a b : ℕ} → Diff x a b → Diff (neg_ℤ x) b a
neg_diff {x = pos zero} h = record { is = let k = h.is in omega arith }
neg_diff {x = pos (suc x)} h = record { is = let k = h.is in omega arith }
neg_diff {x = negsuc x} h = record { is = let k = h.is in omega arith }

sum-parts : (x y : ℤ) → Diff (x +ℤ y) (plus x + plus y) (minus x + minus y)
sum-parts (pos a) (pos b) = record { is = omega arith }
sum-parts (pos a) (negsuc b) = as_diff (sub_ℕ_diff a (suc b)) (omega arith)
sum-parts (negsuc a) (pos b) = as_diff (sub_ℕ_diff b (suc a)) (omega arith)
sum-parts (negsuc a) (negsuc b) = record { is = omega arith }

pub sum_diff : {x y : ℤ} {a b c d : ℕ} → Diff x a b → Diff y c d → Diff (x +ℤ y) (a + c) (b + d)
sum_diff {x} {y} h k = as_diff (sum-parts x y) (omega (arith, h.is, k.is))

product_parts : (x y : ℤ) → Diff (x *ℤ y) (plus x * plus y + minus x * minus y) (plus x * minus y + minus x * plus y)
product_parts (pos a) (pos b) = record { is = omega arith }
product_parts (pos a) (negsuc b) = as_diff (neg_diff (self_diff (pos (a * suc b)))) (omega arith)
product_parts (negsuc a) (pos b) = as_diff (neg_diff (self_diff (pos (suc a * b)))) (omega arith)
product_parts (negsuc a) (negsuc b) = record { is = omega arith }

cross : (p m b a p' m' d c : ℕ) → p + b ≡ a + m → p' + d ≡ c + m' →
    p * p' + m * m' + (a * d + b * c) ≡ a * c + b * d + (p * m' + m * p')
cross p m b a p' m' d c h k =
    omega (arith, ap (λ (z : ℕ). z * p') h, ap (λ (z : ℕ). z * m') h, ap (λ (z : ℕ). a * z) k, ap (λ (z : ℕ). b * z) k)

pub product_diff : {x y : ℤ} {a b c d : ℕ} → Diff x a b → Diff y c d → Diff (x *ℤ y) (a * c + b * d) (a * d + b * c)
product_diff {x} {y} {a} {b} {c} {d} h k =
    as_diff (product_parts x y) (cross (plus x) (minus x) b a (plus y) (minus y) d c h.is k.is)

pub ≡_diff : {x y : ℤ} {a b c d : ℕ} → Diff x a b → Diff y c d → a + d ≡ c + b → x ≡ y
≡_diff h k e = ≡_in (omega (arith, h.is, k.is))

-- ---- the ring laws that lib.IntN lacks
pub *ℤ_assoc : (x y z : ℤ) → (x *ℤ y) *ℤ z ≡ x *ℤ (y *ℤ z)
*ℤ_assoc x y z =
    let X = self_diff x in let Y = self_diff y in let Z = self_diff z in
    ≡_diff (product_diff (product_diff X Y) Z) (product_diff X (product_diff Y Z)) (omega arith)

pub *ℤ_distrib : (x y z : ℤ) → x *ℤ (y +ℤ z) ≡ x *ℤ y +ℤ x *ℤ z
*ℤ_distrib x y z =
    let X = self_diff x in let Y = self_diff y in let Z = self_diff z in
    ≡_diff (product_diff X (sum_diff Y Z)) (sum_diff (product_diff X Y) (product_diff X Z)) (omega arith)

pub neg_ℤ_*ℤ : (x y : ℤ) → neg_ℤ x *ℤ y ≡ neg_ℤ (x *ℤ y)
neg_ℤ_*ℤ x y =
    let X = self_diff x in let Y = self_diff y in
    ≡_diff (product_diff (neg_diff X) Y) (neg_diff (product_diff X Y)) (omega arith)

-- ---- the order laws that lib.Signed lacks
pub ≤ℤ_trans : {x y z : ℤ} → x ≤ℤ y → y ≤ℤ z → x ≤ℤ z
≤ℤ_trans h k = ≤_in (omega (arith, ≤_out h, ≤_out k))

pub ≤ℤ_antisym : {x y : ℤ} → x ≤ℤ y → y ≤ℤ x → x ≡ y
≤ℤ_antisym h k = ≡_in (omega (arith, ≤_out h, ≤_out k))

pub ≤ℤ_or_<ℤ : (x y : ℤ) → (x ≤ℤ y) ⊎ (y <ℤ x)
≤ℤ_or_<ℤ x y = by_cases (dec_le (plus x + minus y) (plus y + minus x)) (λ h. inl (≤_in h)) (λ h. inr (<_in (omega arith)))

-- the test of an order
pub le_z_true : {x y : ℤ} → x ≤ℤ y → le_z x y ≡ true
le_z_true {x} {y} h = go (le_z x y) h.le
  where
    go : (b : Bool) → T b → b ≡ true
    go true t = refl
    go false t = absurd t

pub le_z_false : {x y : ℤ} → y <ℤ x → le_z x y ≡ false
le_z_false {x} {y} h = go (le_z x y) (λ t. clash_ℤ h (le_z_yes t))
  where
    go : (b : Bool) → (T b → ⊥) → b ≡ false
    go true f = absurd (f tt)
    go false f = refl

pub +ℤ_mono : {x y z w : ℤ} → x ≤ℤ y → z ≤ℤ w → (x +ℤ z) ≤ℤ (y +ℤ w)
+ℤ_mono {x} {y} {z} {w} h k = ≤_in (omega (arith, ≤_out h, ≤_out k, (sum-parts x z).is, (sum-parts y w).is))

pub *ℤ-nonneg : {x y : ℤ} → pos 0 ≤ℤ x → pos 0 ≤ℤ y → pos 0 ≤ℤ (x *ℤ y)
*ℤ-nonneg {x = pos a} {y = pos b} h k = ≤_in (omega arith)
*ℤ-nonneg {x = pos a} {y = negsuc b} h k = absurd k.le
*ℤ-nonneg {x = negsuc a} {y = y} h k = absurd h.le

pub square_nonneg : (x : ℤ) → pos 0 ≤ℤ (x *ℤ x)
square_nonneg (pos a) = ≤_in (omega arith)
square_nonneg (negsuc a) = ≤_in (omega arith)

-- the difference of two integers
pub minus_diff : (x y : ℤ) → Diff (y -ℤ x) (plus y + minus x) (minus y + plus x)
minus_diff x y = sum_diff (self_diff y) (neg_diff (self_diff x))

pub gap-nonneg : {x y : ℤ} → x ≤ℤ y → pos 0 ≤ℤ (y -ℤ x)
gap-nonneg {x} {y} h = ≤_in (omega (arith, ≤_out h, (minus_diff x y).is))

pub pos_nonneg : (k : ℕ) → pos 0 ≤ℤ pos k
pos_nonneg k = ≤_in (omega arith)
