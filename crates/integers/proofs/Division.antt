-- Laws of quotients rounded down and up, by a divisor from 1 up.
use mathlib.Core.Path.{◌≡◌, refl}
use mathlib.Core.List.{[], ◌∷◌}
use Prim.Native.Nat.{ℕ, ◌/◌, ◌≤◌, ◌<◌}
use native.Mathlib.Nat.{div-add-mod', mod-lt, div-le_self}
use native.Mathlib.Omega.{arith}
use lib.IntN.{ℤ, pos, negsuc, neg_ℤ, nat_abs, ◌+ℤ◌, ◌-ℤ◌, ◌*ℤ◌}
use lib.Signed.{◌≤ℤ◌, ◌<ℤ◌, mag, quot_z}
use Rattle.integers.specs.Division.{floor_div, ceil_div}
use Rattle.integers.proofs.Parts.{≤_in, <_in, ≡_in, ≤_out, <_out, ≤ℤ_antisym, *ℤ-nonneg, gap-nonneg, product_diff, sum_diff, minus_diff, self_diff}
use Rattle.integers.proofs.Solver.{◌&◌, order, solver}
use Rattle.integers.proofs.Order.{Between, <_suc, ≤_unless}

-- q is a / d rounded down: d q ≤ a < d (q + 1)
pub record IsFloor (a d q : ℤ) : Type 0 where
  pub low : (d *ℤ q) ≤ℤ a
  pub high : a <ℤ (d *ℤ (q +ℤ pos 1))

pub floor_law : (a d : ℤ) → pos 1 ≤ℤ d → IsFloor a d (floor_div a d)
unfolding floor_div
floor_law (pos a) (pos d) h =
    let k : 0 < d = omega (arith, ≤_out h) in
    record {
      low = ≤_in (omega (arith, div-add-mod' a d));
      high = <_in (omega (arith, div-add-mod' a d, mod-lt a k));
    }
floor_law (negsuc a) (pos d) h =
    let k : 0 < d = omega (arith, ≤_out h) in
    let q = self_diff (negsuc (a / d)) in
    record {
      low = ≤_in (omega (arith, div-add-mod' a d, mod-lt a k, (product_diff (self_diff (pos d)) q).is));
      high = <_in (omega (arith, div-add-mod' a d, mod-lt a k, (product_diff (self_diff (pos d)) (sum_diff q (self_diff (pos 1)))).is));
    }
floor_law a (negsuc d) h = absurd h.le

-- and it is the only one
pub floor_unique : {a d q r : ℤ} → pos 1 ≤ℤ d → IsFloor a d q → IsFloor a d r → q ≡ r
floor_unique {a} {d} h k l = ≤ℤ_antisym (below h k l) (below h l k)
  where
    below : {q r : ℤ} → pos 1 ≤ℤ d → IsFloor a d q → IsFloor a d r → q ≤ℤ r
    below {q} {r} h k l =
        ≤_unless (λ e. order (a ∷ d ∷ q ∷ r ∷ []) (*ℤ-nonneg (gap-nonneg h) (gap-nonneg (<_suc e)) & k.low & l.high & e)
        (search solver depth 40 fits 20000) (omega arith))

-- what is left over lies from 0 to d - 1
pub floor_rest : (a d : ℤ) → pos 1 ≤ℤ d → Between (pos 0) (a -ℤ d *ℤ floor_div a d) (d -ℤ pos 1)
floor_rest a d h =
    let f = floor_law a d h in
    record {
      low = order (a ∷ d ∷ floor_div a d ∷ []) f.low (search solver depth 40 fits 20000) (omega arith);
      high = order (a ∷ d ∷ floor_div a d ∷ []) f.high (search solver depth 40 fits 20000) (omega arith);
    }

-- it is no larger than a
pub floor_size : (a d : ℤ) → nat_abs (floor_div a d) ≤ nat_abs a
unfolding floor_div
floor_size (pos a) d = div-le_self a (nat_abs d)
floor_size (negsuc a) d = omega (arith, div-le_self a (nat_abs d))

-- q is a / d rounded up: d (q - 1) < a ≤ d q
pub record IsCeil (a d q : ℤ) : Type 0 where
  pub low : (d *ℤ (q -ℤ pos 1)) <ℤ a
  pub high : a ≤ℤ (d *ℤ q)

pub ceil_law : (a d : ℤ) → pos 1 ≤ℤ d → IsCeil a d (ceil_div a d)
unfolding ceil_div
ceil_law a d h =
    let f = floor_law (neg_ℤ a) d h in
    record {
      low = order (a ∷ d ∷ floor_div (neg_ℤ a) d ∷ []) f.high (search solver depth 40 fits 20000) (omega arith);
      high = order (a ∷ d ∷ floor_div (neg_ℤ a) d ∷ []) f.low (search solver depth 40 fits 20000) (omega arith);
    }

-- it is the least q with a ≤ d q
pub ceil_least : (a d q : ℤ) → pos 1 ≤ℤ d → a ≤ℤ (d *ℤ q) → ceil_div a d ≤ℤ q
ceil_least a d q h k =
    ≤_unless (λ e. order (a ∷ d ∷ q ∷ ceil_div a d ∷ []) (*ℤ-nonneg (gap-nonneg h) (gap-nonneg (<_suc e)) & (ceil_law a d h).low & k & e)
    (search solver depth 40 fits 20000) (omega arith))

pub ceil_unique : {a d q : ℤ} → pos 1 ≤ℤ d → IsCeil a d q → ceil_div a d ≡ q
ceil_unique {a} {d} {q} h k =
    ≤ℤ_antisym (ceil_least a d q h k.high)
    (≤_unless (λ e. order (a ∷ d ∷ q ∷ ceil_div a d ∷ []) (*ℤ-nonneg (gap-nonneg h) (gap-nonneg (<_suc e)) & (ceil_law a d h).high & k.low & e)
    (search solver depth 40 fits 20000) (omega arith)))

-- ---- the form that the code takes: by the magnitude, which is -1 - a where a is negative, and a elsewhere
abbrev pub flip : ℤ → ℤ
flip (pos n) = negsuc n
flip (negsuc n) = pos n

pub flip_is : (a : ℤ) → negsuc 0 -ℤ a ≡ flip a
flip_is (pos n) = ≡_in (omega (arith, (minus_diff (pos n) (negsuc 0)).is))
flip_is (negsuc n) = ≡_in (omega (arith, (minus_diff (negsuc n) (negsuc 0)).is))

pub quotient_is : (n : ℕ) {d : ℤ} → pos 1 ≤ℤ d → quot_z (pos n) d ≡ pos (n / nat_abs d)
quotient_is n {d = pos d} h = refl
quotient_is n {d = negsuc d} h = absurd h.le

pub mag-of-negative : {a : ℤ} → a <ℤ pos 0 → flip a ≡ pos (mag a)
mag-of-negative {a = pos n} h = absurd (omega (arith, <_out h))
mag-of-negative {a = negsuc n} h = refl

pub mag-of-nonneg : {a : ℤ} → pos 0 ≤ℤ a → a ≡ pos (mag a)
mag-of-nonneg {a = pos n} h = refl
mag-of-nonneg {a = negsuc n} h = absurd h.le

pub floor_of-negative : {a : ℤ} (d : ℤ) → a <ℤ pos 0 → negsuc (mag a / nat_abs d) ≡ floor_div a d
unfolding floor_div
floor_of-negative {a = pos n} d h = absurd (omega (arith, <_out h))
floor_of-negative {a = negsuc n} d h = refl

pub floor_of-nonneg : {a : ℤ} (d : ℤ) → pos 0 ≤ℤ a → pos (mag a / nat_abs d) ≡ floor_div a d
unfolding floor_div
floor_of-nonneg {a = pos n} d h = refl
floor_of-nonneg {a = negsuc n} d h = absurd h.le
