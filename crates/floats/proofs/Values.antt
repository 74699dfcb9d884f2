-- What a float that 32 bits hold is worth: its value in units of 2^-149 is exact, and any fraction that it equals gives these units.
use mathlib.Core.Path.{◌≡◌, refl, sym, ap, ap₂, subst, ◌∙◌}
use mathlib.Core.Bool.{Bool, true, false, cond, ◌&&◌}
use Prim.Native.Nat.{ℕ, zero, suc, ◌+◌, ◌*◌, ◌-◌, ◌^◌, ◌%◌, ◌≤◌, ◌<◌}
use native.Mathlib.Nat.{zero-mul, mul-one, mul_assoc, mul_comm, mul_right_comm, mul-pos, mul-le-mul_right, le_of_mul-le-mul_right, eq_of_mul-eq-mul_right, lt_of_not-le, lt_irrefl, lt_of_lt_of_le}
use native.Mathlib.Omega.{arith}
use lib.Dec.{T, leb, ltb, eqb, leb→le, ltb→lt, le→leb, lit<}
use lib.IntN.{ℤ, pos, negsuc, nat_abs, ◌+ℤ◌}
use lib.Pow.{pow-lt, pow-add}
use lib.Ieee.{Float, nan, inf, fin, binary32, up, down, fits}
use lib.Ieee.Fits.{down_pos, and_l, and_r}
use lib.Ieee.Exact.{HasValue}
use borrow.Author.Tests.{le-ltb}
use Rattle.floats.specs.Brackets.{signed, units_of, finite_within}

-- m·2^e is m·2^places units
pub record Whole (m : ℕ) (e : ℤ) : Type 0 where
  pub places : ℕ
  pub units : m * up (e +ℤ pos 149) ≡ m * 2 ^ places
  pub value : m * up e * 2 ^ 149 ≡ m * 2 ^ places * down e
  pub small : m < 2 ^ 24

-- the exponent of such a float is -149 at least
not_above : (k : ℕ) → 2 ^ suc k ≤ 2 ^ 149 → suc k ≤ 149
not_above k h =
    let l : suc k < 150 = lt_of_not-le (λ (n : 150 ≤ suc k). lt_irrefl (2 ^ 149) (lt_of_lt_of_le (pow-lt {i = 149} {j = suc k} (omega arith)) h)) in
    omega arith

from-exponent : (m : ℕ) (e : ℤ) → m < 2 ^ 24 → down e ≤ 2 ^ 149 → Whole m e
from-exponent m (pos k) s h = record {
  places = k + 149;
  units = refl;
  value = mul_assoc m (2 ^ k) (2 ^ 149) ∙ ap (λ (z : ℕ). m * z) (sym (pow-add 2 k 149)) ∙ sym (mul-one (m * 2 ^ (k + 149)));
  small = s;
}
from-exponent m (negsuc k) s h =
    let l : suc k ≤ 149 = not_above k h in
    let e : 149 - suc k + suc k ≡ 149 = omega arith in
    record {
      places = 149 - suc k;
      units = ap (λ (b : Bool). m * up (cond b (negsuc (suc k - 150)) (pos (149 - suc k)))) (le-ltb 149 (suc k) l);
      value =
          ap (λ (z : ℕ). z * 2 ^ 149) (mul-one m)
          ∙ ap (λ (z : ℕ). m * z) (ap (λ (z : ℕ). 2 ^ z) (sym e) ∙ pow-add 2 (149 - suc k) (suc k))
          ∙ sym (mul_assoc m (2 ^ (149 - suc k)) (2 ^ suc k));
      small = s;
    }

pub whole : (s : Bool) (m : ℕ) (e : ℤ) → T (fits binary32 (fin s m e)) → Whole m e
unfolding fits
whole s zero e f = record {
  places = 0;
  units = zero-mul (up (e +ℤ pos 149));
  value = ap (λ (z : ℕ). z * 2 ^ 149) (zero-mul (up e)) ∙ sym (zero-mul (down e));
  small = lit< tt;
}
whole s (suc m) e f =
    let a = eqb (suc m % 2) 1 in
    let b = ltb (suc m) (2 ^ 24) in
    let c = leb (down e) (2 ^ 149) in
    let abc = and_l (a && b && c) (ltb (suc m * up e) (2 ^ 128 * down e)) f in
    from-exponent (suc m) e (ltb→lt (suc m) (2 ^ 24) (and_r a b (and_l (a && b) c abc))) (leb→le (down e) (2 ^ 149) (and_r (a && b) c abc))

-- v c = a d and v w = n d, with a w = u c, say n = u
same_units : (v d a c w u n : ℕ) → 0 < d → 0 < c → v * c ≡ a * d → v * w ≡ n * d → a * w ≡ u * c → n ≡ u
same_units v d a c w u n dp cp h k l =
    eq_of_mul-eq-mul_right (d * c) (mul-pos dp cp) n u
    (sym (mul_assoc n d c)
    ∙ ap (λ (z : ℕ). z * c) (sym k)
    ∙ mul_right_comm v w c
    ∙ ap (λ (z : ℕ). z * w) h
    ∙ mul_right_comm a d w
    ∙ ap (λ (z : ℕ). z * d) l
    ∙ mul_assoc u c d
    ∙ ap (λ (z : ℕ). u * z) (mul_comm c d))

-- the units are those of every fraction a / c that x is: a·2^149 / c
pub units_is : (x : Float) (s : Bool) (a c u : ℕ) → T (fits binary32 x) → 0 < c → a * 2 ^ 149 ≡ u * c → HasValue x s a c → units_of x ≡ signed s u
unfolding units_of
units_is nan s a c u f p h v = absurd v
units_is (inf t) s a c u f p h v = absurd v
units_is (fin t m e) s a c u f p h v =
    let w = whole t m e f in
    ap₂ signed v.0 (w.units ∙ same_units (m * up e) (down e) a c (2 ^ 149) u (m * 2 ^ w.places) (down_pos e) p v.1 w.value h)

-- |a / c| ≤ b
pub within_is : (b : ℕ) (x : Float) (s : Bool) (a c : ℕ) → 0 < c → a ≤ b * c → HasValue x s a c → T (finite_within b x)
unfolding finite_within
within_is b nan s a c p h v = v
within_is b (inf t) s a c p h v = v
within_is b (fin t m e) s a c p h v =
    le→leb (m * up e) (b * down e)
    (le_of_mul-le-mul_right {k = c}
    (subst (λ (z : ℕ). z ≤ b * down e * c) (sym v.1) (subst (λ (z : ℕ). a * down e ≤ z) (mul_right_comm b c (down e)) (mul-le-mul_right (down e) h)))
    p)

-- m·2^e ≤ b is at most b·2^149 units
pub few_units : (b m : ℕ) (e : ℤ) (w : Whole m e) → m * up e ≤ b * down e → m * 2 ^ w.places ≤ b * 2 ^ 149
few_units b m e w h =
    le_of_mul-le-mul_right {k = down e}
    (subst (λ (z : ℕ). z ≤ b * 2 ^ 149 * down e) w.value
    (subst (λ (z : ℕ). m * up e * 2 ^ 149 ≤ z) (mul_right_comm b (down e) (2 ^ 149)) (mul-le-mul_right (2 ^ 149) h)))
    (down_pos e)

-- |±n|
pub size-signed : (s : Bool) (n : ℕ) → nat_abs (signed s n) ≡ n
unfolding signed
size-signed false n = refl
size-signed true zero = refl
size-signed true (suc n) = refl

-- |x| ≤ b, in units
pub units_within : (b : ℕ) (x : Float) → T (fits binary32 x) → T (finite_within b x) → nat_abs (units_of x) ≤ b * 2 ^ 149
unfolding finite_within units_of
units_within b nan f h = absurd h
units_within b (inf s) f h = absurd h
units_within b (fin s m e) f h =
    let w = whole s m e f in
    subst (λ (z : ℕ). z ≤ b * 2 ^ 149) (sym (size-signed s (m * up (e +ℤ pos 149)) ∙ w.units))
    (few_units b m e w (leb→le (m * up e) (b * down e) h))

-- the units lose nothing: m·2^e is |units_of x| / 2^149
pub units_exact : (s : Bool) (m : ℕ) (e : ℤ) → T (fits binary32 (fin s m e)) → m * up e * 2 ^ 149 ≡ nat_abs (units_of (fin s m e)) * down e
unfolding units_of
units_exact s m e f =
    let w = whole s m e f in
    w.value ∙ ap (λ (z : ℕ). z * down e) (sym (size-signed s (m * up (e +ℤ pos 149)) ∙ w.units))
