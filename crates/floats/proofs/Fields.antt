-- What the fields of a float's bits say of its value.
use mathlib.Core.Path.{◌≡◌, refl, sym, ap, subst, ◌∙◌}
use mathlib.Core.Bool.{Bool, true, false, cond, not}
use Prim.Native.Nat.{ℕ, zero, suc, ◌+◌, ◌*◌, ◌/◌, ◌%◌, ◌^◌, ◌-◌, ◌≤◌, ◌<◌}
use native.Mathlib.Nat.{mul-le-mul_right, le_trans, lt_of_not-le, lt_irrefl, lt_of_lt_of_le}
use native.Mathlib.Omega.{arith}
use lib.Dec.{T, leb, eqb, ltb, ltb→lt, nltb→le}
use lib.IntN.{pos, nat_abs, ◌*ℤ◌}
use lib.Pow.{pow_pos, pow-lt, pow_mono, pow-add}
use lib.Ieee.{Float, nan, inf, fin, binary32, fits, of_fields, of_bits, to_bits, odd, is_nan}
use lib.Ieee.Bits.{of_bits-to_bits}
use lib.Ieee.Exact.{HasValue, odd_sign}
use Rattle.integers.proofs.Parts.{≤_in, choice_by}
use Rattle.floats.specs.Brackets.{signed, units_of, sixteenth, finite_within, whole_next_to}
use Rattle.floats.specs.Fields.{significand_of, places_of}
use Rattle.floats.proofs.Values.{units_is, units_within, size-signed}
use Rattle.floats.proofs.Product.{signed-times}
use Rattle.floats.proofs.Next.{next-scaled, next_far}

-- the fields of a bit pattern
abbrev pub negative : ℕ → Bool
negative bits = leb 2147483648 bits

abbrev pub exponent : ℕ → ℕ
exponent bits = bits % 2147483648 / 8388608

abbrev pub digits : ℕ → ℕ
digits bits = bits % 8388608

-- the value by the fields, in units: a field of 0 counts as one of 1
abbrev pub shift : ℕ → ℕ
shift zero = 0
shift (suc e) = e

shift_is : (e : ℕ) → shift e ≡ e - 1
shift_is zero = refl
shift_is (suc e) = omega arith

abbrev pub magnitude : ℕ → ℕ → ℕ
magnitude e t = significand_of e t * 2 ^ shift e

not_finite : (b : ℕ) (f g : Bool) (s : Bool) (t x : ℕ) → T (finite_within b (cond f (cond g (inf s) nan) (odd 24 s (8388608 + t) x 149)))
    → HasValue (cond f (cond g (inf s) nan) (odd 24 s (8388608 + t) x 149)) s ((8388608 + t) * 2 ^ x) (2 ^ 149)
unfolding finite_within
not_finite b true true s t x h = absurd h
not_finite b true false s t x h = absurd h
not_finite b false g s t x h = odd_sign 24 s (8388608 + t) x 149

of_fields_lem : (b : ℕ) (s : Bool) (e t : ℕ) → T (finite_within b (of_fields binary32 s e t)) → HasValue (of_fields binary32 s e t) s (magnitude e t) (2 ^ 149)
unfolding of_fields significand_of
of_fields_lem b s zero t h = odd_sign 24 s t 0 149
of_fields_lem b s (suc x) t h = not_finite b (eqb (suc x) 255) (eqb t 0) s t x h

of_bits_lem : (b : ℕ) (x : Float) → T (fits binary32 x) → T (finite_within b x)
    → HasValue x (negative (to_bits binary32 x)) (magnitude (exponent (to_bits binary32 x)) (digits (to_bits binary32 x))) (2 ^ 149)
unfolding of_bits
of_bits_lem b x f h =
    let n = to_bits binary32 x in
    let e : of_bits binary32 n ≡ x = of_bits-to_bits binary32 x f in
    subst (λ (y : Float). HasValue y (negative n) (magnitude (exponent n) (digits n)) (2 ^ 149)) e
    (of_fields_lem b (negative n) (exponent n) (digits n) (subst (λ (y : Float). T (finite_within b y)) (sym e) h))

pub units_of_bits : (b : ℕ) (x : Float) → T (fits binary32 x) → T (finite_within b x)
    → units_of x ≡ signed (negative (to_bits binary32 x)) (magnitude (exponent (to_bits binary32 x)) (digits (to_bits binary32 x)))
units_of_bits b x f h =
    let n = to_bits binary32 x in
    units_is x (negative n) (magnitude (exponent n) (digits n)) (2 ^ 149) (magnitude (exponent n) (digits n)) f (pow_pos 149) refl (of_bits_lem b x f h)

-- |x| ≤ 128 = 2^7 bounds the exponent's field
bounded : (e t : ℕ) → magnitude e t ≤ 128 * 2 ^ 149 → e ≤ 134
unfolding significand_of
bounded zero t h = omega arith
bounded (suc k) t h =
    let l : 2 ^ (23 + k) ≤ 2 ^ 156 =
    subst (λ (z : ℕ). z ≤ 2 ^ 156) (sym (pow-add 2 23 k)) (le_trans (mul-le-mul_right (2 ^ k) (omega arith)) h) in
    let m : k < 134 = lt_of_not-le (λ (n : 134 ≤ k). lt_irrefl (2 ^ 156) (lt_of_lt_of_le (pow-lt {i = 156} {j = 23 + k} (omega arith)) l)) in
    omega arith

pub exponent-bounded : (x : Float) → T (fits binary32 x) → T (finite_within 128 x) → exponent (to_bits binary32 x) ≤ 134
exponent-bounded x f h =
    let n = to_bits binary32 x in
    bounded (exponent n) (digits n)
    (subst (λ (z : ℕ). z ≤ 128 * 2 ^ 149) (ap nat_abs (units_of_bits 128 x f h) ∙ size-signed (negative n) (magnitude (exponent n) (digits n)))
    (units_within 128 x f h))

pub significand_small : (e t : ℕ) → t < 2 ^ 23 → significand_of e t < 2 ^ 24
unfolding significand_of
significand_small zero t h = omega arith
significand_small (suc e) t h = omega arith

-- ---- from the units to the digits and the places behind the point
-- ±q·2^k / 2^149 is ±q / 2^j
shifted : (s : Bool) (q k j : ℕ) → k + j ≡ 149 → whole_next_to (signed s (q * 2 ^ k)) (pos 16 *ℤ sixteenth) ≡ whole_next_to (signed s q) (pos (2 ^ j))
unfolding sixteenth
shifted s q k j e =
    let d : 2 ^ 149 ≡ 2 ^ k * 2 ^ j = ap (λ (z : ℕ). 2 ^ z) (sym e) ∙ pow-add 2 k j in
    ap (λ z. whole_next_to z (pos (2 ^ 149))) (signed-times s q (2 ^ k))
    ∙ ap (λ (z : ℕ). whole_next_to (pos (2 ^ k) *ℤ signed s q) (pos z)) d
    ∙ next-scaled (pos (2 ^ k)) (signed s q) (pos (2 ^ j)) (≤_in (omega (arith, pow_pos k))) (≤_in (omega (arith, pow_pos j)))

pub places_by : (e : ℕ) (P : ℕ → Type 0) → (e < 126 → P 24) → (126 ≤ e → P (150 - e)) → P (places_of e)
unfolding places_of
places_by e P f g = choice_by P (ltb e 126) (λ t. f (ltb→lt e 126 t)) (λ t. g (nltb→le e 126 t))

pub places_small : (e : ℕ) → places_of e ≤ 24
places_small e = places_by e (λ z. z ≤ 24) (λ h. omega arith) (λ h. omega arith)

-- past 24 places it plays no part how many there are
pub cut_at : (s : Bool) (e t : ℕ) → t < 2 ^ 23 → e ≤ 134
    → whole_next_to (signed s (magnitude e t)) (pos 16 *ℤ sixteenth) ≡ whole_next_to (signed s (significand_of e t)) (pos (2 ^ places_of e))
cut_at s e t h l =
    let q = significand_of e t in
    let j = 149 - shift e in
    let small : nat_abs (signed s q) < 2 ^ 24 = subst (λ (z : ℕ). z < 2 ^ 24) (sym (size-signed s q)) (significand_small e t h) in
    places_by e (λ z. whole_next_to (signed s (q * 2 ^ shift e)) (pos 16 *ℤ sixteenth) ≡ whole_next_to (signed s q) (pos (2 ^ z)))
    (λ k.
    shifted s q (shift e) j (omega (arith, shift_is e))
    ∙ sym (next_far (signed s q) (2 ^ 24) (2 ^ j) small (pow_mono {i = 24} {j = j} (omega (arith, shift_is e)))))
    (λ k. shifted s q (shift e) (150 - e) (omega (arith, shift_is e)))

pub no_nan : (b : ℕ) (x : Float) → T (finite_within b x) → T (not (is_nan x))
unfolding finite_within is_nan
no_nan b nan h = h
no_nan b (inf s) h = tt
no_nan b (fin s m e) h = tt
