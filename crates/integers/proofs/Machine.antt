-- Signed machine numbers of 64 bits. A goal about code shows `to_z w64 (of_z w64 x)` where x is meant, and tests as Bools: these words take both away.
--
--   clean c.fits.x            a parameter x                     clean-result c.callee    a call's result
--   clean-element z (c .. .given) an element z that was just read   clean (need c)              a sum or product whose own need is answered
--   lt_yes, lt_no, le_yes, le-no  what a test of two numbers says   lt-holds, lt-fails          the same, of a loop's locals
--   same_bits                     what x == y says
--   as-usize, read-i64            casts                             fits, fits-within           that a result fits, from its size
--
-- Rewrite from the outside in: `clean (need c) ∙ simp (..)`. Sizes are in ℕ: `Within m x` says |x| ≤ m, and adds up by `within-+`, `within-*`, `within-sum`.
use mathlib.Core.Path.{◌≡◌, refl, sym, ◌∙◌, ap, subst}
use mathlib.Core.Bool.{Bool, true, false, not}
use mathlib.Core.List.{List}
use Prim.Native.Nat.{ℕ, zero, suc, ◌+◌, ◌*◌, ◌-◌, ◌^◌, ◌≤◌, ◌<◌}
use native.Mathlib.Nat.{lt_trans, mul-le-mul}
use native.Mathlib.Omega.{arith}
use lib.Dec.{T, ltb, ltb→lt, nltb→le, lit<}
use lib.IntN.{ℤ, pos, negsuc, neg_ℤ, nat_abs, sub_ℕ, ◌+ℤ◌, ◌-ℤ◌, ◌*ℤ◌}
use lib.Signed.{◌≤ℤ◌, ◌<ℤ◌, le_z, lt_z, mag, lt_z_no, non_neg}
use mir.Syntax.{w64}
use mir.Val.{SFits, Fits, to_z, of_z}
use mir.ValLaws.{to_z-of_z, to_z_pos}
use borrow.Author.Called.{Called}
use borrow.Fn.Kind.{ParamKind}
use borrow.Fn.Kinds.{Out, r_s_num}
use borrow.Fn.Args.{ArgsT}
use borrow.Table.Row.{Cx}
use borrow.Table.Typed.{Mo}
use borrow.Author.Tests.{leb-false}
use Rattle.integers.specs.Sum.{sum}
use Rattle.integers.specs.Numbers.{Within}
use Rattle.integers.specs.Division.{floor_div}
use Rattle.integers.proofs.Parts.{≤_out, ≤_in, <_out, <_in, ≡_out, ≡_in, cond_by}
use Rattle.integers.proofs.Division.{floor_size, flip}

-- ---- sizes
size-neg : (x : ℤ) → nat_abs (neg_ℤ x) ≡ nat_abs x
size-neg (pos zero) = refl
size-neg (pos (suc n)) = refl
size-neg (negsuc n) = refl

size_sub : (a b : ℕ) → nat_abs (sub_ℕ a b) ≤ a + b
size_sub a b =
    cond_by (ltb a b) (negsuc (b - suc a)) (pos (a - b)) (λ z. nat_abs z ≤ a + b)
    (λ t. let h = ltb→lt a b t in omega arith) (λ t. let h = nltb→le a b t in omega arith)

size-+ : (x y : ℤ) → nat_abs (x +ℤ y) ≤ nat_abs x + nat_abs y
size-+ (pos a) (pos b) = omega arith
size-+ (pos a) (negsuc b) = size_sub a (suc b)
size-+ (negsuc a) (pos b) = omega (arith, size_sub b (suc a))
size-+ (negsuc a) (negsuc b) = omega arith

size-* : (x y : ℤ) → nat_abs (x *ℤ y) ≡ nat_abs x * nat_abs y
size-* (pos a) (pos b) = refl
size-* (pos a) (negsuc b) = size-neg (pos (a * suc b))
size-* (negsuc a) (pos b) = size-neg (pos (suc a * b))
size-* (negsuc a) (negsuc b) = refl

pub within_more : {m k : ℕ} {x : ℤ} → m ≤ k → Within m x → Within k x
within_more h w = record { size = omega (arith, w.size) }

pub within-neg : {m : ℕ} {x : ℤ} → Within m x → Within m (neg_ℤ x)
within-neg {x = x} w = record { size = omega (arith, size-neg x, w.size) }

pub within-+ : {m k : ℕ} {x y : ℤ} → Within m x → Within k y → Within (m + k) (x +ℤ y)
within-+ {x = x} {y = y} v w = record { size = omega (arith, size-+ x y, v.size, w.size) }

pub within-- : {m k : ℕ} {x y : ℤ} → Within m x → Within k y → Within (m + k) (x -ℤ y)
within-- v w = within-+ v (within-neg w)

pub within-* : {m k : ℕ} {x y : ℤ} → Within m x → Within k y → Within (m * k) (x *ℤ y)
within-* {x = x} {y = y} v w = record { size = omega (arith, size-* x y, mul-le-mul v.size w.size) }

pub within-sum : (n m : ℕ) (f : ℕ → ℤ) → ((i : ℕ) → i < n → Within m (f i)) → Within (n * m) (sum n f)
unfolding sum
within-sum zero m f h = record { size = omega arith }
within-sum (suc n) m f h = within_more (omega arith) (within-+ (within-sum n m f (λ i k. h i (omega arith))) (h n (omega arith)))

pub within_floor : {m : ℕ} {a : ℤ} (d : ℤ) → Within m a → Within m (floor_div a d)
within_floor {a = a} d w = record { size = omega (arith, floor_size a d, w.size) }

-- |x| ≤ m, in ℤ
pub within_in : {m : ℕ} {x : ℤ} → neg_ℤ (pos m) ≤ℤ x → x ≤ℤ pos m → Within m x
within_in {m = zero} {x = pos a} h k = record { size = omega (arith, ≤_out k) }
within_in {m = zero} {x = negsuc a} h k = absurd h.le
within_in {m = suc m} {x = pos a} h k = record { size = omega (arith, ≤_out k) }
within_in {m = suc m} {x = negsuc a} h k = record { size = omega (arith, ≤_out h) }

pub within-high : {m : ℕ} {x : ℤ} → Within m x → x ≤ℤ pos m
within-high {x = pos a} w = ≤_in (omega (arith, w.size))
within-high {x = negsuc a} w = ≤_in (omega arith)

pub within_low : {m : ℕ} {x : ℤ} → Within m x → neg_ℤ (pos m) ≤ℤ x
within_low {m = zero} {x = pos a} w = ≤_in (omega arith)
within_low {m = suc m} {x = pos a} w = ≤_in (omega arith)
within_low {m = zero} {x = negsuc a} w = absurd (omega (arith, w.size))
within_low {m = suc m} {x = negsuc a} w = ≤_in (omega (arith, w.size))

-- ---- what fits 64 bits
pub fits : {z : ℤ} → nat_abs z < 2 ^ 63 → SFits w64 z
fits {z = pos n} h = record { sfits = h }
fits {z = negsuc n} h = record { sfits = omega arith }

pub fits_within : {m : ℕ} {z : ℤ} → Within m z → m < 2 ^ 63 → SFits w64 z
fits_within w h = fits (omega (arith, w.size))

pub within_fits : {z : ℤ} → SFits w64 z → Within (2 ^ 63) z
within_fits {z = pos n} h = let p = h.sfits in record { size = omega arith }
within_fits {z = negsuc n} h = let p = h.sfits in record { size = omega arith }

-- a literal: `fits-literal tt : SFits w64 (pos 5)`
pub fits_literal : {z : ℤ} → T (ltb (mag z) (2 ^ 63)) → SFits w64 z
fits_literal {z} t = record { sfits = ltb→lt (mag z) (2 ^ 63) t }

-- ---- what the machine reads back
pub clean : {z : ℤ} → SFits w64 z → to_z w64 (of_z w64 z) ≡ z
clean {z} f = to_z-of_z w64 z f

pub clean_element : (z : ℤ) → mag z < 2 ^ 63 → to_z w64 (of_z w64 z) ≡ z
clean_element z h = to_z-of_z w64 z (record { sfits = h })

pub clean_result : {n : ℕ} {ps : List (ParamKind n)} {Q : Out n ps (r_s_num w64)} {Γ : Cx} {ar : ArgsT ps Γ.locals} {u : Mo Γ}
    (k : Called ps (r_s_num w64) Q Γ ar u) → to_z w64 (of_z w64 k.result) ≡ k.result
clean_result k = to_z-of_z w64 k.result (record { sfits = k.type_inv })

-- ---- tests: of numbers as they stand, as a loop's locals are, and of numbers that the machine reads back
pub lt_holds : {x y : ℤ} → lt_z x y ≡ true → x <ℤ y
lt_holds t = record { lt = subst T (sym t) tt }

pub lt_fails : {x y : ℤ} → lt_z x y ≡ false → y ≤ℤ x
lt_fails t = lt_z_no (subst (λ (b : Bool). T (not b)) (sym t) tt)

module _ {x y : ℤ} (f : SFits w64 x) (g : SFits w64 y) where
  pub lt_yes : lt_z (to_z w64 (of_z w64 x)) (to_z w64 (of_z w64 y)) ≡ true → x <ℤ y
  lt_yes t = lt_holds (rw (clean f, clean g) at t)

  pub lt_no : lt_z (to_z w64 (of_z w64 x)) (to_z w64 (of_z w64 y)) ≡ false → y ≤ℤ x
  lt_no t = lt_fails (rw (clean f, clean g) at t)

  pub le_yes : le_z (to_z w64 (of_z w64 x)) (to_z w64 (of_z w64 y)) ≡ true → x ≤ℤ y
  le_yes t = record { le = subst T (sym (rw (clean f, clean g) at t)) tt }

  pub le_no : le_z (to_z w64 (of_z w64 x)) (to_z w64 (of_z w64 y)) ≡ false → y <ℤ x
  le_no t = failed x y (rw (clean f, clean g) at t)
    where
      failed : (a b : ℤ) → le_z a b ≡ false → b <ℤ a
      failed (pos a) (pos b) e = <_in (let h = leb-false a b e in omega arith)
      failed (pos a) (negsuc b) e = <_in (omega arith)
      failed (negsuc a) (pos b) e = absurd (subst T e tt)
      failed (negsuc a) (negsuc b) e = <_in (let h = leb-false b a e in omega arith)

  pub same_bits : of_z w64 x ≡ of_z w64 y → x ≡ y
  same_bits e = sym (clean f) ∙ ap (to_z w64) e ∙ clean g

-- ---- casts: `x as usize` of an i64 that is not negative, and `n as i64`
pub as_usize : {x : ℤ} → SFits w64 x → pos 0 ≤ℤ x → T (non_neg (to_z w64 (of_z w64 x))) × Fits w64 (nat_abs (to_z w64 (of_z w64 x)))
as_usize {x = pos n} f h = rw (clean f) (tt, record { fits = lt_trans f.sfits (lit< tt) })
as_usize {x = negsuc n} f h = absurd h.le

pub size_as_usize : {x : ℤ} → SFits w64 x → pos 0 ≤ℤ x → nat_abs (to_z w64 (of_z w64 x)) < 2 ^ 63
size_as_usize {x = pos n} f h = rw (clean f) f.sfits
size_as_usize {x = negsuc n} f h = absurd h.le

pub read_i64 : (n : ℕ) → n < 2 ^ 63 → to_z w64 n ≡ pos n
read_i64 n h = to_z_pos w64 n h

-- what `omega` reads of integers and of what fits
pub ruleset signed = (arith, ≤_out, <_out, ≡_out, ≤_in, <_in, ≡_in, fits)

-- ---- a division by a divisor from 1 up
pub divisor_bits : {d : ℤ} → pos 1 ≤ℤ d → 0 < of_z w64 d
divisor_bits {d = pos d} h = omega (arith, ≤_out h)
divisor_bits {d = negsuc d} h = absurd h.le

pub fits_flip : {a : ℤ} → SFits w64 a → SFits w64 (flip a)
fits_flip {a = pos n} f = record { sfits = f.sfits }
fits_flip {a = negsuc n} f = record { sfits = f.sfits }
