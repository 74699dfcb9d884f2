-- What the two comparisons with 8 say.
use mathlib.Core.Path.{◌≡◌, refl, sym, ap, ap₂, ◌∙◌}
use mathlib.Core.Bool.{Bool, true, false, ◌&&◌, ◌||◌}
use Prim.Native.Nat.{ℕ, ◌+◌, ◌*◌, ◌<◌}
use native.Mathlib.Nat.{mul-one}
use native.Mathlib.Omega.{arith}
use lib.Arith.{lt_of_le-ne}
use lib.Dec.{leb, ltb, eqb}
use lib.IntN.{pos}
use lib.Ieee.{Float, nan, inf, fin, up, down, lt, eq, le}
use lib.Ieee.Fits.{down_pos}
use borrow.Author.Tests.{ltb-true, ltb-false, lt-ltb, eqb-true, eqb-false, le-leb, lt-leb}
use Rattle.floats.specs.Brackets.{finite_within, in_range}

-- 8.0, and -8.0 where s is true
abbrev pub eight : Bool → Float
eight s = fin s 1 (pos 3)

-- a < b or b = a, and a < b or a = b
at_most : (a b : ℕ) (p : Bool) → (p ≡ true → a ≡ b) → (p ≡ false → a ≡ b → ⊥) → (ltb a b || p && true) ≡ leb a b
at_most a b p same other = go (ltb a b) refl p refl
  where
    go : (l : Bool) → ltb a b ≡ l → (q : Bool) → p ≡ q → (l || q && true) ≡ leb a b
    go true h q k = sym (le-leb a b (let l = ltb-true a b h in omega arith))
    go false h true k = sym (le-leb a b (let e = same k in omega arith))
    go false h false k = sym (lt-leb a b (lt_of_le-ne (ltb-false a b h) (λ e. other k (sym e))))

some : (n : ℕ) (p : Bool) → 0 < n → (ltb 0 n || p) ≡ true
some n p h = ap (λ (z : Bool). z || p) (lt-ltb 0 n h)

and_true : (p : Bool) → (p && true) ≡ p
and_true true = refl
and_true false = refl

-- each fails where x is a NaN or beyond its end
pub range_tests : (x : Float) → (le (eight true) x && le x (eight false)) ≡ in_range x
unfolding le lt eq in_range finite_within
range_tests nan = refl
range_tests (inf true) = refl
range_tests (inf false) = refl
range_tests (fin true m e) =
    let a = m * up e * 1 in
    let b = 8 * down e in
    ap₂ (λ (p q : Bool). p && q)
    (at_most a b (eqb b a) (λ h. sym (eqb-true b a h)) (λ h k. eqb-false b a h (sym k)))
    (some (a + b) _ (omega (arith, down_pos e)))
    ∙ and_true (leb a b)
    ∙ ap (λ (z : ℕ). leb z b) (mul-one (m * up e))
range_tests (fin false m e) =
    let a = m * up e * 1 in
    let b = 8 * down e in
    ap₂ (λ (p q : Bool). p && q)
    (some (b + a) _ (omega (arith, down_pos e)))
    (at_most a b (eqb a b) (eqb-true a b) (eqb-false a b))
    ∙ ap (λ (z : ℕ). leb z b) (mul-one (m * up e))
