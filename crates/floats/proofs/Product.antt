-- Where a 32-bit float is from -8 to 8, its product with 16 loses nothing.
use mathlib.Core.Path.{◌≡◌, refl, sym, ap, subst, ◌∙◌}
use mathlib.Core.List.{[], ◌∷◌}
use mathlib.Core.Bool.{Bool, true, false}
use Prim.Native.Nat.{ℕ, ◌+◌, ◌*◌, ◌^◌, ◌≤◌, ◌<◌}
use native.Mathlib.Nat.{mul_assoc, mul-one, mul_right_comm, mul-le-mul_right, lt_of_le_of_lt}
use lib.Dec.{T, leb→le, lit<}
use lib.IntN.{ℤ, pos, ◌*ℤ◌}
use lib.Pow.{pow-add}
use lib.Ieee.{Float, nan, inf, fin, binary32, up, down, fits, mul, unlike}
use lib.Ieee.Fits.{down_pos, mul-fits}
use lib.Ieee.Exact.{HasValue, round_exact}
use Rattle.integers.proofs.Solver.{ring, solver}
use Rattle.floats.specs.Brackets.{signed, units_of, finite_within, in_range}
use Rattle.floats.proofs.Values.{whole, few_units, units_is, within_is}

-- p is finite, and its exact value is 16 times that of x
pub record Sixteenfold (x p : Float) : Type 0 where
  pub units : units_of p ≡ pos 16 *ℤ units_of x
  pub within : T (finite_within 128 p)

-- 16.0
abbrev pub sixteen : Float
sixteen = fin false 1 (pos 4)

like_itself : (s : Bool) → unlike s false ≡ s
like_itself true = refl
like_itself false = refl

-- a product that the format holds is its exact value: 16·m·2^e
exact_product : (s : Bool) (m : ℕ) (e : ℤ) → T (fits binary32 (fin s m e)) → m * up e ≤ 8 * down e
    → HasValue (mul binary32 (fin s m e) sixteen) s (m * up e * 16) (down e)
unfolding mul
exact_product s m e f h =
    let w = whole s m e f in
    let j = w.places in
    let p = mul binary32 (fin s m e) sixteen in
    let one : down e * 1 ≡ down e = mul-one (down e) in
    let units : m * up e * 16 * 2 ^ 149 ≡ m * 2 ^ (j + 4) * down e =
    mul_right_comm (m * up e) 16 (2 ^ 149)
    ∙ ap (λ (z : ℕ). z * 16) w.value
    ∙ mul_right_comm (m * 2 ^ j) (down e) 16
    ∙ ap (λ (z : ℕ). z * down e) (mul_assoc m (2 ^ j) 16 ∙ ap (λ (z : ℕ). m * z) (sym (pow-add 2 j 4))) in
    let fine : m * 2 ^ (j + 4) < 2 ^ 277 =
    subst (λ (z : ℕ). z < 2 ^ 277) (mul_assoc m (2 ^ j) 16 ∙ ap (λ (z : ℕ). m * z) (sym (pow-add 2 j 4)))
    (lt_of_le_of_lt (mul-le-mul_right 16 (few_units 8 m e w h)) (lit< tt)) in
    subst (λ (z : Bool). HasValue p z (m * up e * 16) (down e)) (like_itself s)
    (subst (λ (z : ℕ). HasValue p (unlike s false) (m * up e * 16) z) one
    (round_exact binary32 (unlike s false) (m * up e * 16) (down e * 1) m (j + 4) (subst (λ (z : ℕ). 0 < z) (sym one) (down_pos e)) w.small fine
    (units ∙ ap (λ (z : ℕ). m * 2 ^ (j + 4) * z) (sym one))))

-- 16·(±n)
pub signed-times : (s : Bool) (n k : ℕ) → signed s (n * k) ≡ pos k *ℤ signed s n
unfolding signed
signed-times true n k = ring (pos n ∷ pos k ∷ []) (search solver depth 40 fits 20000) refl
signed-times false n k = ring (pos n ∷ pos k ∷ []) (search solver depth 40 fits 20000) refl

pub nothing_lost : (x : Float) → T (fits binary32 x) → T (in_range x) → Sixteenfold x (mul binary32 x sixteen)
unfolding in_range finite_within
nothing_lost nan f h = absurd h
nothing_lost (inf s) f h = absurd h
nothing_lost (fin s m e) f h =
    let x = fin s m e in
    let p = mul binary32 x sixteen in
    let w = whole s m e f in
    let n = m * 2 ^ w.places in
    let l = leb→le (m * up e) (8 * down e) h in
    let v = exact_product s m e f l in
    record {
      units =
          units_is p s (m * up e * 16) (down e) (n * 16) (mul-fits binary32 x sixteen) (down_pos e)
          (mul_right_comm (m * up e) 16 (2 ^ 149) ∙ ap (λ (z : ℕ). z * 16) w.value ∙ mul_right_comm n (down e) 16) v
          ∙ signed-times s n 16
          ∙ ap (λ z. pos 16 *ℤ z) (sym (units_is x s (m * up e) (down e) n f (down_pos e) w.value (refl, refl)));
      within =
          within_is 128 p s (m * up e * 16) (down e) (down_pos e)
          (subst (λ (z : ℕ). m * up e * 16 ≤ z) (mul_right_comm 8 (down e) 16) (mul-le-mul_right 16 l)) v;
    }
