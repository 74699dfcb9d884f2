-- One of three, by an entry's sign.
use mathlib.Core.Path.{◌≡◌, refl, ap, ◌∙◌}
use mathlib.Core.Bool.{Bool, true, false}
use Prim.Native.Nat.{zero, suc}
use native.Mathlib.Omega.{arith}
use lib.IntN.{ℤ, pos, negsuc}
use lib.Signed.{lt_z}
use borrow.Author.Tests.{ltb-false}
use Rattle.tried.specs.Search.{by_sign}

module _ {A : Type 0} where
  abbrev pick : A → A → A → Bool → Bool → A
  pick x y z a b = elim a as (λ w. A) [ true ↦ y | false ↦ elim b as (λ w. A) [ true ↦ z | false ↦ x ] ]

  pub by_sign_lem : (e : ℤ) (P : A → Type 0) {x y z : A} → P x → P y → P z → P (by_sign e x y z)
  unfolding by_sign
  by_sign_lem e P {x} {y} {z} f g h = go (lt_z (pos 0) e) (lt_z e (pos 0))
    where
      go : (a b : Bool) → P (pick x y z a b)
      go true b = g
      go false true = h
      go false false = f

  module _ (e : ℤ) (x y z : A) where
    pub sign_above : lt_z (pos 0) e ≡ true → by_sign e x y z ≡ y
    unfolding by_sign
    sign_above s = ap (λ (a : Bool). pick x y z a (lt_z e (pos 0))) s

    pub sign-under : lt_z (pos 0) e ≡ false → lt_z e (pos 0) ≡ true → by_sign e x y z ≡ z
    unfolding by_sign
    sign-under s t = ap (λ (a : Bool). pick x y z a (lt_z e (pos 0))) s ∙ ap (pick x y z false) t

    pub sign-none : lt_z (pos 0) e ≡ false → lt_z e (pos 0) ≡ false → by_sign e x y z ≡ x
    unfolding by_sign
    sign-none s t = ap (λ (a : Bool). pick x y z a (lt_z e (pos 0))) s ∙ ap (pick x y z false) t

  pub sign_below : (e : ℤ) (x y z : A) → lt_z (pos 0) e ≡ false → (e ≡ pos 0 → ⊥) → by_sign e x y z ≡ z
  unfolding by_sign
  sign_below (pos zero) x y z s d = absurd (d refl)
  sign_below (pos (suc n)) x y z s d = absurd (omega (arith, ltb-false 0 (suc n) s))
  sign_below (negsuc n) x y z s d = refl
