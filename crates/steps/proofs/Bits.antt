-- The bits of a step: each is added or left.
use mathlib.Core.Path.{◌≡◌, refl, sym, ap, ap₂, ◌∙◌, subst}
use mathlib.Core.Bool.{Bool, true, false}
use mathlib.Core.Logic.{◌⊎◌, inl, inr}
use mathlib.Core.List.{[], ◌∷◌}
use Prim.Native.Nat.{ℕ, zero, suc, ◌^◌}
use native.Mathlib.Omega.{arith}
use native.Mathlib.Nat.{pow-suc}
use lib.Pow.{pow_pos}
use lib.IntN.{ℤ, pos, ◌+ℤ◌, ◌-ℤ◌}
use lib.Signed.{◌≤ℤ◌, ◌<ℤ◌}
use borrow.Table.Steps.{cases}
use Rattle.integers.proofs.Parts.{≤_in, ≤ℤ_or_<ℤ, +ℤ_mono, pos_nonneg}
use Rattle.integers.proofs.Solver.{◌&◌, order, ring, solver}
use Rattle.steps.specs.Steps.{bits}

-- 2^(b + 1) is 2^b twice
pub power_suc : (b : ℕ) → pos (2 ^ suc b) ≡ pos (2 ^ b) +ℤ pos (2 ^ b)
power_suc b = ap pos (omega (arith, pow-suc 2 b))

power_some : (b : ℕ) → pos 1 ≤ℤ pos (2 ^ b)
power_some b = ≤_in (omega (arith, pow_pos b))

module _ (p : ℤ → Bool) (b : ℕ) (t : ℤ) where
  chosen : Bool → ℤ
  chosen c = elim c [ true ↦ bits p b (t +ℤ pos (2 ^ b)) | false ↦ bits p b t ]

  pub bits-more : p (t +ℤ pos (2 ^ b)) ≡ true → bits p (suc b) t ≡ bits p b (t +ℤ pos (2 ^ b))
  unfolding bits chosen
  bits-more e = ap chosen e

  pub bits_left : p (t +ℤ pos (2 ^ b)) ≡ false → bits p (suc b) t ≡ bits p b t
  unfolding bits chosen
  bits_left e = ap chosen e

-- the same answers give the same bits
pub bits_ext : (p q : ℤ → Bool) → ((t : ℤ) → p t ≡ q t) → (b : ℕ) (t : ℤ) → bits p b t ≡ bits q b t
unfolding bits
bits_ext p q h zero t = refl
bits_ext p q h (suc b) t =
    let s = t +ℤ pos (2 ^ b) in
    ap₂ (λ (c : Bool) (z : ℤ). elim c as (λ w. ℤ) [ true ↦ z | false ↦ bits p b t ]) (h s) (bits_ext p q h b s)
    ∙ ap (λ (z : ℤ). elim (q s) as (λ w. ℤ) [ true ↦ bits q b s | false ↦ z ]) (bits_ext p q h b t)

-- where nothing from t on passes, nothing is added
pub bits_none : (p : ℤ → Bool) (b : ℕ) (t : ℤ) → pos 0 ≤ℤ t → ((s : ℤ) → pos 0 ≤ℤ s → p s ≡ false) → bits p b t ≡ t
unfolding bits
bits_none p zero t h f = refl
bits_none p (suc b) t h f =
    bits_left p b t
    (f (t +ℤ pos (2 ^ b)) (order (t ∷ pos (2 ^ b) ∷ []) (h & pos_nonneg (2 ^ b)) (search solver depth 40 fits 20000) (omega arith)))
    ∙ bits_none p b t h f

-- what holds of t and of each number that passes holds of the number that the bits make
pub bits_by : (p : ℤ → Bool) (P : ℤ → Type 0) → ((t : ℤ) → pos 0 ≤ℤ t → p t ≡ true → P t) → (b : ℕ) (t : ℤ) → pos 0 ≤ℤ t → P t →
    P (bits p b t)
unfolding bits
bits_by p P f zero t h s = s
bits_by p P f (suc b) t h s =
    let more : pos 0 ≤ℤ (t +ℤ pos (2 ^ b)) = +ℤ_mono h (pos_nonneg (2 ^ b)) in
    cases (p (t +ℤ pos (2 ^ b))) (λ e. subst P (sym (bits-more p b t e)) (bits_by p P f b (t +ℤ pos (2 ^ b)) more (f _ more e)))
    (λ e. subst P (sym (bits_left p b t e)) (bits_by p P f b t h s))

-- where exactly the numbers up to m pass, the bits make m, or the greatest number that b bits make
module _ (p : ℤ → Bool) (m : ℤ) (yes : (t : ℤ) → t ≤ℤ m → p t ≡ true) (no : (t : ℤ) → m <ℤ t → p t ≡ false) where
  pub bits_most : (b : ℕ) (t : ℤ) → t ≤ℤ m → m <ℤ (t +ℤ pos (2 ^ b)) → bits p b t ≡ m
  unfolding bits
  bits_most zero t h k = order (t ∷ m ∷ []) (h & k) (search solver depth 40 fits 20000) (omega arith)
  bits_most (suc b) t h k = go (≤ℤ_or_<ℤ (t +ℤ pos (2 ^ b)) m) (bits_most b (t +ℤ pos (2 ^ b))) (bits_most b t h)
    where
      go : ((t +ℤ pos (2 ^ b)) ≤ℤ m) ⊎ (m <ℤ (t +ℤ pos (2 ^ b))) →
          ((t +ℤ pos (2 ^ b)) ≤ℤ m → m <ℤ (t +ℤ pos (2 ^ b) +ℤ pos (2 ^ b)) → bits p b (t +ℤ pos (2 ^ b)) ≡ m) →
          (m <ℤ (t +ℤ pos (2 ^ b)) → bits p b t ≡ m) → bits p (suc b) t ≡ m
      go (inl e) f g =
          bits-more p b t (yes _ e)
          ∙ f e (order (t ∷ m ∷ pos (2 ^ b) ∷ pos (2 ^ suc b) ∷ []) (k & power_suc b) (search solver depth 40 fits 20000) (omega arith))
      go (inr e) f g = bits_left p b t (no _ e) ∙ g e

  pub bits-all : (b : ℕ) (t : ℤ) → (t +ℤ pos (2 ^ b) -ℤ pos 1) ≤ℤ m → bits p b t ≡ t +ℤ pos (2 ^ b) -ℤ pos 1
  unfolding bits
  bits-all zero t h = ring (t ∷ []) (search solver depth 40 fits 20000) refl
  bits-all (suc b) t h =
      let s = t +ℤ pos (2 ^ b) in
      let e : (s +ℤ pos (2 ^ b) -ℤ pos 1) ≡ (t +ℤ pos (2 ^ suc b) -ℤ pos 1) =
      order (t ∷ pos (2 ^ b) ∷ pos (2 ^ suc b) ∷ []) (power_suc b) (search solver depth 40 fits 20000) (omega arith) in
      bits-more p b t
      (yes s
      (order (t ∷ m ∷ pos (2 ^ b) ∷ pos (2 ^ suc b) ∷ []) (h & power_suc b & power_some b) (search solver depth 40 fits 20000)
      (omega arith)))
      ∙ bits-all b s (rw e h) ∙ e
