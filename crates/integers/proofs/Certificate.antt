-- Large orders from one combined fact. `combined` takes a sum of facts (`⊞`), some of them multiplied (`⊠`), and asks that what the goal has
-- over them be a polynomial with only paired monomials and no negative coefficient, which is computed and not searched for.
--
--   combined (a ∷ b ∷ c ∷ []) (pos-nonneg 2 ⊠ h ⊞ k) (search solver depth 40 fits 20000) tt
use mathlib.Core.Path.{◌≡◌, ◌∙◌, subst}
use mathlib.Core.Bool.{Bool, true, false}
use mathlib.Core.List.{List, [], ◌∷◌}
use Prim.Native.Nat.{ℕ}
use native.Mathlib.Omega.{arith}
use lib.Dec.{T, eqb, eqb→eq}
use lib.IntN.{ℤ, pos, negsuc, ◌+ℤ◌, ◌-ℤ◌, ◌*ℤ◌}
use lib.Signed.{◌≤ℤ◌, ≤ℤ_refl}
use Rattle.integers.proofs.Parts.{square_nonneg, *ℤ-nonneg, gap-nonneg, +ℤ_mono, pos_nonneg}
use Rattle.integers.proofs.Polynomial.{Term, atom, mono_val, poly_val, normal, normal_val}
use Rattle.integers.proofs.Solver.{Read, ◌&◌, order, solver}

abbrev pub paired : List ℕ → Bool
paired [] = true
paired (i ∷ []) = false
paired (i ∷ j ∷ m) = elim (eqb i j) [ true ↦ paired m | false ↦ false ]

abbrev pub paired_nonneg : List Term → Bool
paired_nonneg [] = true
paired_nonneg (t ∷ q) = elim t.co [ pos c ↦ elim (paired t.mono) [ true ↦ paired_nonneg q | false ↦ false ] | negsuc c ↦ false ]

paired-nonneg : (l : List ℤ) (m : List ℕ) → T (paired m) → pos 0 ≤ℤ mono_val l m
paired-nonneg l [] t = pos_nonneg 1
paired-nonneg l (i ∷ []) t = absurd t
paired-nonneg l (i ∷ j ∷ m) t = go (eqb i j) (eqb→eq i j) t (paired-nonneg l m)
  where
    twice : (x y : ℤ) → pos 0 ≤ℤ y → pos 0 ≤ℤ (x *ℤ (x *ℤ y))
    twice x y h = order (x ∷ y ∷ []) (*ℤ-nonneg (square_nonneg x) h) (search solver depth 40 fits 20000) (omega arith)

    go : (b : Bool) → (T b → i ≡ j) → T (elim b [ true ↦ paired m | false ↦ false ]) → (T (paired m) → pos 0 ≤ℤ mono_val l m) →
        pos 0 ≤ℤ (atom l i *ℤ (atom l j *ℤ mono_val l m))
    go true f t g = rw (f tt) (twice (atom l j) (mono_val l m) (g t))
    go false f t g = absurd t

poly_nonneg : (l : List ℤ) (q : List Term) → T (paired_nonneg q) → pos 0 ≤ℤ poly_val l q
poly_nonneg l [] t = ≤ℤ_refl (pos 0)
poly_nonneg l (t ∷ q) h = go t.co (paired t.mono) (paired-nonneg l t.mono) (poly_nonneg l q) h
  where
    go : (c : ℤ) (b : Bool) → (T b → pos 0 ≤ℤ mono_val l t.mono) → (T (paired_nonneg q) → pos 0 ≤ℤ poly_val l q) →
        T (elim c as (λ z. Bool) [ pos c ↦ elim b [ true ↦ paired_nonneg q | false ↦ false ] | negsuc c ↦ false ]) →
        pos 0 ≤ℤ (c *ℤ mono_val l t.mono +ℤ poly_val l q)
    go (pos c) true f g h = +ℤ_mono (*ℤ-nonneg (pos_nonneg c) (f tt)) (g h)
    go (pos c) false f g h = absurd h
    go (negsuc c) b f g h = absurd h

pub combined : (l : List ℤ) {u v x y : ℤ} → u ≤ℤ v → (r : Read l ((y -ℤ x) -ℤ (v -ℤ u))) → T (paired_nonneg (normal r.e)) → x ≤ℤ y
combined l {u} {v} {x} {y} h r t =
    order (u ∷ v ∷ x ∷ y ∷ [])
    (h & subst (λ (z : ℤ). pos 0 ≤ℤ z) (normal_val l r.e ∙ r.ok) (poly_nonneg l (normal r.e) t))
    (search solver depth 40 fits 20000) (omega arith)

-- facts added, and multiplied
infixl 6 ◌⊞◌
pub ◌⊞◌ : {x y z w : ℤ} → x ≤ℤ y → z ≤ℤ w → (x +ℤ z) ≤ℤ (y +ℤ w)
h ⊞ k = +ℤ_mono h k

infixl 7 ◌⊠◌
pub ◌⊠◌ : {x y z w : ℤ} → x ≤ℤ y → z ≤ℤ w → pos 0 ≤ℤ ((y -ℤ x) *ℤ (w -ℤ z))
h ⊠ k = *ℤ-nonneg (gap-nonneg h) (gap-nonneg k)
