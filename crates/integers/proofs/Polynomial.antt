-- Polynomials with integer coefficients over a list of atoms, in normal form: what the two solvers of Solver.antt compute with.
-- A monomial is the sorted list of its atoms' numbers, a polynomial the sorted list of its terms, none with coefficient 0.
use mathlib.Core.Path.{◌≡◌, refl, sym, ap, ap₂, ◌∙◌}
use mathlib.Core.List.{List, [], ◌∷◌}
use Prim.Native.Nat.{ℕ, zero, suc, compare, Ordering}
use native.Mathlib.Omega.{arith}
use lib.Dec.{T, compare_is_eq, eqb→eq}
use lib.IntN.{ℤ, pos, negsuc, neg_ℤ, ◌+ℤ◌, ◌*ℤ◌, +ℤ_assoc, +ℤ_comm, +ℤ_idl, +ℤ_idr, *ℤ_comm, zero-*ℤ, *ℤ-zero, neg_ℤ-+ℤ}
use Rattle.integers.proofs.Parts.{self_diff, product_diff, ≡_diff, *ℤ_assoc, *ℤ_distrib, neg_ℤ_*ℤ}

pub record Term : Type 0 where
  pub co : ℤ
  pub mono : List ℕ

-- ---- values
abbrev pub atom : List ℤ → ℕ → ℤ
atom [] i = pos 0
atom (x ∷ l) zero = x
atom (x ∷ l) (suc i) = atom l i

abbrev pub mono_val : List ℤ → List ℕ → ℤ
mono_val l [] = pos 1
mono_val l (i ∷ m) = atom l i *ℤ mono_val l m

abbrev pub poly_val : List ℤ → List Term → ℤ
poly_val l [] = pos 0
poly_val l (t ∷ q) = t.co *ℤ mono_val l t.mono +ℤ poly_val l q

-- ---- operations
abbrev pub insert : ℕ → List ℕ → List ℕ
insert i [] = i ∷ []
insert i (j ∷ m) = elim (compare i j) [ Ordering.lt ↦ i ∷ j ∷ m | Ordering.eq ↦ i ∷ j ∷ m | Ordering.gt ↦ j ∷ insert i m ]

abbrev pub mul_mono : List ℕ → List ℕ → List ℕ
mul_mono [] k = k
mul_mono (i ∷ m) k = insert i (mul_mono m k)

abbrev pub compare_mono : List ℕ → List ℕ → Ordering
compare_mono [] [] = Ordering.eq
compare_mono [] (j ∷ k) = Ordering.lt
compare_mono (i ∷ m) [] = Ordering.gt
compare_mono (i ∷ m) (j ∷ k) = elim (compare i j) [ Ordering.lt ↦ Ordering.lt | Ordering.eq ↦ compare_mono m k | Ordering.gt ↦ Ordering.gt ]

-- a term in front, unless its coefficient is 0
abbrev pub put : ℤ → List ℕ → List Term → List Term
put (pos zero) m q = q
put (pos (suc c)) m q = record { co = pos (suc c); mono = m } ∷ q
put (negsuc c) m q = record { co = negsuc c; mono = m } ∷ q

abbrev pub add_term : ℤ → List ℕ → List Term → List Term
add_term c m [] = put c m []
add_term c m (t ∷ q) =
    elim (compare_mono m t.mono) [
      | Ordering.lt ↦ put c m (t ∷ q)
      | Ordering.eq ↦ put (c +ℤ t.co) m q
      | Ordering.gt ↦ t ∷ add_term c m q
    ]

abbrev pub add_poly : List Term → List Term → List Term
add_poly [] q = q
add_poly (t ∷ p) q = add_term t.co t.mono (add_poly p q)

abbrev pub mul_term : ℤ → List ℕ → List Term → List Term
mul_term c m [] = []
mul_term c m (t ∷ q) = add_term (c *ℤ t.co) (mul_mono m t.mono) (mul_term c m q)

abbrev pub mul_poly : List Term → List Term → List Term
mul_poly [] q = []
mul_poly (t ∷ p) q = add_poly (mul_term t.co t.mono q) (mul_poly p q)

abbrev pub neg_poly : List Term → List Term
neg_poly [] = []
neg_poly (t ∷ q) = record { co = neg_ℤ t.co; mono = t.mono } ∷ neg_poly q

-- ---- expressions and their normal forms
infixl 6 ◌:+◌
infixl 7 ◌:*◌
pub data Expr : Type 0 where
  var : ℕ → Expr
  con : ℤ → Expr
  ◌:+◌ : Expr → Expr → Expr
  ◌:*◌ : Expr → Expr → Expr
  neg : Expr → Expr

abbrev pub eval : List ℤ → Expr → ℤ
eval l (var i) = atom l i
eval l (con c) = c
eval l (e :+ f) = eval l e +ℤ eval l f
eval l (e :* f) = eval l e *ℤ eval l f
eval l (neg e) = neg_ℤ (eval l e)

abbrev pub normal : Expr → List Term
normal (var i) = record { co = pos 1; mono = i ∷ [] } ∷ []
normal (con c) = put c [] []
normal (e :+ f) = add_poly (normal e) (normal f)
normal (e :* f) = mul_poly (normal e) (normal f)
normal (neg e) = neg_poly (normal e)

-- ---- what the proofs below regroup by
pub +ℤ-*ℤ : (x y z : ℤ) → (x +ℤ y) *ℤ z ≡ x *ℤ z +ℤ y *ℤ z
+ℤ-*ℤ x y z = *ℤ_comm (x +ℤ y) z ∙ *ℤ_distrib z x y ∙ rw (*ℤ_comm z x, *ℤ_comm z y)

one-* : (x : ℤ) → pos 1 *ℤ x ≡ x
one-* x = ≡_diff (product_diff (self_diff (pos 1)) (self_diff x)) (self_diff x) (omega arith)

swap_* : (x y z : ℤ) → x *ℤ (y *ℤ z) ≡ y *ℤ (x *ℤ z)
swap_* x y z = sym (*ℤ_assoc x y z) ∙ rw (*ℤ_comm x y) (*ℤ_assoc y x z)

swap_+ : (x y z : ℤ) → x +ℤ (y +ℤ z) ≡ y +ℤ (x +ℤ z)
swap_+ x y z = sym (+ℤ_assoc x y z) ∙ rw (+ℤ_comm x y) (+ℤ_assoc y x z)

merge : (c d x z : ℤ) → (c +ℤ d) *ℤ x +ℤ z ≡ c *ℤ x +ℤ (d *ℤ x +ℤ z)
merge c d x z = rw (+ℤ-*ℤ c d x) (+ℤ_assoc (c *ℤ x) (d *ℤ x) z)

times : (c d x y z : ℤ) → c *ℤ d *ℤ (x *ℤ y) +ℤ c *ℤ x *ℤ z ≡ c *ℤ x *ℤ (d *ℤ y +ℤ z)
times c d x y z =
    rw (*ℤ_distrib (c *ℤ x) (d *ℤ y) z, *ℤ_assoc c d (x *ℤ y), swap_* d x y, *ℤ_assoc c x (d *ℤ y))

neg_merge : (c x z : ℤ) → neg_ℤ c *ℤ x +ℤ neg_ℤ z ≡ neg_ℤ (c *ℤ x +ℤ z)
neg_merge c x z = rw (neg_ℤ_*ℤ c x) (sym (neg_ℤ-+ℤ (c *ℤ x) z))

constant : (c : ℤ) → c *ℤ pos 1 +ℤ pos 0 ≡ c
constant c = +ℤ_idr (c *ℤ pos 1) ∙ *ℤ_comm c (pos 1) ∙ one-* c

-- ---- each operation keeps the value
compare_≡ : (m k : List ℕ) → T (compare_is_eq (compare_mono m k)) → m ≡ k
compare_≡ [] [] t = refl
compare_≡ [] (j ∷ k) t = absurd t
compare_≡ (i ∷ m) [] t = absurd t
compare_≡ (i ∷ m) (j ∷ k) t = go (compare i j) (eqb→eq i j) (compare_≡ m k) t
  where
    go : (o : Ordering) → (T (compare_is_eq o) → i ≡ j) → (T (compare_is_eq (compare_mono m k)) → m ≡ k) →
        T (compare_is_eq (elim o [ Ordering.lt ↦ Ordering.lt | Ordering.eq ↦ compare_mono m k | Ordering.gt ↦ Ordering.gt ])) → i ∷ m ≡ j ∷ k
    go Ordering.lt f g t = absurd t
    go Ordering.eq f g t = ap₂ (λ (a : ℕ) (b : List ℕ). a ∷ b) (f tt) (g t)
    go Ordering.gt f g t = absurd t

module _ (l : List ℤ) where
  insert_val : (i : ℕ) (m : List ℕ) → mono_val l (insert i m) ≡ atom l i *ℤ mono_val l m
  insert_val i [] = refl
  insert_val i (j ∷ m) = go (compare i j) (insert_val i m)
    where
      go : (o : Ordering) → mono_val l (insert i m) ≡ atom l i *ℤ mono_val l m →
          mono_val l (elim o [ Ordering.lt ↦ i ∷ j ∷ m | Ordering.eq ↦ i ∷ j ∷ m | Ordering.gt ↦ j ∷ insert i m ]) ≡ atom l i *ℤ (atom l j *ℤ mono_val l m)
      go Ordering.lt h = refl
      go Ordering.eq h = refl
      go Ordering.gt h = ap (λ (z : ℤ). atom l j *ℤ z) h ∙ swap_* (atom l j) (atom l i) (mono_val l m)

  mul_mono_val : (m k : List ℕ) → mono_val l (mul_mono m k) ≡ mono_val l m *ℤ mono_val l k
  mul_mono_val [] k = sym (one-* (mono_val l k))
  mul_mono_val (i ∷ m) k =
      insert_val i (mul_mono m k) ∙ ap (λ (z : ℤ). atom l i *ℤ z) (mul_mono_val m k) ∙ sym (*ℤ_assoc (atom l i) (mono_val l m) (mono_val l k))

  put_val : (c : ℤ) (m : List ℕ) (q : List Term) → poly_val l (put c m q) ≡ c *ℤ mono_val l m +ℤ poly_val l q
  put_val (pos zero) m q = rw (zero-*ℤ (mono_val l m)) (sym (+ℤ_idl (poly_val l q)))
  put_val (pos (suc c)) m q = refl
  put_val (negsuc c) m q = refl

  add_term_val : (c : ℤ) (m : List ℕ) (q : List Term) → poly_val l (add_term c m q) ≡ c *ℤ mono_val l m +ℤ poly_val l q
  add_term_val c m [] = put_val c m []
  add_term_val c m (t ∷ q) = go (compare_mono m t.mono) (compare_≡ m t.mono) (add_term_val c m q)
    where
      go : (o : Ordering) → (T (compare_is_eq o) → m ≡ t.mono) → poly_val l (add_term c m q) ≡ c *ℤ mono_val l m +ℤ poly_val l q →
          poly_val l (elim o [ Ordering.lt ↦ put c m (t ∷ q) | Ordering.eq ↦ put (c +ℤ t.co) m q | Ordering.gt ↦ t ∷ add_term c m q ])
          ≡ c *ℤ mono_val l m +ℤ (t.co *ℤ mono_val l t.mono +ℤ poly_val l q)
      go Ordering.lt f h = put_val c m (t ∷ q)
      go Ordering.eq f h =
          put_val (c +ℤ t.co) m q ∙ merge c t.co (mono_val l m) (poly_val l q)
          ∙ ap (λ (k : List ℕ). c *ℤ mono_val l m +ℤ (t.co *ℤ mono_val l k +ℤ poly_val l q)) (f tt)
      go Ordering.gt f h =
          ap (λ (z : ℤ). t.co *ℤ mono_val l t.mono +ℤ z) h ∙ swap_+ (t.co *ℤ mono_val l t.mono) (c *ℤ mono_val l m) (poly_val l q)

  add_poly_val : (p q : List Term) → poly_val l (add_poly p q) ≡ poly_val l p +ℤ poly_val l q
  add_poly_val [] q = sym (+ℤ_idl (poly_val l q))
  add_poly_val (t ∷ p) q =
      add_term_val t.co t.mono (add_poly p q) ∙ ap (λ (z : ℤ). t.co *ℤ mono_val l t.mono +ℤ z) (add_poly_val p q)
      ∙ sym (+ℤ_assoc (t.co *ℤ mono_val l t.mono) (poly_val l p) (poly_val l q))

  mul_term_val : (c : ℤ) (m : List ℕ) (q : List Term) → poly_val l (mul_term c m q) ≡ c *ℤ mono_val l m *ℤ poly_val l q
  mul_term_val c m [] = sym (*ℤ-zero (c *ℤ mono_val l m))
  mul_term_val c m (t ∷ q) =
      add_term_val (c *ℤ t.co) (mul_mono m t.mono) (mul_term c m q)
      ∙ ap₂ (λ (u v : ℤ). c *ℤ t.co *ℤ u +ℤ v) (mul_mono_val m t.mono) (mul_term_val c m q)
      ∙ times c t.co (mono_val l m) (mono_val l t.mono) (poly_val l q)

  mul_poly_val : (p q : List Term) → poly_val l (mul_poly p q) ≡ poly_val l p *ℤ poly_val l q
  mul_poly_val [] q = sym (zero-*ℤ (poly_val l q))
  mul_poly_val (t ∷ p) q =
      add_poly_val (mul_term t.co t.mono q) (mul_poly p q)
      ∙ ap₂ (λ (u v : ℤ). u +ℤ v) (mul_term_val t.co t.mono q) (mul_poly_val p q)
      ∙ sym (+ℤ-*ℤ (t.co *ℤ mono_val l t.mono) (poly_val l p) (poly_val l q))

  neg_poly_val : (q : List Term) → poly_val l (neg_poly q) ≡ neg_ℤ (poly_val l q)
  neg_poly_val [] = refl
  neg_poly_val (t ∷ q) =
      ap (λ (z : ℤ). neg_ℤ t.co *ℤ mono_val l t.mono +ℤ z) (neg_poly_val q) ∙ neg_merge t.co (mono_val l t.mono) (poly_val l q)

  pub normal_val : (e : Expr) → poly_val l (normal e) ≡ eval l e
  normal_val (var i) = rw (*ℤ_comm (atom l i) (pos 1), one-* (atom l i), one-* (atom l i)) (+ℤ_idr (atom l i))
  normal_val (con c) = put_val c [] [] ∙ constant c
  normal_val (e :+ f) = add_poly_val (normal e) (normal f) ∙ ap₂ (λ (u v : ℤ). u +ℤ v) (normal_val e) (normal_val f)
  normal_val (e :* f) = mul_poly_val (normal e) (normal f) ∙ ap₂ (λ (u v : ℤ). u *ℤ v) (normal_val e) (normal_val f)
  normal_val (neg e) = neg_poly_val (normal e) ∙ ap neg_ℤ (normal_val e)
