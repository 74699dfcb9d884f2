-- The two solvers over ℤ: `ring` for equations, `order` for orders and for what follows from facts.
--
-- Both take the list of atoms first: the subterms to be treated as unknowns, any terms of type ℤ (`x`, `f i`, `sum n f`, `absℤ e`).
-- Each call ends in the same words, by which antt reads the terms over the atoms and closes what is left (antt has no macros).
--
--   ring (a ∷ b ∷ []) (search solver depth 40 fits 20000) refl
--     proves any identity of polynomials, as (a + b) (a - b) ≡ a a - b b. A refusal shows the terms that are left over.
--
--   order (a ∷ b ∷ []) (h & k) (search solver depth 40 fits 20000) (omega arith)
--     proves x ≤ y, x < y or x ≡ y from the facts h and k (`none` where there are none), each of one of the three forms, joined by `&`.
--
--   order (a ∷ b ∷ []) (square-nonneg (a -ℤ b)) (search solver depth 40 fits 20000) (omega arith)
--     proves 2 a b ≤ a a + b b: monomials are unknowns, and a product's sign is handed over as a fact (`square-nonneg`, `*ℤ-nonneg`, `gap-nonneg`).
--
-- "no proof of `Problem`" means that an atom is missing from the list. An equation is not used inside a product: multiply it first, or `rw`.
-- Past some 15 nonlinear facts use `combined` of Certificate.antt. Examples.antt has more, and the check runs them.
use mathlib.Core.Path.{◌≡◌, refl, sym, ap, ap₂, ◌∙◌, subst}
use mathlib.Core.List.{List, [], ◌∷◌}
use Prim.Native.Nat.{ℕ, suc, ◌+◌, ◌*◌, ◌≤◌}
use native.Mathlib.Omega.{arith}
use native.Mathlib.Numerals.{add-one}
use lib.Dec.{eqb}
use mathlib.Core.Bool.{true}
use lib.IntN.{ℤ, pos, negsuc, neg_ℤ, ◌+ℤ◌, ◌-ℤ◌, ◌*ℤ◌, +ℤ_idl, -ℤ-+ℤ_cancel}
use lib.Signed.{◌≤ℤ◌, ◌<ℤ◌}
use Rattle.integers.proofs.Parts.{plus, minus, Diff, self_diff, as_diff, sum_diff, product_diff, minus_diff, ≤_in, ≤_out, <_in, <_out, ≡_in, ≡_out}
use Rattle.integers.proofs.Polynomial.{Term, Expr, var, con, ◌:+◌, ◌:*◌, neg, atom, mono_val, poly_val, eval, normal, normal_val}

-- ---- an integer read as an expression over the atoms l
pub record Atom (l : List ℤ) (x : ℤ) : Type 0 where
  pub index : ℕ
  pub at : atom l index ≡ x

abbrev pub here : {x : ℤ} {l : List ℤ} → Atom (x ∷ l) x
here = record { index = 0; at = refl }

abbrev pub there : {x y : ℤ} {l : List ℤ} → Atom l x → Atom (y ∷ l) x
there a = record { index = suc a.index; at = a.at }

pub record Read (l : List ℤ) (x : ℤ) : Type 0 where
  pub e : Expr
  pub ok : eval l e ≡ x

module _ {l : List ℤ} where
  pub sum_ok : {x y : ℤ} (r : Read l x) (s : Read l y) → eval l r.e +ℤ eval l s.e ≡ x +ℤ y
  sum_ok r s = ap₂ (λ (u v : ℤ). u +ℤ v) r.ok s.ok

  pub product_ok : {x y : ℤ} (r : Read l x) (s : Read l y) → eval l r.e *ℤ eval l s.e ≡ x *ℤ y
  product_ok r s = ap₂ (λ (u v : ℤ). u *ℤ v) r.ok s.ok

  pub neg_ok : {x : ℤ} (r : Read l x) → neg_ℤ (eval l r.e) ≡ neg_ℤ x
  neg_ok r = ap neg_ℤ r.ok

  pub suc_ok : {m : ℕ} (r : Read l (pos m)) → eval l r.e +ℤ pos 1 ≡ pos (suc m)
  suc_ok {m} r = ap (λ (z : ℤ). z +ℤ pos 1) r.ok ∙ ap pos (add-one m)

  abbrev pub read-sum : {x y : ℤ} → Read l x → Read l y → Read l (x +ℤ y)
  read-sum r s = record { e = r.e :+ s.e; ok = sum_ok r s }

  abbrev pub read_product : {x y : ℤ} → Read l x → Read l y → Read l (x *ℤ y)
  read_product r s = record { e = r.e :* s.e; ok = product_ok r s }

  abbrev pub read-neg : {x : ℤ} → Read l x → Read l (neg_ℤ x)
  read-neg r = record { e = neg r.e; ok = neg_ok r }

  abbrev pub read-atom : {x : ℤ} → Atom l x → Read l x
  read-atom a = record { e = var a.index; ok = a.at }

  -- a numeral: at a variable k the test does not compute, and `pos k` is an atom
  abbrev pub read_pos : (k : ℕ) → eqb k k ≡ true → Read l (pos k)
  read_pos k t = record { e = con (pos k); ok = refl }

  abbrev pub read_negsuc : (k : ℕ) → eqb k k ≡ true → Read l (negsuc k)
  read_negsuc k t = record { e = con (negsuc k); ok = refl }

  -- a sum, a product or a successor of naturals under `pos`
  abbrev pub read_pos_sum : {m k : ℕ} → Read l (pos m) → Read l (pos k) → Read l (pos (m + k))
  read_pos_sum {m} {k} r s = record { e = r.e :+ s.e; ok = sum_ok r s }

  abbrev pub read_pos_product : {m k : ℕ} → Read l (pos m) → Read l (pos k) → Read l (pos (m * k))
  read_pos_product {m} {k} r s = record { e = r.e :* s.e; ok = product_ok r s }

  abbrev pub read_pos_suc : {m : ℕ} → Read l (pos m) → Read l (pos (suc m))
  read_pos_suc r = record { e = r.e :+ con (pos 1); ok = suc_ok r }

pub ruleset reading = (read-sum, read_product, read-neg, read-atom, read_pos, read_negsuc, read_pos_sum, read_pos_product, read_pos_suc, here, there)

-- ---- equations
pub ring : (l : List ℤ) {x y : ℤ} (r : Read l (x -ℤ y)) → normal r.e ≡ [] → x ≡ y
ring l {x} {y} r t =
    sym (-ℤ-+ℤ_cancel x y) ∙ ap (λ (z : ℤ). z +ℤ y) (sym r.ok ∙ sym (normal_val l r.e) ∙ ap (poly_val l) t) ∙ +ℤ_idl y

-- ---- orders: a polynomial by its parts, each monomial an unknown of `omega`'s
abbrev pub term_up : ℤ → ℤ → ℕ
term_up (pos c) m = c * plus m
term_up (negsuc c) m = suc c * minus m

abbrev pub term_down : ℤ → ℤ → ℕ
term_down (pos c) m = c * minus m
term_down (negsuc c) m = suc c * plus m

abbrev pub up : List ℤ → List Term → ℕ
up l [] = 0
up l (t ∷ q) = term_up t.co (mono_val l t.mono) + up l q

abbrev pub down : List ℤ → List Term → ℕ
down l [] = 0
down l (t ∷ q) = term_down t.co (mono_val l t.mono) + down l q

term_diff : (c m : ℤ) → Diff (c *ℤ m) (term_up c m) (term_down c m)
term_diff (pos c) m = as_diff (product_diff (self_diff (pos c)) (self_diff m)) (omega arith)
term_diff (negsuc c) m = as_diff (product_diff (self_diff (negsuc c)) (self_diff m)) (omega arith)

poly_diff : (l : List ℤ) (q : List Term) → Diff (poly_val l q) (up l q) (down l q)
poly_diff l [] = record { is = refl }
poly_diff l (t ∷ q) = sum_diff (term_diff t.co (mono_val l t.mono)) (poly_diff l q)

read_diff : (l : List ℤ) {x : ℤ} (r : Read l x) → Diff x (up l (normal r.e)) (down l (normal r.e))
read_diff l r =
    subst (λ (x : ℤ). Diff x (up l (normal r.e)) (down l (normal r.e))) (normal_val l r.e ∙ r.ok) (poly_diff l (normal r.e))

-- what a statement says of e, its greater side less its smaller: not negative, positive, or 0
pub data Rel : Type 0 where
  Le Lt EQ : Rel

pub record Claim : Type 0 where
  pub rel : Rel
  pub e : Expr

abbrev pub Compared : Rel → ℕ → ℕ → Type 0
Compared Le d u = d ≤ u
Compared Lt d u = suc d ≤ u
Compared EQ d u = d ≡ u

abbrev pub Says : List ℤ → Claim → Type 0
Says l c = Compared c.rel (down l (normal c.e)) (up l (normal c.e))

pub record Statement (l : List ℤ) (A : Type 0) : Type 0 where
  pub claim : Claim
  pub to : A → Says l claim
  pub of : Says l claim → A

module _ {l : List ℤ} where
  pub ≤-to : {x y : ℤ} (r : Read l (y -ℤ x)) → x ≤ℤ y → Says l (record { rel = Le; e = r.e })
  ≤-to {x} {y} r h = omega (arith, (read_diff l r).is, ≤_out h, (minus_diff x y).is)

  pub ≤-of : {x y : ℤ} (r : Read l (y -ℤ x)) → Says l (record { rel = Le; e = r.e }) → x ≤ℤ y
  ≤-of {x} {y} r h = ≤_in (omega (arith, (read_diff l r).is, (minus_diff x y).is))

  pub <-to : {x y : ℤ} (r : Read l (y -ℤ x)) → x <ℤ y → Says l (record { rel = Lt; e = r.e })
  <-to {x} {y} r h = omega (arith, (read_diff l r).is, <_out h, (minus_diff x y).is)

  pub <-of : {x y : ℤ} (r : Read l (y -ℤ x)) → Says l (record { rel = Lt; e = r.e }) → x <ℤ y
  <-of {x} {y} r h = <_in (omega (arith, (read_diff l r).is, (minus_diff x y).is))

  pub ≡-to : {x y : ℤ} (r : Read l (y -ℤ x)) → x ≡ y → Says l (record { rel = EQ; e = r.e })
  ≡-to {x} {y} r h = omega (arith, (read_diff l r).is, ≡_out h, (minus_diff x y).is)

  pub ≡-of : {x y : ℤ} (r : Read l (y -ℤ x)) → Says l (record { rel = EQ; e = r.e }) → x ≡ y
  ≡-of {x} {y} r h = ≡_in (omega (arith, (read_diff l r).is, (minus_diff x y).is))

  abbrev pub state_≤ : {x y : ℤ} → Read l (y -ℤ x) → Statement l (x ≤ℤ y)
  state_≤ r = record { claim = record { rel = Le; e = r.e }; to = ≤-to r; of = ≤-of r }

  abbrev pub state_< : {x y : ℤ} → Read l (y -ℤ x) → Statement l (x <ℤ y)
  state_< r = record { claim = record { rel = Lt; e = r.e }; to = <-to r; of = <-of r }

  abbrev pub state_≡ : {x y : ℤ} → Read l (y -ℤ x) → Statement l (x ≡ y)
  state_≡ r = record { claim = record { rel = EQ; e = r.e }; to = ≡-to r; of = ≡-of r }

-- ---- facts, joined by `&`
pub record Both (A B : Type 0) : Type 0 where
  pub one : A
  pub more : B

infixr 5 ◌&◌
pub ◌&◌ : {A B : Type 0} → A → B → Both A B
h & k = record { one = h; more = k }

abbrev pub All : List ℤ → List Claim → Type 0
All l [] = Unit {0}
All l (c ∷ cs) = Says l c × All l cs

abbrev pub Given : List ℤ → List Claim → Type 0 → Type 0
Given l [] G = G
Given l (c ∷ cs) G = Says l c → Given l cs G

given : (l : List ℤ) (cs : List Claim) {G : Type 0} → All l cs → Given l cs G → G
given l [] a g = g
given l (c ∷ cs) a g = given l cs a.1 (g a.0)

pub data NoFacts : Type 0 where
  none : NoFacts

pub record Facts (l : List ℤ) (F : Type 0) : Type 0 where
  pub claims : List Claim
  pub all : F → All l claims

module _ {l : List ℤ} where
  abbrev pub no_facts : Facts l NoFacts
  no_facts = record { claims = []; all = λ u. tt }

  abbrev pub one_fact : {A : Type 0} → Statement l A → Facts l A
  one_fact s = record { claims = s.claim ∷ []; all = λ h. (s.to h, tt) }

  abbrev pub more_facts : {A B : Type 0} → Statement l A → Facts l B → Facts l (Both A B)
  more_facts s f = record { claims = s.claim ∷ f.claims; all = λ h. (s.to h.one, f.all h.more) }

pub record Problem (l : List ℤ) (F G : Type 0) : Type 0 where
  pub facts : Facts l F
  pub goal : Statement l G

abbrev pub problem : {l : List ℤ} {F G : Type 0} → Facts l F → Statement l G → Problem l F G
problem f g = record { facts = f; goal = g }

pub order : (l : List ℤ) {F G : Type 0} → F → (p : Problem l F G) → Given l p.facts.claims (Says l p.goal.claim) → G
order l h p t = p.goal.of (given l p.facts.claims (p.facts.all h) t)

pub ruleset solver = (problem, no_facts, one_fact, more_facts, state_≤, state_<, state_≡, reading)
