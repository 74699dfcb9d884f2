-- R26.1 to R26.4 of docs/RULES.md: a vector is under w exactly if its quotient is at most w, and v is the least quotient of all tried
-- vectors but 0.
use mathlib.Core.Path.{◌≡◌, refl, sym, ap, ap₂, subst, ◌∙◌}
use mathlib.Core.Logic.{◌⊎◌, inl, inr, ⊎_elim}
use mathlib.Core.Bool.{Bool, true, false, false≢true}
use mathlib.Core.List.Memᴰ
use mathlib.Core.List.{List, [], ◌∷◌, map, Memᴰ}
use mathlib.Core.Option.{Option, none, some}
use Prim.Native.Nat.{ℕ, zero, suc, ◌*◌, ◌≤◌, ◌<◌}
use native.Mathlib.Omega.{arith}
use lib.IntN.{ℤ, pos, negsuc, neg_ℤ, ◌-ℤ◌, ◌*ℤ◌, *ℤ_comm}
use lib.Signed.{◌≤ℤ◌, ◌<ℤ◌, ≤ℤ_refl, clash_ℤ}
use Rattle.integers.specs.Numbers.{min_ℤ}
use Rattle.integers.specs.Sum.{sum}
use Rattle.integers.specs.Division.{ceil_div}
use Rattle.integers.proofs.Parts.{≡_out, ≤ℤ_trans, ≤ℤ_antisym, pos_nonneg, le_z_true}
use Rattle.integers.proofs.Solver.{◌&◌, ring, order, solver}
use Rattle.integers.proofs.Order.{≤_unless, *ℤ_mono, *ℤ_cancel, min_by, min_≤ˡ, min_≤ʳ}
use Rattle.integers.proofs.Sums.{sum_prefix}
use Rattle.integers.proofs.Division.{ceil_law, ceil_least}
use Rattle.tables.specs.Ranges.{entry_range}
use Rattle.tables.specs.Matrix.{Matrix, nth, form, norm_squared}
use Rattle.tables.specs.Members.{Nonzero}
use Rattle.tables.specs.Bounds.{Bounds}
use Rattle.tables.proofs.Checks.{and_left, and_right, and_of, le_of}
use Rattle.tables.proofs.Matrix.{nth-padded}
use Rattle.tables.proofs.Admission.{zeros}
use Rattle.tables.proofs.Forms.{form_prefix, norm_positive}
use Rattle.vectors.specs.Least.{least_member, least_value, nonzero, under}
use Rattle.vectors.proofs.Showing.{nonzero-of, nonzero_true, least_above, under_more}
use Rattle.tried.specs.Tried.{tried}
use Rattle.tried.proofs.TriedVectors.{Picks, first_picks, first_narrower}
use Rattle.stiffness.specs.Bracket.{quotient, least_quotient, least_bound, first_under}

-- ---- a nonzero x is under w exactly if its quotient is at most w
module _ (n : ℕ) (L U : Matrix) (x : ℕ → ℤ) where
  pub under-parts : (w : ℤ) → under n L U w x ≡ true → Nonzero n x × (quotient n L U x ≤ℤ w)
  unfolding under quotient
  under-parts w e =
      let z : Nonzero n x = nonzero-of (and_left _ _ e) in
      let low : least_value n L U x ≤ℤ (w *ℤ norm_squared n x) = le_of _ _ (and_right (nonzero n x) _ e) in
      (z, ceil_least (least_value n L U x) (norm_squared n x) w (norm_positive z) (rw (*ℤ_comm (norm_squared n x) w) low))

  -- x'x times the quotient is not below the least value
  quotient-high : Nonzero n x → least_value n L U x ≤ℤ (norm_squared n x *ℤ quotient n L U x)
  unfolding quotient
  quotient-high z = (ceil_law (least_value n L U x) (norm_squared n x) (norm_positive z)).high

  pub quotient-under : (w : ℤ) → Nonzero n x → quotient n L U x ≤ℤ w → under n L U w x ≡ true
  unfolding under
  quotient-under w z h =
      let more = *ℤ_mono (≤ℤ_trans (pos_nonneg 1) (norm_positive z)) h in
      and_of (nonzero_true z) (le_z_true (≤ℤ_trans (quotient-high z) (rw (*ℤ_comm w (norm_squared n x)) more)))

  -- no quotient is below -n·2^20
  pub quotient-low : Bounds n L U → Nonzero n x → neg_ℤ (pos (n * entry_range)) ≤ℤ quotient n L U x
  quotient-low b z =
      *ℤ_cancel (norm_squared n x) (norm_positive z)
      (≤ℤ_trans (rw (*ℤ_comm (norm_squared n x) (neg_ℤ (pos (n * entry_range)))) (least_above b x)) (quotient-high z))

-- ---- the first tried vector that is under w
module _ (n : ℕ) (L U : Matrix) where
  module _ (w : ℤ) where
    -- what `first` says of it
    first_under_lem : (o : Option (List ℤ)) → first_under n L U w ≡ o → Picks (λ x. under n L U w (nth x)) (tried n) o
    unfolding first_under
    first_under_lem o e = subst (Picks (λ x. under n L U w (nth x)) (tried n)) e (first_picks (λ x. under n L U w (nth x)) (tried n))

    -- it is a tried vector and under w
    pub first_found : (y : List ℤ) → first_under n L U w ≡ some y → Memᴰ y (tried n) × (under n L U w (nth y) ≡ true)
    first_found y e = first_under_lem (some y) e

    -- or no tried vector is
    pub none_found : first_under n L U w ≡ none → (x : List ℤ) → Memᴰ x (tried n) → under n L U w (nth x) ≡ true → ⊥
    none_found e = first_under_lem none e

    -- it is also the first that is under its own quotient
    pub first_again : (y : List ℤ) → first_under n L U w ≡ some y → first_under n L U (quotient n L U (nth y)) ≡ some y
    unfolding first_under
    first_again y e =
        let p = under-parts n L U (nth y) w (first_found y e).1 in
        first_narrower (λ x. under n L U w (nth x)) (λ x. under n L U (quotient n L U (nth y)) (nth x)) (λ x. under_more n L U (nth x) p.1)
        (tried n) y e (quotient-under n L U (nth y) (quotient n L U (nth y)) p.0 (≤ℤ_refl _))

  -- ---- the least of v and of the quotients of a list's vectors but 0
  module _ (v : ℤ) where
    -- by the first vector: it is nonzero or not
    least-cons : (P : ℤ → Type 0) (x : List ℤ) (l : List (List ℤ)) →
        (Nonzero n (nth x) → P (min_ℤ (quotient n L U (nth x)) (least_quotient n L U v l))) →
        ((Nonzero n (nth x) → ⊥) → P (least_quotient n L U v l)) → P (least_quotient n L U v (x ∷ l))
    unfolding least_quotient
    least-cons P x l f g = go (nonzero n (nth x)) refl
      where
        go : (b : Bool) → nonzero n (nth x) ≡ b → (let w = least_quotient n L U v l in
            P (elim b as (λ z. ℤ) [ true ↦ min_ℤ (quotient n L U (nth x)) w | false ↦ w ]))
        go true e = f (nonzero-of e)
        go false e = g (λ z. false≢true (sym e ∙ nonzero_true z))

    -- what holds of v and of these quotients holds of the least
    least_by : (P : ℤ → Type 0) → P v → (l : List (List ℤ)) →
        ((x : List ℤ) → Memᴰ x l → Nonzero n (nth x) → P (quotient n L U (nth x))) → P (least_quotient n L U v l)
    unfolding least_quotient
    least_by P h [] f = h
    least_by P h (x ∷ l) f =
        let later = least_by P h l (λ y m. f y (Memᴰ.tail m)) in
        least-cons P x l (λ z. min_by _ _ P (λ e. f x (Memᴰ.head refl) z) (λ e. later)) (λ z. later)

    -- it is at most each of these quotients
    least-≤ : (l : List (List ℤ)) (x : List ℤ) → Memᴰ x l → Nonzero n (nth x) → least_quotient n L U v l ≤ℤ quotient n L U (nth x)
    least-≤ [] x m z = absurd (Memᴰ.not-nil m)
    least-≤ (y ∷ l) x m z = go (Memᴰ.cases_cons m) (least-≤ l x)
      where
        go : (x ≡ y) ⊎ Memᴰ x l → (Memᴰ x l → Nonzero n (nth x) → least_quotient n L U v l ≤ℤ quotient n L U (nth x)) →
            least_quotient n L U v (y ∷ l) ≤ℤ quotient n L U (nth x)
        go (inl e) later = least-cons (λ w. w ≤ℤ quotient n L U (nth x)) y l (λ k. rw e (min_≤ˡ _ _)) (λ k. absurd (k (rw (← e) z)))
        go (inr k) later = least-cons (λ w. w ≤ℤ quotient n L U (nth x)) y l (λ t. ≤ℤ_trans (min_≤ʳ _ _) (later k z)) (λ t. later k z)

-- ---- 1 in front of zeros, by its entries
abbrev one : ℕ → ℤ
one = nth (pos 1 ∷ [])

one-rest : (k : ℕ) → 1 ≤ k → one k ≡ pos 0
one-rest zero h = absurd (omega arith)
one-rest (suc k) h = refl

-- the list for one entry less, with a prefixed to each vector
abbrev with : ℕ → ℤ → List (List ℤ)
with n a = map (λ x. a ∷ x) (tried n)

front : (a : ℤ) {x : List ℤ} (l : List (List ℤ)) → Memᴰ x l → Memᴰ (a ∷ x) (map (λ y. a ∷ y) l)
front a [] m = absurd (Memᴰ.not-nil m)
front a (y ∷ l) m = ⊎_elim (λ e. Memᴰ.head (ap (λ (z : List ℤ). a ∷ z) e)) (λ k. Memᴰ.tail (front a l k)) (Memᴰ.cases_cons m)

zeros-tried : (n : ℕ) → Memᴰ (zeros n) (tried n)
unfolding tried
zeros-tried zero = Memᴰ.head refl
zeros-tried (suc n) = Memᴰ.append_left _ (front (pos 0) (tried n) (zeros-tried n))

-- x'x is 1, and the least value is L(1,1), and so is the quotient
module _ (n : ℕ) (o : 0 < n) where
  one_norm : norm_squared n one ≡ pos 1
  unfolding norm_squared sum
  one_norm = sum_prefix n 1 (λ i. one i *ℤ one i) o (λ k h l. rw (one-rest k h) refl)

  one_form : (M : Matrix) → form n M one ≡ M 0 0
  unfolding form sum
  one_form M = form_prefix n 1 M one o (λ k h l. one-rest k h) ∙ ring (M 0 0 ∷ []) (search solver depth 40 fits 20000) refl

  one-quotient : (L U : Matrix) → quotient n L U one ≡ L 0 0
  unfolding quotient least_value least_member
  one-quotient L U =
      let c = ceil_law (L 0 0) (pos 1) (≤ℤ_refl (pos 1)) in
      ap₂ ceil_div (one_form (least_member L U one)) one_norm
      ∙ order (L 0 0 ∷ ceil_div (L 0 0) (pos 1) ∷ []) (c.low & c.high) (search solver depth 40 fits 20000) (omega arith)

-- ---- v
-- a tried vector but 0 whose quotient is w
pub record Attained (n : ℕ) (L U : Matrix) (w : ℤ) : Type 0 where
  pub vector : List ℤ
  pub from_list : Memᴰ vector (tried n)
  pub differs : Nonzero n (nth vector)
  pub is : quotient n L U (nth vector) ≡ w

-- the first tried vector that is under w
pub record First (n : ℕ) (L U : Matrix) (w : ℤ) : Type 0 where
  pub vector : List ℤ
  pub found : first_under n L U w ≡ some vector
  pub from_list : Memᴰ vector (tried n)
  pub low : under n L U w (nth vector) ≡ true

-- a quotient of at most w is found under w
attained_found : (n : ℕ) (L U : Matrix) {w w' : ℤ} → Attained n L U w → w ≤ℤ w' → first_under n L U w' ≡ none → ⊥
attained_found n L U {w} {w'} a h e =
    none_found n L U w' e a.vector a.from_list (quotient-under n L U (nth a.vector) w' a.differs (rw a.is h))

-- L(1,1) is the quotient of 1 in front of zeros
one_attained : (n : ℕ) (L U : Matrix) → 0 < n → Attained n L U (L 0 0)
unfolding tried
one_attained zero L U o = absurd (omega arith)
one_attained (suc n) L U o = record {
  vector = pos 1 ∷ zeros n;
  from_list = Memᴰ.append_right (with n (pos 0)) (Memᴰ.append_left (with n (negsuc 0)) (front (pos 1) (tried n) (zeros-tried n)));
  differs = record { index = 0; inside = o; differs = λ e. omega (arith, ≡_out e) };
  is = ap (quotient (suc n) L U) (nth-padded (pos 1 ∷ []) n) ∙ one-quotient (suc n) o L U;
}

module _ (n : ℕ) (L U : Matrix) (o : 0 < n) where
  -- some tried vector is under L(1,1)
  pub some_under : first_under n L U (L 0 0) ≡ none → ⊥
  some_under e = attained_found n L U (one_attained n L U o) (≤ℤ_refl (L 0 0)) e

  -- v is the quotient of a tried vector, and at most the quotient of each
  pub bound_attained : Attained n L U (least_bound n L U)
  unfolding least_bound
  bound_attained =
      least_by n L U (L 0 0) (Attained n L U) (one_attained n L U o) (tried n)
      (λ x m z. record { vector = x; from_list = m; differs = z; is = refl })

  pub bound-≤ : (x : List ℤ) → Memᴰ x (tried n) → Nonzero n (nth x) → least_bound n L U ≤ℤ quotient n L U (nth x)
  unfolding least_bound
  bound-≤ x m z = least-≤ n L U (L 0 0) (tried n) x m z

  -- a tried vector is under w only if v ≤ w
  under-bound : (w : ℤ) (y : List ℤ) → Memᴰ y (tried n) → under n L U w (nth y) ≡ true → least_bound n L U ≤ℤ w
  under-bound w y m e = let p = under-parts n L U (nth y) w e in ≤ℤ_trans (bound-≤ y m p.0) p.1

  -- no tried vector is under v - 1
  pub none_less : (y : List ℤ) → Memᴰ y (tried n) → under n L U (least_bound n L U -ℤ pos 1) (nth y) ≡ true → ⊥
  none_less y m e =
      let v = least_bound n L U in
      let less : (v -ℤ pos 1) <ℤ v = order (v ∷ []) (≤ℤ_refl v) (search solver depth 40 fits 20000) (omega arith) in
      clash_ℤ less (under-bound (v -ℤ pos 1) y m e)

  -- where some tried vector is under w, and none under w - 1, that is v
  pub bound_is : (w : ℤ) (y : List ℤ) → first_under n L U w ≡ some y → first_under n L U (w -ℤ pos 1) ≡ none → w ≡ least_bound n L U
  bound_is w y e f =
      let p = first_found n L U w y e in
      let v = least_bound n L U in
      let below : v <ℤ w → v ≤ℤ (w -ℤ pos 1) = λ h. order (w ∷ v ∷ []) h (search solver depth 40 fits 20000) (omega arith) in
      ≤ℤ_antisym (≤_unless (λ h. absurd (attained_found n L U bound_attained (below h) f))) (under-bound w y p.0 p.1)

  pub bound-first : First n L U (least_bound n L U)
  bound-first = go (first_under n L U (least_bound n L U)) refl
    where
      go : (q : Option (List ℤ)) → first_under n L U (least_bound n L U) ≡ q → First n L U (least_bound n L U)
      go (some y) e = let p = first_found n L U (least_bound n L U) y e in record { vector = y; found = e; from_list = p.0; low = p.1 }
      go none e = absurd (attained_found n L U bound_attained (≤ℤ_refl _) e)
