-- R8 and R26.1 of docs/RULES.md: a member attains the least value of x, and no member goes below it, and so x is under w exactly if it is
-- a witness vector at w: nonzero, with x'Mx ≤ w·x'x for some member M. R8.3 is the case w = 0. For any order n.
use mathlib.Core.Path.{◌≡◌, refl, sym, ap₂, ◌∙◌}
use mathlib.Core.Bool.{Bool, true, false, false≢true, not, ◌&&◌, ◌||◌}
use mathlib.Core.Logic.{◌≢◌}
use mathlib.Core.List.{List, [], ◌∷◌}
use Prim.Native.Nat.{ℕ, zero, suc, ◌*◌, ◌≤◌, ◌<◌}
use native.Mathlib.Nat.{mul-le-mul_right}
use native.Mathlib.Omega.{arith}
use lib.Dec.{T, eqb}
use lib.IntN.{ℤ, pos, neg_ℤ, ◌*ℤ◌, *ℤ_comm, zero-*ℤ, ℤ_discrete}
use lib.Signed.{◌≤ℤ◌, ◌<ℤ◌, lt_z, lt_z_yes, lt_z_no, ≤ℤ_refl, clash_ℤ}
use Rattle.integers.specs.Numbers.{Within, abs_ℤ}
use Rattle.integers.specs.Sum.{sum, sum_except}
use Rattle.integers.proofs.Parts.{*ℤ_assoc, ≤ℤ_trans, *ℤ-nonneg, square_nonneg, gap-nonneg, pos_nonneg, le_z_true}
use Rattle.integers.proofs.Solver.{◌&◌, ring, order, solver}
use Rattle.integers.proofs.Order.{<-≤, *ℤ_cancel, neg-≤-abs, abs-≤}
use Rattle.integers.proofs.Sums.{sum_const, sum_ext, sum_mono, sum-at, eqb_by}
use Rattle.integers.proofs.Machine.{within_more, within-*, within-neg, within-sum, within-high}
use Rattle.tables.specs.Ranges.{greatest_order, entry_range}
use Rattle.tables.specs.Matrix.{Matrix, at, form, norm_squared}
use Rattle.tables.specs.Entering.{low_bounds, high_bounds}
use Rattle.tables.specs.Members.{Member, Nonzero, PositiveDefinite}
use Rattle.tables.specs.Bounds.{Bounds}
use Rattle.tables.specs.Checks.{all, same}
use Rattle.tables.proofs.MendedTables.{member_mended, mended_member}
use Rattle.tables.proofs.Checks.{and_left, and_right, and_of, all_false, le_of, same_true, same_false}
use Rattle.tables.proofs.Forms.{form-*, norm_positive}
use Rattle.tables.proofs.Dominance.{dominant_above}
use Rattle.vectors.specs.Least.{least_member, least_value, nonzero, shows, Witness, under, WitnessAt}

-- ---- entry (i, j) of the member that attains the least value, by the cases of R8.1
module _ (L U : Matrix) (x : ℕ → ℤ) where
  pub least_by : (i j : ℕ) (P : ℤ → Type 0) → (i ≡ j → P (L i j)) → (i ≢ j → pos 0 <ℤ (x i *ℤ x j) → P (L i j)) →
      (i ≢ j → (x i *ℤ x j) ≤ℤ pos 0 → P (U i j)) → P (least_member L U x i j)
  unfolding least_member
  least_by i j P f g h =
      eqb_by i j (λ b. P (elim (b || lt_z (pos 0) (x i *ℤ x j)) as (λ z. ℤ) [ true ↦ L i j | false ↦ U i j ])) f
      (λ d. off (lt_z (pos 0) (x i *ℤ x j)) (λ t. g d (lt_z_yes t)) (λ t. h d (lt_z_no t)))
    where
      off : (b : Bool) → (T b → P (L i j)) → (T (not b) → P (U i j)) → P (elim (false || b) as (λ z. ℤ) [ true ↦ L i j | false ↦ U i j ])
      off true low high = low tt
      off false low high = high tt

  -- it is symmetric
  pub least_symmetric : {n : ℕ} → Bounds n L U → (i j : ℕ) → i < n → j < n → least_member L U x i j ≡ least_member L U x j i
  least_symmetric b i j h k =
      least_by i j (λ z. z ≡ least_member L U x j i)
      (λ e. least_by j i (λ z. L i j ≡ z) (λ f. low) (λ d q. low) (λ d q. absurd (d (sym e))))
      (λ d p. least_by j i (λ z. L i j ≡ z) (λ e. low) (λ e q. low) (λ e q. absurd (clash_ℤ p (rw (*ℤ_comm (x j) (x i)) at q))))
      (λ d p. least_by j i (λ z. U i j ≡ z) (λ e. absurd (d (sym e))) (λ e q. absurd (clash_ℤ (rw (*ℤ_comm (x j) (x i)) at q) p))
      (λ e q. b.high_symmetric i j h k))
    where
      low : L i j ≡ L j i
      low = b.low_symmetric i j h k

-- the least value rests on the first n entries
pub least_ext : (n : ℕ) (L U : Matrix) (x y : ℕ → ℤ) → ((i : ℕ) → i < n → x i ≡ y i) → least_value n L U x ≡ least_value n L U y
unfolding least_value form least_member
least_ext n L U x y h =
    sum_ext n _ _ (λ i k. sum_ext n _ _ (λ j l.
    ap₂ (λ (a b : ℤ). a *ℤ (elim (eqb i j || lt_z (pos 0) (a *ℤ b)) as (λ z. ℤ) [ true ↦ L i j | false ↦ U i j ]) *ℤ b) (h i k) (h j l)))

-- a bound, over denominator 1
one-low : {x y : ℤ} → x ≤ℤ y → (pos 1 *ℤ x) ≤ℤ y
one-low {x} {y} h = order (x ∷ y ∷ []) h (search solver depth 40 fits 20000) (omega arith)

one-high : {x y : ℤ} → x ≤ℤ y → x ≤ℤ (pos 1 *ℤ y)
one-high {x} {y} h = order (x ∷ y ∷ []) h (search solver depth 40 fits 20000) (omega arith)

-- a member attains the least value
pub least_member_lem : {n : ℕ} {L U : Matrix} → Bounds n L U → (x : ℕ → ℤ) → Member n L U (least_member L U x) (pos 1)
least_member_lem {n} {L} {U} b x = record {
  whole = ≤ℤ_refl (pos 1);
  symmetric = least_symmetric L U x b;
  low = λ i j h k.
      let l = ≤ℤ_refl (L i j) in
      one-low (least_by L U x i j (λ z. L i j ≤ℤ z) (λ e. l) (λ d p. l) (λ d p. b.ordered i j h k));
  high = λ i j h k.
      let o = b.ordered i j h k in
      one-high (least_by L U x i j (λ z. z ≤ℤ U i j) (λ e. o) (λ d p. o) (λ d p. ≤ℤ_refl (U i j)));
}

-- ---- no member goes below the least value: each term of q times it is at most that of the member N over q
module _ {n : ℕ} {L U N : Matrix} {q : ℤ} (m : Member n L U N q) (x : ℕ → ℤ) where
  low_term : (i j : ℕ) → i < n → j < n → pos 0 ≤ℤ (x i *ℤ x j) → (x i *ℤ (q *ℤ L i j) *ℤ x j) ≤ℤ (x i *ℤ N i j *ℤ x j)
  low_term i j h k p =
      order (x i ∷ x j ∷ q ∷ L i j ∷ N i j ∷ []) (*ℤ-nonneg p (gap-nonneg (m.low i j h k))) (search solver depth 40 fits 20000) (omega arith)

  high_term : (i j : ℕ) → i < n → j < n → (x i *ℤ x j) ≤ℤ pos 0 → (x i *ℤ (q *ℤ U i j) *ℤ x j) ≤ℤ (x i *ℤ N i j *ℤ x j)
  high_term i j h k p =
      order (x i ∷ x j ∷ q ∷ U i j ∷ N i j ∷ []) (*ℤ-nonneg (gap-nonneg p) (gap-nonneg (m.high i j h k)))
      (search solver depth 40 fits 20000) (omega arith)

  least_term_lem : (i j : ℕ) → i < n → j < n → (x i *ℤ (q *ℤ least_member L U x i j) *ℤ x j) ≤ℤ (x i *ℤ N i j *ℤ x j)
  least_term_lem i j h k =
      least_by L U x i j (λ z. (x i *ℤ (q *ℤ z) *ℤ x j) ≤ℤ (x i *ℤ N i j *ℤ x j))
      (λ e. low_term i j h k (rw e (square_nonneg (x j)))) (λ d p. low_term i j h k (<-≤ p)) (λ d p. high_term i j h k p)

  pub least-below : (q *ℤ least_value n L U x) ≤ℤ form n N x
  unfolding least_value form
  least-below =
      rw (← form-* n q (least_member L U x) x) (sum_mono n _ _ (λ i h. sum_mono n _ _ (λ j k. least_term_lem i j h k)))

-- ---- how low a least value may be: by Gerschgorin no lower than -n·2^20·x'x, since each row has n entries from -2^20 to 2^20
module _ {n : ℕ} {L U : Matrix} (b : Bounds n L U) (x : ℕ → ℤ) where
  abbrev F : Matrix
  F = least_member L U x

  pub least_member_within : {i j : ℕ} → i < n → j < n → Within entry_range (least_member L U x i j)
  least_member_within {i} {j} h k =
      let low : Within entry_range (L i j) = record { size = b.low_range i j h k } in
      least_by L U x i j (Within entry_range) (λ e. low) (λ d p. low) (λ d p. record { size = b.high_range i j h k })

  -- so the least value of a vector with entries within ±m is within ±64·2^20·m²
  pub least_value_within : n ≤ greatest_order → (m : ℕ) → ((i : ℕ) → i < n → Within m (x i)) → Within (greatest_order * (greatest_order * (m * entry_range * m))) (least_value n L U x)
  unfolding least_value form
  least_value_within o m w =
      let term = m * entry_range * m in
      within_more (mul-le-mul_right (greatest_order * term) o) (within-sum n (greatest_order * term) _ (λ i h.
      within_more (mul-le-mul_right term o) (within-sum n term _ (λ j k. within-* (within-* (w i h) (least_member_within h k)) (w j k)))))

  -- the |F(i,j)| of a row together are at most n·2^20
  row-most : (i : ℕ) → i < n → sum n (λ j. abs_ℤ (F i j)) ≤ℤ (pos n *ℤ pos entry_range)
  row-most i h =
      rw (← sum_const n (pos entry_range)) (sum_mono n _ _ (λ j k.
      let w = least_member_within h k in
      abs-≤ (within-high w) (within-high (within-neg w))))

  pub least_above : (neg_ℤ (pos (n * entry_range)) *ℤ norm_squared n x) ≤ℤ least_value n L U x
  unfolding least_value
  least_above =
      dominant_above n F (neg_ℤ (pos (n * entry_range))) (record {
        symmetric = least_symmetric L U x b;
        dominates = λ i h.
            order (pos n ∷ F i i ∷ abs_ℤ (F i i) ∷ sum n (λ j. abs_ℤ (F i j)) ∷ sum_except n i (λ j. abs_ℤ (F i j)) ∷ [])
            (row-most i h & sum-at n i (λ j. abs_ℤ (F i j)) h & neg-≤-abs (F i i)) (search solver depth 40 fits 20000) (omega arith);
      }) x

-- ---- the test of a nonzero vector
find_nonzero : (n : ℕ) (x : ℕ → ℤ) → not (all n (λ i. same (x i) (pos 0))) ≡ true → Nonzero n x
unfolding all
find_nonzero zero x e = absurd (false≢true e)
find_nonzero (suc n) x e = go (ℤ_discrete (x n) (pos 0)) (find_nonzero n x)
  where
    go : Dec (x n ≡ pos 0) → (not (all n (λ i. same (x i) (pos 0))) ≡ true → Nonzero n x) → Nonzero (suc n) x
    go (yes z) ih =
        let w = ih (shorter (all n (λ i. same (x i) (pos 0))) (same (x n) (pos 0)) (same_true z) e) in
        record { index = w.index; inside = omega (arith, w.inside); differs = w.differs }
      where
        shorter : (a b : Bool) → b ≡ true → not (a && b) ≡ true → not a ≡ true
        shorter true b t e = rw t at e
        shorter false b t e = refl
    go (no d) ih = record { index = n; inside = omega arith; differs = d }

module _ {n : ℕ} {x : ℕ → ℤ} where
  pub nonzero-of : nonzero n x ≡ true → Nonzero n x
  unfolding nonzero
  nonzero-of e = find_nonzero n x e

  pub nonzero_true : Nonzero n x → nonzero n x ≡ true
  unfolding nonzero
  nonzero_true z = rw (all_false (λ i. same (x i) (pos 0)) n z.index z.inside (same_false z.differs)) refl

-- ---- R26.1: a nonzero x is under w exactly if some member M has x'Mx ≤ w·x'x
module _ {n : ℕ} {L U : Matrix} {w : ℤ} {x : ℕ → ℤ} where
  pub under-witness : Bounds n L U → under n L U w x ≡ true → WitnessAt n L U w x
  unfolding under least_value
  under-witness b e =
      let low : least_value n L U x ≤ℤ (w *ℤ norm_squared n x) = le_of _ _ (and_right (nonzero n x) _ e) in
      record {
        differs = nonzero-of (and_left _ _ e);
        matrix = least_member L U x;
        denominator = pos 1;
        member = least_member_lem b x;
        low = order (least_value n L U x ∷ w ∷ norm_squared n x ∷ []) low (search solver depth 40 fits 20000) (omega arith);
      }

  pub witness-under : WitnessAt n L U w x → under n L U w x ≡ true
  unfolding under
  witness-under f = and_of (nonzero_true f.differs) (le_z_true (*ℤ_cancel f.denominator f.member.whole below))
    where
      below : (f.denominator *ℤ least_value n L U x) ≤ℤ (f.denominator *ℤ (w *ℤ norm_squared n x))
      below = rw (← *ℤ_assoc f.denominator w (norm_squared n x)) (≤ℤ_trans (least-below f.member x) f.low)

module _ (n : ℕ) (L U : Matrix) (x : ℕ → ℤ) where
  -- what is under w is under each greater number
  pub under_more : {w w' : ℤ} → w ≤ℤ w' → under n L U w x ≡ true → under n L U w' x ≡ true
  unfolding under
  under_more {w} {w'} h e =
      let z = and_left (nonzero n x) _ e in
      let more : (w *ℤ norm_squared n x) ≤ℤ (w' *ℤ norm_squared n x) =
      order (w ∷ w' ∷ norm_squared n x ∷ []) (*ℤ-nonneg (gap-nonneg h) (≤ℤ_trans (pos_nonneg 1) (norm_positive (nonzero-of z)))) (search solver depth 40 fits 20000) (omega arith) in
      and_of z (le_z_true (≤ℤ_trans (le_of (least_value n L U x) _ (and_right (nonzero n x) _ e)) more))

  pub under_zero : under n L U (pos 0) x ≡ shows n L U x
  unfolding under shows
  under_zero = rw (zero-*ℤ (norm_squared n x)) refl

-- ---- R8.3, the case w = 0: a nonzero x shows 'not definite' exactly if some member M has x'Mx ≤ 0
-- q·0·x'x is 0
zero_product : (q z : ℤ) → q *ℤ pos 0 *ℤ z ≡ pos 0
zero_product q z = ring (q ∷ z ∷ []) (search solver depth 40 fits 20000) refl

module _ {n : ℕ} {L U : Matrix} {x : ℕ → ℤ} where
  pub witness-at_zero : Witness n L U x → WitnessAt n L U (pos 0) x
  witness-at_zero f = record { differs = f.differs; matrix = f.matrix; denominator = f.denominator; member = f.member; low = rw (zero_product f.denominator (norm_squared n x)) f.low }

  pub zero_witness : WitnessAt n L U (pos 0) x → Witness n L U x
  zero_witness f = record { differs = f.differs; matrix = f.matrix; denominator = f.denominator; member = f.member; low = rw (zero_product f.denominator (norm_squared n x)) at f.low }

  pub shows-witness : Bounds n L U → shows n L U x ≡ true → Witness n L U x
  shows-witness b e = zero_witness (under-witness b (under_zero n L U x ∙ e))

  pub witness-shows : Witness n L U x → shows n L U x ≡ true
  witness-shows f = sym (under_zero n L U x) ∙ witness-under (witness-at_zero f)

-- a vector that shows it refutes that every member is positive definite
pub shows_not_definite : {n : ℕ} {L U : Matrix} (x : ℕ → ℤ) → Bounds n L U → shows n L U x ≡ true → PositiveDefinite n L U → ⊥
shows_not_definite {n} {L} {U} x b e p =
    let f : Witness n L U x = shows-witness b e in
    clash_ℤ (p.positive f.matrix f.denominator f.member x f.differs) f.low

-- ---- a witness vector of tables as they are handed in is one of the mended tables, and the other way round
module _ (n : ℕ) (l u : List ℤ) {x : ℕ → ℤ} where
  module _ {w : ℤ} where
    pub witness-at-mended : WitnessAt n (at n l) (at n u) w x → WitnessAt n (low_bounds n l) (high_bounds n u) w x
    witness-at-mended f = record { differs = f.differs; matrix = f.matrix; denominator = f.denominator; member = member_mended n l u f.member; low = f.low }

    pub witness-at-handed : WitnessAt n (low_bounds n l) (high_bounds n u) w x → WitnessAt n (at n l) (at n u) w x
    witness-at-handed f = record { differs = f.differs; matrix = f.matrix; denominator = f.denominator; member = mended_member n l u f.member; low = f.low }

  pub witness-mended : Witness n (at n l) (at n u) x → Witness n (low_bounds n l) (high_bounds n u) x
  witness-mended f = zero_witness (witness-at-mended (witness-at_zero f))

  pub witness-handed : Witness n (low_bounds n l) (high_bounds n u) x → Witness n (at n l) (at n u) x
  witness-handed f = zero_witness (witness-at-handed (witness-at_zero f))
