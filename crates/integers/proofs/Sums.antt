-- Laws of finite sums, for any length.
use mathlib.Core.Path.{◌≡◌, refl, sym, ap, ap₂, ◌∙◌, subst}
use mathlib.Core.Bool.{Bool, true, false}
use mathlib.Core.Logic.{◌≢◌, by_cases}
use mathlib.Core.List.{[], ◌∷◌}
use Prim.Native.Nat.{ℕ, zero, suc, ◌≤◌, ◌<◌}
use native.Mathlib.Omega.{arith}
use native.Mathlib.Decide.{ℕ_discrete}
use lib.Dec.{T, eqb, eqb→eq, eqb_refl}
use lib.IntN.{ℤ, pos, ◌+ℤ◌, ◌*ℤ◌, *ℤ-zero, zero-*ℤ, *ℤ_comm}
use lib.Signed.{◌≤ℤ◌, ≤ℤ_refl}
use Rattle.integers.specs.Sum.{sum, only, except, sum_except}
use Rattle.integers.proofs.Parts.{+ℤ_mono}
use Rattle.integers.proofs.Solver.{◌&◌, ring, order, solver}

-- ---- the definition's two cases
pub sum_zero : (f : ℕ → ℤ) → sum zero f ≡ pos 0
unfolding sum
sum_zero f = refl

pub sum_suc : (n : ℕ) (f : ℕ → ℤ) → sum (suc n) f ≡ sum n f +ℤ f n
unfolding sum
sum_suc n f = refl

-- ---- equal terms, and terms that are all 0 or all the same
pub sum_ext : (n : ℕ) (f g : ℕ → ℤ) → ((i : ℕ) → i < n → f i ≡ g i) → sum n f ≡ sum n g
unfolding sum
sum_ext zero f g h = refl
sum_ext (suc n) f g h = ap₂ (λ (u v : ℤ). u +ℤ v) (sum_ext n f g (λ i k. h i (omega arith))) (h n (omega arith))

pub sum-none : (n : ℕ) (f : ℕ → ℤ) → ((i : ℕ) → i < n → f i ≡ pos 0) → sum n f ≡ pos 0
unfolding sum
sum-none zero f z = refl
sum-none (suc n) f z = ap₂ (λ (u v : ℤ). u +ℤ v) (sum-none n f (λ i k. z i (omega arith))) (z n (omega arith))

pub sum_const : (n : ℕ) (c : ℤ) → sum n (λ i. c) ≡ pos n *ℤ c
sum_const zero c = sum_zero (λ i. c) ∙ sym (zero-*ℤ c)
sum_const (suc n) c =
    sum_suc n (λ i. c) ∙ rw (sum_const n c) (ring (pos n ∷ c ∷ []) (search solver depth 40 fits 20000) refl)

-- ---- sums, multiples, and the exchange of two sums
pub sum-+ : (n : ℕ) (f g : ℕ → ℤ) → sum n (λ i. f i +ℤ g i) ≡ sum n f +ℤ sum n g
unfolding sum
sum-+ zero f g = refl
sum-+ (suc n) f g =
    ap (λ (u : ℤ). u +ℤ (f n +ℤ g n)) (sum-+ n f g)
    ∙ ring (sum n f ∷ sum n g ∷ f n ∷ g n ∷ []) (search solver depth 40 fits 20000) refl

pub sum-* : (n : ℕ) (c : ℤ) (f : ℕ → ℤ) → sum n (λ i. c *ℤ f i) ≡ c *ℤ sum n f
unfolding sum
sum-* zero c f = sym (*ℤ-zero c)
sum-* (suc n) c f =
    ap (λ (u : ℤ). u +ℤ c *ℤ f n) (sum-* n c f) ∙ ring (sum n f ∷ f n ∷ c ∷ []) (search solver depth 40 fits 20000) refl

pub sum_*ʳ : (n : ℕ) (f : ℕ → ℤ) (c : ℤ) → sum n (λ i. f i *ℤ c) ≡ sum n f *ℤ c
sum_*ʳ n f c = sum_ext n (λ i. f i *ℤ c) (λ i. c *ℤ f i) (λ i k. *ℤ_comm (f i) c) ∙ sum-* n c f ∙ *ℤ_comm c (sum n f)

pub sum_swap : (n m : ℕ) (f : ℕ → ℕ → ℤ) → sum n (λ i. sum m (λ j. f i j)) ≡ sum m (λ j. sum n (λ i. f i j))
unfolding sum
sum_swap zero m f = sym (sum-none m (λ j. pos 0) (λ j k. refl))
sum_swap (suc n) m f =
    ap (λ (u : ℤ). u +ℤ sum m (λ j. f n j)) (sum_swap n m f) ∙ sym (sum-+ m (λ j. sum n (λ i. f i j)) (λ j. f n j))

pub sum_product : (n m : ℕ) (f g : ℕ → ℤ) → sum n f *ℤ sum m g ≡ sum n (λ i. sum m (λ j. f i *ℤ g j))
sum_product n m f g = sym (sum_*ʳ n f (sum m g)) ∙ sum_ext n _ _ (λ i k. sym (sum-* m (f i) g))

-- ---- orders
pub sum_mono : (n : ℕ) (f g : ℕ → ℤ) → ((i : ℕ) → i < n → f i ≤ℤ g i) → sum n f ≤ℤ sum n g
unfolding sum
sum_mono zero f g h = ≤ℤ_refl (pos 0)
sum_mono (suc n) f g h = +ℤ_mono (sum_mono n f g (λ i k. h i (omega arith))) (h n (omega arith))

pub sum_nonneg : (n : ℕ) (f : ℕ → ℤ) → ((i : ℕ) → i < n → pos 0 ≤ℤ f i) → pos 0 ≤ℤ sum n f
unfolding sum
sum_nonneg zero f h = ≤ℤ_refl (pos 0)
sum_nonneg (suc n) f h = +ℤ_mono (sum_nonneg n f (λ i k. h i (omega arith))) (h n (omega arith))

-- ---- a prefix of which the rest is 0
pub sum_prefix : (n m : ℕ) (f : ℕ → ℤ) → m ≤ n → ((k : ℕ) → m ≤ k → k < n → f k ≡ pos 0) → sum n f ≡ sum m f
sum_prefix zero m f h z = let e : m ≡ 0 = omega arith in rw e refl
sum_prefix (suc n) m f h z =
    by_cases (ℕ_discrete m (suc n)) (λ e. rw e refl)
    (λ e. order (sum (suc n) f ∷ sum n f ∷ sum m f ∷ f n ∷ [])
    (sum_suc n f & sum_prefix n m f (omega arith) (λ k a b. z k a (omega arith)) & z n (omega arith) (omega arith)) (search solver depth 40 fits 20000) (omega arith))

-- ---- one index, and all but one: by cases on i = j
pub eqb_by : (i j : ℕ) (P : Bool → Type 0) → (i ≡ j → P true) → (i ≢ j → P false) → P (eqb i j)
eqb_by i j P f g = go (eqb i j) (eqb→eq i j) (λ e. subst (λ (k : ℕ). T (eqb i k)) e (eqb_refl i))
  where
    go : (b : Bool) → (T b → i ≡ j) → (i ≡ j → T b) → P b
    go true to of = f (to tt)
    go false to of = g of

pub only_by : (i j : ℕ) (x : ℤ) (P : ℤ → Type 0) → (i ≡ j → P x) → (i ≢ j → P (pos 0)) → P (only i j x)
unfolding only
only_by i j x P f g = eqb_by i j (λ b. P (elim b as (λ z. ℤ) [ true ↦ x | false ↦ pos 0 ])) f g

pub except_by : (i j : ℕ) (x y : ℤ) (P : ℤ → ℤ → Type 0) → (i ≡ j → P (pos 0) (pos 0)) → (i ≢ j → P x y) → P (except i j x) (except i j y)
unfolding except
except_by i j x y P f g =
    eqb_by i j (λ b. P (elim b as (λ z. ℤ) [ true ↦ pos 0 | false ↦ x ]) (elim b as (λ z. ℤ) [ true ↦ pos 0 | false ↦ y ])) f g

pub only_same : (i : ℕ) (x : ℤ) → only i i x ≡ x
only_same i x = only_by i i x (λ z. z ≡ x) (λ e. refl) (λ h. absurd (h refl))

pub only_other : (i j : ℕ) (x : ℤ) → i ≢ j → only i j x ≡ pos 0
only_other i j x h = only_by i j x (λ z. z ≡ pos 0) (λ e. absurd (h e)) (λ k. refl)

pub except-same : (i : ℕ) (x : ℤ) → except i i x ≡ pos 0
except-same i x = except_by i i x x (λ z w. z ≡ pos 0) (λ e. refl) (λ h. absurd (h refl))

pub except_other : (i j : ℕ) (x : ℤ) → i ≢ j → except i j x ≡ x
except_other i j x h = except_by i j x x (λ z w. z ≡ x) (λ e. absurd (h e)) (λ k. refl)

pub except_sym : (i j : ℕ) (x : ℤ) → except i j x ≡ except j i x
except_sym i j x = by_cases (ℕ_discrete i j) (λ e. rw e) (λ h. except_other i j x h ∙ sym (except_other j i x (omega arith)))

pub except_mono : (i j : ℕ) {x y : ℤ} → (i ≢ j → x ≤ℤ y) → except i j x ≤ℤ except i j y
except_mono i j {x} {y} h = except_by i j x y (λ z w. z ≤ℤ w) (λ e. ≤ℤ_refl (pos 0)) h

pub except-* : (i j : ℕ) (c x : ℤ) → except i j (c *ℤ x) ≡ c *ℤ except i j x
except-* i j c x = except_by i j (c *ℤ x) x (λ z w. z ≡ c *ℤ w) (λ e. sym (*ℤ-zero c)) (λ h. refl)

pub sum_except_mono : (n i : ℕ) (f g : ℕ → ℤ) → ((j : ℕ) → j < n → i ≢ j → f j ≤ℤ g j) → sum_except n i f ≤ℤ sum_except n i g
sum_except_mono n i f g h = sum_mono n _ _ (λ j k. except_mono i j (h j k))

pub sum_except-* : (n i : ℕ) (c : ℤ) (f : ℕ → ℤ) → sum_except n i (λ j. c *ℤ f j) ≡ c *ℤ sum_except n i f
sum_except-* n i c f = sum_ext n _ _ (λ j k. except-* i j c (f j)) ∙ sum-* n c _

-- a sum split at an index
pub sum-at : (n i : ℕ) (f : ℕ → ℤ) → i < n → sum n f ≡ f i +ℤ sum_except n i f
unfolding sum
sum-at zero i f h = absurd (omega arith)
sum-at (suc n) i f h =
    let below : sum_except n n f ≡ sum n f = sum_ext n (λ j. except n j (f j)) f (λ j k. except_other n j (f j) (omega arith)) in
    by_cases (ℕ_discrete i n)
    (λ e. rw (e, except-same n (f n), below) (ring (sum n f ∷ f n ∷ []) (search solver depth 40 fits 20000) refl))
    (λ k. rw (sum-at n i f (omega arith), except_other i n (f n) k) (ring (sum_except n i f ∷ f i ∷ f n ∷ []) (search solver depth 40 fits 20000) refl))

-- a sum of which one term is not 0
pub sum_single : (n m : ℕ) (f : ℕ → ℤ) → m < n → ((i : ℕ) → i < n → m ≢ i → f i ≡ pos 0) → sum n f ≡ f m
sum_single n m f h z =
    order (sum n f ∷ f m ∷ sum_except n m f ∷ [])
    (sum-at n m f h & sum-none n _ (λ j k. except_by m j (f j) (f j) (λ x y. x ≡ pos 0) (λ e. refl) (z j k)))
    (search solver depth 40 fits 20000) (omega arith)

pub sum-only : (n m : ℕ) (f : ℕ → ℤ) → m < n → sum n (λ i. only m i (f i)) ≡ f m
sum-only n m f h = sum_single n m _ h (λ i k. only_other m i (f i)) ∙ only_same m (f m)

-- no term of a sum of terms that are not negative is greater than the sum
pub term_≤-sum : (n k : ℕ) (f : ℕ → ℤ) → k < n → ((i : ℕ) → i < n → pos 0 ≤ℤ f i) → f k ≤ℤ sum n f
term_≤-sum n k f h g =
    order (sum n f ∷ f k ∷ sum_except n k f ∷ [])
    (sum-at n k f h & sum_nonneg n _ (λ j l. except_by k j (f j) (f j) (λ x y. pos 0 ≤ℤ x) (λ e. ≤ℤ_refl (pos 0)) (λ e. g j l)))
    (search solver depth 40 fits 20000) (omega arith)
