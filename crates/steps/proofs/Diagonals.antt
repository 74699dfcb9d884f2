-- Diagonal entries that are lowered one by one, and the trial on what is left.
use mathlib.Core.Path.{◌≡◌, refl, sym, ◌∙◌, subst}
use mathlib.Core.Bool.{Bool, true, false, ◌&&◌}
use mathlib.Core.Logic.{◌≢◌, by_cases}
use mathlib.Core.List.{List, [], ◌∷◌}
use Prim.Native.Nat.{ℕ, suc, ◌+◌, ◌*◌, ◌-◌, ◌≤◌, ◌<◌}
use native.Mathlib.Omega.{arith}
use native.Mathlib.Decide.{dec_lt, ℕ_discrete}
use lib.Dec.{T, leb, ltb}
use lib.IntN.{ℤ, pos, ◌-ℤ◌, +ℤ_idr}
use lib.Signed.{◌≤ℤ◌, le_z}
use lib.ListN.{length, set, length-set}
use borrow.Author.Tests.{leb-true, leb-false}
use Rattle.integers.specs.Numbers.{Within}
use Rattle.integers.proofs.Parts.{le_z_true}
use Rattle.integers.proofs.Solver.{◌&◌, order, solver}
use Rattle.integers.proofs.Sums.{only_same, only_other}
use Rattle.integers.proofs.Machine.{within_more, within_in}
use Rattle.tables.specs.Ranges.{greatest_order, table_room}
use Rattle.tables.specs.Matrix.{Matrix}
use Rattle.tables.specs.Checks.{all}
use Rattle.tables.proofs.Checks.{false_of, all_of, all-at, le_of}
use Rattle.cholesky.specs.Store.{upper, stride}
use Rattle.cholesky.specs.Reduced.{ends_from}
use Rattle.cholesky.proofs.Store.{upper-same, upper_other}
use Rattle.cholesky.proofs.Reduced.{ends-diagonal, ends_ext}
use Rattle.steps.specs.Steps.{lowered}
use Rattle.cholesky.specs.Rows.{product_range, rest_range, Factorable}
use Rattle.steps.specs.Tables.{taken, stays, Lowered, Triable}

-- ---- what is taken off
module _ (first last : ℕ) (t : ℤ) (i : ℕ) where
  pub taken_by : (P : ℤ → Type 0) → (first ≤ i → i < last → P t) → ((first ≤ i → i < last → ⊥) → P (pos 0)) → P (taken first last t i)
  unfolding taken
  taken_by P f g = go (leb first i) (ltb i last) (leb-true first i) (leb-false first i) (leb-true (suc i) last) (leb-false (suc i) last)
    where
      go : (a b : Bool) → (a ≡ true → first ≤ i) → (a ≡ false → i < first) → (b ≡ true → suc i ≤ last) → (b ≡ false → last < suc i) →
          P (elim (a && b) as (λ z. ℤ) [ true ↦ t | false ↦ pos 0 ])
      go true true p q r s = f (p refl) (r refl)
      go true false p q r s = g (λ u v. let w = s refl in absurd (omega arith))
      go false b p q r s = g (λ u v. let w = q refl in absurd (omega arith))

  pub taken_in : first ≤ i → i < last → taken first last t i ≡ t
  taken_in h k = taken_by (λ z. z ≡ t) (λ u v. refl) (λ f. absurd (f h k))

  pub taken_out : (first ≤ i → i < last → ⊥) → taken first last t i ≡ pos 0
  taken_out f = taken_by (λ z. z ≡ pos 0) (λ u v. absurd (f u v)) (λ g. refl)

-- ---- a matrix with d taken off its diagonal
module _ (d : ℕ → ℤ) (M : Matrix) where
  pub lowered_on : (i : ℕ) → lowered d M i i ≡ M i i -ℤ d i
  unfolding lowered
  lowered_on i = rw (only_same i (d i))

  pub lowered_off : (i j : ℕ) → i ≢ j → lowered d M i j ≡ M i j
  unfolding lowered
  lowered_off i j h = rw (only_other i j (d i) h) (+ℤ_idr (M i j))

  -- where nothing is taken off
  pub lowered_none : (i j : ℕ) → d i ≡ pos 0 → lowered d M i j ≡ M i j
  lowered_none i j e = by_cases (ℕ_discrete i j) (λ q. rw (← q) (lowered_on i ∙ rw e (+ℤ_idr (M i i)))) (lowered_off i j)

-- equal numbers taken off equal entries
pub lowered_ext : (d e : ℕ → ℤ) (M N : Matrix) (i j : ℕ) → d i ≡ e i → M i j ≡ N i j → lowered d M i j ≡ lowered e N i j
unfolding lowered
lowered_ext d e M N i j h k = rw (h, k) refl

-- ---- one diagonal entry after the other
module _ {first : ℕ} {e : ℤ} {s : List ℤ} where
  pub lower_start : length s ≡ table_room → Lowered first first e s s
  lower_start h =
      record { size = h; entries = λ a b p q. sym (lowered_none _ (upper s) a b (taken_out first first e a (λ u v. absurd (omega arith)))) }

  -- the next entry is as it was
  pub lower_reads : {i : ℕ} {s' : List ℤ} → i < greatest_order → Lowered first i e s s' → upper s' i i ≡ upper s i i
  lower_reads {i} k w = w.entries i i k k ∙ lowered_none _ (upper s) i i (taken_out first i e i (λ u v. absurd (omega arith)))

  pub lower_more : {i : ℕ} {s' : List ℤ} → first ≤ i → i < greatest_order → Lowered first i e s s' →
      Lowered first (suc i) e s (set s' (stride * i + i) (upper s' i i -ℤ e))
  lower_more {i} {s'} h k w =
      record {
        size = length-set s' (stride * i + i) (upper s' i i -ℤ e) ∙ w.size;
        entries = λ a b p q. go a b p q (ℕ_discrete a i) (ℕ_discrete b i);
      }
    where
      -- the numbers taken off differ in entry i alone
      same : (a : ℕ) → (a ≡ i → ⊥) → taken first i e a ≡ taken first (suc i) e a
      same a x =
          taken_by first i e a (λ z. z ≡ taken first (suc i) e a) (λ u v. sym (taken_in first (suc i) e a u (omega arith)))
          (λ f. sym (taken_out first (suc i) e a (λ u v. f u (omega arith))))

      go : (a b : ℕ) → a < greatest_order → b < greatest_order → Dec (a ≡ i) → Dec (b ≡ i) →
          upper (set s' (stride * i + i) (upper s' i i -ℤ e)) a b ≡ lowered (taken first (suc i) e) (upper s) a b
      go a b p q (yes x) (yes y) =
          rw (x, y) (upper-same s' i i (upper s' i i -ℤ e) (omega (arith, w.size))
          ∙ rw (lower_reads k w, lowered_on (taken first (suc i) e) (upper s) i, taken_in first (suc i) e i h (omega arith)) refl)
      go a b p q (yes x) (no y) =
          upper_other s' i i (upper s' i i -ℤ e) a b (omega arith) ∙ w.entries a b p q
          ∙ lowered_off _ (upper s) a b (omega arith) ∙ sym (lowered_off _ (upper s) a b (omega arith))
      go a b p q (no x) y =
          upper_other s' i i (upper s' i i -ℤ e) a b (omega arith) ∙ w.entries a b p q
          ∙ lowered_ext _ _ (upper s) (upper s) a b (same a x) refl

-- ---- the test of the diagonal
module _ (S : Matrix) (first : ℕ) (e : ℤ) where
  pub stays_by : (i : ℕ) (P : Bool → Type 0) → (first ≤ i → P (le_z (pos 1) (S i i -ℤ e))) → (i < first → P true) → P (stays S first e i)
  unfolding stays
  stays_by i P f g = go (leb first i) (leb-true first i) (leb-false first i)
    where
      go : (b : Bool) → (b ≡ true → first ≤ i) → (b ≡ false → i < first) →
          P (elim b as (λ z. Bool) [ true ↦ le_z (pos 1) (S i i -ℤ e) | false ↦ true ])
      go true p q = f (p refl)
      go false p q = g (q refl)

  pub stays_is : (i : ℕ) → first ≤ i → stays S first e i ≡ le_z (pos 1) (S i i -ℤ e)
  stays_is i h = stays_by i (λ b. b ≡ le_z (pos 1) (S i i -ℤ e)) (λ k. refl) (λ k. absurd (omega arith))

  pub stays-start : all first (stays S first e) ≡ true
  stays-start = all_of _ first (λ i h. stays_by i (λ b. b ≡ true) (λ k. absurd (omega arith)) (λ k. refl))

-- ---- a trial
module _ {n first last : ℕ} {h : List ℤ} (t : Triable n first last h) (e : ℤ) where
  abbrev S : Matrix
  S = upper h

  abbrev S' : Matrix
  S' = lowered (taken first last e) (upper h)

  on_is : (i : ℕ) → first ≤ i → i < last → S' i i ≡ S i i -ℤ e
  on_is i p q = lowered_on (taken first last e) (upper h) i ∙ rw (taken_in first last e i p q) refl

  pub trial_fails : all last (stays S first e) ≡ false → ends_from (n - first) S' first ≡ false
  trial_fails f = false_of _ (λ q. absurd (subst T (sym (every q) ∙ f) tt))
    where
      every : ends_from (n - first) S' first ≡ true → all last (stays S first e) ≡ true
      every q =
          all_of _ last (λ i k. stays_by S first e i (λ b. b ≡ true)
          (λ p. le_z_true (rw (on_is i p k) at (ends-diagonal S' (n - first) first i q p (omega (arith, t.inside))))) (λ p. refl))

  -- no row is left
  pub trial-none : n ≤ first → ends_from (n - first) S' first ≡ true
  unfolding ends_from
  trial-none k = let z : n - first ≡ 0 = omega arith in rw z refl

  module _ (f : all last (stays S first e) ≡ true) where
    left : (i : ℕ) → first ≤ i → i < last → pos 1 ≤ℤ S' i i
    left i p q = rw (on_is i p q) (le_of (pos 1) _ (sym (stays_is S first e i p) ∙ all-at _ last f i q))

    module _ {s : List ℤ} (w : Lowered first last e h s) (p : pos 0 ≤ℤ e) where
      on-at : (a : ℕ) → first ≤ a → a < n → Dec (a < last) → Within rest_range (S' a a) × (S' a a ≤ℤ pos product_range)
      on-at a k l (yes q) =
          let top : S' a a ≤ℤ pos product_range =
          order (S' a a ∷ S a a ∷ e ∷ []) (on_is a k q & p & t.left.top a k l) (search solver depth 40 fits 20000) (omega arith) in (
            within_more {m = product_range} (omega arith)
                (within_in (order (S' a a ∷ []) (left a k q) (search solver depth 40 fits 20000) (omega arith)) top),
            top,
          )
      on-at a k l (no q) =
          rw (lowered_none (taken first last e) S a a (taken_out first last e a (λ u v. q v))) (t.left.on a k l, t.left.top a k l)

      pub trial_factorable : Factorable s n first
      trial_factorable =
          let z = t.left in
          let o = z.order in
          record {
            size = w.size;
            order = z.order;
            off =
                λ a b k l m. rw (w.entries a b (omega arith) (omega arith), lowered_off (taken first last e) S a b (omega arith))
                (z.off a b k l m);
            on = λ a k l. rw (w.entries a a (omega arith) (omega arith)) (on-at a k l (dec_lt a last)).0;
            top = λ a k l. rw (w.entries a a (omega arith) (omega arith)) (on-at a k l (dec_lt a last)).1;
          }

      pub trial-one : first < n → pos 1 ≤ℤ upper s first first
      trial-one k =
          let o = t.left.order in
          rw (w.entries first first (omega arith) (omega arith)) (left first (omega arith) (t.some k))

      pub trial-ends : ends_from (n - first) (upper s) first ≡ ends_from (n - first) S' first
      trial-ends =
          let o = t.left.order in
          ends_ext n (n - first) first (omega (arith, t.inside, t.ordered))
          (record { entries = λ a b k l m. w.entries a b (omega arith) (omega arith) })
