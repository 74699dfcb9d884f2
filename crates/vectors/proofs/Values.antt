-- The least value, pair by pair: sizes, and the cases of a pair.
use mathlib.Core.Path.{◌≡◌, refl, sym, ap, ◌∙◌}
use mathlib.Core.Bool.{Bool, true, false, ◌||◌}
use mathlib.Core.Logic.{◌≢◌}
use mathlib.Core.List.{List, [], ◌∷◌}
use Prim.Native.Nat.{ℕ, zero, suc, ◌*◌, ◌≤◌, ◌<◌}
use native.Mathlib.Omega.{arith}
use lib.IntN.{ℤ, pos, ◌+ℤ◌, ◌*ℤ◌, *ℤ-zero, zero-*ℤ}
use lib.Signed.{lt_z}
use mir.Syntax.{w64}
use mir.Val.{SFits}
use Rattle.integers.specs.Numbers.{Within}
use Rattle.integers.specs.Sum.{sum}
use Rattle.integers.proofs.Parts.{choice_by}
use Rattle.integers.proofs.Machine.{within_more, within-+, within-*, within-sum, fits_within}
use Rattle.integers.proofs.Solver.{ring, solver}
use Rattle.integers.proofs.Sums.{sum_zero, sum_suc, sum_ext, sum-none, sum-*, eqb_by}
use Rattle.tables.specs.Ranges.{greatest_order, entry_range}
use Rattle.tables.specs.Matrix.{Matrix, at, nth, form}
use Rattle.tables.specs.Bounds.{Bounds, CheckedTables}
use Rattle.tables.proofs.Forms.{form_suc}
use Rattle.tables.proofs.CheckedTables.{low-within, high-within}
use Rattle.vectors.specs.Least.{least_member, least_value}
use Rattle.vectors.specs.LeastShares.{least_term, least_pair, least_row, least_share, VectorEntries}
use Rattle.vectors.specs.LeastShares.{vector_pair_range, least_term_range, least_share_range}
use Rattle.vectors.proofs.Showing.{least_by, least_symmetric}

-- ---- a pair's cases
pub term_low : (l u p : ℤ) → lt_z (pos 0) p ≡ true → l *ℤ p ≡ least_term l u p
unfolding least_term
term_low l u p e = sym (ap (λ (b : Bool). elim b as (λ z. ℤ) [ true ↦ l *ℤ p | false ↦ u *ℤ p ]) e)

pub term_high : (l u p : ℤ) → lt_z (pos 0) p ≡ false → u *ℤ p ≡ least_term l u p
unfolding least_term
term_high l u p e = sym (ap (λ (b : Bool). elim b as (λ z. ℤ) [ true ↦ l *ℤ p | false ↦ u *ℤ p ]) e)

-- an entry that is 0 adds nothing
pub share_none : (n : ℕ) (l u v : List ℤ) (i : ℕ) → nth v i ≡ pos 0 → least_share n l u v i ≡ pos 0
unfolding least_share least_row least_pair least_term
share_none n l u v i e =
    let row = sum-none i (least_pair n l u v i) (λ j h. rw (e, zero-*ℤ (nth v j)) (*ℤ-zero (at n u i j))) in
    rw (row, e) (ring (at n l i i ∷ []) (search solver depth 40 fits 20000) refl)

-- ---- sizes
pub share_fits : {l p : ℤ} → Within entry_range l → Within vector_pair_range p → SFits w64 (l *ℤ p)
share_fits h k = fits_within (within-* h k) (omega arith)

two-within : Within 2 (pos 2)
two-within = record { size = omega arith }

term_within : {l u p : ℤ} → Within entry_range l → Within entry_range u → Within vector_pair_range p → Within least_term_range (least_term l u p)
unfolding least_term
term_within {l} {u} {p} a b k = choice_by (Within least_term_range) (lt_z (pos 0) p) (λ t. within-* a k) (λ t. within-* b k)

module _ {n : ℕ} {l u v : List ℤ} (t : CheckedTables n l u) (a : VectorEntries n v) where
  module _ {i j : ℕ} (h : i < n) (k : j < n) where
    pub product_within : Within vector_pair_range (nth v i *ℤ nth v j)
    product_within = within-* (a.entries i h) (a.entries j k)

    pub product_fits : SFits w64 (nth v i *ℤ nth v j)
    product_fits = fits_within product_within (omega arith)

    pair-within : Within least_term_range (least_pair n l u v i j)
    unfolding least_pair
    pair-within = term_within (low-within t h k) (high-within t h k) product_within

  module _ {i : ℕ} (h : i < n) where
    row_within : {k : ℕ} → k ≤ n → Within (greatest_order * least_term_range) (least_row n l u v i k)
    unfolding least_row
    row_within {k} m = within_more (omega (arith, t.order)) (within-sum k least_term_range _ (λ j q. pair-within h (omega arith)))

    -- the next pair added up
    pub row_fits : {k : ℕ} → k < n → SFits w64 (least_row n l u v i k +ℤ least_pair n l u v i k)
    row_fits m = fits_within (within-+ (row_within (omega arith)) (pair-within h m)) (omega arith)

    pub twice_fits : SFits w64 (pos 2 *ℤ least_row n l u v i i)
    twice_fits = fits_within (within-* two-within (row_within (omega arith))) (omega arith)

    share-within : Within least_share_range (least_share n l u v i)
    unfolding least_share
    share-within = within-+ (within-* two-within (row_within (omega arith))) (within-* (low-within t h h) (product_within h h))

    pub share_adds : SFits w64 (pos 2 *ℤ least_row n l u v i i +ℤ at n l i i *ℤ (nth v i *ℤ nth v i))
    unfolding least_share
    share_adds = fits_within share-within (omega arith)

  sum-within : (k : ℕ) → k ≤ n → Within (greatest_order * least_share_range) (sum k (least_share n l u v))
  sum-within k m = within_more (omega (arith, t.order)) (within-sum k least_share_range _ (λ i h. share-within (omega arith)))

  -- the next share added up
  pub sum_fits : {k : ℕ} → k < n → SFits w64 (sum k (least_share n l u v) +ℤ least_share n l u v k)
  sum_fits {k} m = fits_within (within-+ (sum-within k (omega arith)) (share-within m)) (omega arith)

-- ---- the shares add up to the least value
module _ (n : ℕ) (l u v : List ℤ) (b : Bounds n (at n l) (at n u)) where
  abbrev M : Matrix
  M = least_member (at n l) (at n u) (nth v)

  -- a pair i ≠ j, as the definition has it
  pair_is : (i j : ℕ) → i ≢ j → least_pair n l u v i j ≡ M i j *ℤ (nth v i *ℤ nth v j)
  unfolding least_pair least_term least_member
  pair_is i j d = eqb_by i j (λ t. least_pair n l u v i j ≡ (elim (t || lt_z (pos 0) (nth v i *ℤ nth v j)) as (λ z. ℤ) [ true ↦ at n l i j | false ↦ at n u i j ]) *ℤ (nth v i *ℤ nth v j)) (λ e. absurd (d e)) (λ e. go (lt_z (pos 0) (nth v i *ℤ nth v j)))
    where
      go : (t : Bool) →
          ◌≡◌ {A = ℤ} (elim t as (λ z. ℤ) [ true ↦ at n l i j *ℤ (nth v i *ℤ nth v j) | false ↦ at n u i j *ℤ (nth v i *ℤ nth v j) ])
          ((elim (false || t) as (λ z. ℤ) [ true ↦ at n l i j | false ↦ at n u i j ]) *ℤ (nth v i *ℤ nth v j))
      go true = refl
      go false = refl

  on_diagonal : (i : ℕ) → M i i ≡ at n l i i
  on_diagonal i = least_by (at n l) (at n u) (nth v) i i (λ z. z ≡ at n l i i) (λ e. refl) (λ d p. refl) (λ d p. absurd (d refl))

  row_is : (i : ℕ) → i < n → least_row n l u v i i ≡ nth v i *ℤ sum i (λ k. M k i *ℤ nth v k)
  unfolding least_row
  row_is i h =
      sum_ext i _ (λ k. nth v i *ℤ (M k i *ℤ nth v k))
      (λ k m. pair_is i k (omega arith) ∙ rw (least_symmetric (at n l) (at n u) (nth v) b i k h (omega arith)) (ring (M k i ∷ nth v i ∷ nth v k ∷ []) (search solver depth 40 fits 20000) refl))
      ∙ sum-* i (nth v i) _

  share_step : (k : ℕ) → k < n → form (suc k) M (nth v) ≡ form k M (nth v) +ℤ least_share n l u v k
  unfolding least_share
  share_step k h =
      (rw (on_diagonal k) at (form_suc k M (nth v) (λ j m. least_symmetric (at n l) (at n u) (nth v) b k j h (omega arith))))
      ∙ rw (row_is k h)
      (ring (form k M (nth v) ∷ at n l k k ∷ nth v k ∷ sum k (λ j. M j k *ℤ nth v j) ∷ []) (search solver depth 40 fits 20000) refl)

  no-form : pos 0 ≡ form 0 M (nth v)
  unfolding form sum
  no-form = refl

  shares : (k : ℕ) → k ≤ n → sum k (least_share n l u v) ≡ form k M (nth v)
  shares zero h = sum_zero _ ∙ no-form
  shares (suc k) h = sum_suc k _ ∙ ap (λ (z : ℤ). z +ℤ least_share n l u v k) (shares k (omega arith)) ∙ sym (share_step k (omega arith))

  pub shares_add : sum n (least_share n l u v) ≡ least_value n (at n l) (at n u) (nth v)
  unfolding least_value
  shares_add = shares n (omega arith)
