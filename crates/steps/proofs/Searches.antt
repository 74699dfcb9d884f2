-- The search of a step: what holds before bit b - 1 is tried.
use mathlib.Core.Path.{◌≡◌, refl, sym, ◌∙◌}
use mathlib.Core.Bool.{Bool, true, false}
use mathlib.Core.List.{List, [], ◌∷◌}
use Prim.Native.Nat.{ℕ, suc, ◌*◌, ◌-◌, ◌^◌, ◌%◌, ◌≤◌, ◌<◌}
use native.Mathlib.Omega.{arith}
use lib.IntN.{ℤ, pos, ◌+ℤ◌, ◌-ℤ◌, ◌*ℤ◌}
use lib.Signed.{◌≤ℤ◌, ◌<ℤ◌, le_z, ≤ℤ_refl}
use lib.Pow.{pow_mono}
use mir.Syntax.{w64}
use mir.Val.{to_z, SFits}
use Rattle.integers.specs.Numbers.{Within}
use Rattle.integers.specs.Division.{floor_div}
use Rattle.integers.proofs.Division.{IsFloor, floor_law}
use Rattle.integers.proofs.Parts.{≤_in, le_z_true, le_z_false, pos_nonneg, *ℤ-nonneg}
use Rattle.integers.proofs.Solver.{◌&◌, order, solver}
use Rattle.integers.proofs.Machine.{read_i64, within_in, within-high, within_fits, fits_within}
use Rattle.tables.specs.Ranges.{entry_range}
use Rattle.tables.specs.Matrix.{Matrix}
use Rattle.cholesky.specs.Scale.{scale}
use Rattle.cholesky.specs.Store.{upper}
use Rattle.cholesky.specs.Reduced.{ends_from}
use Rattle.steps.specs.Steps.{lowered, bits, step_bits}
use Rattle.steps.specs.Tables.{taken, Triable, step_range, step_from}
use Rattle.steps.proofs.Bits.{power_suc, bits-more, bits_left, bits_none, bits_most, bits-all}
use Rattle.cholesky.proofs.Passing.{ends_last}
use Rattle.steps.proofs.Diagonals.{taken_in, lowered_on}

-- 1 << b, as the machine reads it
pub shifted : (b : ℕ) → b < step_bits → to_z w64 (1 * 2 ^ b % 2 ^ 64) ≡ pos (2 ^ b)
shifted b h =
    let p : 2 ^ b ≤ 2 ^ 20 = pow_mono {i = b} {j = 20} (omega arith) in
    let e : 1 * 2 ^ b % 2 ^ 64 ≡ 2 ^ b = omega arith in
    rw e (read_i64 (2 ^ b) (omega arith))

-- t is what the bits from b on gave
pub record Searching (n first last : ℕ) (S : Matrix) (t : ℤ) (b : ℕ) : Type 0 where
  pub least : b ≤ step_bits
  pub low : pos 0 ≤ℤ t
  pub high : (t +ℤ pos (2 ^ b)) ≤ℤ pos entry_range
  pub here : step_from n first last S ≡ bits (λ t. ends_from (n - first) (lowered (taken first last (scale *ℤ t)) S) first) b t

-- a step that is tried, and 2^32 times it
pub record Tried (t : ℤ) : Type 0 where
  pub low : pos 0 ≤ℤ t
  pub high : t ≤ℤ pos entry_range

module _ {t : ℤ} (h : Tried t) where
  pub tried-within : Within entry_range t
  tried-within = within_in (order (t ∷ []) h.low (search solver depth 40 fits 20000) (omega arith)) h.high

  pub scaled-nonneg : pos 0 ≤ℤ (scale *ℤ t)
  scaled-nonneg = *ℤ-nonneg (pos_nonneg (2 ^ 32)) h.low

  pub scaled-within : Within step_range (scale *ℤ t)
  scaled-within =
      within_in (order (t ∷ []) h.low (search solver depth 40 fits 20000) (omega arith))
      (order (t ∷ []) h.high (search solver depth 40 fits 20000) (omega arith))

module _ {n first last : ℕ} {S : Matrix} where
  -- bit b - 1 comes next
  pub search_bit : {t : ℤ} {b : ℕ} → 0 < b → Searching n first last S t b → Searching n first last S t (suc (b - 1))
  search_bit {b = b} h w = let e : suc (b - 1) ≡ b = omega arith in rw e w

  pub search_start : Searching n first last S (pos 0) step_bits
  unfolding step_from
  search_start = record { least = omega arith; low = pos_nonneg 0; high = ≤ℤ_refl (pos entry_range); here = refl }

  module _ {t : ℤ} {b : ℕ} (w : Searching n first last S t (suc b)) where
    pub search_tried : Tried (t +ℤ pos (2 ^ b))
    search_tried =
        record {
          low = order (t ∷ pos (2 ^ b) ∷ []) (w.low & pos_nonneg (2 ^ b)) (search solver depth 40 fits 20000) (omega arith);
          high =
              order (t ∷ pos (2 ^ b) ∷ pos (2 ^ suc b) ∷ []) (w.high & power_suc b & pos_nonneg (2 ^ b)) (search solver depth 40 fits 20000)
              (omega arith);
        }

    abbrev tried : Bool
    tried = ends_from (n - first) (lowered (taken first last (scale *ℤ (t +ℤ pos (2 ^ b)))) S) first

    pub search_more : tried ≡ true → Searching n first last S (t +ℤ pos (2 ^ b)) b
    search_more e =
        record {
          least = omega (arith, w.least);
          low = search_tried.low;
          high = order (t ∷ pos (2 ^ b) ∷ pos (2 ^ suc b) ∷ []) (w.high & power_suc b) (search solver depth 40 fits 20000) (omega arith);
          here = w.here ∙ bits-more _ b t e;
        }

    pub search_left : tried ≡ false → Searching n first last S t b
    search_left e =
        record {
          least = omega (arith, w.least);
          low = w.low;
          high = search_tried.high;
          here = w.here ∙ bits_left _ b t e;
        }

  pub search_end : {t : ℤ} → Searching n first last S t 0 → t ≡ step_from n first last S
  unfolding bits
  search_end w = sym w.here

-- ---- the last row: what is left of its diagonal entry tells
module _ (S : Matrix) (k : ℕ) where
  abbrev passes : ℤ → Bool
  passes t = ends_from (suc k - k) (lowered (taken k (suc k) (scale *ℤ t)) S) k

  passes_is : (t : ℤ) → passes t ≡ le_z (pos 1) (S k k -ℤ scale *ℤ t)
  passes_is t =
      let e : suc k - k ≡ 1 = omega arith in
      rw e (ends_last _ k
      ∙ rw (lowered_on (taken k (suc k) (scale *ℤ t)) S k, taken_in k (suc k) (scale *ℤ t) k (omega arith) (omega arith)) refl)

  -- nothing can be taken off
  pub last_none : S k k <ℤ pos 1 → pos 0 ≡ step_from (suc k) k (suc k) S
  unfolding step_from
  last_none h =
      sym (bits_none _ step_bits (pos 0) (pos_nonneg 0) (λ t l.
      passes_is t
      ∙ le_z_false {x = pos 1} {y = S k k -ℤ scale *ℤ t}
      (order (S k k ∷ t ∷ []) (h & l) (search solver depth 40 fits 20000) (omega arith))))

  abbrev most : ℤ
  most = floor_div (S k k -ℤ pos 1) scale

  module _ (one : pos 1 ≤ℤ S k k) where
    is-floor : IsFloor (S k k -ℤ pos 1) scale most
    is-floor = floor_law (S k k -ℤ pos 1) scale (≤_in (omega arith))

    yes-up-to : (t : ℤ) → t ≤ℤ most → passes t ≡ true
    yes-up-to t h =
        passes_is t
        ∙ le_z_true {x = pos 1} {y = S k k -ℤ scale *ℤ t}
        (order (S k k ∷ t ∷ most ∷ []) (h & is-floor.low) (search solver depth 40 fits 20000) (omega arith))

    no_above : (t : ℤ) → most <ℤ t → passes t ≡ false
    no_above t h =
        passes_is t
        ∙ le_z_false {x = pos 1} {y = S k k -ℤ scale *ℤ t}
        (order (S k k ∷ t ∷ most ∷ []) (h & is-floor.high) (search solver depth 40 fits 20000) (omega arith))

    pub last-most : most <ℤ pos (2 ^ 20 - 1) → most ≡ step_from (suc k) k (suc k) S
    unfolding step_from
    last-most h =
        sym (bits_most _ most yes-up-to no_above step_bits (pos 0)
        (order (S k k ∷ most ∷ []) (one & is-floor.high) (search solver depth 40 fits 20000) (omega arith))
        (order (most ∷ []) h (search solver depth 40 fits 20000) (omega arith)))

    pub last-all : pos (2 ^ 20 - 1) ≤ℤ most → pos (2 ^ 20 - 1) ≡ step_from (suc k) k (suc k) S
    unfolding step_from
    last-all h = sym (bits-all _ most yes-up-to no_above step_bits (pos 0) h)

-- 1 less fits too
pub less_fits : {x : ℤ} → SFits w64 x → pos 1 ≤ℤ x → SFits w64 (x -ℤ pos 1)
less_fits {x} f h =
    fits_within {m = 2 ^ 63 - 1}
    (within_in (order (x ∷ []) h (search solver depth 40 fits 20000) (omega arith))
    (order (x ∷ []) (within-high (within_fits f)) (search solver depth 40 fits 20000) (omega arith))) (omega arith)

-- the search of one entry alone
pub triable_last : {n first last : ℕ} {h : List ℤ} → Triable n first last h → suc first ≡ n →
    step_from (suc first) first (suc first) (upper h) ≡ step_from n first last (upper h)
triable_last {n} {first} {last} {h} t e =
    let q : last ≡ suc first = omega (arith, t.inside, t.some (omega arith)) in
    rw (q, ← e) refl
