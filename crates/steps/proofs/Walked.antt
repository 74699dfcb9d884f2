-- The steps on H, and those of one diagonal entry on what is left of H after the rows before it.
use mathlib.Core.Path.{◌≡◌, refl, sym, ap₂, ◌∙◌}
use mathlib.Core.Bool.{false}
use mathlib.Core.Logic.{by_cases}
use mathlib.Core.List.{List, [], ◌∷◌}
use Prim.Native.Nat.{ℕ, zero, suc, ◌-◌, ◌^◌, ◌≤◌, ◌<◌}
use native.Mathlib.Omega.{arith}
use native.Mathlib.Decide.{dec_lt, ℕ_discrete}
use lib.IntN.{ℤ, pos, ◌*ℤ◌}
use lib.Signed.{◌≤ℤ◌, ◌<ℤ◌, clash_ℤ}
use Rattle.integers.specs.Sum.{only}
use Rattle.integers.specs.Division.{floor_div}
use Rattle.integers.specs.Root.{whole_root}
use Rattle.integers.proofs.Parts.{≤ℤ_trans, pos_nonneg, *ℤ-nonneg, le_z_false}
use Rattle.integers.proofs.Solver.{◌&◌, order, ring, solver}
use Rattle.integers.proofs.Sums.{only_by, only_other}
use Rattle.tables.specs.Ranges.{greatest_order}
use Rattle.tables.specs.Matrix.{Matrix}
use Rattle.tables.specs.Bounds.{Bounds}
use Rattle.tables.proofs.Checks.{bool_ext, false_of}
use Rattle.cholesky.specs.Scale.{scale, scaled}
use Rattle.cholesky.specs.Scaling.{Scaled}
use Rattle.cholesky.specs.Factoring.{factoring, factored}
use Rattle.cholesky.specs.Store.{upper}
use Rattle.cholesky.specs.Reduced.{row_entry, reduced, ends_from}
use Rattle.cholesky.specs.Rows.{ColumnsTaken}
use Rattle.cholesky.proofs.Filling.{scaled_factorable}
use Rattle.cholesky.proofs.Reduced.{left_of, RowPasses, ends-passes, ends_of_lem, ends_ext, left_falls, ends-rows, rows_end}
use Rattle.cholesky.proofs.Reduced.{factoring_by_rows}
use Rattle.cholesky.proofs.Walked.{Walked, walked_row, walked_stop}
use Rattle.cholesky.proofs.Passing.{row_done}
use Rattle.steps.specs.Steps.{lowered, step_bits, trial, step, step_at}
use Rattle.steps.specs.Tables.{taken, Triable, step_from}
use Rattle.steps.proofs.Bits.{bits_ext, bits_none}
use Rattle.steps.proofs.Diagonals.{taken_in, taken_out, lowered_on, lowered_none, lowered_ext}
use Rattle.steps.proofs.Trials.{trial_is}

-- ---- H, as it stands in the table
module _ {n : ℕ} {L U : Matrix} {h : List ℤ} (b : Bounds n L U) (o : n ≤ greatest_order) (w : Scaled n L U h n) where
  pub scaled_triable : Triable n 0 n h
  scaled_triable = record { left = scaled_factorable b o w; inside = omega arith; ordered = omega arith; some = λ k. k }

  -- no row was taken
  pub walked_start : Walked (scaled n L U) h 0 n
  unfolding left_of
  walked_start =
      record {
        left = scaled_factorable b o w;
        agree = record { entries = λ i j p q r. w.entries i j q r };
        passed = λ i q. absurd (omega arith);
      }

  -- t
  pub step_is : step_from n 0 n (upper h) ≡ step n L U
  unfolding step_from step
  step_is = bits_ext _ _ same step_bits (pos 0)
    where
      same : (t : ℤ) → ends_from (n - 0) (lowered (taken 0 n (scale *ℤ t)) (upper h)) 0 ≡ trial n L U (λ i. t)
      same t =
          let e : n - 0 ≡ n = omega arith in
          rw e (ends_ext n n 0 (omega arith) (record {
            entries = λ i j k l m.
                lowered_ext _ (λ i. scale *ℤ t) (upper h) (scaled n L U) i j (taken_in 0 n (scale *ℤ t) i (omega arith) (omega arith))
                (w.entries i j l m);
          })
          ∙ sym (factoring_by_rows _ n) ∙ sym (trial_is n L U (λ i. t) b))

  -- with nothing taken off
  pub ends_is : ends_from (n - 0) (upper h) 0 ≡ (factored n L U).ends
  ends_is =
      let e : n - 0 ≡ n = omega arith in
      rw e (ends_ext n n 0 (omega arith) (record { entries = λ i j k l m. w.entries i j l m }) ∙ sym (factoring_by_rows _ n))

-- less than 1 is left of the first diagonal entry
pub none-ends : (n : ℕ) (S : Matrix) → 0 < n → S 0 0 <ℤ pos 1 → ends_from (n - 0) S 0 ≡ false
unfolding ends_from
none-ends zero S p h = absurd (omega arith)
none-ends (suc m) S p h = let e : suc m - 0 ≡ suc m = omega arith in rw (e, le_z_false h) refl

-- ---- what is taken off later entries changes no row before them
module _ (d : ℕ → ℤ) (S S' : Matrix) (f : (a b : ℕ) → S' a b ≡ lowered d S a b) (i : ℕ) (none : d i ≡ pos 0) where
  row_kept : (j : ℕ) → S' i j ≡ S i j
  row_kept j = f i j ∙ lowered_none d S i j none

  entry_kept : (j : ℕ) → row_entry S' i j ≡ row_entry S i j
  unfolding row_entry
  entry_kept j = ap₂ (λ (x y : ℤ). floor_div x (whole_root y)) (row_kept j) (row_kept i)

  reduced-lowered : (a b : ℕ) → reduced S' i a b ≡ lowered d (reduced S i) a b
  unfolding reduced lowered
  reduced-lowered a b =
      rw (f a b, entry_kept a, entry_kept b)
      (ring (S a b ∷ only a b (d a) ∷ row_entry S i a ∷ row_entry S i b ∷ []) (search solver depth 40 fits 20000) refl)

-- ---- a number taken off entry (k,k) alone
module _ (n : ℕ) (H : Matrix) (k : ℕ) (d : ℕ → ℤ) (alone : (i : ℕ) → (i ≡ k → ⊥) → d i ≡ pos 0) where
  abbrev H' : Matrix
  H' = lowered d H

  left-lowered : (i : ℕ) → i ≤ k → (a b : ℕ) → left_of H' i a b ≡ lowered d (left_of H i) a b
  unfolding left_of
  left-lowered zero h a b = refl
  left-lowered (suc i) h a b = reduced-lowered d (left_of H i) (left_of H' i) (left-lowered i (omega arith)) i (alone i (omega arith)) a b

  module _ (i : ℕ) (h : i < k) where
    first-kept : left_of H' i i i ≡ left_of H i i i
    first-kept = row_kept d (left_of H i) (left_of H' i) (left-lowered i (omega arith)) i (alone i (omega arith)) i

    later-kept : (j : ℕ) → row_entry (left_of H' i) i j ≡ row_entry (left_of H i) i j
    later-kept = entry_kept d (left_of H i) (left_of H' i) (left-lowered i (omega arith)) i (alone i (omega arith))

    -- a row before k passes as it did, if so much is left of entry (k,k)
    pass-before : RowPasses (left_of H i) i n → pos 1 ≤ℤ left_of H' k k k → RowPasses (left_of H' i) i n
    unfolding left_of
    pass-before p one =
        record {
          first = rw first-kept p.first;
          later = λ j q r. record {
            small = rw (later-kept j) (p.later j q r).small;
            some = by_cases (ℕ_discrete j k) (λ e. rw e (≤ℤ_trans one (left_falls H' k (suc i) k h)))
                (λ e. rw (left-lowered (suc i) h j j, lowered_none d (left_of H (suc i)) j j (alone j e)) (p.later j q r).some);
          };
        }

    -- and a row that passes with a number taken off passes without
    pass-after : ((j : ℕ) → pos 0 ≤ℤ d j) → RowPasses (left_of H' i) i n → RowPasses (left_of H i) i n
    unfolding left_of
    pass-after nonneg p =
        record {
          first = rw (← first-kept) p.first;
          later = λ j q r. record {
            small = rw (← later-kept j) (p.later j q r).small;
            some = order (left_of H (suc i) j j ∷ left_of H' (suc i) j j ∷ d j ∷ [])
                ((left-lowered (suc i) h j j ∙ lowered_on d (left_of H (suc i)) j) & nonneg j & (p.later j q r).some)
                (search solver depth 40 fits 20000) (omega arith);
          };
        }

  -- factoring ends where it does in the rows from k on
  lowered-ends : k < n → ((i : ℕ) → i < k → RowPasses (left_of H i) i n) → (factoring n H').ends ≡ ends_from (n - k) (left_of H' k) k
  lowered-ends h passed =
      bool_ext _ _ (λ e. ends_of_lem H' n (n - k) k (omega arith) (λ l q r. ends-rows H' n e l r))
      (λ e. rows_end H' n (λ i q.
      by_cases (dec_lt i k) (λ r. pass-before i r (passed i r) (ends-passes H' n (n - k) k k (omega arith) e (omega arith) h).first)
      (λ r. ends-passes H' n (n - k) k i (omega arith) e (omega arith) q)))

-- ---- t(k)
-- one of the rows before k stops, or less than 1 is left of the first diagonal entry
pub record StoppedBefore (n : ℕ) (H : Matrix) (k : ℕ) : Type 0 where
  pub stops : 0 < n → pos 1 ≤ℤ H 0 0 → ((i : ℕ) → i < k → RowPasses (left_of H i) i n) → ⊥

pub first_stops : {n : ℕ} {L U : Matrix} {h : List ℤ} → Scaled n L U h n → upper h 0 0 <ℤ pos 1 → StoppedBefore n (scaled n L U) 0
first_stops w e = record { stops = λ z one f. clash_ℤ e (rw (w.entries 0 0 (omega arith) z) one) }

module _ {n k : ℕ} {H : Matrix} where
  pub stopped_later : StoppedBefore n H k → (j : ℕ) → k ≤ j → StoppedBefore n H j
  stopped_later s j l = record { stops = λ z o f. s.stops z o (λ i q. f i (omega arith)) }

  module _ {h : List ℤ} (w : Walked H h k n) (l : k < n) where
    pub walked_triable : Triable n k (suc k) h
    walked_triable = record { left = w.left; inside = l; ordered = omega arith; some = λ q. omega arith }

    module _ {h' : List ℤ} {r : ℕ} (x : ColumnsTaken h k n r h') where
      pub walked_on : pos 1 ≤ℤ upper h k k → n ≤ r → Walked H h' (suc k) n
      walked_on one q = walked_row w l one (omega arith) (row_done x q)

      pub walked_off : r < n → StoppedBefore n H (suc k)
      walked_off q = record { stops = λ z o f. walked_stop w l x q (f k (omega arith)) }

module _ {n : ℕ} {L U : Matrix} (b : Bounds n L U) {k : ℕ} (l : k < n) where
  abbrev G : Matrix
  G = scaled n L U

  -- 2^32 t off entry (k,k)
  off : ℤ → ℕ → ℤ
  off t i = scale *ℤ only i k t

  off_none : (t : ℤ) (i : ℕ) → (i ≡ k → ⊥) → off t i ≡ pos 0
  unfolding off
  off_none t i e = rw (only_other i k t e) refl

  off_nonneg : (t : ℤ) → pos 0 ≤ℤ t → (i : ℕ) → pos 0 ≤ℤ off t i
  unfolding off
  off_nonneg t h i = *ℤ-nonneg (pos_nonneg (2 ^ 32)) (only_by i k t (λ z. pos 0 ≤ℤ z) (λ e. h) (λ e. pos_nonneg 0))

  off_is : (t : ℤ) (i : ℕ) → taken k (suc k) (scale *ℤ t) i ≡ off t i
  unfolding off
  off_is t i =
      only_by i k t (λ z. taken k (suc k) (scale *ℤ t) i ≡ scale *ℤ z) (λ e. taken_in k (suc k) (scale *ℤ t) i (omega arith) (omega arith))
      (λ e. taken_out k (suc k) (scale *ℤ t) i (λ u v. absurd (omega arith)))

  pub step-at_is : {h : List ℤ} → Walked G h k n → step_from n k (suc k) (upper h) ≡ step_at n L U k
  unfolding step_from step_at off
  step-at_is {h} w = bits_ext _ _ same step_bits (pos 0)
    where
      same : (t : ℤ) → ends_from (n - k) (lowered (taken k (suc k) (scale *ℤ t)) (upper h)) k ≡ trial n L U (λ i. only i k t)
      same t =
          ends_ext n (n - k) k (omega arith) (record {
            entries = λ i j p q r.
                lowered_ext _ (off t) (upper h) (left_of G k) i j (off_is t i) (w.agree.entries i j p q r)
                ∙ sym (left-lowered n G k (off t) (off_none t) k (omega arith) i j);
          })
          ∙ sym (lowered-ends n G k (off t) (off_none t) l w.passed) ∙ sym (trial_is n L U (λ i. only i k t) b)

  pub step-at-none : StoppedBefore n G k → pos 0 ≡ step_at n L U k
  unfolding step_at left_of off
  step-at-none s =
      sym (bits_none _ step_bits (pos 0) (pos_nonneg 0) (λ t h.
      trial_is n L U (λ i. only i k t) b ∙ false_of _ (λ e. fails t h (ends-rows (lowered (off t) G) n e))))
    where
      fails : (t : ℤ) → pos 0 ≤ℤ t → ((i : ℕ) → i < n → RowPasses (left_of (lowered (off t) G) i) i n) → ⊥
      fails t h p =
          s.stops (omega arith)
          (order (G 0 0 ∷ lowered (off t) G 0 0 ∷ off t 0 ∷ []) (lowered_on (off t) G 0 & off_nonneg t h 0 & (p 0 (omega arith)).first)
          (search solver depth 40 fits 20000) (omega arith))
          (λ i q. pass-after n G k (off t) (off_none t) i q (off_nonneg t h) (p i (omega arith)))
