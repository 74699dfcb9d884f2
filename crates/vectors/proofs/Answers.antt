-- The vector test, from the checks to the answer.
use mathlib.Core.Path.{◌≡◌, sym, ap, ◌∙◌}
use mathlib.Core.Bool.{Bool, true, false≢true, ◌&&◌}
use mathlib.Core.List.{List}
use Prim.Native.Nat.{ℕ, ◌≤◌}
use lib.IntN.{ℤ, pos}
use lib.Signed.{le_z}
use lib.ListN.{length}
use Rattle.tables.specs.Ranges.{vector_range}
use Rattle.tables.specs.Matrix.{Matrix, nth}
use Rattle.tables.specs.Bounds.{Bounds}
use Rattle.tables.specs.Checks.{all, within, order_of}
use Rattle.tables.specs.Entering.{low_bounds, high_bounds}
use Rattle.tables.specs.declared.Refusal.{Refusal}
use Rattle.std.specs.Prelude.{Result, Ok, Err}
use Rattle.tables.proofs.Checks.{and_left, and_right, all-at, within_of, first_passes, first-none, passed-bounds}
use Rattle.tables.proofs.Answers.{after-passed, after_ok}
use Rattle.tables.proofs.Admission.{entered-means}
use Rattle.vectors.specs.Least.{least_value, nonzero, shows}
use Rattle.vectors.specs.VectorTest.{vector_shape, vector_answer, vector_tested, Meaning}
use Rattle.vectors.specs.LeastShares.{VectorEntries}
use Rattle.vectors.proofs.Showing.{shows-witness, witness-shows, witness-handed, witness-mended}

-- a vector that passed check 7 is not zero, so its least value alone decides
pub answer_shows : (n : ℕ) (L U : Matrix) (x : ℕ → ℤ) → vector_shape n x ≡ true → (b : Bool) → le_z (least_value n L U x) (pos 0) ≡ b → Ok b ≡ vector_answer n L U x
unfolding vector_answer vector_shape shows
answer_shows n L U x e b k =
    let z = and_left (nonzero n x) (all n (λ i. within vector_range (x i))) e in
    let s : (nonzero n x && le_z (least_value n L U x) (pos 0)) ≡ b = rw (z, k) in
    ap Ok (sym s) ∙ after-passed Err _ (first_passes _ _ e ∙ first-none)

pub shaped-entries : (n : ℕ) (v : List ℤ) → vector_shape n (nth v) ≡ true → n ≤ length v → VectorEntries n v
unfolding vector_shape
shaped-entries n v e c =
    record { vector-length = c; entries = λ i h. within_of vector_range (nth v i) (all-at _ n (and_right (nonzero n (nth v)) _ e) i h) }

-- ---- what an answer means
answer_means : (n : ℕ) (l u v : List ℤ) → Bounds n (low_bounds n l) (high_bounds n u) → Meaning (vector_answer n (low_bounds n l) (high_bounds n u) (nth v)) n l u v
unfolding vector_answer
answer_means n l u v b =
    record {
      yes = λ e. witness-handed n l u (shows-witness b (after_ok _ _ _ e).1);
      no = λ e f. false≢true (sym (after_ok _ _ _ e).1 ∙ witness-shows (witness-mended n l u f));
    }

pub tested-means : (n : ℤ) (sized : Bool) (l u v : List ℤ) → Meaning (vector_tested n sized l u v) (order_of n) l u v
unfolding vector_tested
tested-means n sized l u v =
    entered-means n sized true l u Err _ (λ (r : Result Bool Refusal). Meaning r (order_of n) l u v)
    (λ k. record { yes = λ e. absurd (false≢true cc); no = λ e. absurd (false≢true cc) })
    (λ b. answer_means (order_of n) l u v (passed-bounds (order_of n) l u b.tables))
