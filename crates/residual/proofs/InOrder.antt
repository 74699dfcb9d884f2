-- R7.4 and R7.5 of docs/RULES.md: the factor test is the residual whole, and then the row test over its two tables; and what
-- the tables enclose.
use mathlib.Core.Path.{◌≡◌, refl, sym, ap, ap₂, ◌∙◌}
use mathlib.Core.Bool.{Bool, true, ◌&&◌, and-true}
use mathlib.Core.List.{List, [], ◌∷◌}
use Prim.Native.Nat.{ℕ, ◌*◌, ◌<◌}
use native.Mathlib.Omega.{arith}
use borrow.Author.Tests.{eqb-true, eq-eqb}
use lib.Dec.{eqb}
use lib.IntN.{ℤ, ◌-ℤ◌, ◌*ℤ◌}
use lib.Signed.{le_z}
use lib.ListN.{length}
use Rattle.integers.specs.Numbers.{abs_ℤ, max_ℤ}
use Rattle.integers.specs.Sum.{sum_except}
use Rattle.integers.proofs.Order.{Between}
use Rattle.integers.proofs.Solver.{order, solver}
use Rattle.tables.specs.Matrix.{Matrix, at, table, gram}
use Rattle.tables.specs.Members.{Member}
use Rattle.tables.specs.Checks.{all, first_refusal, order_of, sizes_ok}
use Rattle.tables.specs.Answers.{after}
use Rattle.tables.specs.Entering.{low_bounds, high_bounds, door_checks, entered}
use Rattle.tables.specs.Checks.{Checked}
use Rattle.std.specs.Prelude.{Result, Ok, Err}
use Rattle.tables.specs.declared.Refusal.{Refusal}
use Rattle.tables.proofs.Matrix.{at_table}
use Rattle.tables.proofs.Checks.{and_left, and_right, and_of, sizes-of}
use Rattle.cholesky.specs.Scale.{scale}
use Rattle.residual.specs.Residual.{residual, radius, row_passes, rows_pass, accepts, least_over, over}
use Rattle.residual.specs.FactorTest.{check_factor, tested, factor_answer, factor_tested, factor_sizes, factor_act, factor_test}
use Rattle.residual.specs.declared.factor_test.FactorAnswer.{FactorAnswer}
use Rattle.residual.specs.ResidualAct.{Tabled, kept, tables, tabled, tabling, residual_sizes, residual_act}
use Rattle.residual.proofs.Rows.{rows_ext, least-over_ext}

-- where check 2 passes, each table has its size
pub residual-sizes-of : (size l u f a b : ℕ) → residual_sizes size l u f a b ≡ true →
    (l ≡ size) × (u ≡ size) × (f ≡ size) × (a ≡ size) × (b ≡ size)
unfolding residual_sizes
residual-sizes-of size l u f a b e =
    let z = sizes-of size size l u f (and_left _ _ e) in
    let t = and_right (sizes_ok size size l u f) _ e in
    (z.0, z.1, z.2, eqb-true a size (and_left _ _ t), eqb-true b size (and_right (eqb a size) _ t))

-- ---- the residual test written out, without the two tables
pub written_out : (n : ℕ) (R L U : Matrix) →
    accepts n R L U ≡ all n
    (λ i. le_z (sum_except n i (λ j. max_ℤ (abs_ℤ (residual n R L i j)) (abs_ℤ (residual n R U i j)))) (residual n R L i i))
unfolding accepts rows_pass row_passes radius
written_out n R L U = refl

-- ---- the residual whole, and then the rows
-- what the row test makes of what the residual's act leaves, for order k
abbrev pub then_rows : ℕ → Tabled → Result FactorAnswer Refusal
then_rows k t =
    let A = at k t.low in
    let B = at k t.high in
    after Err t.checked (Ok (tested (rows_pass k A B) (least_over k A B)))

-- the test of a factor is the row test over the residual's tables
rows-of-tables : (k : ℕ) (R L U : Matrix) →
    let A = at k (table k (residual k R L)) in
    let B = at k (table k (residual k R U)) in
    tested (accepts k R L U) (over k R L U) ≡ tested (rows_pass k A B) (least_over k A B)
unfolding accepts over
rows-of-tables k R L U =
    let same : (M : Matrix) (i j : ℕ) → i < k → j < k → residual k R M i j ≡ at k (table k (residual k R M)) i j =
    λ M i j h l. sym (at_table k _ i j h l) in
    ap₂ tested (rows_ext k _ _ _ _ (same L) (same U)) (least-over_ext k _ _ _ _ (same L) (same U))

pub in_order : (n : ℤ) (sized : Bool) (l u f a b : List ℤ) →
    factor_tested n sized l u f ≡ then_rows (order_of n) (tabling n sized l u f a b)
unfolding factor_tested factor_answer tabling tabled entered after
in_order n sized l u f a b =
    let k = order_of n in
    go (first_refusal (door_checks n sized true l u)) (first_refusal (check_factor k (at k f) ∷ []))
    (tables k (low_bounds k l) (high_bounds k u) (at k f))
    (ap Ok (rows-of-tables k (at k f) (low_bounds k l) (high_bounds k u)))
  where
    go : (c d : Checked) (t : Tabled) {x : Result FactorAnswer Refusal} → x ≡ then_rows (order_of n) t →
        after Err c (after Err d x) ≡ then_rows (order_of n) (after (kept a b) c (after (kept a b) d t))
    go (Err r) d t e = refl
    go (Ok _) (Err r) t e = refl
    go (Ok _) (Ok _) t e = e

-- where both lent tables have the size of the others, check 2 finds the same of the factor test and of the residual
lent-sized : (size l u f a b : ℕ) → a ≡ size → b ≡ size → sizes_ok size size l u f ≡ residual_sizes size l u f a b
unfolding residual_sizes
lent-sized size l u f a b p q =
    let z = sizes_ok size size l u f in
    sym (ap (λ (y : Bool). z && y) (and_of (eq-eqb a size p) (eq-eqb b size q)) ∙ and-true z)

-- the two acts: the factor test is the residual, into any two lent tables of the size that belongs to n, and then the row test over
-- what they are left with, refusals with it
pub acts_in_order : (n : ℤ) (l u f a b : List ℤ) → length a ≡ order_of n * order_of n → length b ≡ order_of n * order_of n →
    factor_test n l u f ≡ then_rows (order_of n) (residual_act n l u f a b)
unfolding factor_test factor_act residual_act
acts_in_order n l u f a b p q =
    in_order n (factor_sizes (order_of n) (length l) (length u) (length f)) l u f a b
    ∙ ap (λ (z : Bool). then_rows (order_of n) (tabling n z l u f a b))
    (lent-sized (order_of n * order_of n) (length l) (length u) (length f) (length a) (length b) p q)

-- ---- 2^32 N - q P, of each member N over q, lies between q times the two tables
pub residual_encloses : (n : ℕ) (R L U N : Matrix) (q : ℤ) → Member n L U N q → (i j : ℕ) → i < n → j < n →
    Between (q *ℤ residual n R L i j) (scale *ℤ N i j -ℤ q *ℤ gram n R i j) (q *ℤ residual n R U i j)
unfolding residual
residual_encloses n R L U N q m i j h k = record {
  low = order (q ∷ N i j ∷ L i j ∷ gram n R i j ∷ []) (m.low i j h k) (search solver depth 40 fits 20000) (omega arith);
  high = order (q ∷ N i j ∷ U i j ∷ gram n R i j ∷ []) (m.high i j h k) (search solver depth 40 fits 20000) (omega arith);
}
