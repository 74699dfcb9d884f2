-- R27 of docs/RULES.md: problems pooled into running sums. The problems are constraints p 0, .., p (m - 1), in the order in which they are
-- handed in.
use Rattle.std.specs.Prelude.{Bool, true, false, ◌&&◌, List, [], ◌∷◌, ℕ, zero, suc, ◌+◌, ◌*◌, ◌/◌, ◌%◌, leb, eqb, ℤ, Ok, Err}
use Rattle.tables.specs.Matrix.{nth, tabulate}
use Rattle.tables.specs.Checks.{all, Check, first_refusal, same, order_ok, check_length}
use Rattle.tables.specs.Answers.{after}
use Rattle.tables.specs.Problem.{constraint_of, mended_constraint}
use Rattle.tables.specs.declared.Refusal.TheVariants.{Order}
use Rattle.tables.specs.declared.problem.Constraint.{Constraint}
use Rattle.sums.specs.Sums.{Outcome, own_checks}
use Rattle.sums.specs.Halving.{fitted}

-- R27.1: a pool has at most this many problems
abbrev pub greatest_pool : ℕ
greatest_pool = 64

-- ---- R27.2: the problems in their lists
-- how many problems there are: the numbers of the list of orders, which has this length and where a number takes `unit`, if these are 1 to
-- 64 whole ones; 0 for any other list
unfoldable pub count_of : ℕ → ℕ → ℕ
count_of unit length = elim (eqb (length % unit) 0 && leb (length / unit) greatest_pool) [ true ↦ length / unit | false ↦ 0 ]

-- problem k has these m numbers of a list in which each problem has m
abbrev pub part_of : ℕ → ℕ → List ℤ → List ℤ
part_of m k x = tabulate m (λ i. nth x (k * m + i))

-- the lists of bounds, of both ends of the linear terms, and of limits: of numbers, or of their bytes
pub record Problems (A : Type 0) : Type 0 where
  pub lows : A
  pub highs : A
  pub froms : A
  pub tos : A
  pub limits : A

abbrev pub problem_at : ℕ → Problems (List ℤ) → ℕ → Constraint
problem_at n q k =
    constraint_of n (part_of (n * n) k q.lows) (part_of (n * n) k q.highs) (part_of n k q.froms) (part_of n k q.tos)
    (nth q.limits k)

-- the lists of m problems of order n, as numbers: `numbers` of a list, of which so many are asked for
abbrev pub problems_of : {A : Type 0} → (List A → ℕ → List ℤ) → ℕ → ℕ → Problems (List A) → Problems (List ℤ)
problems_of numbers n m q = record {
  lows = numbers q.lows (m * (n * n));
  highs = numbers q.highs (m * (n * n));
  froms = numbers q.froms (m * n);
  tos = numbers q.tos (m * n);
  limits = numbers q.limits m;
}

-- ---- R27.3: the checks
-- 1, of n and of m orders
unfoldable pub orders_ok : ℤ → ℕ → List ℤ → Bool
orders_ok n m orders = order_ok n && all m (λ k. order_ok (nth orders k))

-- 2, of the list of orders: it has 1 to 64 numbers, and each is n
unfoldable pub orders_same : ℤ → ℕ → List ℤ → Bool
orders_same n m orders = leb 1 m && all m (λ k. same (nth orders k) n)

-- the same checks of two constraints: each is asked of both before the next
unfoldable pub of_both : List Check → List Check → List Check
of_both (c ∷ cs) (d ∷ ds) = record { passes = c.passes && d.passes; otherwise = c.otherwise } ∷ of_both cs ds
of_both (c ∷ cs) [] = []
of_both [] ds = []

-- 3, 4, 5 and 16 of sums c and of m problems
unfoldable pub pool_checks : Constraint → (ℕ → Constraint) → ℕ → List Check
pool_checks c p zero = own_checks c
pool_checks c p (suc m) = of_both (pool_checks c p m) (own_checks (p m))

-- ---- R27.4: the problems added one after the other, each with at most one halving
unfoldable pub added_next : Constraint → Outcome → Outcome
added_next g (Ok c) = fitted g c
added_next g (Err r) = Err r

unfoldable pub pooled : Constraint → (ℕ → Constraint) → ℕ → Outcome
pooled c p zero = Ok (mended_constraint c)
pooled c p (suc m) = added_next (mended_constraint (p m)) (pooled c p m)

-- 3, 4, 5 and 16; and then the problems are added, and 18 is asked
unfoldable pub checked_pool : Constraint → (ℕ → Constraint) → ℕ → Outcome
checked_pool c p m = after Err (first_refusal (pool_checks c p m)) (pooled c p m)

-- 1 and 2, where check 2 finds `sized` of the buffers beside the list of orders
abbrev pub pool_entry_checks : ℤ → ℕ → List ℤ → Bool → List Check
pool_entry_checks n m orders sized =
    record { passes = orders_ok n m orders; otherwise = Order } ∷ check_length (orders_same n m orders && sized) ∷ []

-- and the others behind them
unfoldable pub pooling : ℤ → ℕ → List ℤ → Bool → Constraint → (ℕ → Constraint) → Outcome
pooling n m orders sized c p = after Err (first_refusal (pool_entry_checks n m orders sized)) (checked_pool c p m)
