use mathlib.Core.Path.{◌≡◌, sym, ap, ◌∙◌}
use mathlib.Core.Bool.{Bool}
use mathlib.Core.List.{List}
use Prim.Native.Nat.{ℕ, ◌≤◌, ◌<◌}
use native.Mathlib.Omega.{arith}
use lib.IntN.{ℤ}
use lib.ListN.{length}
use Rattle.integers.proofs.Machine.{clean}
use Rattle.tables.specs.Matrix.{nth}
use Rattle.tables.specs.Checks.{Checked, first_refusal, order_of}
use Rattle.tables.specs.declared.problem.Constraint.{Constraint}
use Rattle.tables.specs.declared.Refusal.{Refusal}
use Rattle.std.specs.Prelude.{Err}
use Rattle.tables.proofs.Admission.{order_small, order-passed}
use Rattle.tables.proofs.Answers.{exactly, handed_on}
use Rattle.sums.specs.Sums.{Outcome}
use Rattle.sums.specs.Lent.{Lent, Left, sums_of}
use Rattle.pool.specs.Pool.{count_of, Problems, problem_at, problems_of, pool_entry_checks}
use Rattle.pool.specs.Act.{pool_sized, sums_lengths, problems_lengths, lent_of, laid_out, pool_act, Meaning}
use Rattle.pool.proofs.Counting.{count_most, count_room, none-counted, some-counted, entry-unordered, entry-none, entry-behind, entry-front}
use Rattle.pool.proofs.Counting.{pooling-refused, pooling-passed, pool-lists, pool-lent}
use Rattle.pool.proofs.Fronts.{loaded-nth}
use Rattle.pool.proofs.Meanings.{pool-means}
use Rattle.pool.proofs.pool.pool.Given.{Over}
use Rattle.pool.proofs.pool.pool.Goals as goal
use Rattle.pool.proofs.pool.pool.Goals.{Start, In_ok-count, After-load}

module _ (g : Over) where
  abbrev unit : ℕ
  unit = g.E.Element.taken 1

  module _ (s : Start g) where
    -- the sums that are lent, and the problems in their lists
    abbrev lent : Lent (List g.row.E.Denot)
    lent = let a = s.args in record { low = a.low.now; high = a.high.now; from = a.from.now; to = a.to.now; limit = a.limit.now }

    abbrev lists : Problems (List g.row.E.Denot)
    lists = let a = s.args in record { lows = a.lows.now; highs = a.highs.now; froms = a.froms.now; tos = a.tos.now; limits = a.limits.now }

    abbrev many : ℕ
    many = count_of unit (length s.args.orders.now)

    abbrev orders : List ℤ
    orders = g.E.Element.numbers s.args.orders.now many

    abbrev sized : ℕ → Bool
    sized m = pool_sized unit (order_of s.args.n) m (sums_lengths lent) (length lent.limit) (problems_lengths lists) (length lists.limits)

    abbrev sums : Constraint
    sums = sums_of (order_of s.args.n) (lent_of g.E.Element.numbers (order_of s.args.n) lent)

    abbrev problems : ℕ → Constraint
    problems = problem_at (order_of s.args.n) (problems_of g.E.Element.numbers (order_of s.args.n) many lists)

    abbrev given : Outcome → Left (List g.row.E.Denot)
    given o = laid_out g.E.Element.elements (order_of s.args.n) o lent

    -- the answer means what the definition's does
    abbrev Means : Left (List g.row.E.Denot) → Type 0
    Means j = Meaning j.answer problems many sums (sums_of (order_of s.args.n) (lent_of g.E.Element.numbers (order_of s.args.n) j.sums))

    abbrev left : Left (List g.row.E.Denot)
    left = pool_act g.E.Element.taken g.E.Element.numbers g.E.Element.elements s.args.n s.args.orders.now lists lent

    meant : (j : Left (List g.row.E.Denot)) → j ≡ left → record { exact : j ≡ left; meaning : Means j }
    meant = exactly Means (pool-means g.E.Element.laws s.args.n s.args.orders.now lists lent)

    -- what checks 1 and 2 find
    checks : {m : ℕ} (x : List ℤ) {r : Checked} → r ≡ first_refusal (pool_entry_checks s.args.n m x (sized m)) →
        ((k : ℕ) → k < m → nth x k ≡ nth (g.E.Element.numbers s.args.orders.now m) k) → m ≡ many →
        r ≡ first_refusal (pool_entry_checks s.args.n many orders (sized many))
    checks {m} x e f q =
        let y = g.E.Element.numbers s.args.orders.now in
        e ∙ ap first_refusal (entry-front s.args.n m x (y m) (sized m) f)
        ∙ ap (λ (m : ℕ). first_refusal (pool_entry_checks s.args.n m (y m) (sized m))) q

    -- what the act gives where these are refused
    refused : {r : Refusal} → first_refusal (pool_entry_checks s.args.n many orders (sized many)) ≡ Err r → given (Err r) ≡ left
    unfolding pool_act
    refused e = ap given (pooling-refused _ _ _ (sized many) sums problems e)

  -- so many problems there are, and the list of orders has room for them
  counted : (c : In_ok-count g) → c.in_ok-count.count ≡ many (goal.at.In_ok-count g c).Start
  counted c = some-counted (rw (c.count_of.ensures, c.taken-unit.ensures) at c.in_ok-count.ensures.value)

  room : (c : In_ok-count g) → g.E.Element.taken c.in_ok-count.count ≤ length c.args.orders.now
  room c = rw (g.met.E.Listed.parts.each c.in_ok-count.count, counted c) (count_room unit (length c.args.orders.now))

  -- the orders that are loaded
  each : (c : After-load g) → (k : ℕ) → k < c.in_ok-count.count →
      nth c.load.new.out k ≡ nth (g.E.Element.numbers c.args.orders.now c.in_ok-count.count) k
  each c = loaded-nth (g.E.Element.numbers c.args.orders.now c.in_ok-count.count) _
      (g.met.E.Listed.parts.room _ _ (room (goal.at.After-load g c).In_ok-count)) c.load.ensures

pub returns-in_err-order : goal.returns-in_err-order
returns-in_err-order g c =
    let s = (goal.at.returns-in_err-order g c).Start in
    meant g s _ (rw (handed_on c.from_residual.ensures.1)
    (refused g s (entry-unordered c.args.n (many g s) _ (sized g s (many g s)) c.ranges.n c.in_err-order.ensures)))

pub count_of-requires : goal.count_of-requires
count_of-requires g c = rw c.taken-unit.ensures g.met.E.Listed.parts.some

pub returns-in_err-count : goal.returns-in_err-count
returns-in_err-count g c =
    let s = (goal.at.returns-in_err-count g c).Start in
    let none = none-counted (rw (c.count_of.ensures, c.taken-unit.ensures) at c.in_err-count.ensures.value) in
    meant g s _ (rw (handed_on c.from_residual-in_err-count.ensures.1, none.0)
    (refused g s (entry-none c.args.n (many g s) _ (sized g s (many g s)) (order-passed c.ranges.n c.in_ok-order.ensures).1 none.1)))

pub load-requires : goal.load-requires
load-requires g c =
    let p = (goal.at.load-requires g c).In_ok-count in
    (room g p, rw (counted g p) (count_most (unit g) (length c.args.orders.now)))

pub check_entry-requires : goal.check_entry-requires
check_entry-requires g c =
    let many = counted g (goal.at.check_entry-requires g c).In_ok-count in
    let most = count_most (unit g) (length c.args.orders.now) in
    (rw c.taken-unit.ensures g.met.E.Listed.parts.few, rw many most, omega (arith, many, most, c.load.auto.out))

pub returns-in_err-check_entry : goal.returns-in_err-check_entry
returns-in_err-check_entry g c =
    let p = goal.at.returns-in_err-check_entry g c in
    let s = p.Start in
    let found = rw (c.lengths_of-problems.ensures, c.lengths_of-sums.ensures, c.taken-unit.ensures, clean c.ranges.n)
    at c.in_err-check_entry.ensures in
    meant g s _ (rw (handed_on c.from_residual-in_err-check_entry.ensures.1)
    (refused g s (sym (checks g s c.load.new.out found (each g p.After-load) (counted g p.In_ok-count)))))

pub pool_lists-requires : goal.pool_lists-requires
pool_lists-requires g c =
    let p = goal.at.pool_lists-requires g c in
    let s = p.Start in
    let many = counted g p.In_ok-count in
    let found = rw (c.lengths_of-problems.ensures, c.lengths_of-sums.ensures, c.taken-unit.ensures, clean c.ranges.n)
    at c.in_ok-check_entry.ensures in
    let e = checks g s c.load.new.out found (each g p.After-load) many in
    let order = (order-passed c.ranges.n c.in_ok-order.ensures).0 in
    let z = (entry-behind _ _ _ (sized g s _) (sym e)).sizes in
    rw (many, order) (
      order_small c.args.n,
      count_most (unit g) (length c.args.orders.now),
      pool-lists _ _ _ (lent g s) (lists g s) z,
      pool-lent _ _ _ (lent g s) (lists g s) z,
    )

pub returns : goal.returns
unfolding pool_act
returns g c =
    let p = goal.at.returns g c in
    let s = p.Start in
    let many = counted g p.In_ok-count in
    let found = rw (c.lengths_of-problems.ensures, c.lengths_of-sums.ensures, c.taken-unit.ensures, clean c.ranges.n)
    at c.in_ok-check_entry.ensures in
    let e = checks g s c.load.new.out found (each g p.After-load) many in
    let order = (order-passed c.ranges.n c.in_ok-order.ensures).0 in
    meant g s _
    ((rw (many, order) at c.pool_lists.ensures) ∙ ap (given g s) (pooling-passed _ _ _ (sized g s _) (sums g s) (problems g s) (sym e)))
