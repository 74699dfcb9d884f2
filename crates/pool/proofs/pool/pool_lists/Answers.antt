use mathlib.Core.Path.{◌≡◌, sym, ap, ◌∙◌}
use mathlib.Core.List.{List, [], ◌∷◌}
use Prim.Native.Nat.{ℕ, ◌*◌}
use native.Mathlib.Omega.{arith}
use lib.ListN.{length}
use Rattle.integers.proofs.Machine.{clean_element}
use Rattle.tables.specs.Matrix.{tabulate}
use Rattle.tables.specs.declared.problem.Constraint.{Constraint}
use Rattle.tables.proofs.Answers.{handed_on}
use Rattle.tables.proofs.Buffers.{stored-whole}
use Rattle.sums.specs.Lent.{Lent, sums_of}
use Rattle.sums.specs.Required.{Stated}
use Rattle.sums.proofs.Fronts.{constraint_by}
use Rattle.sums.proofs.Laying.{stated_by, laid-taken, laid-refused}
use Rattle.pool.specs.Pool.{problem_at, problems_of, checked_pool}
use Rattle.pool.specs.Act.{lent_of}
use Rattle.pool.specs.Listed.{problems_in}
use Rattle.pool.proofs.Fronts.{loaded-nth, loaded-front}
use Rattle.pool.proofs.pool.pool_lists.Given.{Over}
use Rattle.pool.proofs.pool.pool_lists.Goals as goal
use Rattle.pool.proofs.pool.pool_lists.Goals.{Start, After-pool_all}

module _ (g : Over) where
  abbrev lent : Start g → Lent (List g.row.E.Denot)
  lent s = let a = s.args in record { low = a.low.now; high = a.high.now; from = a.from.now; to = a.to.now; limit = a.limit.now }

  -- so many numbers take a buffer of their size
  takes : {k size : ℕ} → size ≡ k * g.E.Element.taken 1 → size ≡ g.E.Element.taken k
  takes {k} e = e ∙ sym (g.met.E.Listed.parts.each k)

  -- the numbers that a buffer of its size holds
  whole : {k : ℕ} (b : List g.row.E.Denot) → length b ≡ k * g.E.Element.taken 1 → length (g.E.Element.numbers b k) ≡ k
  whole b e = g.E.Element.laws.numbers_whole b _ (takes e)

  one : {size : ℕ} → size ≡ g.E.Element.taken 1 → size ≡ 1 * g.E.Element.taken 1
  one e = omega (arith, e)

  -- what the pass states, of the lent sums
  states : (c : After-pool_all g) → let a = c.args in
      let o = c.pool_all.new.sums in
      let b = lent (goal.at.After-pool_all g c).Start in
      Stated a.n (checked_pool (sums_of a.n (lent_of g.E.Element.numbers a.n b)) (problem_at a.n
      (problems_of g.E.Element.numbers a.n a.count (problems_in a.lists))) a.count) c.pool_all.result
      o.low.now o.high.now o.from.now o.to.now o.limit
  states c =
      let a = c.args in
      let n = a.n in
      let z = c.requires.3 in
      stated_by
      (ap (λ (k : Constraint). checked_pool k (problem_at n (problems_of g.E.Element.numbers n a.count (problems_in a.lists))) a.count)
      (constraint_by (loaded-front _ _ (whole _ z.low) c.load.ensures) (loaded-front _ _ (whole _ z.high) c.load-2.ensures)
      (loaded-front _ _ (whole _ z.from) c.load-3.ensures)
      (loaded-front _ _ (whole _ z.to) c.load-4.ensures)
      (clean_element _ (omega arith)
      ∙ loaded-nth {m = 1} (g.E.Element.numbers a.limit.now 1) _ (omega (arith, whole a.limit.now (one z.limit))) c.load-5.ensures 0
      (omega arith))))
      (rw c.pool_all.ensures.place.order at c.pool_all.ensures.sums)

pub returns-in_err-pool_all : goal.returns-in_err-pool_all
returns-in_err-pool_all g c =
    let p = goal.at.returns-in_err-pool_all g c in
    let n = c.args.n in
    rw (handed_on c.from_residual.ensures.1)
    (laid-refused (λ t. g.E.Element.elements t (n * n)) (λ x. g.E.Element.elements x n)
    (λ α. g.E.Element.elements (tabulate 1 (λ i. α)) 1) (lent g p.Start)
    (rw c.in_err-pool_all.was at (states g p.After-pool_all)))

pub returns : goal.returns
unfolding tabulate
returns g c =
    let p = goal.at.returns g c in
    let n = c.args.n in
    let z = c.requires.3 in
    let st = states g p.After-pool_all in
    let r = st.rooms in
    laid-taken (λ t. g.E.Element.elements t (n * n)) (λ x. g.E.Element.elements x n)
    (λ α. g.E.Element.elements (tabulate 1 (λ i. α)) 1) (lent g p.Start) (rw c.in_ok-pool_all.was at st)
    (c.store.ensures ∙ stored-whole g.E.Element.elements _ _ r.low (takes g z.low))
    (c.store-2.ensures ∙ stored-whole g.E.Element.elements _ _ r.high (takes g z.high))
    (c.store-3.ensures ∙ stored-whole g.E.Element.elements _ _ r.linear_low (takes g z.from))
    (c.store-4.ensures ∙ stored-whole g.E.Element.elements _ _ r.linear_high (takes g z.to))
    ((rw (clean_element c.pool_all.new.sums.limit (omega arith)) at c.store-5.ensures)
    ∙ stored-whole g.E.Element.elements (c.pool_all.new.sums.limit ∷ []) _ (omega arith) z.limit)
