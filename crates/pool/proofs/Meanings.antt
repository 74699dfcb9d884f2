-- D3.10 of docs/RULES.md: what sums explain at a point that every pooled problem allows, the pool explains; so a point that the sums read
-- with K allow too
-- is allowed by the pool read with K, and by the same sums halved.
use mathlib.Core.Path.{◌≡◌, refl, sym, ◌∙◌, subst}
use mathlib.Core.Bool.{Bool, false≢true}
use mathlib.Core.List.{List, [], ◌∷◌}
use Prim.Native.Nat.{ℕ, ◌<◌}
use native.Mathlib.Omega.{arith}
use lib.IntN.{ℤ, pos, ◌+ℤ◌, ◌*ℤ◌, +ℤ_idl}
use lib.ListN.{length}
use lib.Signed.{◌≤ℤ◌}
use Rattle.integers.specs.Sum.{sum}
use Rattle.integers.proofs.Parts.{pos_nonneg}
use Rattle.integers.proofs.Solver.{ring, order, solver}
use Rattle.tables.specs.Matrix.{at, form}
use Rattle.tables.specs.Checks.{order_of}
use Rattle.tables.specs.Elements.{BuffersWhole}
use Rattle.tables.specs.Problem.{ends_in, mended_constraint}
use Rattle.tables.specs.declared.Refusal.{Refusal}
use Rattle.tables.specs.declared.problem.Constraint.{Constraint}
use Rattle.enclosure.specs.Points.{Point, Allowed}
use Rattle.sums.specs.Sums.{Outcome, plus, allowing}
use Rattle.sums.specs.Halving.{halved}
use Rattle.sums.specs.Lent.{Lent, sums_of}
use Rattle.sums.specs.Explaining.{Explained}
use Rattle.std.specs.Prelude.{Ok, Err}
use Rattle.sums.proofs.Explained.{mended_explains, plus_explains, halved_explains, fitted_by}
use Rattle.pool.specs.Pool.{count_of, Problems, problem_at, problems_of, pooled, checked_pool, pooling}
use Rattle.pool.specs.Act.{pool_sized, sums_lengths, problems_lengths, lent_of, laid_out, pool_act, Explaining, Allowing, Meaning}
use Rattle.pool.proofs.Passing.{Holds, pooled-holds, passing_is, passing-taken, passing-ordered}
use Rattle.pool.proofs.Counting.{Behind, pooling_by}
use Rattle.pool.proofs.Whole.{pooled-whole, back}

-- ---- points, and what is explained
module _ (c : Constraint) {X : ℕ → ℤ} {q : ℤ} where
  -- a point of what the sums give with K is explained up to K
  pub allowed_explains : (K : ℤ) → pos 0 ≤ℤ K → Allowed (allowing K c) X q → Explained c K (pos 1) X q
  allowed_explains K h P = record {
    nonneg = h;
    matrix = P.matrix;
    denominator = P.denominator;
    member = P.member;
    terms = P.terms;
    scale = P.scale;
    between = P.between;
    under =
        order (K ∷ c.limit ∷ q ∷ P.denominator ∷ P.scale ∷ form c.order P.matrix X ∷ sum c.order (λ k. P.terms k *ℤ X k) ∷ []) P.inside
        (search solver depth 40 fits 20000) (omega arith);
  }

  -- and what is explained up to K is one
  pub explained_allows : (K : ℤ) → pos 1 ≤ℤ q → Explained c K (pos 1) X q → Allowed (allowing K c) X q
  explained_allows K h P = record {
    matrix = P.matrix;
    denominator = P.denominator;
    member = P.member;
    terms = P.terms;
    scale = P.scale;
    between = P.between;
    whole = h;
    inside =
        order (K ∷ c.limit ∷ q ∷ P.denominator ∷ P.scale ∷ form c.order P.matrix X ∷ sum c.order (λ k. P.terms k *ℤ X k) ∷ []) P.under
        (search solver depth 40 fits 20000) (omega arith);
  }

  -- a point of a constraint is explained up to 0
  pub point_explains : Allowed c X q → Explained c (pos 0) (pos 1) X q
  point_explains P =
      allowed_explains (pos 0) (pos_nonneg 0)
      (subst (λ (α : ℤ). Point c.order (at c.order c.low) (at c.order c.high) (ends_in c) α X q) (sym (+ℤ_idl c.limit)) P)

-- D3.10: a point of what sums give with K is one of what the same sums, halved, give with K
pub halved_allows : (c : Constraint) (K : ℤ) → pos 0 ≤ℤ K → {X : ℕ → ℤ} {q : ℤ} → Allowed (allowing K c) X q →
    Allowed (allowing K (halved c)) X q
halved_allows c K h P = explained_allows (halved c) K P.whole (halved_explains c (pos_nonneg 1) (allowed_explains c K h P))

-- ---- problems, one after the other
-- a problem that allows the point adds nothing to what is explained there
problem_explains : (g d : Constraint) → g.order ≡ d.order → {u v : ℤ} {X : ℕ → ℤ} {q : ℤ} → pos 0 ≤ℤ v → Explained d u v X q →
    Explained g (pos 0) (pos 1) X q → Explained (plus g d) u v X q
problem_explains g d e {u} {v} {X} {q} h P Q =
    subst (λ (z : ℤ). Explained (plus g d) z v X q) (ring (u ∷ v ∷ []) (search solver depth 40 fits 20000) refl)
    (subst (λ (z : ℤ). Explained (plus g d) (u *ℤ pos 1 +ℤ pos 0 *ℤ v) z X q) (ring (v ∷ []) (search solver depth 40 fits 20000) refl)
    (plus_explains g d e h (pos_nonneg 1) P Q))

module _ (c : Constraint) (p : ℕ → Constraint) (m : ℕ) (ordered : (k : ℕ) → k < m → (p k).order ≡ c.order) where
  pub pooled_explains : {d : Constraint} → pooled c p m ≡ Ok d → Explaining p m c d
  unfolding plus halved
  pooled_explains e u v h X q allowed P =
      (subst (Holds Q) e
      (pooled-holds c p Q m (refl, mended_explains c P)
      (λ k l d w. let g = mended_constraint (p k) in
      let o : (p k).order ≡ d.order = ordered k l ∙ sym w.0 in
      let E = mended_explains (p k) (point_explains (p k) (allowed k l)) in
      fitted_by (Holds Q) g d (λ z. (w.0, problem_explains g d o h w.1 E))
      (λ z. (w.0, problem_explains g (halved d) o h (halved_explains d h w.1) E)) refl))
      ).1
    where
      Q : Constraint → Type 0
      Q d = (d.order ≡ c.order) × Explained d u v X q

-- ---- the whole act
-- what holds of a pool that is taken
pub record Pooled (p : ℕ → Constraint) (m : ℕ) (c d : Constraint) : Type 0 where
  pub order : d.order ≡ c.order
  pub explains : Explaining p m c d
  pub allows : Allowing p m c d

module _ (n : ℤ) (m : ℕ) (orders : List ℤ) (sized : Bool) (c : Constraint) (p : ℕ → Constraint)
    (ordered : (k : ℕ) → k < m → (p k).order ≡ c.order) where
  checked_means : {d : Constraint} → checked_pool c p m ≡ Ok d → Pooled p m c d
  checked_means {d} e =
      let f = passing_is c p m ∙ e in
      let explains : Explaining p m c d = pooled_explains c p m ordered (passing-taken c p m f).1 in
      record {
        order = passing-ordered c p m f;
        explains = explains;
        allows = λ K h X q allowed P. explained_allows d K P.whole
            (explains K (pos 1) (pos_nonneg 1) X q allowed (allowed_explains c K h P));
      }

  -- what holds of each refusal, and of sums that are taken behind checks 1 and 2, holds of the whole
  pub pooling-means : (P : Outcome → Type 0) → ((r : Refusal) → P (Err r)) →
      ((d : Constraint) → Behind n m orders sized → checked_pool c p m ≡ Ok d → Pooled p m c d → P (Ok d)) →
      P (pooling n m orders sized c p)
  pooling-means P f g = pooling_by n m orders sized c p P f (λ b. go b (checked_pool c p m) refl)
    where
      go : Behind n m orders sized → (o : Outcome) → checked_pool c p m ≡ o → P o
      go b (Ok d) e = g d b e (checked_means e)
      go b (Err r) e = f r

-- what the act's answer means
pub pool-means : {A : Type 0} {taken : ℕ → ℕ} {numbers : List A → ℕ → List ℤ} {elements : List ℤ → ℕ → List A} →
    BuffersWhole taken numbers elements → (n : ℤ) (orders : List A) (q : Problems (List A)) (b : Lent (List A)) →
    (let j = pool_act taken numbers elements n orders q b in
    let k : ℕ = order_of n in
    let m : ℕ = count_of (taken 1) (length orders) in
    Meaning j.answer (problem_at k (problems_of numbers k m q)) m (sums_of k (lent_of numbers k b)) (sums_of k (lent_of numbers k j.sums)))
unfolding pool_act
pool-means {taken = taken} {numbers = numbers} {elements = elements} laws n orders q b =
    pooling-means n m (numbers orders m)
    (pool_sized (taken 1) k m (sums_lengths b) (length b.limit) (problems_lengths q) (length q.limits)) c p
    (λ i h. refl)
    (λ (o : Outcome). let j = laid_out elements k o b in Meaning j.answer p m c (sums_of k (lent_of numbers k j.sums)))
    (λ r. record { explains = λ e. absurd (false≢true cc); allows = λ e. absurd (false≢true cc) })
    (λ d behind e w.
    let whole = pooled-whole c p m behind.some (passing-taken c p m (passing_is c p m ∙ e)).1 in
    subst (Meaning (Ok tt) p m c) (sym (back laws k d b whole)) (record { explains = λ e. w.explains; allows = λ e. w.allows }))
  where
    k : ℕ
    k = order_of n

    m : ℕ
    m = count_of (taken 1) (length orders)

    c : Constraint
    c = sums_of k (lent_of numbers k b)

    p : ℕ → Constraint
    p = problem_at k (problems_of numbers k m q)
