-- R27.2 and checks 1 and 2 of R27.3 of docs/RULES.md: how many problems there are, what passing these checks says of the orders and of
-- each size, and what
-- the act answers where they fail.
use mathlib.Core.Path.{◌≡◌, refl, sym, ap, ◌∙◌}
use mathlib.Core.Bool.{Bool, true, false, false≢true, ◌&&◌}
use mathlib.Core.List.{List, []}
use Prim.Native.Nat.{ℕ, zero, suc, ◌+◌, ◌*◌, ◌/◌, ◌%◌, ◌≤◌, ◌<◌}
use native.Mathlib.Omega.{arith}
use native.Mathlib.Nat.{div-add-mod', mul-le-mul_right}
use lib.Dec.{leb, eqb}
use lib.IntN.{ℤ}
use lib.ListN.{length}
use borrow.Author.Tests.{leb-true, eqb-true}
use Rattle.tables.specs.Matrix.{nth}
use Rattle.tables.specs.Checks.{all, Check, first_refusal, same, order_ok, ordered, check_length}
use Rattle.tables.specs.Problem.{constraint_sized}
use Rattle.tables.specs.declared.Refusal.{Refusal}
use Rattle.tables.specs.declared.Refusal.TheVariants.{Order, Length}
use Rattle.std.specs.Prelude.{Ok, Err, None, Some}
use Rattle.std.specs.Option.{ok_or}
use Rattle.integers.proofs.Machine.{clean}
use Rattle.tables.proofs.Admission.{ordered-yes, order-refused}
use mir.Syntax.{w64}
use mir.Val.{SFits, to_z, of_z}
use Rattle.tables.specs.declared.problem.Constraint.{Constraint}
use Rattle.tables.specs.declared.problem.Sizes.{Sizes}
use Rattle.tables.specs.declared.problem.Lengths.{Lengths}
use Rattle.tables.proofs.Checks.{and_left, and_right, all-at, all_ext, same_of}
use Rattle.tables.proofs.Checks.{first-none, first_passes, first-refuses, first-passed, rest-passed}
use Rattle.tables.proofs.Answers.{after-refused, after-passed, after-means}
use Rattle.tables.proofs.Problems.{constraint_sizes-of}
use Rattle.sums.specs.Sums.{Outcome}
use Rattle.sums.specs.Lent.{Lent}
use Rattle.pool.specs.Pool.{greatest_pool, count_of, Problems, orders_ok, orders_same, checked_pool, pool_entry_checks, pooling}
use Rattle.pool.specs.Act.{pool_sized, sums_lengths, problems_lengths}
use Rattle.pool.specs.Required.{counted, Sized, Reach, LentSums}

-- ---- how many problems there are
module _ (unit size : ℕ) where
  count_by : (P : ℕ → Type 0) → (size % unit ≡ 0 → size / unit ≤ greatest_pool → P (size / unit)) → P 0 → P (count_of unit size)
  unfolding count_of
  count_by P f z = go (eqb (size % unit) 0) (leb (size / unit) greatest_pool) (eqb-true (size % unit) 0)
      (leb-true (size / unit) greatest_pool)
    where
      go : (a b : Bool) → (a ≡ true → size % unit ≡ 0) → (b ≡ true → size / unit ≤ greatest_pool) →
          P (elim (a && b) as (λ z. ℕ) [ true ↦ size / unit | false ↦ 0 ])
      go true true e h = f (e refl) (h refl)
      go true false e h = z
      go false b e h = z

  pub count_most : count_of unit size ≤ greatest_pool
  count_most = count_by (λ k. k ≤ greatest_pool) (λ e h. h) (omega arith)

  -- the list has room for them
  pub count_room : count_of unit size * unit ≤ size
  count_room = count_by (λ k. k * unit ≤ size) (λ e h. omega (arith, div-add-mod' size unit)) (omega arith)

-- how the code answers it
pub counted-none : {k : ℕ} → k < 1 → None ≡ counted k
counted-none {k = zero} h = refl
counted-none {k = suc k} h = absurd (omega (arith, h))

pub counted-some : {k : ℕ} → 1 ≤ k → Some k ≡ counted k
counted-some {k = zero} h = absurd (omega (arith, h))
counted-some {k = suc k} h = refl

-- and what a caller reads of that answer, who refuses where there is none
pub none-counted : {k : ℕ} {r : Refusal} → Err r ≡ ok_or (counted k) Length → (r ≡ Length) × (k ≡ 0)
none-counted {k = zero} e = (cc, refl)
none-counted {k = suc k} e = absurd (false≢true cc)

pub some-counted : {k m : ℕ} → Ok m ≡ ok_or (counted k) Length → m ≡ k
some-counted {k = zero} e = absurd (false≢true cc)
some-counted {k = suc k} e = cc

-- ---- part k of m parts of s numbers each
pub part_inside : {k m : ℕ} (s : ℕ) → k < m → k * s + s ≤ m * s
part_inside {k} s h = omega (arith, mul-le-mul_right {m = suc k} s h)

-- ---- checks 1 and 2
-- what they say: n and every order are the same order, there is a problem, and the other buffers have their sizes
pub record Behind (n : ℤ) (m : ℕ) (orders : List ℤ) (sized : Bool) : Type 0 where
  pub order : order_ok n ≡ true
  pub some : 1 ≤ m
  pub each : (k : ℕ) → k < m → nth orders k ≡ n
  pub sizes : sized ≡ true

module _ (n : ℤ) (m : ℕ) (orders : List ℤ) (sized : Bool) where
  abbrev entry : List Check
  entry = pool_entry_checks n m orders sized

  pub entry-behind : first_refusal entry ≡ Ok tt → Behind n m orders sized
  unfolding orders_ok orders_same
  entry-behind e =
      let lengths = first-passed _ _ (rest-passed _ _ e) in
      let listed = and_left (orders_same n m orders) sized lengths in
      record {
        order = and_left (order_ok n) _ (first-passed _ _ e);
        some = leb-true 1 m (and_left (leb 1 m) _ listed);
        each = λ k h. same_of (nth orders k) n (all-at _ m (and_right (leb 1 m) _ listed) k h);
        sizes = and_right (orders_same n m orders) sized lengths;
      }

  -- what they find
  pub entry-unordered : {k : Refusal} → SFits w64 n → Err k ≡ ordered (to_z w64 (of_z w64 n)) → first_refusal entry ≡ Err k
  unfolding orders_ok
  entry-unordered {k} f q = go (order_ok n) refl
    where
      e : Err k ≡ ordered n
      e = rw (clean f) at q

      go : (b : Bool) → order_ok n ≡ b → first_refusal entry ≡ Err k
      go true o = cc (e, ordered-yes n o)
      go false o = first-refuses _ _ (rw o refl) ∙ ap Err (sym (order-refused f q).0)

  pub entry-none : order_ok n ≡ true → m ≡ 0 → first_refusal entry ≡ Err Length
  unfolding orders_ok orders_same all
  entry-none e z = rw z (first_passes _ _ (rw e refl) ∙ first-refuses (check_length (orders_same n 0 orders && sized)) [] refl)

  pub entry-order : orders_ok n m orders ≡ false → Err Order ≡ first_refusal entry
  entry-order o = sym (first-refuses _ _ o)

  pub entry_length : orders_ok n m orders ≡ true → (orders_same n m orders && sized) ≡ false → Err Length ≡ first_refusal entry
  entry_length o z = sym (first_passes _ _ o ∙ first-refuses (check_length (orders_same n m orders && sized)) [] z)

  pub entry-passed : orders_ok n m orders ≡ true → (orders_same n m orders && sized) ≡ true → Ok tt ≡ first_refusal entry
  entry-passed o z = sym (first_passes _ _ o ∙ first_passes (check_length (orders_same n m orders && sized)) [] z ∙ first-none)

  module _ (c : Constraint) (p : ℕ → Constraint) where
    -- what holds of each refusal, and of what is left to ask behind 1 and 2, holds of the whole
    pub pooling_by : (P : Outcome → Type 0) → ((r : Refusal) → P (Err r)) → (Behind n m orders sized → P (checked_pool c p m)) →
        P (pooling n m orders sized c p)
    unfolding pooling
    pooling_by P f g = after-means Err (first_refusal entry) (checked_pool c p m) P f (λ e. g (entry-behind e))

    pub pooling-refused : {r : Refusal} → first_refusal entry ≡ Err r → Err r ≡ pooling n m orders sized c p
    unfolding pooling
    pooling-refused e = after-refused Err _ (checked_pool c p m) e

    pub pooling-passed : first_refusal entry ≡ Ok tt → checked_pool c p m ≡ pooling n m orders sized c p
    unfolding pooling
    pooling-passed e = after-passed Err (checked_pool c p m) e

-- only the first m orders are asked
pub entry-front : (n : ℤ) (m : ℕ) (x y : List ℤ) (sized : Bool) → ((k : ℕ) → k < m → nth x k ≡ nth y k) →
    pool_entry_checks n m x sized ≡ pool_entry_checks n m y sized
unfolding orders_ok orders_same
entry-front n m x y sized e = rw (
  all_ext m (λ k. order_ok (nth x k)) (λ k. order_ok (nth y k)) (λ k h. ap order_ok (e k h)),
  all_ext m (λ k. same (nth x k) n) (λ k. same (nth y k) n) (λ k h. ap (λ (z : ℤ). same z n) (e k h)),
)

-- ---- each size
pub record PoolSizes (unit n m : ℕ) (b : Lengths) (α : ℕ) (q : Lengths) (αs : ℕ) : Type 0 where
  pub low : b.bounds.low ≡ n * n * unit
  pub high : b.bounds.high ≡ n * n * unit
  pub from : b.linear.low ≡ n * unit
  pub to : b.linear.high ≡ n * unit
  pub limit : α ≡ unit
  pub lows : q.bounds.low ≡ m * (n * n) * unit
  pub highs : q.bounds.high ≡ m * (n * n) * unit
  pub froms : q.linear.low ≡ m * n * unit
  pub tos : q.linear.high ≡ m * n * unit
  pub limits : αs ≡ m * unit

pub pool-sizes-of : (unit n m : ℕ) (b : Lengths) (α : ℕ) (q : Lengths) (αs : ℕ) → pool_sized unit n m b α q αs ≡ true →
    PoolSizes unit n m b α q αs
unfolding pool_sized
pool-sizes-of unit n m b α q αs e =
    let one : Sizes = record { table = n * n * unit; vector = n * unit } in
    let all : Sizes = record { table = m * (n * n) * unit; vector = m * n * unit } in
    let e₁ = and_right (constraint_sized one b) _ e in
    let e₂ = and_right (eqb α unit) _ e₁ in
    let v = constraint_sizes-of one b (and_left _ _ e) in
    let w = constraint_sizes-of all q (and_left _ (eqb αs (m * unit)) e₂) in
    record {
      low = v.0;
      high = v.1;
      from = v.2;
      to = v.3;
      limit = eqb-true α unit (and_left _ _ e₁);
      lows = w.0;
      highs = w.1;
      froms = w.2;
      tos = w.3;
      limits = eqb-true αs (m * unit) (and_right (constraint_sized all q) _ e₂);
    }

-- of the buffers themselves
module _ {A : Type 0} (unit n m : ℕ) (b : Lent (List A)) (q : Problems (List A))
    (e : pool_sized unit n m (sums_lengths b) (length b.limit) (problems_lengths q) (length q.limits) ≡ true) where
  sizes : PoolSizes unit n m (sums_lengths b) (length b.limit) (problems_lengths q) (length q.limits)
  sizes = pool-sizes-of unit n m (sums_lengths b) (length b.limit) (problems_lengths q) (length q.limits) e

  pub pool-lists : Sized unit n m q
  pool-lists = let z = sizes in record { lows = z.lows; highs = z.highs; froms = z.froms; tos = z.tos; limits = z.limits }

  pub pool-lent : LentSums unit n b
  pool-lent = let z = sizes in record { low = z.low; high = z.high; from = z.from; to = z.to; limit = z.limit }

-- room for each of the problems
pub reached : {A : Type 0} {unit n m k : ℕ} {q : Problems (List A)} → Sized unit n m q → k < m → Reach unit n k q
reached {unit = unit} {n = n} {m = m} {k = k} z h =
    record {
      lows = rw z.lows (mul-le-mul_right unit (part_inside (n * n) h));
      highs = rw z.highs (mul-le-mul_right unit (part_inside (n * n) h));
      froms = rw z.froms (mul-le-mul_right unit (part_inside n h));
      tos = rw z.tos (mul-le-mul_right unit (part_inside n h));
      limits = rw z.limits (mul-le-mul_right unit (omega (arith, h)));
    }
