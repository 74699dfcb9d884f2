-- R27.3 of docs/RULES.md: one pass through the problems, each checked and then added with the earliest refusal kept, gives what checks
-- give that are
-- each completed over all of the input before the next; and what a pass takes is in its ranges and has the order of the sums.
use mathlib.Core.Path.{◌≡◌, refl, sym, ap, ap₂, ◌∙◌, subst}
use mathlib.Core.Bool.{Bool, true, false, false≢true, ◌&&◌}
use mathlib.Core.List.{List, [], ◌∷◌}
use Prim.Native.Nat.{ℕ, zero, suc, ◌*◌, ◌≤◌, ◌<◌}
use native.Mathlib.Omega.{arith}
use lib.ListN.{length}
use borrow.Author.Tests.{le-leb, lt-leb}
use Rattle.tables.specs.Ranges.{limit_range}
use Rattle.tables.specs.Checks.{Check, Checked, first_refusal, within, nowhere_crossed, tables_within, bounds_checks, ends_checks}
use Rattle.tables.specs.Mending.{mended_low, mended_high}
use Rattle.tables.specs.Answers.{after}
use Rattle.tables.specs.Problem.{mended_constraint}
use Rattle.tables.specs.declared.Refusal.{Refusal}
use Rattle.tables.specs.declared.Refusal.TheVariants.{Range, Crossed, Lopsided, Reversed, Full}
use Rattle.std.specs.Prelude.{Ok, Err}
use Rattle.tables.specs.declared.problem.Constraint.{Constraint}
use Rattle.tables.proofs.Answers.{after_is}
use Rattle.sums.specs.Sums.{Outcome, terms_in, own_checks, plus, sums_within}
use Rattle.sums.specs.Halving.{halved, fitted}
use Rattle.sums.specs.Required.{stated}
use Rattle.sums.specs.Running.{stated_in, Leaving}
use Rattle.sums.specs.declared.running.SumsMut.{SumsMut}
use Rattle.sums.proofs.Checked.{mended-within}
use Rattle.sums.proofs.Explained.{fitted_by}
use Rattle.pool.specs.Pool.{of_both, pool_checks, added_next, pooled, checked_pool}
use Rattle.pool.specs.Passing.{place, earlier, refused_by, passed_on, next, passing}
use Rattle.pool.specs.Required.{ReadyFor}

-- ---- the refusal that is asked first
module _ (r s : Refusal) where
  pub earlier-first : place r ≤ place s → earlier r s ≡ r
  unfolding earlier
  earlier-first h = rw (le-leb (place r) (place s) h, earlier)

  pub earlier-second : place s < place r → earlier r s ≡ s
  unfolding earlier
  earlier-second h = rw (lt-leb (place r) (place s) h, earlier)

-- what the checks of one problem more find, and those before it
abbrev sooner : Checked → Checked → Checked
sooner (Ok _) k = k
sooner (Err r) (Ok _) = Err r
sooner (Err r) (Err s) = Err (earlier r s)

-- a refusal, if any, of which P holds
abbrev IfRefused : (Refusal → Type 0) → Checked → Type 0
IfRefused P (Ok _) = Unit {0}
IfRefused P (Err r) = P r

module _ (r : Refusal) where
  sooner-first : (k : Checked) → IfRefused (λ s. place r < place s) k → sooner (Err r) k ≡ Err r
  sooner-first (Ok _) h = refl
  sooner-first (Err s) h = ap Err (earlier-first r s (omega arith))

  sooner-second : (k : Checked) → IfRefused (λ s. place r < place s) k → sooner k (Err r) ≡ Err r
  sooner-second (Ok _) h = refl
  sooner-second (Err s) h = ap Err (earlier-second s r h)

-- ---- tests with these refusals
abbrev Tests : List Refusal → Type 0
Tests [] = Unit {0}
Tests (r ∷ rs) = Bool × Tests rs

abbrev asking : (rs : List Refusal) → Tests rs → List Check
asking [] t = []
asking (r ∷ rs) t = record { passes = t.0; otherwise = r } ∷ asking rs t.1

abbrev both_tests : (rs : List Refusal) → Tests rs → Tests rs → Tests rs
both_tests [] t s = tt
both_tests (r ∷ rs) t s = (t.0 && s.0, both_tests rs t.1 s.1)

asking_both : (rs : List Refusal) (t s : Tests rs) → of_both (asking rs t) (asking rs s) ≡ asking rs (both_tests rs t s)
unfolding of_both
asking_both [] t s = refl
asking_both (r ∷ rs) t s = ap (λ (cs : List Check). record { passes = t.0 && s.0; otherwise = r } ∷ cs) (asking_both rs t.1 s.1)

abbrev Each : (Refusal → Type 0) → List Refusal → Type 0
Each P [] = Unit {0}
Each P (r ∷ rs) = P r × Each P rs

-- each is asked before those that follow it
abbrev Rising : List Refusal → Type 0
Rising [] = Unit {0}
Rising (r ∷ rs) = Each (λ s. place r < place s) rs × Rising rs

first_is : (P : Refusal → Type 0) (rs : List Refusal) → Each P rs → (t : Tests rs) → IfRefused P (first_refusal (asking rs t))
unfolding first_refusal
first_is P [] h t = tt
first_is P (r ∷ rs) h t = go t.0 _ (first_is P rs h.1 t.1)
  where
    go : (b : Bool) (k : Checked) → IfRefused P k → IfRefused P (elim b as (λ z. Checked) [ true ↦ k | false ↦ Err r ])
    go true k l = l
    go false k l = h.0

-- each test asked of both before the next finds that one of both refusals which is asked first
first_both : (rs : List Refusal) → Rising rs → (t s : Tests rs) →
    first_refusal (asking rs (both_tests rs t s)) ≡ sooner (first_refusal (asking rs s)) (first_refusal (asking rs t))
unfolding first_refusal
first_both [] h t s = refl
first_both (r ∷ rs) h t s = go t.0 s.0 (first_both rs h.1 t.1 s.1)
  where
    first : Bool → Checked → Checked
    first b k = elim b [ true ↦ k | false ↦ Err r ]

    found : Tests rs → Checked
    found t = first_refusal (asking rs t)

    later : (t : Tests rs) → IfRefused (λ s. place r < place s) (found t)
    later = first_is (λ s. place r < place s) rs h.0

    go : (a b : Bool) {k : Checked} → k ≡ sooner (found s.1) (found t.1) →
        first (a && b) k ≡ sooner (first b (found s.1)) (first a (found t.1))
    go true true e = e
    go true false e = sym (sooner-first r (found t.1) (later t.1))
    go false true e = sym (sooner-second r (found s.1) (later s.1))
    go false false e = ap Err (sym (earlier-first r r (omega arith)))

-- ---- the checks of sums and of problems: 3, 4, 5 and 16, and 18 after them
abbrev four : List Refusal
four = Range ∷ Crossed ∷ Lopsided ∷ Reversed ∷ []

four_rising : Rising four
four_rising = ((omega arith, (omega arith, (omega arith, tt))), ((omega arith, (omega arith, tt)), ((omega arith, tt), (tt, tt))))

before_full : Each (λ r. place r ≤ place Full) four
before_full = (omega arith, (omega arith, (omega arith, (omega arith, tt))))

abbrev own : Constraint → Tests four
own c =
    let n = c.order in
    let range = terms_in (within limit_range c.limit) c && tables_within (n * n) c.low c.high in
    let crossed = nowhere_crossed (n * n) c.low c.high in
    let lopsided = nowhere_crossed (n * n) (mended_low n c.low) (mended_high n c.high) in
    (range, (crossed, (lopsided, (nowhere_crossed n c.linear.low c.linear.high, tt))))

own_asks : (c : Constraint) → own_checks c ≡ asking four (own c)
unfolding bounds_checks ends_checks
own_asks c = refl

-- ---- what holds of sums, and holds with a problem added to them, holds of the pool; and 18 is all that adding is refused by
abbrev pub Holds : (Constraint → Type 0) → Outcome → Type 0
Holds P (Ok d) = P d
Holds P (Err r) = r ≡ Full

-- ---- one problem more, by what its checks find
module _ (p : Constraint) (o : Outcome) where
  pub next-passed : first_refusal (own_checks p) ≡ Ok tt → next p o ≡ added_next (mended_constraint p) o
  unfolding passed_on
  next-passed e = ap (λ (k : Checked). passed_on k p o) e

  pub next-refused : {r : Refusal} → first_refusal (own_checks p) ≡ Err r → next p o ≡ refused_by r o
  unfolding passed_on
  next-refused e = ap (λ (k : Checked). passed_on k p o) e

module _ (c : Constraint) (p : ℕ → Constraint) where
  pub pooled-holds : (P : Constraint → Type 0) (m : ℕ) → P (mended_constraint c) →
      ((k : ℕ) → k < m → (d : Constraint) → P d → Holds P (fitted (mended_constraint (p k)) d)) → Holds P (pooled c p m)
  unfolding pooled added_next
  pooled-holds P zero b f = b
  pooled-holds P (suc m) b f = go (pooled c p m) (pooled-holds P m b (λ k h. f k (omega arith)))
    where
      go : (o : Outcome) → Holds P o → Holds P (added_next (mended_constraint (p m)) o)
      go (Ok d) h = f m (omega arith) d h
      go (Err r) h = h

  -- ---- one pass
  abbrev tests : ℕ → Tests four
  tests zero = own c
  tests (suc m) = both_tests four (tests m) (own (p m))

  pool_asks : (m : ℕ) → pool_checks c p m ≡ asking four (tests m)
  unfolding pool_checks
  pool_asks zero = own_asks c
  pool_asks (suc m) = ap₂ of_both (pool_asks m) (own_asks (p m)) ∙ asking_both four (tests m) (own (p m))

  -- the checks with one problem more
  pool-first : (m : ℕ) → first_refusal (pool_checks c p (suc m)) ≡ sooner (first_refusal (own_checks (p m)))
      (first_refusal (pool_checks c p m))
  pool-first m = rw (pool_asks (suc m), pool_asks m, own_asks (p m)) (first_both four four_rising (tests m) (own (p m)))

  pub passing_is : (m : ℕ) → passing c p m ≡ checked_pool c p m
  unfolding passing checked_pool pooled pool_checks after passed_on refused_by added_next
  passing_is zero = refl
  passing_is (suc m) =
      ap (next (p m)) (passing_is m)
      ∙ go (first_refusal (own_checks (p m))) (first_refusal (pool_checks c p m)) (pooled c p m)
      (rw (own_asks (p m)) (first_is _ four before_full (own (p m))))
      (pooled-holds (λ d. Unit {0}) m tt (λ k h d u. fitted_by (Holds (λ d. Unit {0})) (mended_constraint (p k)) d (λ w. tt)
      (λ w. tt) refl))
      ∙ ap (λ (k : Checked). after Err k (added_next (mended_constraint (p m)) (pooled c p m))) (sym (pool-first m))
    where
      go : (k l : Checked) (o : Outcome) → IfRefused (λ r. place r ≤ place Full) k → Holds (λ d. Unit {0}) o →
          passed_on k (p m) (after Err l o) ≡ after Err (sooner k l) (added_next (mended_constraint (p m)) o)
      go (Ok _) (Ok _) o b h = refl
      go (Ok _) (Err r) o b h = refl
      go (Err r) (Ok _) (Ok d) b h = refl
      go (Err r) (Ok _) (Err s) b h = ap Err (ap (earlier r) h ∙ earlier-first r Full b)
      go (Err r) (Err s) o b h = refl

  -- ---- what is taken
  pub passing-taken : (m : ℕ) {d : Constraint} → passing c p m ≡ Ok d → (first_refusal (pool_checks c p m) ≡ Ok tt) × (pooled c p m ≡ Ok d)
  unfolding checked_pool
  passing-taken m {d} e = after_is Err _ (pooled c p m) (Ok d) (λ r q. absurd (false≢true cc)) (sym (passing_is m) ∙ e)

  -- the sums pass their own checks
  pool-own : (m : ℕ) → first_refusal (pool_checks c p m) ≡ Ok tt → first_refusal (own_checks c) ≡ Ok tt
  unfolding pool_checks
  pool-own zero e = e
  pool-own (suc m) e = pool-own m (go (first_refusal (own_checks (p m))) (first_refusal (pool_checks c p m)) (sym (pool-first m) ∙ e))
    where
      go : (k l : Checked) → sooner k l ≡ Ok tt → l ≡ Ok tt
      go (Ok _) l e = e
      go (Err r) (Ok _) e = refl
      go (Err r) (Err s) e = absurd (false≢true cc)

  pub passing-within : (m : ℕ) {d : Constraint} → c.order * c.order ≤ length c.low → c.order * c.order ≤ length c.high →
      passing c p m ≡ Ok d → sums_within d ≡ true
  passing-within m h k e =
      let t = passing-taken m e in
      subst (Holds (λ d. sums_within d ≡ true)) t.1
      (pooled-holds (λ d. sums_within d ≡ true) m (mended-within c h k (pool-own m t.0))
      (λ k h d w. fitted_by (Holds (λ d. sums_within d ≡ true)) (mended_constraint (p k)) d (λ e. e) (λ e. e) refl))

  pub passing-ordered : (m : ℕ) {d : Constraint} → passing c p m ≡ Ok d → d.order ≡ c.order
  unfolding plus halved
  passing-ordered m e =
      subst (Holds (λ d. d.order ≡ c.order)) (passing-taken m e).1
      (pooled-holds (λ d. d.order ≡ c.order) m refl (λ k h d w. fitted_by (Holds (λ d. d.order ≡ c.order)) (mended_constraint (p k)) d
      (λ e. w) (λ e. w) refl))

  -- so the code may go on with what it states
  pub passing_ready : (m : ℕ) {r : Checked} (s : SumsMut) → c.order * c.order ≤ length c.low → c.order * c.order ≤ length c.high →
      Leaving (passing c p m) r s → ReadyFor r s
  unfolding stated
  passing_ready m {r} s h k st = record {
    ranged = λ e. record { rooms = st.rooms; within = passing-within m h k (st.outcome ∙ ap (λ (r : Checked). stated_in r s) e) };
  }
