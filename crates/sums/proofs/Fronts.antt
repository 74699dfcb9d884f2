-- Sums at the front of lists: the first numbers of a list, what is added to sums and their halves, sums in their ranges, and sums whose
-- bounds are mended.
use mathlib.Core.Path.{◌≡◌, refl, sym, ap, ap₂, ◌∙◌}
use mathlib.Core.Bool.{Bool, true}
use mathlib.Core.List.{List}
use Prim.Native.Nat.{ℕ, ◌*◌, ◌/◌, ◌%◌, ◌≤◌, ◌<◌}
use native.Mathlib.Omega.{arith}
use lib.IntN.{ℤ, pos, ◌+ℤ◌}
use lib.ListN.{length}
use mir.Syntax.{w64}
use mir.Val.{SFits}
use Rattle.integers.specs.Numbers.{Within, min_ℤ, max_ℤ}
use Rattle.integers.proofs.Machine.{within_more, within-+, within_floor, fits_within}
use Rattle.arithmetic.proofs.Quotients.{within_ceil}
use Rattle.tables.specs.Ranges.{entry_range, linear_range, limit_range}
use Rattle.tables.specs.Matrix.{nth, at, tabulate}
use Rattle.tables.specs.Buffers.{Filled}
use Rattle.tables.specs.Checks.{Checked, all, first_refusal, within, all_within, linear_within, tables_within, nowhere_crossed, bounds_checks, ends_checks}
use Rattle.tables.specs.Mending.{mended_by}
use Rattle.tables.specs.Entering.{Mended}
use Rattle.tables.specs.Problem.{constraint_of, mended_constraint}
use Rattle.std.specs.Prelude.{Ok}
use Rattle.tables.specs.declared.problem.Constraint.{Constraint}
use Rattle.tables.proofs.Matrix.{inside, row_inside, column_inside, nth-at, nth-tabulate, length-tabulate, tabulate_ext}
use Rattle.tables.proofs.MendedTables.{at-mended, mended-length}
use Rattle.tables.proofs.Buffers.{filled-whole}
use Rattle.tables.proofs.Checks.{and_of, all_of, all_ext, within_true}
use Rattle.sums.specs.Sums.{added_to, plus, sums_within, sums_checks}
use Rattle.sums.specs.Halving.{half_down, half_up, halved}
use Rattle.sums.specs.Required.{front, sums_at, Rooms, Ranged, FrontWithin, Sums}
use Rattle.sums.proofs.Checked.{limits_passed, linear_passed, tables-passed, sums-mended, within_linear, within-limit, within-tables}

-- ---- the first m numbers of a list
module _ (m : ℕ) (x : List ℤ) where
  pub nth-front : (k : ℕ) → k < m → nth (front m x) k ≡ nth x k
  nth-front k h = nth-tabulate m (nth x) k h

  pub length_front : length (front m x) ≡ m
  length_front = length-tabulate m (nth x)

  -- y has those numbers, and no others
  pub front_is : (y : List ℤ) → length y ≡ m → ((k : ℕ) → k < m → nth x k ≡ nth y k) → front m x ≡ y
  front_is y h e = tabulate_ext m (nth x) (nth y) e ∙ sym (filled-whole (nth y) y (record { size = h; entries = λ k l. refl }))

  pub front-whole : length x ≡ m → front m x ≡ x
  front-whole h = front_is x h (λ k l. refl)

  -- what is made of each of them
  pub front_each : (f : ℤ → ℤ) → tabulate m (λ k. f (nth (front m x) k)) ≡ tabulate m (λ k. f (nth x k))
  front_each f = tabulate_ext m _ _ (λ k h. ap f (nth-front k h))

pub front-filled : {s m : ℕ} {f : ℕ → ℤ} {x : List ℤ} → Filled s m f x → front m x ≡ tabulate m f
front-filled {m = m} {f = f} {x = x} w = tabulate_ext m (nth x) f w.entries

pub added-front : (m : ℕ) (g x : List ℤ) → added_to m (front m g) (front m x) ≡ added_to m g x
added-front m g x = tabulate_ext m _ _ (λ k h. ap₂ ◌+ℤ◌ (nth-front m x k h) (nth-front m g k h))

pub at_front : (n : ℕ) (t : List ℤ) (i j : ℕ) → i < n → j < n → at n (front (n * n) t) i j ≡ at n t i j
unfolding at
at_front n t i j h k = nth-front (n * n) t _ (inside h k)

-- ---- tests of the first m numbers
pub all-added : (b m : ℕ) (g x : List ℤ) → all m (λ k. within b (nth x k +ℤ nth g k)) ≡ all_within b m (added_to m g x)
unfolding all_within
all-added b m g x = all_ext m _ _ (λ k h. ap (within b) (sym (nth-tabulate m _ k h)))

within-front : (b m : ℕ) (x : List ℤ) → all_within b m (front m x) ≡ all_within b m x
unfolding all_within
within-front b m x = all_ext m _ _ (λ k h. ap (within b) (nth-front m x k h))

crossed_front : (m : ℕ) (l u : List ℤ) → nowhere_crossed m (front m l) (front m u) ≡ nowhere_crossed m l u
unfolding nowhere_crossed
crossed_front m l u = all_ext m _ _ (λ k h. rw (nth-front m l k h, nth-front m u k h))

-- ---- sums, by their parts
pub constraint_by : {n : ℕ} {l l' u u' a a' b b' : List ℤ} {α α' : ℤ} → l ≡ l' → u ≡ u' → a ≡ a' → b ≡ b' → α ≡ α' →
    constraint_of n l u a b α ≡ constraint_of n l' u' a' b' α'
constraint_by e f g h i = rw (e, f, g, h, i)

-- what is added to sums
pub plus-front : (n : ℕ) (gl gu ga gb : List ℤ) (β : ℤ) (l u a b : List ℤ) (α : ℤ) →
    plus (sums_at n gl gu ga gb β) (sums_at n l u a b α) ≡ constraint_of n (added_to (n * n) gl l) (added_to (n * n) gu u)
    (added_to n ga a) (added_to n gb b) (α +ℤ β)
unfolding plus
plus-front n gl gu ga gb β l u a b α = constraint_by (added-front (n * n) gl l) (added-front (n * n) gu u) (added-front n ga a)
    (added-front n gb b) refl

-- and their halves
pub halved-front : (n : ℕ) (l u a b : List ℤ) (α : ℤ) →
    halved (sums_at n l u a b α)
    ≡ constraint_of n (tabulate (n * n) (λ k. half_down (nth l k))) (tabulate (n * n) (λ k. half_up (nth u k)))
    (tabulate n (λ k. half_down (nth a k))) (tabulate n (λ k. half_up (nth b k))) (half_up α)
unfolding halved
halved-front n l u a b α = constraint_by (front_each (n * n) l half_down) (front_each (n * n) u half_up) (front_each n a half_down)
    (front_each n b half_up) refl

-- lists that are written with sums c
pub sums-filled : {n : ℕ} {l u a b l' u' a' b' : List ℤ} {α α' : ℤ} {f g p q : ℕ → ℤ} {c : Constraint} → Rooms n l u a b →
    Filled (length l) (n * n) f l' → Filled (length u) (n * n) g u' → Filled (length a) n p a' → Filled (length b) n q b' → α' ≡ α →
    c ≡ constraint_of n (tabulate (n * n) f) (tabulate (n * n) g) (tabulate n p) (tabulate n q) α → Sums c n l' u' a' b' α'
sums-filled z w x y v i e = record {
  sums = constraint_by (front-filled w) (front-filled x) (front-filled y) (front-filled v) i ∙ sym e;
  rooms = record {
    low = rw w.size z.low;
    high = rw x.size z.high;
    linear_low = rw y.size z.linear_low;
    linear_high = rw v.size z.linear_high;
  };
}

-- ---- sums in their ranges
front-within : {m b c : ℕ} {x : List ℤ} → b ≤ c → m ≤ length x → ((k : ℕ) → k < m → Within b (nth (front m x) k)) → FrontWithin m c x
front-within {m = m} {x = x} h r w = record { room = r; small = λ k l. within_more h (rw (nth-front m x k l) at (w k l)) }

module _ {n : ℕ} {l u a b : List ℤ} {α : ℤ} (r : Ranged n l u a b α) where
  tables : (k : ℕ) → k < n * n → Within entry_range (nth (front (n * n) l) k) × Within entry_range (nth (front (n * n) u) k)
  tables = within-tables (sums_at n l u a b α) r.within

  linear : (k : ℕ) → k < n → Within linear_range (nth (front n a) k) × Within linear_range (nth (front n b) k)
  linear = within_linear (sums_at n l u a b α) r.within

  pub ranged-low : FrontWithin (n * n) limit_range l
  ranged-low = front-within (omega arith) r.rooms.low (λ k h. (tables k h).0)

  pub ranged-high : FrontWithin (n * n) limit_range u
  ranged-high = front-within (omega arith) r.rooms.high (λ k h. (tables k h).1)

  pub ranged-from : FrontWithin n limit_range a
  ranged-from = front-within (omega arith) r.rooms.linear_low (λ k h. (linear k h).0)

  pub ranged-to : FrontWithin n limit_range b
  ranged-to = front-within (omega arith) r.rooms.linear_high (λ k h. (linear k h).1)

  pub ranged-limit : Within limit_range α
  ranged-limit = within-limit (sums_at n l u a b α) r.within

  pub limit_fits : SFits w64 α
  limit_fits = fits_within ranged-limit (omega arith)

-- a sum of two such numbers fits
pub sum_fits : {x y : ℤ} → Within limit_range x → Within limit_range y → SFits w64 (x +ℤ y)
sum_fits v w = fits_within (within-+ v w) (omega arith)

-- halves are in their ranges too
each_within : {b : ℕ} (m : ℕ) (f : ℕ → ℤ) → ((k : ℕ) → k < m → Within b (f k)) → all_within b m (tabulate m f) ≡ true
unfolding all_within
each_within m f w = all_of _ m (λ k h. within_true (rw (nth-tabulate m f k h) (w k h)))

pub halved-within : (c : Constraint) → sums_within c ≡ true → sums_within (halved c) ≡ true
unfolding halved sums_within linear_within tables_within
halved-within c e =
    let n = c.order in
    let x = within_linear c e in
    let t = within-tables c e in
    and_of (and_of (each_within n _ (λ k h. within_floor (pos 2) (x k h).0)) (each_within n _ (λ k h. within_ceil (pos 2) (x k h).1)))
    (and_of (within_true (within_ceil (pos 2) (within-limit c e)))
    (and_of (each_within (n * n) _ (λ k h. within_floor (pos 2) (t k h).0)) (each_within (n * n) _ (λ k h. within_ceil (pos 2) (t k h).1))))

-- lists that hold sums which are in their ranges
pub sums-ranged : {c : Constraint} {n : ℕ} {l u a b : List ℤ} {α : ℤ} → sums_within c ≡ true → Sums c n l u a b α → Ranged n l u a b α
sums-ranged e s = record { rooms = s.rooms; within = ap sums_within s.sums ∙ e }

-- ---- mended bounds
pub front-mended : (m : ℤ → ℤ → ℤ) (n : ℕ) (t : List ℤ) → front (n * n) (mended_by m n t) ≡ mended_by m n (front (n * n) t)
front-mended m n t =
    front_is (n * n) (mended_by m n t) (mended_by m n (front (n * n) t))
    (mended-length m n _ (omega (arith, length_front (n * n) t)) ∙ length_front (n * n) t)
    (λ k h.
    let i : k / n < n = row_inside n k h in
    let j : k % n < n = column_inside n k h in
    nth-at n k _ ∙ at-mended m n t _ _ i j ∙ ap₂ m (sym (at_front n t _ _ i j)) (sym (at_front n t _ _ j i))
    ∙ sym (at-mended m n _ _ _ i j) ∙ sym (nth-at n k _))

-- only the front is checked, and no limit but by `limits`
pub checks-front : (limits : Bool) (n : ℕ) (l u a b : List ℤ) (α β : ℤ) →
    sums_checks limits (constraint_of n l u a b α) ≡ sums_checks limits (sums_at n l u a b β)
unfolding bounds_checks ends_checks linear_within tables_within
checks-front limits n l u a b α β =
    rw (
      ← front-mended max_ℤ n l,
      ← front-mended min_ℤ n u,
      crossed_front (n * n) (mended_by max_ℤ n l) (mended_by min_ℤ n u),
      crossed_front (n * n) l u,
      crossed_front n a b,
      within-front linear_range n a,
      within-front linear_range n b,
      within-front entry_range (n * n) l,
      within-front entry_range (n * n) u,
    )

-- what the code leaves that checks sums and mends their bounds
module _ (limits : Bool) {n : ℕ} {l u a b : List ℤ} (z : Rooms n l u a b) {r : Checked} {l' u' : List ℤ}
    (m : Mended (sums_checks limits (constraint_of n l u a b (pos 0))) n l u r l' u') where
  pub mended_rooms : Rooms n l' u' a b
  mended_rooms = record { low = rw m.low-size z.low; high = rw m.high-size z.high; linear_low = z.linear_low; linear_high = z.linear_high }

  module _ (α : ℤ) where
    pub mended_answer : r ≡ first_refusal (sums_checks limits (sums_at n l u a b α))
    mended_answer = m.answered ∙ ap first_refusal (checks-front limits n l u a b (pos 0) α)

    module _ (e : r ≡ Ok tt) where
      pub mended-front : sums_at n l' u' a b α ≡ mended_constraint (sums_at n l u a b α)
      mended-front = constraint_by (ap (front (n * n)) (m.low e) ∙ front-mended max_ℤ n l)
          (ap (front (n * n)) (m.high e) ∙ front-mended min_ℤ n u) refl refl refl

      pub mended-ranged : limits ≡ within limit_range α → Ranged n l' u' a b α
      unfolding sums_within
      mended-ranged q =
          let c = mended_constraint (sums_at n l u a b α) in
          let p = sums-mended limits (sums_at n l u a b α) (omega (arith, length_front (n * n) l)) (omega (arith, length_front (n * n) u))
          (sym mended_answer ∙ e) in
          record {
            rooms = mended_rooms;
            within = ap sums_within mended-front ∙ and_of (linear_passed limits c p)
                (and_of (sym q ∙ limits_passed limits c p) (tables-passed limits c p));
          }
