-- Sums that problems were pooled into have the sizes of their order, and are in their ranges: so they are read back from where they are
-- written.
use mathlib.Core.Path.{◌≡◌, refl, sym, ap, subst, ◌∙◌}
use mathlib.Core.Bool.{true, false≢true}
use mathlib.Core.Logic.{by_cases}
use mathlib.Core.List.{List}
use Prim.Native.Nat.{ℕ, zero, suc, ◌*◌, ◌≤◌, ◌<◌}
use native.Mathlib.Omega.{arith}
use native.Mathlib.Decide.{dec_lt}
use lib.IntN.{ℤ, pos}
use lib.ListN.{length}
use mir.Syntax.{w64}
use mir.Val.{SFits}
use Rattle.integers.specs.Numbers.{Within}
use Rattle.integers.proofs.Machine.{fits_within}
use Rattle.tables.specs.Matrix.{nth, tabulate}
use Rattle.tables.specs.Elements.{BuffersWhole}
use Rattle.tables.specs.Problem.{constraint_of, mended_constraint}
use Rattle.tables.specs.declared.problem.Constraint.{Constraint}
use Rattle.tables.proofs.Matrix.{length-tabulate, nth-tabulate}
use Rattle.cholesky.proofs.Lists.{nth_past}
use Rattle.std.specs.Prelude.{Ok, Err}
use Rattle.sums.specs.Sums.{Outcome, plus, sums_within}
use Rattle.sums.specs.Halving.{halved, fitted}
use Rattle.sums.specs.Lent.{Lent, sums_of}
use Rattle.sums.proofs.Checked.{within_linear, within-limit, within-tables}
use Rattle.sums.proofs.Explained.{fitted_by, taken-same, fitted-ordered}
use Rattle.sums.proofs.Fronts.{constraint_by}
use Rattle.pool.specs.Pool.{added_next, pooled}
use Rattle.pool.specs.Act.{lent_of, laid_out}

-- ---- sums of order n in their ranges, whose lists have its sizes
pub record Whole (n : ℕ) (c : Constraint) : Type 0 where
  pub order : c.order ≡ n
  pub low : length c.low ≡ n * n
  pub high : length c.high ≡ n * n
  pub linear_low : length c.linear.low ≡ n
  pub linear_high : length c.linear.high ≡ n
  pub within : sums_within c ≡ true

-- such sums are what adding gives
plus-whole : (g c : Constraint) → sums_within (plus g c) ≡ true → Whole c.order (plus g c)
unfolding plus
plus-whole g c e =
    let n = c.order in
    record {
      order = refl;
      low = length-tabulate (n * n) _;
      high = length-tabulate (n * n) _;
      linear_low = length-tabulate n _;
      linear_high = length-tabulate n _;
      within = e;
    }

fitted-whole : (g c : Constraint) {d : Constraint} → fitted g c ≡ Ok d → Whole c.order d
unfolding halved
fitted-whole g c {d} =
    fitted_by (λ o. o ≡ Ok d → Whole c.order d) g c (λ w e. subst (Whole c.order) (taken-same e) (plus-whole g c w))
    (λ w e. subst (Whole c.order) (taken-same e) (plus-whole g (halved c) w)) (λ e. absurd (false≢true cc))

-- and so one problem after the other
module _ (c : Constraint) (p : ℕ → Constraint) where
  pooled-ordered : (m : ℕ) {d : Constraint} → pooled c p m ≡ Ok d → d.order ≡ c.order
  unfolding pooled added_next
  pooled-ordered zero e = cc
  pooled-ordered (suc m) {d} e = go (pooled c p m) e (λ x q. pooled-ordered m q)
    where
      go : (o : Outcome) → added_next (mended_constraint (p m)) o ≡ Ok d → ((x : Constraint) → o ≡ Ok x → x.order ≡ c.order) →
          d.order ≡ c.order
      go (Ok x) f before = fitted-ordered (mended_constraint (p m)) x f ∙ before x refl
      go (Err r) f before = absurd (false≢true cc)

  pub pooled-whole : (m : ℕ) {d : Constraint} → 1 ≤ m → pooled c p m ≡ Ok d → Whole c.order d
  unfolding pooled added_next
  pooled-whole zero h e = absurd (omega arith)
  pooled-whole (suc m) {d} h e = go (pooled c p m) refl e
    where
      go : (o : Outcome) → pooled c p m ≡ o → added_next (mended_constraint (p m)) o ≡ Ok d → Whole c.order d
      go (Ok x) q f = subst (λ (n : ℕ). Whole n d) (pooled-ordered m q) (fitted-whole (mended_constraint (p m)) x f)
      go (Err r) q f = absurd (false≢true cc)

-- ---- written and read back
zero_fits : SFits w64 (pos 0)
zero_fits = let w : Within 0 (pos 0) = record { size = omega arith } in fits_within w (omega arith)

-- numbers that 64 bits hold: past the end of a list they are 0
each_fits : {m b : ℕ} (x : List ℤ) → b ≤ 1125899906842624 → length x ≡ m → ((i : ℕ) → i < m → Within b (nth x i)) → (i : ℕ) →
    SFits w64 (nth x i)
each_fits {m} {b} x l e h i =
    by_cases (dec_lt i m) (λ k. fits_within (h i k) (omega (arith, l)))
    (λ k. rw (nth_past x i (omega (arith, e))) zero_fits)

module _ {A : Type 0} {taken : ℕ → ℕ} {numbers : List A → ℕ → List ℤ} {elements : List ℤ → ℕ → List A}
    (laws : BuffersWhole taken numbers elements) where
  limit_back : (α : ℤ) → SFits w64 α → nth (numbers (elements (tabulate 1 (λ i. α)) 1) 1) 0 ≡ α
  unfolding tabulate
  limit_back α f = ap (λ (x : List ℤ). nth x 0) (laws.read_back (tabulate 1 (λ i. α)) 1 refl
      (λ i. by_cases (dec_lt i 1) (λ k. rw (nth-tabulate 1 (λ i. α) i k) f)
      (λ k. rw (nth_past (tabulate 1 (λ i. α)) i (omega arith)) zero_fits)))

  pub back : (n : ℕ) (c : Constraint) (b : Lent (List A)) → Whole n c →
      sums_of n (lent_of numbers n (laid_out elements n (Ok c) b).sums) ≡ c
  back n c b w =
      let t = rw w.order at (within-tables c w.within) in
      let x = rw w.order at (within_linear c w.within) in
      constraint_by
      (laws.read_back c.low (n * n) w.low (each_fits c.low (omega arith) w.low (λ k h. (t k h).0)))
      (laws.read_back c.high (n * n) w.high (each_fits c.high (omega arith) w.high (λ k h. (t k h).1)))
      (laws.read_back c.linear.low n w.linear_low (each_fits c.linear.low (omega arith) w.linear_low (λ k h. (x k h).0)))
      (laws.read_back c.linear.high n w.linear_high (each_fits c.linear.high (omega arith) w.linear_high (λ k h. (x k h).1)))
      (limit_back c.limit (fits_within (within-limit c w.within) (omega arith)))
      ∙ ap (λ (m : ℕ). constraint_of m c.low c.high c.linear.low c.linear.high c.limit) (sym w.order)
