-- Sums that a buffer of any kind keeps whole: they are read back from the buffers where they were stored.
use mathlib.Core.Path.{◌≡◌, refl, sym, ap, subst, ◌∙◌}
use mathlib.Core.Bool.{true, false≢true}
use mathlib.Core.List.{List}
use mathlib.Core.Logic.{by_cases}
use Prim.Native.Nat.{ℕ, ◌*◌, ◌^◌, ◌<◌}
use native.Mathlib.Omega.{arith}
use native.Mathlib.Decide.{dec_lt}
use lib.IntN.{ℤ, pos}
use lib.ListN.{length}
use mir.Syntax.{w64}
use mir.Val.{SFits}
use Rattle.std.specs.Prelude.{Ok}
use Rattle.std.proofs.lemmas.List.{get_or_past}
use Rattle.integers.specs.Numbers.{Within}
use Rattle.integers.proofs.Machine.{fits_within, fits_literal}
use Rattle.tables.specs.Ranges.{entry_range, linear_range}
use Rattle.tables.specs.Matrix.{nth, tabulate}
use Rattle.tables.specs.Elements.{BuffersWhole}
use Rattle.tables.specs.Problem.{constraint_of}
use Rattle.tables.specs.declared.problem.Constraint.{Constraint}
use Rattle.tables.proofs.Matrix.{length-tabulate}
use Rattle.sums.specs.Sums.{plus, sums_within}
use Rattle.sums.specs.Halving.{halved, fitted}
use Rattle.sums.specs.Lent.{Lent}
use Rattle.sums.proofs.Checked.{within_linear, within-limit, within-tables}
use Rattle.sums.proofs.Fronts.{constraint_by}
use Rattle.sums.proofs.Explained.{fitted_by, taken-same}
use Rattle.samples.specs.Samples.{factor_count}
use Rattle.rides.specs.Act.{held_lent, laid_sample}

-- ---- sums of order n in their ranges, whose lists have its sizes
pub record Whole (n : ℕ) (c : Constraint) : Type 0 where
  pub order : c.order ≡ n
  pub low : length c.low ≡ n * n
  pub high : length c.high ≡ n * n
  pub linear_low : length c.linear.low ≡ n
  pub linear_high : length c.linear.high ≡ n
  pub within : sums_within c ≡ true

-- such sums are what adding gives
plus-whole : (g c : Constraint) → sums_within (plus g c) ≡ true → Whole c.order (plus g c)
unfolding plus
plus-whole g c e =
    let n = c.order in
    record {
      order = refl;
      low = length-tabulate (n * n) _;
      high = length-tabulate (n * n) _;
      linear_low = length-tabulate n _;
      linear_high = length-tabulate n _;
      within = e;
    }

pub fitted-whole : (g c : Constraint) {d : Constraint} → fitted g c ≡ Ok d → Whole c.order d
unfolding halved
fitted-whole g c {d} =
    fitted_by (λ o. o ≡ Ok d → Whole c.order d) g c (λ w e. subst (Whole c.order) (taken-same e) (plus-whole g c w))
    (λ w e. subst (Whole c.order) (taken-same e) (plus-whole g (halved c) w)) (λ e. absurd (false≢true cc))

-- ---- numbers in a range fit, and so does the 0 that is read past their end
each_fits : {m b : ℕ} (x : List ℤ) → length x ≡ m → ((i : ℕ) → i < m → Within b (nth x i)) → b < 2 ^ 63 → (i : ℕ) → SFits w64 (nth x i)
each_fits {m} {b} x e h s i =
    by_cases (dec_lt i m) (λ l. fits_within (h i l) s)
    (λ l. rw (get_or_past x i (pos 0) (omega (arith, e))) (fits_literal {z = pos 0} tt))

-- ---- stored and read back
module _ {A : Type 0} {taken : ℕ → ℕ} {numbers : List A → ℕ → List ℤ} {elements : List ℤ → ℕ → List A}
    (laws : BuffersWhole taken numbers elements) where
  read-one : (α : ℤ) → SFits w64 α → nth (numbers (elements (tabulate 1 (λ i. α)) 1) 1) 0 ≡ α
  unfolding tabulate
  read-one α f = ap (λ (x : List ℤ). nth x 0) (laws.read_back (tabulate 1 (λ i. α)) 1 refl (λ i. one i))
    where
      one : (i : ℕ) → SFits w64 (nth (tabulate 1 (λ i. α)) i)
      one i = by_cases (dec_lt i 1) (λ l. let z : i ≡ 0 = omega arith in rw z f)
          (λ l. rw (get_or_past (tabulate 1 (λ i. α)) i (pos 0) (omega arith)) (fits_literal {z = pos 0} tt))

  pub read-sample : (c : Constraint) (b : Lent (List A)) → Whole factor_count c →
      held_lent numbers factor_count (laid_sample elements (Ok c) b).sums ≡ c
  read-sample c b w =
      let n = factor_count in
      let t : (k : ℕ) → k < n * n → Within entry_range (nth c.low k) × Within entry_range (nth c.high k) =
      rw w.order at (within-tables c w.within) in
      let x : (k : ℕ) → k < n → Within linear_range (nth c.linear.low k) × Within linear_range (nth c.linear.high k) =
      rw w.order at (within_linear c w.within) in
      constraint_by (laws.read_back c.low (n * n) w.low (each_fits c.low w.low (λ k h. (t k h).0) (omega arith)))
      (laws.read_back c.high (n * n) w.high (each_fits c.high w.high (λ k h. (t k h).1) (omega arith)))
      (laws.read_back c.linear.low n w.linear_low (each_fits c.linear.low w.linear_low (λ k h. (x k h).0) (omega arith)))
      (laws.read_back c.linear.high n w.linear_high (each_fits c.linear.high w.linear_high (λ k h. (x k h).1) (omega arith)))
      (read-one c.limit (fits_within (within-limit c w.within) (omega arith)))
      ∙ ap (λ (m : ℕ). constraint_of m c.low c.high c.linear.low c.linear.high c.limit) (sym w.order)
