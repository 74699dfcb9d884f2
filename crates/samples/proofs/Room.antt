-- R23.7 of docs/RULES.md: halved sums have room for a sample, so none is refused by 18.
use mathlib.Core.Path.{◌≡◌, refl, sym, ap, subst, ◌∙◌}
use mathlib.Core.Bool.{Bool, true, false, false≢true}
use mathlib.Core.List.{List, [], ◌∷◌}
use Prim.Native.Nat.{ℕ, ◌*◌, ◌/◌, ◌%◌, ◌^◌, ◌≤◌, ◌<◌}
use native.Mathlib.Omega.{arith}
use lib.IntN.{ℤ, pos, ◌+ℤ◌, ◌-ℤ◌}
use lib.Signed.{le_z_yes}
use lib.ListN.{length}
use Rattle.integers.specs.Numbers.{Within}
use Rattle.integers.proofs.Solver.{◌&◌, order, solver}
use Rattle.integers.proofs.Division.{floor_law, ceil_law}
use Rattle.integers.proofs.Machine.{within_more, within-+, within--, within_in, within_low, within-high}
use Rattle.tables.specs.Ranges.{entry_range, linear_range, limit_range}
use Rattle.tables.specs.Matrix.{nth, table, tabulate}
use Rattle.tables.specs.Checks.{Check, Checked, first_refusal, within, all_within, linear_within, tables_within, order_of, entry_checks, bounds_checks, ends_checks}
use Rattle.tables.specs.Answers.{after}
use Rattle.tables.specs.Entering.{door_checks, entered}
use Rattle.tables.specs.Problem.{mended_constraint, constraint_ends, constraint_entered}
use Rattle.tables.specs.declared.Refusal.{Refusal}
use Rattle.tables.specs.declared.Refusal.TheVariants.{Sample, Full}
use Rattle.std.specs.Prelude.{Ok, Err}
use Rattle.tables.specs.declared.problem.Constraint.{Constraint}
use Rattle.tables.proofs.Checks.{and_of, all_of, within_true, more-checks}
use Rattle.tables.proofs.Matrix.{row_inside, column_inside, nth-tabulate}
use Rattle.tables.proofs.Admission.{behind}
use Rattle.sums.specs.Sums.{Outcome, terms_in, own_checks, added_to, plus, sums_within}
use Rattle.sums.specs.Halving.{half_down, half_up, halved, fitted}
use Rattle.sums.proofs.Checked.{within_linear, within-limit, within-tables, mended-within}
use Rattle.sums.proofs.Explained.{fitted_cases}
use Rattle.samples.specs.declared.sample.Sample as Declared
use Rattle.samples.specs.Samples.{factor_count, factor_next, draw_next, sample_fits, measures_of, between, factor_of}
use Rattle.samples.specs.Gains.{low_gain, high_gain, from_gain, to_gain, gains, gains_of}
use Rattle.samples.specs.Gathering.{entered_sums, gathering}
use Rattle.samples.specs.Required.{NumbersNear}
use Rattle.samples.proofs.Near.{product_range, least_square_within, least-within, greatest-within}
use Rattle.samples.proofs.Measuring.{Narrow, gains-same, factor-same, measures_near}

-- ---- sums whose numbers are in their ranges
pub sums-within : (c : Constraint) → ((k : ℕ) → k < c.order →
    Within linear_range (nth c.linear.low k) × Within linear_range (nth c.linear.high k)) →
    Within limit_range c.limit → ((k : ℕ) → k < c.order * c.order → Within entry_range (nth c.low k) × Within entry_range (nth c.high k)) →
    sums_within c ≡ true
unfolding sums_within linear_within tables_within all_within
sums-within c x α t =
    and_of (and_of (all_of _ c.order (λ k h. within_true (x k h).0)) (all_of _ c.order (λ k h. within_true (x k h).1)))
    (and_of (within_true α) (and_of (all_of _ (c.order * c.order) (λ k h. within_true (t k h).0))
    (all_of _ (c.order * c.order) (λ k h. within_true (t k h).1))))

-- ---- numbers as small as those that a sample adds to sums of order n
pub record GainsNear (n : ℕ) (g : Constraint) : Type 0 where
  pub tables : (k : ℕ) → k < n * n → Within product_range (nth g.low k) × Within product_range (nth g.high k)
  pub linear : (k : ℕ) → k < n → Within product_range (nth g.linear.low k) × Within product_range (nth g.linear.high k)
  pub limit : Within product_range g.limit

pub near_within : (g : Constraint) → GainsNear g.order g → sums_within g ≡ true
near_within g w =
    sums-within g (λ k h. let x = w.linear k h in (within_more (omega arith) x.0, within_more (omega arith) x.1))
    (within_more (omega arith) w.limit)
    (λ k h. let x = w.tables k h in (within_more (omega arith) x.0, within_more (omega arith) x.1))

-- ---- half of a range, and what a sample adds, are together inside the range
half_down_lem : (k : ℕ) {x : ℤ} → Within (2 * k) x → Within k (half_down x)
half_down_lem k {x} w =
    let f = floor_law x (pos 2) (le_z_yes tt) in
    within_in (order (x ∷ half_down x ∷ pos k ∷ []) (within_low w & f.high) (search solver depth 40 fits 20000) (omega arith))
    (order (x ∷ half_down x ∷ pos k ∷ []) (within-high w & f.low) (search solver depth 40 fits 20000) (omega arith))

half_up_lem : (k : ℕ) {x : ℤ} → Within (2 * k) x → Within k (half_up x)
half_up_lem k {x} w =
    let c = ceil_law x (pos 2) (le_z_yes tt) in
    within_in (order (x ∷ half_up x ∷ pos k ∷ []) (within_low w & c.high) (search solver depth 40 fits 20000) (omega arith))
    (order (x ∷ half_up x ∷ pos k ∷ []) (within-high w & c.low) (search solver depth 40 fits 20000) (omega arith))

-- of a range ±2r, where r has room for the gain x
module _ (r : ℕ) (room : product_range ≤ r) {x y : ℤ} (h : Within (2 * r) y) (k : Within product_range x) where
  low_room : Within (2 * r) (half_down y +ℤ x)
  low_room = within_more (omega arith) (within-+ (half_down_lem r h) k)

  high_room : Within (2 * r) (half_up y +ℤ x)
  high_room = within_more (omega arith) (within-+ (half_up_lem r h) k)

-- number k of m numbers that are halved and added to
added-half : (m : ℕ) (f : ℤ → ℤ) (g x : List ℤ) (k : ℕ) → k < m →
    nth (added_to m g (tabulate m (λ k. f (nth x k)))) k ≡ f (nth x k) +ℤ nth g k
added-half m f g x k h = nth-tabulate m _ k h ∙ ap (λ (z : ℤ). z +ℤ nth g k) (nth-tabulate m _ k h)

pub room_after_halving : (g c : Constraint) → GainsNear c.order g → sums_within c ≡ true → sums_within (plus g (halved c)) ≡ true
unfolding plus halved
room_after_halving g c w e =
    let n = c.order in
    sums-within (plus g (halved c))
    (λ k h. let x = within_linear c e k h in let y = w.linear k h in (
      rw (added-half n half_down g.linear.low c.linear.low k h) (low_room (2 ^ 35) (omega arith) x.0 y.0),
      rw (added-half n half_up g.linear.high c.linear.high k h) (high_room (2 ^ 35) (omega arith) x.1 y.1),
    ))
    (high_room (2 ^ 53) (omega arith) (within-limit c e) w.limit)
    (λ k h. let x = within-tables c e k h in let y = w.tables k h in (
      rw (added-half (n * n) half_down g.low c.low k h) (low_room (2 ^ 19) (omega arith) x.0 y.0),
      rw (added-half (n * n) half_up g.high c.high k h) (high_room (2 ^ 19) (omega arith) x.1 y.1),
    ))

pub fitted_never : (g c : Constraint) → GainsNear c.order g → sums_within c ≡ true → (r : Refusal) → fitted g c ≡ Err r → ⊥
fitted_never g c w e r =
    fitted_cases (λ (o : Outcome). o ≡ Err r → ⊥) g c (λ h q. false≢true cc) (λ h q. false≢true cc)
    (λ h q. false≢true (sym h ∙ room_after_halving g c w e))

-- ---- the gains of small numbers
pub gains-near : {a b : List ℤ} → NumbersNear a b → GainsNear factor_count (gains (between a b) (between a b factor_count))
unfolding gains table
gains-near {a} {b} near =
    let n : ℕ = factor_count in
    let F = between a b in
    let D = between a b n in
    record {
      tables = λ k h. let i = row_inside n k h in let j = column_inside n k h in (
        rw (nth-tabulate (n * n) (λ k. low_gain F D (k / n) (k % n)) k h) (least-within near (omega (arith, i)) (omega (arith, j))),
        rw (nth-tabulate (n * n) (λ k. high_gain F D (k / n) (k % n)) k h) (greatest-within near (omega (arith, i)) (omega (arith, j))),
      );
      linear = λ k h. (
        rw (nth-tabulate n (from_gain F D) k h) (lost (greatest-within near (omega arith) (omega arith))),
        rw (nth-tabulate n (to_gain F D) k h) (lost (least-within near (omega arith) (omega arith))),
      );
      limit = lost (least_square_within near (omega arith));
    }
  where
    lost : {x : ℤ} → Within product_range x → Within product_range (pos 0 -ℤ x)
    lost w = within-- {m = 0} {x = pos 0} (record { size = omega arith }) w

-- of a sample that 17 lets through
pub sample-near : (s : Declared.Sample) → Narrow s → sample_fits s ≡ true → GainsNear factor_count (gains_of s)
sample-near s w e = rw (← gains-same (factor_of (measures_of s)) (factor_next s) (draw_next s) (factor-same s))
    (gains-near (measures_near s w e))

-- ---- gathering
-- checks of which none refuses by r
abbrev Others : Refusal → List Check → Type 0
Others r [] = Unit {0}
Others r (c ∷ cs) = (c.otherwise ≡ r → ⊥) × Others r cs

-- refused by r: not by them
behind-checks : (r : Refusal) (cs : List Check) (a : Outcome) → Others r cs → after Err (first_refusal cs) a ≡ Err r →
    (first_refusal cs ≡ Ok tt) × (a ≡ Err r)
unfolding after first_refusal
behind-checks r [] a w e = (refl, e)
behind-checks r (c ∷ cs) a w e = go c.passes e (behind-checks r cs a w.1)
  where
    here : Bool → Checked
    here b = elim b as (λ z. Checked) [ true ↦ first_refusal cs | false ↦ Err c.otherwise ]

    go : (b : Bool) → after Err (here b) a ≡ Err r → (after Err (first_refusal cs) a ≡ Err r → (first_refusal cs ≡ Ok tt) × (a ≡ Err r)) →
        (here b ≡ Ok tt) × (a ≡ Err r)
    go true e f = f e
    go false e f = absurd (w.0 cc)

-- sums whose tables have the numbers that a sample's order calls for
pub record TablesRoom (c : Constraint) : Type 0 where
  pub order : c.order ≡ factor_count
  pub low : factor_count * factor_count ≤ length c.low
  pub high : factor_count * factor_count ≤ length c.high

pub never_full : (s : Declared.Sample) → Narrow s → (n : ℤ) (sized : Bool) (c : Constraint) → c.order ≡ order_of n →
    (sized ≡ true → TablesRoom c) → gathering s n sized c ≡ Err Full → ⊥
unfolding gathering constraint_entered entered entry_checks bounds_checks ends_checks
never_full s narrow n sized c ordered roomy e = go (sample_fits s) refl e
  where
    terms : Bool
    terms = terms_in (within limit_range c.limit) c

    a : Outcome
    a = fitted (gains_of s) (mended_constraint c)

    inside : sample_fits s ≡ true → entered_sums (factor_next s) (draw_next s) n sized c ≡ Err Full → ⊥
    inside f e =
        let door = behind-checks Full (door_checks n sized terms c.low c.high) (after Err (first_refusal (constraint_ends c)) a)
        (λ q. false≢true cc, (λ q. false≢true cc, (λ q. false≢true cc, (λ q. false≢true cc, (λ q. false≢true cc, tt))))) e in
        let ends = behind-checks Full (constraint_ends c) a (λ q. false≢true cc, tt) door.1 in
        let b = behind n sized terms c.low c.high door.0 in
        let r = roomy b.sizes in
        let passed : first_refusal (own_checks c) ≡ Ok tt = more-checks (bounds_checks terms c.order c.low c.high) (constraint_ends c)
        (subst (λ (m : ℕ). first_refusal (bounds_checks terms m c.low c.high) ≡ Ok tt) (sym ordered) b.checked) ∙ ends.0 in
        fitted_never (gains_of s) (mended_constraint c) (rw r.order (sample-near s narrow f))
        (mended-within c (rw r.order r.low) (rw r.order r.high) passed) Full ends.1

    go : (b : Bool) → sample_fits s ≡ b → elim b as (λ z. Outcome) [
      | true ↦ entered_sums (factor_next s)
          (draw_next s) n sized c
      | false ↦ Err Sample
    ] ≡ Err Full → ⊥
    go true f e = inside f e
    go false f e = false≢true cc
