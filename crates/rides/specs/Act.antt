-- R22.6 and R15 of docs/RULES.md: the gathering act over the lent sums: what it answers, how it leaves each buffer, and what that means.
use Rattle.std.specs.Prelude.{◌≡◌, Bool, List, ℕ, ◌*◌, ℤ, pos, ◌+ℤ◌, ◌*ℤ◌, ◌≤ℤ◌, length, Ok, Err}
use Rattle.tables.specs.Matrix.{nth, tabulate}
use Rattle.tables.specs.Checks.{Checked, order_of}
use Rattle.tables.specs.Problem.{lengths_of}
use Rattle.tables.specs.declared.Refusal.TheVariants.{Full}
use Rattle.tables.specs.declared.problem.Constraint.{Constraint}
use Rattle.tables.specs.declared.problem.Lengths.{Lengths}
use Rattle.floats.specs.Brackets.{sixteenth}
use Rattle.sums.specs.Sums.{Outcome}
use Rattle.sums.specs.Lent.{Lent, Left, laid_sums}
use Rattle.sums.specs.Explaining.{Explained}
use Rattle.samples.specs.declared.sample.Sample.{Sample}
use Rattle.samples.specs.Samples.{factor_count}
use Rattle.samples.specs.Gathering.{sums_sized, gathering}
use Rattle.samples.specs.Explaining.{misfit}
use Rattle.rides.specs.Reading.{held_sums}

-- the sums of order n that five buffers hold: `numbers` are those of a buffer
abbrev pub held_lent : {A : Type 0} → (List A → ℕ → List ℤ) → ℕ → Lent (List A) → Constraint
held_lent numbers n b = held_sums numbers n b.low b.high b.from b.to (nth (numbers b.limit 1) 0)

-- 2, R4.2, where so many numbers take `taken` elements
abbrev pub gather_sizes : {A : Type 0} → (ℕ → ℕ) → ℕ → Lent (List A) → Bool
gather_sizes taken n b = sums_sized taken n (lengths_of (length b.low) (length b.high) (length b.from) (length b.to)) (length b.limit)

-- where it passes
pub record SumsSizes (taken : ℕ → ℕ) (n : ℕ) (b : Lengths) (α : ℕ) : Type 0 where
  pub order : n ≡ factor_count
  pub low : b.bounds.low ≡ taken (factor_count * factor_count)
  pub high : b.bounds.high ≡ taken (factor_count * factor_count)
  pub linear_low : b.linear.low ≡ taken factor_count
  pub linear_high : b.linear.high ≡ taken factor_count
  pub limit : α ≡ taken 1

-- the sums of a sample's order are written, or all five buffers are kept: `elements` are those of a list of numbers
abbrev pub laid_sample : {A : Type 0} → (List ℤ → ℕ → List A) → Outcome → Lent (List A) → Left (List A)
laid_sample elements =
    laid_sums (λ t. elements t (factor_count * factor_count)) (λ x. elements x factor_count) (λ α. elements (tabulate 1 (λ i. α)) 1)

-- gathering into buffers, of anything at all
unfoldable pub gather_act : {A : Type 0} → (ℕ → ℕ) → (List A → ℕ → List ℤ) → (List ℤ → ℕ → List A) → Sample → ℤ → Lent (List A) →
    Left (List A)
gather_act taken numbers elements s n b =
    laid_sample elements (gathering s n (gather_sizes taken (order_of n) b) (held_lent numbers (order_of n) b)) b

-- into lists of numbers
unfoldable pub gather : Sample → ℤ → Lent (List ℤ) → Left (List ℤ)
gather = gather_act (λ k. k) (λ x k. x) (λ x k. x)

-- R23.3: a point that sums c explain up to u over v is, with the sample in them, explained by them up to that and the square of
-- 16·draw − 16·factors·x
abbrev pub Explaining : Sample → Constraint → Constraint → Type 0
Explaining s c d =
    (u v : ℤ) → pos 1 ≤ℤ v → (X : ℕ → ℤ) (p : ℤ) → Explained c u v X p →
    (let z = p *ℤ p *ℤ (sixteenth *ℤ sixteenth) in Explained d (u *ℤ z +ℤ misfit s X p *ℤ misfit s X p *ℤ v) (v *ℤ z) X p)

-- what an answer means of the sums c before it and d after it; and R23.7: it is never 18
pub record Meaning (s : Sample) (r : Checked) (c d : Constraint) : Type 0 where
  pub explains : r ≡ Ok tt → Explaining s c d
  pub room : r ≡ Err Full → ⊥
