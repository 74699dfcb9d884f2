-- What gathering into lent buffers means: sums that explain a point explain it with the sample in them, and no sample is refused by 18.
use mathlib.Core.Path.{◌≡◌, refl, sym, ap, subst, ◌∙◌}
use mathlib.Core.Bool.{Bool, true, false≢true}
use mathlib.Core.List.{List}
use Prim.Native.Nat.{ℕ, ◌*◌}
use native.Mathlib.Omega.{arith}
use lib.IntN.{ℤ}
use lib.ListN.{length}
use Rattle.integers.proofs.Parts.{≤ℤ_trans, pos_nonneg}
use Rattle.tables.specs.Matrix.{tabulate}
use Rattle.tables.specs.Checks.{order_of}
use Rattle.tables.specs.Elements.{BuffersWhole}
use Rattle.tables.specs.Problem.{lengths_of, mended_constraint}
use Rattle.tables.specs.declared.Refusal.TheVariants.{Full}
use Rattle.tables.specs.declared.problem.Constraint.{Constraint}
use Rattle.sums.specs.Sums.{Outcome}
use Rattle.sums.specs.Lent.{Lent}
use Rattle.std.specs.Prelude.{Ok}
use Rattle.sums.proofs.Explained.{mended_explains}
use Rattle.sums.proofs.Laying.{laid_answer}
use Rattle.samples.specs.declared.sample.Sample.{Sample}
use Rattle.samples.specs.Samples.{factor_count}
use Rattle.samples.specs.Gains.{gains_of}
use Rattle.samples.proofs.Measuring.{Narrow}
use Rattle.samples.proofs.Gains.{added_explains}
use Rattle.samples.proofs.Room.{TablesRoom, never_full}
use Rattle.rides.specs.Act.{held_lent, gather_sizes, SumsSizes, laid_sample, gather_act, Explaining, Meaning}
use Rattle.rides.proofs.Laying.{sums-sizes-of}
use Rattle.rides.proofs.Stored.{Whole, fitted-whole, read-sample}
use Rattle.rides.proofs.Wanted.{by_outcome}

module _ {A : Type 0} {taken : ℕ → ℕ} {numbers : List A → ℕ → List ℤ} {elements : List ℤ → ℕ → List A}
    (laws : BuffersWhole taken numbers elements) (s : Sample) (narrow : Narrow s) (n : ℤ) (b : Lent (List A)) where
  abbrev k : ℕ
  k = order_of n

  abbrev c : Constraint
  c = held_lent numbers k b

  abbrev sized : Bool
  sized = gather_sizes taken k b

  abbrev Means : Outcome → Type 0
  Means o = let j = laid_sample elements o b in j.answer ≡ Ok tt → Explaining s c (held_lent numbers k j.sums)

  lying : sized ≡ true → SumsSizes taken k (lengths_of (length b.low) (length b.high) (length b.from) (length b.to)) (length b.limit)
  lying z = sums-sizes-of _ _ _ _ z

  roomy : sized ≡ true → TablesRoom c
  roomy z =
      let e = lying z in
      let o : k * k ≡ factor_count * factor_count = ap (λ (m : ℕ). m * m) e.order in
      let h : taken (factor_count * factor_count) ≡ taken (k * k) = ap taken (sym o) in
      let low = laws.numbers_whole b.low (k * k) (e.low ∙ h) in
      let high = laws.numbers_whole b.high (k * k) (e.high ∙ h) in
      record { order = e.order; low = omega (arith, low, o); high = omega (arith, high, o) }

  pub gather-means : (let j = gather_act taken numbers elements s n b in Meaning s j.answer c (held_lent numbers k j.sums))
  unfolding gather_act
  gather-means = record {
    explains =
        by_outcome s n sized c Means
        (λ z d e q.
        let o = (lying z).order in
        let f = ap (λ (m : ℕ). held_lent numbers m (laid_sample elements (Ok d) b).sums) o
        ∙ read-sample laws d b (subst (λ (m : ℕ). Whole m d) o (fitted-whole (gains_of s) (mended_constraint c) e)) in
        subst (Explaining s c) (sym f)
        (λ u v w X p P. added_explains s X p (mended_constraint c) o (≤ℤ_trans (pos_nonneg 1) w) (mended_explains c P) e))
        (λ r q. absurd (false≢true cc));
    room = λ q. never_full s narrow n sized c refl roomy
        (laid_answer (λ t. elements t (factor_count * factor_count)) (λ x. elements x factor_count)
        (λ α. elements (tabulate 1 (λ i. α)) 1) b Full _ q);
  }
