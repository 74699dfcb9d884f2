-- Laws of reading sums: where the checks pass the limit fits, and what an answer means.
use mathlib.Core.Path.{◌≡◌, sym, ap, subst}
use mathlib.Core.Bool.{Bool, true, false≢true}
use mathlib.Core.List.{List}
use Prim.Native.Nat.{ℕ, ◌*◌}
use native.Mathlib.Omega.{arith}
use lib.IntN.{ℤ, pos, ◌+ℤ◌}
use lib.ListN.{length}
use lib.Signed.{le_z}
use mir.Syntax.{w64}
use mir.Val.{SFits}
use Rattle.integers.proofs.Machine.{fits_within}
use Rattle.tables.specs.Ranges.{linear_range, limit_range}
use Rattle.tables.specs.Checks.{Check, within, linear_within, ends_checks, first_refusal, order_ok, order_of}
use Rattle.tables.specs.Answers.{after}
use Rattle.tables.specs.Problem.{constraint_of}
use Rattle.tables.specs.declared.problem.Constraint.{Constraint}
use Rattle.tables.proofs.Checks.{and_right, within_of}
use Rattle.tables.proofs.Admission.{Padded, padded-nth, checks-padded, range_same, crossed_same}
use Rattle.tables.proofs.Problems.{constraint_means, constraint_sized_lem}
use Rattle.enclosure.specs.Points.{Allowed}
use Rattle.sums.specs.Sums.{terms_in, sums_checks}
use Rattle.std.specs.Prelude.{Result, Ok, Err}
use Rattle.tables.specs.declared.Refusal.{Refusal}
use Rattle.rides.specs.Reading.{allowance_range, limits_in, read_limit, checked_reading, read_sums, ReadingMeaning}
use Rattle.rides.proofs.Wanted.{allowed}

-- where the limits are in range the limit that is handed out fits
pub limit_fits : (K α : ℤ) → limits_in K α ≡ true → SFits w64 (K +ℤ α)
unfolding limits_in
limit_fits K α e =
    fits_within (within_of limit_range (K +ℤ α) (and_right (le_z K (pos allowance_range)) _
    (and_right (le_z (pos 0) K) _ (and_right (within limit_range α) _ e)))) (omega arith)

-- where n is an order and the buffers have their sizes, 3, 4, 5 and 16 are all that is left to ask
pub reading-sized : (n : ℤ) (sized : Bool) (K : ℤ) (c : Constraint) → order_ok n ≡ true → sized ≡ true → c.order ≡ order_of n →
    checked_reading K c ≡ read_sums n sized K c
unfolding checked_reading read_sums
reading-sized n sized K c o z e = sym (constraint_sized_lem Err n sized (terms_in (limits_in K c.limit) c) c (read_limit K c) o z e)

-- so a limit that is handed out fits
pub reading_fits : (n : ℤ) (sized : Bool) (K : ℤ) (c : Constraint) (α : ℤ) → read_sums n sized K c ≡ Ok α → SFits w64 α
unfolding read_sums
reading_fits n sized K c =
    constraint_means Err n sized _ c (read_limit K c) (λ (r : Result ℤ Refusal). (α : ℤ) → r ≡ Ok α → SFits w64 α)
    (λ r α e. absurd (false≢true cc))
    (λ b α e.
    let f : (K +ℤ c.limit) ≡ α = cc in
    subst (SFits w64) f (limit_fits K c.limit (and_right (linear_within c.order c.linear.low c.linear.high) _ b.within)))

-- and the buffers have their sizes
pub reading_sizes-passed : (n : ℤ) (sized : Bool) (K : ℤ) (c : Constraint) (α : ℤ) → read_sums n sized K c ≡ Ok α → sized ≡ true
unfolding read_sums
reading_sizes-passed n sized K c =
    constraint_means Err n sized _ c (read_limit K c) (λ (r : Result ℤ Refusal). (α : ℤ) → r ≡ Ok α → sized ≡ true)
    (λ r α e. absurd (false≢true cc)) (λ b α e. b.sizes)

-- a point that the sums explain up to K is allowed with the limit that is handed out
pub reading-means : (n : ℤ) (sized : Bool) (K : ℤ) (c : Constraint) → ReadingMeaning (read_sums n sized K c) K c
unfolding read_sums
reading-means n sized K c =
    constraint_means Err n sized _ c (read_limit K c) (λ (r : Result ℤ Refusal). ReadingMeaning r K c)
    (λ r. record { allows = λ α e. absurd (false≢true cc) })
    (λ b. record {
      allows = λ α e u v whole h X p one P.
          let f : (K +ℤ c.limit) ≡ α = cc in
          subst (λ (z : ℤ). Allowed (constraint_of c.order c.low c.high c.linear.low c.linear.high z) X p) f (allowed c whole one K h P);
    })

-- ---- numbers that were loaded over zeros: the checks look at the numbers alone
module _ (n : ℕ) {l u a b l' u' a' b' : List ℤ} (e : length l ≡ n * n) (f : length u ≡ n * n) (v : Padded l l') (w : Padded u u')
    (p : Padded a a') (q : Padded b b') (α : ℤ) where
  checks-loaded : (limits : Bool) → sums_checks limits (constraint_of n l' u' a' b' α) ≡ sums_checks limits (constraint_of n l u a b α)
  unfolding linear_within ends_checks
  checks-loaded limits =
      rw (
        checks-padded v w _ n e f,
        range_same linear_range n a a' (padded-nth p),
        range_same linear_range n b b' (padded-nth q),
        crossed_same n a a' b b' (padded-nth p) (padded-nth q),
      )

  -- and so what is read is what the numbers give
  pub reading-loaded : (K : ℤ) → checked_reading K (constraint_of n l' u' a' b' α) ≡ checked_reading K (constraint_of n l u a b α)
  unfolding checked_reading
  reading-loaded K = ap (λ (z : List Check). after Err (first_refusal z) (Ok (K +ℤ α))) (checks-loaded (limits_in K α))
