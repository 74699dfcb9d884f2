-- Laws of the scale, R29.1 of docs/RULES.md: each k is the greatest that keeps its diagonal entry inside of ±2^20.
use mathlib.Core.Path.{◌≡◌, refl}
use mathlib.Core.Bool.{Bool, true, false}
use mathlib.Core.Logic.{by_cases}
use mathlib.Core.List.{[], ◌∷◌}
use Prim.Native.Nat.{ℕ, zero, suc, ◌-◌, ◌≤◌, ◌<◌}
use native.Mathlib.Decide.{ℕ_discrete}
use native.Mathlib.Omega.{arith}
use lib.IntN.{ℤ, pos, ◌*ℤ◌}
use lib.Signed.{◌≤ℤ◌}
use borrow.Author.Tests.{not-true}
use Rattle.integers.proofs.Parts.{choice_by, le_z_true}
use Rattle.integers.proofs.Solver.{order, solver}
use Rattle.tables.specs.Ranges.{entry_range}
use Rattle.tables.proofs.Checks.{true_of}
use Rattle.scaling.specs.Scaling.{greatest_exponent, greatest_of, stays_within, exponent}

-- ---- the greatest number from 0 to k that p holds of
module _ (p : ℕ → Bool) where
  pub greatest-small : (k : ℕ) → greatest_of p k ≤ k
  unfolding greatest_of
  greatest-small zero = omega arith
  greatest-small (suc k) = choice_by (λ g. g ≤ suc k) (p (suc k)) (λ t. omega arith) (λ t. omega (arith, greatest-small k))

  pub greatest-holds : (k : ℕ) → (greatest_of p k ≡ 0 → p 0 ≡ true) → p (greatest_of p k) ≡ true
  unfolding greatest_of
  greatest-holds zero f = f refl
  greatest-holds (suc k) f =
      choice_by (λ g. (g ≡ 0 → p 0 ≡ true) → p g ≡ true) (p (suc k)) (λ t h. true_of (p (suc k)) t) (λ t. greatest-holds k) f

  pub greatest-above : (k m : ℕ) → greatest_of p k < m → m ≤ k → p m ≡ false
  unfolding greatest_of
  greatest-above zero m h l = absurd (omega arith)
  greatest-above (suc k) m h l =
      choice_by (λ g. g < m → p m ≡ false) (p (suc k)) (λ t h. absurd (omega arith))
      (λ t h. by_cases (ℕ_discrete m (suc k)) (λ e. rw e (not-true (p (suc k)) (true_of _ t))) (λ d. greatest-above k m h (omega arith))) h

  -- looked for from above
  pub greatest-none : greatest_of p 0 ≡ 0
  unfolding greatest_of
  greatest-none = refl

  pub greatest-found : (k : ℕ) → 0 < k → p k ≡ true → greatest_of p k ≡ k
  unfolding greatest_of
  greatest-found zero h e = absurd (omega arith)
  greatest-found (suc k) h e = rw (e, greatest_of)

  pub greatest-passed : (k : ℕ) → 0 < k → p k ≡ false → greatest_of p k ≡ greatest_of p (k - 1)
  unfolding greatest_of
  greatest-passed zero h e = absurd (omega arith)
  greatest-passed (suc k) h e = let d : suc k - 1 ≡ k = omega arith in rw (d, e, greatest_of)

-- ---- the k of an entry u
module _ (u : ℤ) where
  pub exponent_small : exponent u ≤ greatest_exponent
  unfolding exponent
  exponent_small = greatest-small (stays_within u) greatest_exponent

  pub exponent-stays : 1 ≤ exponent u → stays_within u (exponent u) ≡ true
  unfolding exponent
  exponent-stays h = greatest-holds (stays_within u) greatest_exponent (λ e. absurd (omega arith))

  -- 4^0 u is u
  pub exponent-stays-within : u ≤ℤ pos entry_range → stays_within u (exponent u) ≡ true
  unfolding exponent stays_within
  exponent-stays-within h =
      let one : (pos 1 *ℤ u) ≤ℤ pos entry_range = order (u ∷ []) h (search solver depth 40 fits 20000) (omega arith) in
      greatest-holds (stays_within u) greatest_exponent (λ e. le_z_true one)

  pub exponent-greatest : (m : ℕ) → exponent u < m → m ≤ greatest_exponent → stays_within u m ≡ false
  unfolding exponent
  exponent-greatest m h l = greatest-above (stays_within u) greatest_exponent m h l
