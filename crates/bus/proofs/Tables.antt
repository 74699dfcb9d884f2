-- A rule of a table: one test that is computed over all entries, and the rule at each of them.
use mathlib.Core.Path.{◌≡◌, ◌∙◌}
use mathlib.Core.Bool.{Bool, true, ◌&&◌}
use mathlib.Core.List.{List, [], ◌∷◌}
use Prim.Native.Nat.{ℕ, zero, suc, ◌+◌, ◌<◌}
use native.Mathlib.Nat.{zero-add}
use native.Mathlib.Omega.{arith}
use borrow.Author.Tests.{eqb-true}
use lib.Dec.{eqb}
use lib.ListN.{length, get_or}
use Rattle.tables.proofs.Checks.{and_left, and_right}

module _ (f : ℕ → ℕ) where
  -- the entries of a table are f i, f (i + 1), ..
  abbrev pub ruled : ℕ → List ℕ → Bool
  ruled i [] = true
  ruled i (x ∷ xs) = eqb x (f i) && ruled (suc i) xs

  entry-from : (i : ℕ) (xs : List ℕ) → ruled i xs ≡ true → (k : ℕ) → k < length xs → get_or xs k 0 ≡ f (i + k)
  entry-from i [] t k h = absurd (omega (arith, h))
  entry-from i (x ∷ xs) t zero h = let e : i + 0 ≡ i = omega arith in rw e (eqb-true x (f i) (and_left (eqb x (f i)) (ruled (suc i) xs) t))
  entry-from i (x ∷ xs) t (suc k) h =
      let e : i + suc k ≡ suc i + k = omega arith in
      rw e (entry-from (suc i) xs (and_right (eqb x (f i)) (ruled (suc i) xs) t) k (omega arith))

  pub entry : (xs : List ℕ) → ruled 0 xs ≡ true → (k : ℕ) → k < length xs → get_or xs k 0 ≡ f k
  entry xs t k h = entry-from 0 xs t k h ∙ rw (zero-add k)
