-- Tests of every element of a list, by its place.
use mathlib.Core.Path.{◌≡◌, refl}
use mathlib.Core.Bool.{Bool, true, ◌&&◌}
use Rattle.std.proofs.Math.Bool.{and_assoc, and_comm}
use mathlib.Core.List.{List, [], ◌∷◌}
use Prim.Native.Nat.{ℕ, zero, suc}
use native.Mathlib.Omega.{arith}
use lib.Dec.{eqb}
use lib.ListN.{length, get_or}
use lib.Pointwise.{pointwise}
use Rattle.std.specs.List.{list_all}
use Rattle.tables.specs.Checks.{all}

-- the first test, and the others
all_first : (n : ℕ) (p : ℕ → Bool) → all (suc n) p ≡ (p 0 && all n (λ k. p (suc k)))
unfolding all
all_first zero p = and_comm true (p 0)
all_first (suc n) p = rw (all_first n p, and_assoc)

pub all-list_all : {A : Type 0} (d : A) (test : A → Bool) (xs : List A) → list_all test xs ≡ all (length xs) (λ k. test (get_or xs k d))
unfolding all
all-list_all d test [] = refl
all-list_all d test (x ∷ xs) = rw (all_first (length xs) (λ k. test (get_or (x ∷ xs) k d)), all-list_all d test xs)

pub all-pointwise : (xs ys : List ℕ) → length xs ≡ length ys →
    pointwise eqb xs ys ≡ all (length xs) (λ k. eqb (get_or xs k 0) (get_or ys k 0))
unfolding all
all-pointwise [] [] e = refl
all-pointwise [] (y ∷ ys) e = absurd (omega arith)
all-pointwise (x ∷ xs) [] e = absurd (omega arith)
all-pointwise (x ∷ xs) (y ∷ ys) e =
    rw (all_first (length xs) (λ k. eqb (get_or (x ∷ xs) k 0) (get_or (y ∷ ys) k 0)), all-pointwise xs ys (omega arith))
