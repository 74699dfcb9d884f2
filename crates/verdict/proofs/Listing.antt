-- The first listed vector that shows 'not definite', from what the code finds in the tried and in the solved ones.
use mathlib.Core.Path.{◌≡◌, refl, sym, ap, ap₂, ◌∙◌}
use mathlib.Core.Bool.{Bool, true, false, not, ◌&&◌}
use mathlib.Core.List.{List, ◌++◌}
use mathlib.Core.Option.{Option, none, some}
use Prim.Native.Nat.{ℕ, zero, suc, ◌≤◌, ◌<◌}
use native.Mathlib.Omega.{arith}
use lib.IntN.{ℤ, pos}
use lib.Signed.{le_z}
use lib.ListN.{length}
use Rattle.std.specs.Prelude.{Option as CodeOption, Some, None}
use Rattle.std.specs.Bool.{then_some}
use Rattle.integers.specs.Numbers.{Within}
use Rattle.tables.specs.Matrix.{Matrix, nth, tabulate}
use Rattle.tables.specs.Checks.{all, same}
use Rattle.tables.proofs.Matrix.{nth-tabulate}
use Rattle.tables.specs.Ranges.{greatest_order}
use Rattle.vectors.specs.Least.{nonzero, shows}
use Rattle.vectors.specs.LeastShares.{VectorEntries}
use Rattle.vectors.proofs.Showing.{least_ext}
use Rattle.tried.specs.Tried.{first, listed}
use Rattle.tried.specs.Search.{or_else}
use Rattle.tried.proofs.TriedList.{first-append}
use Rattle.solved.specs.Solved.{solved}
use Rattle.solved.specs.Stopped.{stopped_at, Stopped, start_range, solved_of}
use Rattle.solved.proofs.SolvedVector.{stopped-vector}

-- ---- whether a vector shows it rests on its first n entries
module _ (n : ℕ) (L U : Matrix) (x y : ℕ → ℤ) (h : (i : ℕ) → i < n → x i ≡ y i) where
  zero_ext : (m : ℕ) → m ≤ n → all m (λ i. same (x i) (pos 0)) ≡ all m (λ i. same (y i) (pos 0))
  unfolding all
  zero_ext zero k = refl
  zero_ext (suc m) k = ap₂ (λ (a b : Bool). a && b) (zero_ext m (omega arith)) (ap (λ (z : ℤ). same z (pos 0)) (h m (omega arith)))

  pub shows_ext : shows n L U x ≡ shows n L U y
  unfolding shows nonzero
  shows_ext = ap₂ (λ (a : Bool) (v : ℤ). not a && le_z v (pos 0)) (zero_ext n (omega arith)) (least_ext n L U x y h)

-- ---- a list and another one after it
module _ (p : List ℤ → Bool) (l m : List (List ℤ)) (n : ℕ) where
  pub first_hit : (x : List ℤ) → listed n (Some x) ≡ first p l → listed n (Some x) ≡ first p (l ++ m)
  unfolding or_else listed
  first_hit x e = sym (first-append p l m ∙ ap (λ (o : Option (List ℤ)). or_else o (first p m)) (sym e))

  pub first_miss : (r : CodeOption (List ℤ)) → listed n None ≡ first p l → listed n r ≡ first p m → listed n r ≡ first p (l ++ m)
  unfolding or_else listed
  first_miss r e f = f ∙ sym (first-append p l m ∙ ap (λ (o : Option (List ℤ)). or_else o (first p m)) (sym e))

-- ---- a solved vector, or none
module _ (p : List ℤ → Bool) (o : List (List ℤ)) (n : ℕ) where
  pub solved-none : solved_of n None ≡ o → listed n None ≡ first p o
  unfolding first listed solved_of
  solved-none e = ap (first p) e

  pub solved-one : (x : List ℤ) → solved_of n (Some x) ≡ o → (b : Bool) → p (tabulate n (nth x)) ≡ b →
      listed n (then_some b x) ≡ first p o
  unfolding first listed solved_of
  solved-one x e b q = go b ∙ ap kept (sym q) ∙ ap (first p) e
    where
      kept : Bool → Option (List ℤ)
      kept b = elim b as (λ z. Option (List ℤ)) [ true ↦ some (tabulate n (nth x)) | false ↦ none ]

      go : (b : Bool) → listed n (then_some b x) ≡ kept b
      go true = refl
      go false = refl

-- ---- what passed the checks
module _ {n : ℕ} {t : List ℤ} {j m : ℕ} (a : Stopped n t j m) (s : ℤ) (w : Within start_range s) where
  pub solved-entries : (x : List ℤ) → length x ≡ greatest_order → solved_of n (Some x) ≡ solved n (stopped_at t j m) s → VectorEntries n x
  unfolding solved_of
  solved-entries x z q =
      let v = stopped-vector a s (sym q) w in
      record {
        vector-length = let o = a.order in omega (arith, z);
        entries = λ i h. rw (nth-tabulate n (nth x) i h) at (v.small i h);
      }
