-- A test of each number at the front of a list, by the list and by places; and numbers that are loaded to the front of another list.
use mathlib.Core.Path.{◌≡◌, refl, ap, ◌∙◌}
use mathlib.Core.Bool.{Bool, ◌&&◌}
use mathlib.Core.List.{List, ◌++◌}
use Prim.Native.Nat.{ℕ, zero, suc, ◌≤◌, ◌<◌}
use native.Mathlib.Numerals.{add-one}
use native.Mathlib.Omega.{arith}
use lib.IntN.{ℤ, pos}
use lib.ListN.{length, take, get_or-append}
use lib.Seq.{get_or-take, length-take-le}
use Rattle.std.specs.List.{list_all}
use Rattle.std.proofs.lemmas.List.Folds.{list_all_more}
use Rattle.tables.specs.Matrix.{nth}
use Rattle.tables.specs.Checks.{all}
use Rattle.tables.proofs.Matrix.{tabulate_ext}
use Rattle.sums.specs.Required.{front}
use Rattle.sums.proofs.Fronts.{front-whole}

pub list_all-front : (p : ℤ → Bool) (x : List ℤ) (n : ℕ) → n ≤ length x → list_all p (take n x) ≡ all n (λ k. p (nth x k))
unfolding all
list_all-front p x zero h = refl
list_all-front p x (suc n) h =
    rw (← add-one) (list_all_more p x n (pos 0) (omega arith) ∙ ap (λ (b : Bool). b && p (nth x n)) (list_all-front p x n (omega arith)))

pub loaded-nth : {m : ℕ} (x : List ℤ) {y : List ℤ} (w : List ℤ) → m ≤ length x → y ≡ take m x ++ w → (k : ℕ) → k < m → nth y k ≡ nth x k
loaded-nth {m} x {y} w e q k h =
    let long = length-take-le m x e in
    ap (λ (z : List ℤ). nth z k) q ∙ get_or-append (take m x) w (pos 0) k (omega (arith, h, long)) ∙ get_or-take m x k (pos 0) h

-- a list that has no other numbers
pub loaded-front : {m : ℕ} (x : List ℤ) {y : List ℤ} (w : List ℤ) → length x ≡ m → y ≡ take m x ++ w → front m y ≡ x
loaded-front {m} x w e q = tabulate_ext m _ _ (loaded-nth x w (omega (arith, e)) q) ∙ front-whole m x e
