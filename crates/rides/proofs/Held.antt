-- Sums that buffers hold: loaded to the front of arrays.
use mathlib.Core.Path.{◌≡◌, ap, ◌∙◌}
use mathlib.Core.List.{List, [], ◌∷◌, ◌++◌, append-nil}
use Prim.Native.Nat.{ℕ, ◌*◌, ◌≤◌, ◌<◌}
use native.Mathlib.Omega.{arith}
use lib.IntN.{ℤ, pos}
use lib.ListN.{length, take, drop, get_or-append, length-append, drop_of_length-le}
use lib.Seq.{take_all}
use Rattle.tables.specs.Matrix.{nth, tabulate}
use Rattle.tables.specs.Problem.{constraint_of}
use Rattle.sums.specs.Required.{front, Sums}
use Rattle.sums.proofs.Fronts.{front_is, constraint_by}

-- k numbers that were loaded to the front of an array
module _ (k : ℕ) (y t : List ℤ) (e : length y ≡ k) {x : List ℤ} (q : x ≡ take k y ++ t) where
  loaded_whole : x ≡ y ++ t
  loaded_whole = q ∙ ap (λ (z : List ℤ). z ++ t) (take_all k y (omega (arith, e)))

  pub loaded-front : front k x ≡ y
  loaded-front = ap (front k) loaded_whole ∙ front_is k (y ++ t) y e (λ i h. get_or-append y t (pos 0) i (omega (arith, e, h)))

  pub loaded_room : k ≤ length x
  loaded_room = rw (loaded_whole, length-append, e) (omega arith)

  pub loaded-first : 0 < k → nth x 0 ≡ nth y 0
  loaded-first h = ap (λ (z : List ℤ). nth z 0) loaded_whole ∙ get_or-append y t (pos 0) 0 (omega (arith, e, h))

-- sums that were loaded to the front of lists
pub loaded-sums : (n : ℕ) (l u a b x y z w : List ℤ) {l' u' a' b' : List ℤ} {α β : ℤ} →
    length l ≡ n * n → length u ≡ n * n → length a ≡ n → length b ≡ n →
    l' ≡ take (n * n) l ++ x → u' ≡ take (n * n) u ++ y → a' ≡ take n a ++ z → b' ≡ take n b ++ w → β ≡ α →
    Sums (constraint_of n l u a b α) n l' u' a' b' β
loaded-sums n l u a b x y z w e f g h i j k m q =
    record {
      sums = constraint_by (loaded-front _ l x e i) (loaded-front _ u y f j) (loaded-front _ a z g k) (loaded-front _ b w h m) q;
      rooms = record {
        low = loaded_room _ l x e i;
        high = loaded_room _ u y f j;
        linear_low = loaded_room _ a z g k;
        linear_high = loaded_room _ b w h m;
      };
    }

-- one number, in a buffer that is as long
pub stored-one : {A : Type 0} (elements : List ℤ → ℕ → List A) {m : ℕ} {α β : ℤ} (o : List A) → length o ≡ m → β ≡ α →
    elements (β ∷ []) 1 ++ drop m o ≡ elements (tabulate 1 (λ i. α)) 1
unfolding tabulate
stored-one elements {m} o e q =
    let end : length o ≤ m = omega (arith, e) in
    rw (drop_of_length-le o end, append-nil) (ap (λ (v : ℤ). elements (v ∷ []) 1) q)
