-- One step of the search: an entry that was chosen is put in front of what was found after it.
use mathlib.Core.Path.{◌≡◌, refl, sym, ap, ap₂, ◌∙◌}
use mathlib.Core.Bool.{Bool, true, false}
use mathlib.Core.List.{List, [], ◌∷◌, ◌++◌}
use mathlib.Core.Option.{Option, none, some}
use Prim.Native.Nat.{ℕ, zero, suc, ◌+◌, ◌<◌}
use native.Mathlib.Omega.{arith}
use lib.IntN.{ℤ, pos}
use lib.Signed.{le_z}
use lib.ListN.{length, set, length-set}
use lib.Seq.{get_or-set_same, get_or-set_other}
use Rattle.tables.specs.Ranges.{greatest_order}
use Rattle.tables.specs.Matrix.{nth, tabulate}
use Rattle.tables.proofs.Matrix.{tabulate_ext}
use Rattle.tried.specs.Search.{front, or_else, reached, found, Searched}
use Rattle.std.specs.Bool.{then_some}
use Rattle.tried.specs.Tried.{listed}

-- ---- what was found
tabulate-front : {A : Type 0} (k : ℕ) (f : ℕ → A) → f 0 ∷ tabulate k (λ i. f (suc i)) ≡ tabulate (suc k) f
unfolding tabulate
tabulate-front zero f = refl
tabulate-front {A} (suc k) f = ap (λ (l : List A). l ++ (f (suc k) ∷ [])) (tabulate-front k f)

module _ (x : List ℤ) (d k : ℕ) (a : ℤ) (h : d < length x) where
  put_front : a ∷ tabulate k (λ i. nth x (suc d + i)) ≡ tabulate (suc k) (λ i. nth (set x d a) (d + i))
  put_front =
      ap₂ (λ (y : ℤ) (l : List ℤ). y ∷ l) (sym (rw e0 (get_or-set_same x d a (pos 0) h)))
      (tabulate_ext k _ _ (λ i m. let e : suc d + i ≡ d + suc i = omega arith in sym (get_or-set_other x d (d + suc i) a (pos 0) (omega arith) ∙ ap (nth x) (sym e))))
      ∙ tabulate-front k (λ i. nth (set x d a) (d + i))
    where
      e0 : d + 0 ≡ d
      e0 = omega arith

  front-found : (r : Bool) → front a (found r (suc d) k x) ≡ found r d (suc k) (set x d a)
  unfolding front found
  front-found true = ap some put_front
  front-found false = refl

-- the entry is put in front, whatever was found after it
pub chosen : {x : List ℤ} {d k : ℕ} (a : ℤ) → d < greatest_order → {s : Option (List ℤ)} {r : Bool} → Searched s r (suc d) k x → Searched (front a s) r d (suc k) (set x d a)
chosen {x} {d} {k} a h {r = r} f =
    record { answer = ap (front a) f.answer ∙ front-found x d k a (omega (arith, f.size)) r; size = length-set x d a ∙ f.size }

-- one choice, or else another
module _ {s : Option (List ℤ)} (t : Option (List ℤ)) {d k : ℕ} where
  pub found_first : {x : List ℤ} → Searched s true d k x → Searched (or_else s t) true d k x
  unfolding or_else found
  found_first f = record { answer = ap (λ (z : Option (List ℤ)). or_else z t) f.answer; size = f.size }

  pub found-next : {x₀ x : List ℤ} {r : Bool} → Searched s false d k x₀ → Searched t r d k x → Searched (or_else s t) r d k x
  unfolding or_else found
  found-next f g = record { answer = ap (λ (z : Option (List ℤ)). or_else z t) f.answer ∙ g.answer; size = g.size }

-- nothing is left to choose
pub reached_is : (x : List ℤ) (d : ℕ) (s : ℤ) {r : Bool} → length x ≡ greatest_order → le_z s (pos 0) ≡ r → Searched (reached s) r d 0 x
unfolding reached found tabulate
reached_is x d s h e = record { answer = ap (λ (b : Bool). elim b as (λ z. Option (List ℤ)) [ true ↦ some [] | false ↦ none ]) e; size = h }

-- nothing is found
pub nothing_found : {o : Option (List ℤ)} {x : List ℤ} {d k : ℕ} → length x ≡ greatest_order → o ≡ none → Searched o false d k x
unfolding found
nothing_found h e = record { answer = e; size = h }

-- the search's answer, as an option of its vector
pub found_listed : (r : Bool) (n : ℕ) (x : List ℤ) → listed n (then_some r x) ≡ found r 0 n x
unfolding listed found
found_listed true n x = ap some (tabulate_ext n _ _ (λ i h. ap (nth x) (omega arith)))
found_listed false n x = refl
