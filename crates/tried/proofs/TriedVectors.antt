-- What holds of each tried vector, and of the first that passes a test.
use mathlib.Core.Path.{◌≡◌, refl, sym, ap, ◌∙◌}
use mathlib.Core.Logic.{◌⊎◌, inl, inr}
use mathlib.Core.Bool.{Bool, true, false, false≢true}
use mathlib.Core.List.Memᴰ
use mathlib.Core.List.{List, [], ◌∷◌, ◌++◌, map, Memᴰ}
use mathlib.Core.Option.{Option, none, some, some-injective, none-ne-some}
use Prim.Native.Nat.{ℕ, zero, suc, ◌≤◌}
use native.Mathlib.Omega.{arith}
use lib.IntN.{ℤ, pos, negsuc}
use Rattle.integers.specs.Numbers.{Within}
use Rattle.tables.specs.Matrix.{nth}
use Rattle.tables.proofs.Buffers.{Small}
use Rattle.tried.specs.Tried.{tried, first}

-- ---- all vectors of a list
abbrev pub Every : (List ℤ → Type 0) → List (List ℤ) → Type 0
Every P [] = Unit {0}
Every P (x ∷ l) = P x × Every P l

module _ (P : List ℤ → Type 0) where
  pub every_append : (l m : List (List ℤ)) → Every P l → Every P m → Every P (l ++ m)
  every_append [] m h k = k
  every_append (x ∷ l) m h k = (h.0, every_append l m h.1 k)

  pub every_at : (l : List (List ℤ)) → Every P l → (x : List ℤ) → Memᴰ x l → P x
  every_at [] h x m = absurd (Memᴰ.not-nil m)
  every_at (y ∷ l) h x m = go (Memᴰ.cases_cons m) (every_at l h.1 x)
    where
      go : (x ≡ y) ⊎ Memᴰ x l → (Memᴰ x l → P x) → P x
      go (inl e) later = rw e h.0
      go (inr k) later = later k

-- ---- tried vectors have n entries, each 0, 1 or -1
module _ (b : ℕ) (one : 1 ≤ b) where
  front-sized : (n : ℕ) (a : ℤ) → Within b a → (l : List (List ℤ)) → Every (Small n b) l → Every (Small (suc n) b) (map (λ x. a ∷ x) l)
  front-sized n a w [] h = tt
  front-sized n a w (x ∷ l) h = (more, front-sized n a w l h.1)
    where
      number : (i : ℕ) → Within b (nth (a ∷ x) i)
      number zero = w
      number (suc i) = h.0.small i

      more : Small (suc n) b (a ∷ x)
      more = record { size = ap suc h.0.size; small = number }

  pub tried-sized : (n : ℕ) → Every (Small n b) (tried n)
  unfolding tried
  tried-sized zero = (record { size = refl; small = λ i. record { size = omega arith } }, tt)
  tried-sized (suc n) =
      let P = Small (suc n) b in
      let with : ℤ → List (List ℤ) = λ a. map (λ x. a ∷ x) (tried n) in
      let put : (a : ℤ) → Within b a → Every P (with a) = λ a w. front-sized n a w (tried n) (tried-sized n) in
      every_append P (with (pos 0)) _ (put (pos 0) (record { size = omega arith }))
      (every_append P (with (pos 1)) (with (negsuc 0)) (put (pos 1) (record { size = omega (arith, one) })) (put (negsuc 0) (record { size = omega (arith, one) })))

-- ---- the first that passes: it stands in the list and passes, or none does
module _ (p : List ℤ → Bool) where
  abbrev pub Picks : List (List ℤ) → Option (List ℤ) → Type 0
  Picks l (some x) = Memᴰ x l × (p x ≡ true)
  Picks l none = (x : List ℤ) → Memᴰ x l → p x ≡ true → ⊥

  pub first_picks : (l : List (List ℤ)) → Picks l (first p l)
  unfolding first
  first_picks [] = λ x m e. Memᴰ.not-nil m
  first_picks (y ∷ l) = go (p y) refl (first p l) (first_picks l)
    where
      go : (b : Bool) → p y ≡ b → (o : Option (List ℤ)) → Picks l o → Picks (y ∷ l) (elim b as (λ z. Option (List ℤ)) [ true ↦ some y | false ↦ o ])
      go true e o h = (Memᴰ.head refl, e)
      go false e none h = λ x m t. not-here x t (Memᴰ.cases_cons m)
        where
          not-here : (x : List ℤ) → p x ≡ true → (x ≡ y) ⊎ Memᴰ x l → ⊥
          not-here x t (inl q) = false≢true (sym e ∙ ap p (sym q) ∙ t)
          not-here x t (inr m) = h x m t
      go false e (some x) h = (Memᴰ.tail h.0, h.1)

-- the first that passes p is the first that passes q, where it passes q, and what passes q passes p
pub first_narrower : (p q : List ℤ → Bool) → ((x : List ℤ) → q x ≡ true → p x ≡ true) → (l : List (List ℤ)) (y : List ℤ) →
    first p l ≡ some y → q y ≡ true → first q l ≡ some y
unfolding first
first_narrower p q h [] y e t = absurd (none-ne-some y e)
first_narrower p q h (x ∷ l) y e t = go (p x) refl (q x) refl (λ f. first_narrower p q h l y f t) e
  where
    go : (b : Bool) → p x ≡ b → (c : Bool) → q x ≡ c → (first p l ≡ some y → first q l ≡ some y) → (elim b as (λ z. Option (List ℤ)) [ true ↦ some x | false ↦ first p l ]) ≡ some y →
        (elim c as (λ z. Option (List ℤ)) [ true ↦ some x | false ↦ first q l ]) ≡ some y
    go true u true v later e = e
    go true u false v later e = absurd (false≢true (sym v ∙ ap q (some-injective x y e) ∙ t))
    go false u true v later e = absurd (false≢true (sym u ∙ h x v))
    go false u false v later e = later e
