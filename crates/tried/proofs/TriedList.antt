-- The list of tried vectors by its parts: the first that passes is looked for with 0 in front, then with 1, then with -1.
use mathlib.Core.Path.{◌≡◌, refl, sym, ap, ap₂, ◌∙◌}
use mathlib.Core.Bool.{Bool, true, false}
use mathlib.Core.List.{List, [], ◌∷◌, ◌++◌, map}
use mathlib.Core.Option.{Option, none, some}
use Prim.Native.Nat.{ℕ, zero, suc}
use native.Mathlib.Omega.{arith}
use lib.IntN.{ℤ, pos, negsuc, neg_ℤ}
use Rattle.tried.specs.Tried.{tried, first}
use Rattle.tried.specs.Search.{front, or_else}

-- ---- the first that passes
pub first_ext : (p q : List ℤ → Bool) → ((x : List ℤ) → p x ≡ q x) → (l : List (List ℤ)) → first p l ≡ first q l
unfolding first
first_ext p q h [] = refl
first_ext p q h (x ∷ l) = ap₂ (λ (b : Bool) (o : Option (List ℤ)). elim b as (λ z. Option (List ℤ)) [ true ↦ some x | false ↦ o ]) (h x) (first_ext p q h l)

pub first-append : (p : List ℤ → Bool) (l m : List (List ℤ)) → first p (l ++ m) ≡ or_else (first p l) (first p m)
unfolding first or_else
first-append p [] m = refl
first-append p (x ∷ l) m = go (p x) (first-append p l m)
  where
    go : (b : Bool) → first p (l ++ m) ≡ or_else (first p l) (first p m) →
        elim b as (λ z. Option (List ℤ)) [ true ↦ some x | false ↦ first p (l ++ m) ]
        ≡ or_else (elim b as (λ z. Option (List ℤ)) [ true ↦ some x | false ↦ first p l ]) (first p m)
    go true ih = refl
    go false ih = ih

first-map : (p : List ℤ → Bool) (a : ℤ) (l : List (List ℤ)) → first p (map (λ x. a ∷ x) l) ≡ front a (first (λ x. p (a ∷ x)) l)
unfolding first front
first-map p a [] = refl
first-map p a (x ∷ l) = go (p (a ∷ x)) (first-map p a l)
  where
    go : (b : Bool) → first p (map (λ x. a ∷ x) l) ≡ front a (first (λ x. p (a ∷ x)) l) →
        elim b as (λ z. Option (List ℤ)) [ true ↦ some (a ∷ x) | false ↦ first p (map (λ x. a ∷ x) l) ]
        ≡ front a (elim b as (λ z. Option (List ℤ)) [ true ↦ some x | false ↦ first (λ x. p (a ∷ x)) l ])
    go true ih = refl
    go false ih = ih

pub tried_zero : (p : List ℤ → Bool) → first p (tried 0) ≡ elim (p []) as (λ z. Option (List ℤ)) [ true ↦ some [] | false ↦ none ]
unfolding first tried
tried_zero p = refl

-- what is found with a in front
abbrev pub part : ℕ → (List ℤ → Bool) → ℤ → Option (List ℤ)
part n p a = front a (first (λ x. p (a ∷ x)) (tried n))

pub tried_suc : (n : ℕ) (p : List ℤ → Bool) → first p (tried (suc n)) ≡ or_else (part n p (pos 0)) (or_else (part n p (pos 1)) (part n p (negsuc 0)))
unfolding tried
tried_suc n p =
    let t : List (List ℤ) = tried n in
    first-append p (map (λ x. pos 0 ∷ x) t) (map (λ x. pos 1 ∷ x) t ++ map (λ x. negsuc 0 ∷ x) t)
    ∙ ap₂ or_else (first-map p (pos 0) t)
    (first-append p (map (λ x. pos 1 ∷ x) t) (map (λ x. negsuc 0 ∷ x) t) ∙ ap₂ or_else (first-map p (pos 1) t) (first-map p (negsuc 0) t))

-- ---- nothing is found
front-none : (a : ℤ) (o : Option (List ℤ)) → front a o ≡ none → o ≡ none
unfolding front
front-none a none e = refl
front-none a (some x) e = let z : ◌≡◌ {A = ℕ} 0 1 = cc in absurd (omega arith)

left-none : (a b : Option (List ℤ)) → or_else a b ≡ none → a ≡ none
unfolding or_else
left-none none b e = refl
left-none (some x) b e = e

right_none : (a b : Option (List ℤ)) → or_else a b ≡ none → b ≡ none
unfolding or_else
right_none none b e = e
right_none (some x) b e = let z : ◌≡◌ {A = ℕ} 0 1 = cc in absurd (omega arith)

module _ (n : ℕ) (p : List ℤ → Bool) (e : first p (tried (suc n)) ≡ none) where
  none_of : or_else (part n p (pos 0)) (or_else (part n p (pos 1)) (part n p (negsuc 0))) ≡ none
  none_of = sym (tried_suc n p) ∙ e

  zeros-none : first (λ x. p (pos 0 ∷ x)) (tried n) ≡ none
  zeros-none = front-none _ _ (left-none _ _ none_of)

  ones_none : first (λ x. p (pos 1 ∷ x)) (tried n) ≡ none
  ones_none = front-none _ _ (left-none _ _ (right_none _ _ none_of))

  negatives_none : first (λ x. p (negsuc 0 ∷ x)) (tried n) ≡ none
  negatives_none = front-none _ _ (right_none _ _ (right_none _ _ none_of))

-- where no x passes p, none passes q with q x = p (-x)
pub first_negated : (n : ℕ) (p q : List ℤ → Bool) → ((x : List ℤ) → q x ≡ p (map neg_ℤ x)) → first p (tried n) ≡ none → first q (tried n) ≡ none
unfolding or_else front
first_negated zero p q h e = tried_zero q ∙ ap (λ (b : Bool). elim b as (λ z. Option (List ℤ)) [ true ↦ some [] | false ↦ none ]) (h []) ∙ sym (tried_zero p) ∙ e
first_negated (suc n) p q h e =
    tried_suc n q
    ∙ ap₂ or_else (ap (front (pos 0)) (first_negated n _ _ (λ x. h (pos 0 ∷ x)) (zeros-none n p e)))
    (ap₂ or_else (ap (front (pos 1)) (first_negated n _ _ (λ x. h (pos 1 ∷ x)) (negatives_none n p e)))
    (ap (front (negsuc 0)) (first_negated n _ _ (λ x. h (negsuc 0 ∷ x)) (ones_none n p e))))
