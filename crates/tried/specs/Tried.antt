-- R9 of docs/RULES.md: the tried vectors, in their order, and the first vector of a list that passes a test.
use Rattle.std.specs.Prelude.{Bool, true, false, List, [], ◌∷◌, ◌++◌, map, ℕ, zero, suc, ℤ, pos, negsuc, Option as CodeOption, Some, None}
use Rattle.std.proofs.Math.Option.{Option, none, some}
use Rattle.tables.specs.Matrix.{nth, tabulate}

-- R9.2: three copies of the list for one entry less, with 0, with 1 and with -1 prefixed to each vector; for no entries, one vector.
-- R9.3: the zero vector is in the list and is passed over, since it shows nothing, and is under no number.
unfoldable pub tried : ℕ → List (List ℤ)
tried zero = [] ∷ []
tried (suc n) =
    let t : List (List ℤ) = tried n in
    map (λ x. pos 0 ∷ x) t ++ (map (λ x. pos 1 ∷ x) t ++ map (λ x. negsuc 0 ∷ x) t)

-- the first that passes
unfoldable pub first : (List ℤ → Bool) → List (List ℤ) → Option (List ℤ)
first p [] = none
first p (x ∷ l) = elim (p x) [ true ↦ some x | false ↦ first p l ]

-- what the code answers of a list: the first n entries of the vector that it found
unfoldable pub listed : ℕ → CodeOption (List ℤ) → Option (List ℤ)
listed n None = none
listed n (Some x) = some (tabulate n (nth x))
