-- Factoring reads only the entries of H on and above the diagonal: equal entries there give equal factorings.
use mathlib.Core.Path.{◌≡◌, refl, ap, ap₂, ◌∙◌}
use mathlib.Core.Bool.{true, false}
use mathlib.Core.List.{List, [], ◌∷◌, ◌++◌}
use Prim.Native.Nat.{ℕ, zero, suc, ◌+◌, ◌≤◌, ◌<◌}
use native.Mathlib.Omega.{arith}
use lib.IntN.{ℤ, pos, ◌-ℤ◌, ◌*ℤ◌}
use lib.Signed.{le_z}
use lib.ListN.{length}
use Rattle.integers.specs.Sum.{sum}
use Rattle.integers.specs.Division.{floor_div}
use Rattle.tables.specs.Matrix.{Matrix, nth}
use Rattle.cholesky.specs.Factoring.{Column, Factoring, entries, next_entry, goes_on, rows, next_column, columns_from, factoring}
use Rattle.cholesky.proofs.Lists.{length_snoc}

-- ---- a column reads its own column of H, down to the diagonal
module _ (H K : Matrix) (cs : List (List ℤ)) (same : (i : ℕ) → i ≤ length cs → H i (length cs) ≡ K i (length cs)) where
  abbrev j : ℕ
  j = length cs

  entry_ext : (c : List ℤ) → length c ≤ j → next_entry H cs j c ≡ next_entry K cs j c
  unfolding next_entry
  entry_ext c h =
      let i = length c in
      ap (λ (z : ℤ). floor_div (z -ℤ sum i (λ k. entries cs k i *ℤ nth c k)) (entries cs i i)) (same i h)

  rows_ext : (k : ℕ) (rest : ℤ) (c : List ℤ) → length c + k ≡ j → rows H cs j k rest c ≡ rows K cs j k rest c
  unfolding rows
  rows_ext zero rest c h = refl
  rows_ext (suc k) rest c h =
      let e = entry_ext c (omega arith) in
      ap₂ (λ (r : ℤ) (o : Column).
      elim (goes_on r (rest -ℤ r *ℤ r)) as (λ z. Column) [ true ↦ o | false ↦ record { done = false; column = c ++ (r ∷ []) } ]) e
      (rows_ext k _ _ (omega (arith, length_snoc c (next_entry H cs j c)))
      ∙ ap (λ (r : ℤ). rows K cs j k (rest -ℤ r *ℤ r) (c ++ (r ∷ []))) e)

  pub column_ext : next_column H cs ≡ next_column K cs
  unfolding next_column
  column_ext =
      let e = same j (omega arith) in
      ap₂ (λ (d : ℤ) (o : Column).
      elim (le_z (pos 1) d) as (λ z. Column) [ true ↦ o | false ↦ record { done = false; column = [] } ]) e
      (rows_ext j (H j j) [] (omega arith) ∙ ap (λ (d : ℤ). rows K cs j j d []) e)

-- ---- all columns
module _ (n : ℕ) (H K : Matrix) (same : (i j : ℕ) → i ≤ j → j < n → H i j ≡ K i j) where
  columns_ext : (k : ℕ) (cs : List (List ℤ)) → length cs + k ≡ n → columns_from H k cs ≡ columns_from K k cs
  unfolding columns_from
  columns_ext zero cs h = refl
  columns_ext (suc k) cs h =
      let e = column_ext H K cs (λ i l. same i (length cs) l (omega arith)) in
      ap₂ (λ (c : Column) (o : Factoring).
      elim c.done as (λ z. Factoring) [ true ↦ o | false ↦ record { ends = false; columns = cs; stopped = c.column } ]) e
      (columns_ext k _ (omega (arith, length_snoc cs (next_column H cs).column))
      ∙ ap (λ (c : Column). columns_from K k (cs ++ (c.column ∷ []))) e)

  pub factoring_ext : factoring n H ≡ factoring n K
  unfolding factoring
  factoring_ext = columns_ext n [] (omega arith)
