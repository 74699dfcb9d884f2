-- The loops of factoring: one law for each, over any claim, and one step of each. Nothing else meets their tests.
use mathlib.Core.Path.{◌≡◌, ap, subst}
use mathlib.Core.Bool.{Bool, true, false, not, ◌&&◌}
use mathlib.Core.List.{List, [], ◌∷◌, ◌++◌}
use Prim.Native.Nat.{ℕ, zero, suc, ◌+◌, ◌≤◌, ◌<◌}
use native.Mathlib.Omega.{arith}
use lib.Dec.{T, leb, leb→le, le→leb, T_not}
use lib.IntN.{ℤ, pos, nat_abs, ◌-ℤ◌, ◌*ℤ◌}
use lib.Signed.{◌≤ℤ◌, le_z}
use lib.ListN.{length}
use Rattle.integers.specs.Root.{whole_root}
use Rattle.integers.proofs.Parts.{choice_by}
use Rattle.tables.specs.Ranges.{factor_range}
use Rattle.tables.specs.Matrix.{Matrix}
use Rattle.tables.specs.Checks.{within}
use Rattle.cholesky.specs.Factoring.{Column, Factoring, next_entry, goes_on, rows, next_column, columns_from}
use Rattle.cholesky.proofs.Lists.{length_snoc}

-- what the test of a row says
pub record Passes (r rest : ℤ) : Type 0 where
  pub small : nat_abs r ≤ factor_range
  pub some : pos 1 ≤ℤ rest

pub passes : (r rest : ℤ) → T (goes_on r rest) → Passes r rest
unfolding goes_on within
passes r rest t = go (leb (nat_abs r) factor_range) (le_z (pos 1) rest) (leb→le _ _) (λ s. record { le = s }) t
  where
    go : (a b : Bool) → (T a → nat_abs r ≤ factor_range) → (T b → pos 1 ≤ℤ rest) → T (a && b) → Passes r rest
    go true true f g t = record { small = f tt; some = g tt }
    go true false f g t = absurd t
    go false b f g t = absurd t

pub goes_on_lem : (r rest : ℤ) → Passes r rest → T (goes_on r rest)
unfolding goes_on within
goes_on_lem r rest p = go (leb (nat_abs r) factor_range) (le_z (pos 1) rest) (le→leb _ _ p.small) p.some.le
  where
    go : (a b : Bool) → T a → T b → T (a && b)
    go true b s t = t
    go false b s t = absurd s

-- ---- one step
module _ (H : Matrix) (cs : List (List ℤ)) (j k : ℕ) (rest : ℤ) (c : List ℤ) where
  abbrev r : ℤ
  r = next_entry H cs j c

  chosen : Bool → Column
  chosen b = elim b [ true ↦ rows H cs j k (rest -ℤ r *ℤ r) (c ++ (r ∷ [])) | false ↦ record { done = false; column = c ++ (r ∷ []) } ]

  pub rows_on : goes_on r (rest -ℤ r *ℤ r) ≡ true → rows H cs j (suc k) rest c ≡ rows H cs j k (rest -ℤ r *ℤ r) (c ++ (r ∷ []))
  unfolding rows chosen
  rows_on e = ap chosen e

  pub rows_stop : goes_on r (rest -ℤ r *ℤ r) ≡ false → rows H cs j (suc k) rest c ≡ record { done = false; column = c ++ (r ∷ []) }
  unfolding rows chosen
  rows_stop e = ap chosen e

  -- by cases on the test
  pub rows_by : (P : Column → Type 0) → (T (goes_on r (rest -ℤ r *ℤ r)) → P (rows H cs j k (rest -ℤ r *ℤ r) (c ++ (r ∷ []))))
      → (T (not (goes_on r (rest -ℤ r *ℤ r))) → P (record { done = false; column = c ++ (r ∷ []) })) → P (rows H cs j (suc k) rest c)
  unfolding rows
  rows_by P f g = choice_by P (goes_on r (rest -ℤ r *ℤ r)) f g

-- ---- the rows of a column
module _ (H : Matrix) (cs : List (List ℤ)) (j : ℕ) (P : ℤ → List ℤ → Type 0) where
  -- what a row that passes keeps
  abbrev pub RowStep : Type 0
  RowStep = (rest : ℤ) (c : List ℤ) → length c < j → P rest c → (let r : ℤ = next_entry H cs j c in Passes r (rest -ℤ r *ℤ r) → P (rest -ℤ r *ℤ r) (c ++ (r ∷ [])))

  -- a claim that each row keeps holds where the column is done, before its diagonal entry
  pub rows_ind : (Q : List ℤ → Type 0) → RowStep → ((rest : ℤ) (c : List ℤ) → length c ≡ j → P rest c → Q (c ++ (whole_root rest ∷ []))) →
      (k : ℕ) (rest : ℤ) (c : List ℤ) → length c + k ≡ j → P rest c → T (rows H cs j k rest c).done → Q (rows H cs j k rest c).column
  unfolding rows
  rows_ind Q s e zero rest c h p t = e rest c (omega arith) p
  rows_ind Q s e (suc k) rest c h p t =
      rows_by H cs j k rest c (λ o. T o.done → Q o.column)
      (λ g. rows_ind Q s e k _ _ (omega (arith, length_snoc c (next_entry H cs j c))) (s rest c (omega arith) p (passes _ _ g))) (λ g t. absurd t) t

  -- where every row passes, the column is done
  pub rows-done : RowStep → ((rest : ℤ) (c : List ℤ) → length c < j → P rest c → (let r : ℤ = next_entry H cs j c in Passes r (rest -ℤ r *ℤ r))) →
      (k : ℕ) (rest : ℤ) (c : List ℤ) → length c + k ≡ j → P rest c → T (rows H cs j k rest c).done
  unfolding rows
  rows-done s a zero rest c h p = tt
  rows-done s a (suc k) rest c h p =
      rows_by H cs j k rest c (λ o. T o.done)
      (λ g. rows-done s a k _ _ (omega (arith, length_snoc c (next_entry H cs j c))) (s rest c (omega arith) p (passes _ _ g)))
      (λ g. T_not (goes_on (next_entry H cs j c) (rest -ℤ next_entry H cs j c *ℤ next_entry H cs j c)) g (goes_on_lem _ _ (a rest c (omega arith) p)))

-- ---- a column
module _ (H : Matrix) (cs : List (List ℤ)) where
  pub column_ind : (Q : Column → Type 0) → (pos 1 ≤ℤ H (length cs) (length cs) → Q (rows H cs (length cs) (length cs) (H (length cs) (length cs)) [])) →
      (T (not (le_z (pos 1) (H (length cs) (length cs)))) → Q (record { done = false; column = [] })) → Q (next_column H cs)
  unfolding next_column
  column_ind Q f g = choice_by Q (le_z (pos 1) (H (length cs) (length cs))) (λ t. f (record { le = t })) g

module _ (H : Matrix) (cs : List (List ℤ)) where
  begun : Bool → ℕ → Column
  begun b j = elim b [ true ↦ rows H cs j j (H j j) [] | false ↦ record { done = false; column = [] } ]

  pub column_on : (j : ℕ) → length cs ≡ j → le_z (pos 1) (H j j) ≡ true → next_column H cs ≡ rows H cs j j (H j j) []
  unfolding next_column begun
  column_on j e = subst (λ (m : ℕ). le_z (pos 1) (H m m) ≡ true → next_column H cs ≡ rows H cs m m (H m m) []) e (λ g. ap (λ (b : Bool). begun b (length cs)) g)

  pub column_none : (j : ℕ) → length cs ≡ j → le_z (pos 1) (H j j) ≡ false → next_column H cs ≡ record { done = false; column = [] }
  unfolding next_column begun
  column_none j e = subst (λ (m : ℕ). le_z (pos 1) (H m m) ≡ false → next_column H cs ≡ record { done = false; column = [] }) e (λ g. ap (λ (b : Bool). begun b (length cs)) g)

-- ---- all columns
module _ (H : Matrix) (k : ℕ) (cs : List (List ℤ)) where
  pub columns_by : (Q : Factoring → Type 0) → (T (next_column H cs).done → Q (columns_from H k (cs ++ ((next_column H cs).column ∷ [])))) →
      (T (not (next_column H cs).done) → Q (record { ends = false; columns = cs; stopped = (next_column H cs).column })) → Q (columns_from H (suc k) cs)
  unfolding columns_from
  columns_by Q f g = choice_by Q (next_column H cs).done f g

  swept : Bool → Factoring
  swept b = elim b [ true ↦ columns_from H k (cs ++ ((next_column H cs).column ∷ [])) | false ↦ record { ends = false; columns = cs; stopped = (next_column H cs).column } ]

  pub columns_on : (next_column H cs).done ≡ true → columns_from H (suc k) cs ≡ columns_from H k (cs ++ ((next_column H cs).column ∷ []))
  unfolding columns_from swept
  columns_on e = ap swept e

  pub columns_stop : (next_column H cs).done ≡ false → columns_from H (suc k) cs ≡ record { ends = false; columns = cs; stopped = (next_column H cs).column }
  unfolding columns_from swept
  columns_stop e = ap swept e

module _ (H : Matrix) (n : ℕ) (P : List (List ℤ) → Type 0) where
  -- what a column that is done keeps
  abbrev pub ColumnStep : Type 0
  ColumnStep = (cs : List (List ℤ)) → length cs < n → P cs → T (next_column H cs).done → P (cs ++ ((next_column H cs).column ∷ []))

  pub columns_ind : ColumnStep → (k : ℕ) (cs : List (List ℤ)) → length cs + k ≡ n → P cs → T (columns_from H k cs).ends → P (columns_from H k cs).columns
  unfolding columns_from
  columns_ind s zero cs h p t = p
  columns_ind s (suc k) cs h p t =
      columns_by H k cs (λ o. T o.ends → P o.columns)
      (λ g. columns_ind s k _ (omega (arith, length_snoc cs (next_column H cs).column)) (s cs (omega arith) p g)) (λ g t. absurd t) t

  pub columns_end : ColumnStep → ((cs : List (List ℤ)) → length cs < n → P cs → T (next_column H cs).done) →
      (k : ℕ) (cs : List (List ℤ)) → length cs + k ≡ n → P cs → T (columns_from H k cs).ends
  unfolding columns_from
  columns_end s a zero cs h p = tt
  columns_end s a (suc k) cs h p =
      columns_by H k cs (λ o. T o.ends)
      (λ g. columns_end s a k _ (omega (arith, length_snoc cs (next_column H cs).column)) (s cs (omega arith) p g))
      (λ g. T_not (next_column H cs).done g (a cs (omega arith) p))
