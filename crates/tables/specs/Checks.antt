-- R5 of docs/RULES.md, checks 1 to 5 and 16: which refusal a problem gets. Each is completed over all of the input before the next.
use Rattle.std.specs.Prelude.{Bool, true, false, ◌&&◌, List, [], ◌∷◌, ℕ, zero, suc, ◌*◌, leb, eqb, ℤ, pos, nat_abs, Result, Ok, Err, ⊤}
use Rattle.std.specs.Int.Signed.{le_z}
use Rattle.tables.specs.Ranges.{greatest_order, entry_range, linear_range, limit_range, centre_range}
use Rattle.tables.specs.Matrix.{nth}
use Rattle.tables.specs.Mending.{mended_low, mended_high}
use Rattle.tables.specs.declared.Refusal.{Refusal}
use Rattle.tables.specs.declared.Refusal.TheVariants.{Order, Length, Range, Crossed, Lopsided, Reversed}

-- p holds of each of 0, .., n - 1
unfoldable pub all : ℕ → (ℕ → Bool) → Bool
all zero p = true
all (suc n) p = all n p && p n

-- R5.1: what is asked, and the refusal where it fails
pub record Check : Type 0 where
  pub passes : Bool
  pub otherwise : Refusal

-- what checks find: nothing to refuse, or the first refusal
abbrev pub Checked : Type 0
Checked = Result ⊤ Refusal

unfoldable pub first_refusal : List Check → Checked
first_refusal [] = Ok tt
first_refusal (c ∷ cs) = elim c.passes [ true ↦ first_refusal cs | false ↦ Err c.otherwise ]

-- 1, R4.1: n is an order
unfoldable pub order_ok : ℤ → Bool
order_ok n = le_z (pos 1) n && le_z n (pos greatest_order)

-- the order of a call: n, or 0 where n is no order
unfoldable pub order_of : ℤ → ℕ
order_of n = elim (order_ok n) [ true ↦ nat_abs n | false ↦ 0 ]

-- the order of a call, or the refusal of check 1
unfoldable pub ordered : ℤ → Result ℕ Refusal
ordered n = elim (order_ok n) [ true ↦ Ok (order_of n) | false ↦ Err Order ]

-- 2, R4.2: two tables have the size of a table, and what is offered with them the size of an offer
unfoldable pub sizes_ok : ℕ → ℕ → ℕ → ℕ → ℕ → Bool
sizes_ok table offer l u v = eqb l table && (eqb u table && eqb v offer)

-- R1.5: |x| ≤ b
unfoldable pub within : ℕ → ℤ → Bool
within b x = leb (nat_abs x) b

-- 3, R4.3: the first m numbers of x are within ±b
unfoldable pub all_within : ℕ → ℕ → List ℤ → Bool
all_within b m x = all m (λ k. within b (nth x k))

-- 4, 5 and 16, R4.4, R4.5 and R4.16: none of the first m numbers of l is above that of u
unfoldable pub nowhere_crossed : ℕ → List ℤ → List ℤ → Bool
nowhere_crossed m l u = all m (λ k. le_z (nth l k) (nth u k))

unfoldable pub same : ℤ → ℤ → Bool
same x y = le_z x y && le_z y x

-- ---- what check 3 asks
-- the first m numbers of both tables are in the range of entries
unfoldable pub tables_within : ℕ → List ℤ → List ℤ → Bool
tables_within m l u = all_within entry_range m l && all_within entry_range m u

-- both ends of linear terms from a to b of order n
unfoldable pub linear_within : ℕ → List ℤ → List ℤ → Bool
linear_within n a b = all_within linear_range n a && all_within linear_range n b

-- linear terms from a to b, limit α and centre c of order n
unfoldable pub terms_within : ℕ → List ℤ → List ℤ → ℤ → List ℤ → Bool
terms_within n a b α c = linear_within n a b && (within limit_range α && all_within centre_range n c)

-- ---- the checks, by their numbers
abbrev pub check_order : ℤ → Check
check_order n = record { passes = order_ok n; otherwise = Order }

abbrev pub check_length : Bool → Check
check_length sized = record { passes = sized; otherwise = Length }

-- every number that the act is handed is in its range
abbrev pub check_range : Bool → Check
check_range within = record { passes = within; otherwise = Range }

abbrev pub check_crossed : ℕ → List ℤ → List ℤ → Check
check_crossed n l u = record { passes = nowhere_crossed (n * n) l u; otherwise = Crossed }

-- 5, R4.5: no pair of the mended tables is left without a number
abbrev pub check_lopsided : ℕ → List ℤ → List ℤ → Check
check_lopsided n l u = record { passes = nowhere_crossed (n * n) (mended_low n l) (mended_high n u); otherwise = Lopsided }

abbrev pub check_reversed : ℕ → List ℤ → List ℤ → Check
check_reversed n a b = record { passes = nowhere_crossed n a b; otherwise = Reversed }

-- 1 and 2, in front of every act: `sized` says whether each lent buffer has the size that n calls for
unfoldable pub entry_checks : ℤ → Bool → List Check
entry_checks n sized = check_order n ∷ check_length sized ∷ []

-- 3 and 4 of bounds l and u of order n as they are handed in, and 5 of the mended ones: `others` says whether the act's other numbers
-- are in their ranges
unfoldable pub bounds_checks : Bool → ℕ → List ℤ → List ℤ → List Check
bounds_checks others n l u = check_range (others && tables_within (n * n) l u) ∷ check_crossed n l u ∷ check_lopsided n l u ∷ []

-- 16, of linear terms from a to b
unfoldable pub ends_checks : ℕ → List ℤ → List ℤ → List Check
ends_checks n a b = check_reversed n a b ∷ []

-- of bounds alone
abbrev pub table_checks : ℕ → List ℤ → List ℤ → List Check
table_checks n l u = bounds_checks true n l u
