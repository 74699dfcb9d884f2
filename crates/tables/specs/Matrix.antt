-- R2.2 and R3.3 of docs/RULES.md: matrices as functions of row and column, counted from 0, and the tables that spell them row by row.
use Rattle.std.specs.Prelude.{List, [], ◌∷◌, ◌++◌, ℕ, zero, suc, ◌+◌, ◌*◌, ◌/◌, ◌%◌, ℤ, pos, ◌-ℤ◌, ◌*ℤ◌, get_or}
use Rattle.integers.specs.Sum.{sum}

abbrev pub Matrix : Type 0
Matrix = ℕ → ℕ → ℤ

-- entry i of a vector
abbrev pub nth : List ℤ → ℕ → ℤ
nth x i = get_or x i (pos 0)

-- R2.2: entry (i, j) of a table of order n, row by row
unfoldable pub at : ℕ → List ℤ → Matrix
at n t i j = nth t (i * n + j)

-- f 0, .., f (n - 1)
unfoldable pub tabulate : {A : Type 0} → ℕ → (ℕ → A) → List A
tabulate zero f = []
tabulate (suc n) f = tabulate n f ++ (f n ∷ [])

-- the table of a matrix
unfoldable pub table : ℕ → Matrix → List ℤ
table n M = tabulate (n * n) (λ k. M (k / n) (k % n))

-- R3.3: x'Mx, the sum of x(i) M(i,j) x(j) over all i and j
unfoldable pub form : ℕ → Matrix → (ℕ → ℤ) → ℤ
form n M x = sum n (λ i. sum n (λ j. x i *ℤ M i j *ℤ x j))

-- entry k of Rx, the sum of R(k,i) x(i) over all i
unfoldable pub image : ℕ → Matrix → (ℕ → ℤ) → ℕ → ℤ
image n R x k = sum n (λ i. R k i *ℤ x i)

-- |x|² = x'x, the sum of x(i)² over all i
unfoldable pub norm_squared : ℕ → (ℕ → ℤ) → ℤ
norm_squared n x = sum n (λ i. x i *ℤ x i)

-- R7.1: P = R'R, the sum of r(k,i) r(k,j) over all k
unfoldable pub gram : ℕ → Matrix → Matrix
gram n R i j = sum n (λ k. R k i *ℤ R k j)

-- R2.9: w(i), the sum of U(i,j) - L(i,j) over all j, i included
unfoldable pub row_width : ℕ → Matrix → Matrix → ℕ → ℤ
row_width n L U i = sum n (λ j. U i j -ℤ L i j)
