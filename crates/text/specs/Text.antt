-- R19.5 of docs/RULES.md: text as its bytes, words, numbers in decimal, lines. One space between words, no plus sign, no padding of a
-- number, and a line feed after each line.
use Rattle.std.specs.Prelude.{true, false, List, [], ◌∷◌, ◌++◌, ℕ, zero, suc, ◌+◌, ◌*◌, ◌/◌, ◌%◌, leb, ℤ, pos, nat_abs}
use Prim.Native.Char.{code}
use Prim.Native.String.{String, [] as []ᵗ, ◌∷◌ as ◌∷ᵗ◌}
use Rattle.std.specs.Int.Signed.{le_z}
use Rattle.tables.specs.Matrix.{nth}

-- the bytes of a text in ASCII
abbrev pub ascii : String → List ℕ
ascii []ᵗ = []
ascii (c ∷ᵗ s) = code c ∷ ascii s

-- the code of the last digit of n; that of 0 is 48
abbrev pub digit : ℕ → ℕ
digit n = 48 + n % 10

abbrev pub minus : ℕ
minus = 45

abbrev pub space : ℕ
space = 32

abbrev pub newline : ℕ
newline = 10

-- the decimal digits of n, the highest first, of at most k + 1 digits
unfoldable pub digits : ℕ → ℕ → List ℕ
digits zero n = digit n ∷ []
digits (suc k) n = elim (leb 10 n) [ true ↦ digits k (n / 10) ++ (digit n ∷ []) | false ↦ digit n ∷ [] ]

-- all decimal digits of n: it has no more than n + 1
unfoldable pub natural : ℕ → List ℕ
natural n = digits n n

-- a number in decimal, with a minus sign where it is negative
unfoldable pub decimal : ℤ → List ℕ
decimal z = elim (le_z (pos 0) z) [ true ↦ natural (nat_abs z) | false ↦ minus ∷ natural (nat_abs z) ]

-- a number of 64 bits takes up at most so many bytes
abbrev pub widest : ℕ
widest = 20

-- with a space in front of it
abbrev pub spaced : ℕ
spaced = widest + 1

-- a line takes up at most so many: a word of so many bytes, n numbers, and the line's end
abbrev pub line_room : ℕ → ℕ → ℕ
line_room word n = word + n * spaced + 1

-- f 0, .., f (n - 1), each behind a space
unfoldable pub numbers : (ℕ → ℤ) → ℕ → List ℕ
numbers f zero = []
numbers f (suc n) = numbers f n ++ (space ∷ decimal (f n))

-- a word and n numbers
unfoldable pub line : List ℕ → (ℕ → ℤ) → ℕ → List ℕ
line word f n = word ++ numbers f n ++ (newline ∷ [])

-- n lines with the numbers of x, one after the other, d numbers to a line
unfoldable pub lines : List ℕ → List ℤ → ℕ → ℕ → List ℕ
lines word x d zero = []
lines word x d (suc n) = lines word x d n ++ line word (λ k. nth x (n * d + k)) d
