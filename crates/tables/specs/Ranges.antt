-- R2 of docs/RULES.md: the greatest order, and the greatest absolute value of each kind of number.
use Rattle.std.specs.Prelude.{ℕ, ◌*◌, ◌^◌}

abbrev pub greatest_order : ℕ
greatest_order = 8

-- the numbers of a table of the greatest order, and of the sides of its box
abbrev pub table_room : ℕ
table_room = greatest_order * greatest_order

abbrev pub sides_room : ℕ
sides_room = 2 * greatest_order

-- R2.3: entries of L and U
abbrev pub entry_range : ℕ
entry_range = 2 ^ 20

-- R2.8: entries of a factor
abbrev pub factor_range : ℕ
factor_range = 2 ^ 26

-- R2.7: entries of a vector
abbrev pub vector_range : ℕ
vector_range = 2 ^ 15

-- R2.4: both ends of the linear terms a(i)
abbrev pub linear_range : ℕ
linear_range = 2 ^ 36

-- R2.5: the limit α
abbrev pub limit_range : ℕ
limit_range = 2 ^ 54

-- R2.6: the centre c(i)
abbrev pub centre_range : ℕ
centre_range = 2 ^ 12

-- R4.9: the greatest g(k) that is let through
abbrev pub gradient_range : ℕ
gradient_range = 2 ^ 20
