-- R6.1 of docs/RULES.md: the matrix H that is factored.
use Rattle.std.specs.Prelude.{ℕ, ◌^◌, ℤ, pos, ◌+ℤ◌, ◌-ℤ◌, ◌*ℤ◌}
use Rattle.integers.specs.Sum.{only}
use Rattle.tables.specs.Matrix.{Matrix, row_width}

-- a factor R is held against 2^32 M
abbrev pub scale : ℤ
scale = pos (2 ^ 32)

abbrev pub half_scale : ℤ
half_scale = pos (2 ^ 31)

-- what is taken off each diagonal entry, besides the width of its row, by the order n: 2^29 for each
unfoldable pub take_off : ℕ → ℤ
take_off n = pos (2 ^ 29)

-- R6.1: H(i,j) is 2^31 (L(i,j) + U(i,j)), less τ + 2^31 w(i) where i = j
unfoldable pub scaled_by : ℤ → ℕ → Matrix → Matrix → Matrix
scaled_by τ n L U i j = half_scale *ℤ (L i j +ℤ U i j) -ℤ only i j (τ +ℤ half_scale *ℤ row_width n L U i)

-- H, with the take-off of its order
abbrev pub scaled : ℕ → Matrix → Matrix → Matrix
scaled n L U = scaled_by (take_off n) n L U
