-- R1.1 and R1.2 of docs/RULES.md: quotients by a divisor from 1 up, rounded down and up.
use Rattle.std.specs.Prelude.{◌/◌, ℤ, pos, negsuc, neg_ℤ, nat_abs}

-- R1.1: the only q with d q ≤ a < d (q + 1)
unfoldable pub floor_div : ℤ → ℤ → ℤ
floor_div (pos a) d = pos (a / nat_abs d)
floor_div (negsuc a) d = negsuc (a / nat_abs d)

-- R1.2: the only q with d (q - 1) < a ≤ d q
unfoldable pub ceil_div : ℤ → ℤ → ℤ
ceil_div a d = neg_ℤ (floor_div (neg_ℤ a) d)
