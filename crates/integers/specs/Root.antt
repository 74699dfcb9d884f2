-- R1.3 and R1.4 of docs/RULES.md: whole roots.
use Rattle.std.specs.Prelude.{true, false, ℕ, zero, suc, ◌+◌, ◌*◌, ◌/◌, leb, ℤ, pos, negsuc, nat_abs}
use Rattle.integers.specs.Division.{ceil_div}

-- the root of x from the root s of x / 4: one binary digit more
abbrev pub root_digit : ℕ → ℕ → ℕ
root_digit x s = elim (leb ((s + s + 1) * (s + s + 1)) x) [ true ↦ s + s + 1 | false ↦ s + s ]

-- the root of an x that is at most the first argument, which only bounds the recursion
unfoldable pub root_within : ℕ → ℕ → ℕ
root_within zero x = 0
root_within (suc k) x = elim (leb x 0) [ true ↦ 0 | false ↦ root_digit x (root_within k (x / 4)) ]

-- R1.3: the only r ≥ 0 with r² ≤ x < (r + 1)², for an x that is not negative
unfoldable pub whole_root : ℤ → ℤ
whole_root x = pos (root_within (nat_abs x) (nat_abs x))

-- the least s ≥ 0 with q ≤ s²
unfoldable pub root_above : ℤ → ℤ
root_above (pos zero) = pos 0
root_above (pos (suc q)) = pos (suc (root_within q q))
root_above (negsuc q) = pos 0

-- R1.4: the least s ≥ 0 with b ≤ t s², for a t from 1 up
unfoldable pub least_root : ℤ → ℤ → ℤ
least_root t b = root_above (ceil_div b t)
