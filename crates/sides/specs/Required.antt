-- What the code of the box asks, and what it leaves in a buffer.
use Rattle.std.specs.Prelude.{◌≡◌, List, ℕ, ◌+◌, ◌-◌, ◌*◌, ◌≤◌, ◌<◌, ℤ, pos, ◌+ℤ◌, ◌-ℤ◌, ◌≤ℤ◌, length, Option, Some, None}
use Rattle.integers.specs.Numbers.{Within}
use Rattle.tables.specs.Ranges.{greatest_order, sides_room, centre_range, gradient_range}
use Rattle.tables.specs.Matrix.{nth, tabulate}
use Rattle.arithmetic.specs.Required.{root_range, bound_range, term_range}
use Rattle.sides.specs.Sides.{Box, sides, empty}

-- ---- sizes: D, such that B2, which adds twice a sum of products to it, is within bound_range, and so is B; Y(k) and h; and a side
abbrev pub difference_range : ℕ
difference_range = bound_range - 2 * (greatest_order * term_range)

abbrev pub half_range : ℕ
half_range = gradient_range + root_range

abbrev pub side_range : ℕ
side_range = centre_range + half_range

-- t and the g(k) that were let through
pub record Near (n : ℕ) (t : ℤ) (g : List ℤ) : Type 0 where
  pub order : n ≤ greatest_order
  pub size : length g ≡ greatest_order
  pub step : pos 1 ≤ℤ t
  pub entries : (k : ℕ) → k < n → Within gradient_range (nth g k)

-- and with them a centre and D
pub record SidesReady (n : ℕ) (c : List ℤ) (d t : ℤ) (g : List ℤ) : Type 0 where
  pub near : Near n t g
  pub centre-length : n ≤ length c
  pub centre : (k : ℕ) → k < n → Within centre_range (nth c k)
  pub difference : Within difference_range d

-- a centre, the Y(k), and B2
pub record Halved (n : ℕ) (c y : List ℤ) (b : ℤ) : Type 0 where
  pub order : n ≤ greatest_order
  pub centre-length : n ≤ length c
  pub centre : (k : ℕ) → k < n → Within centre_range (nth c k)
  pub halves : (k : ℕ) → k < n → Within half_range (nth y k)
  pub bound : Within bound_range b

-- the sides before side n stand in x, which has room for all of them
pub record SidesIn (n : ℕ) (c h : ℕ → ℤ) (x : List ℤ) : Type 0 where
  pub size : length x ≡ sides_room
  pub low : (k : ℕ) → k < n → nth x (2 * k) ≡ c k -ℤ h k
  pub high : (k : ℕ) → k < n → nth x (2 * k + 1) ≡ c k +ℤ h k

-- the box whose sides stand in x, or the empty one
unfoldable pub box_in : ℕ → Option (List ℤ) → Box
box_in n (Some x) = sides (tabulate (n + n) (nth x))
box_in n None = empty
