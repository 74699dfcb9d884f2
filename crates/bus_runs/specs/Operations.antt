-- D3.11 of docs/RULES.md: lists of operations on a bus, in any order, by whoever has the bus.
use Rattle.std.specs.Prelude.{◌≡◌, Bool, false, ◌&&◌, ◌||◌, List, [], ◌∷◌, ℕ, zero, suc, eqb, ℤ, pos, length}
use Rattle.std.specs.Int.Bits.{bit_and}
use Rattle.std.specs.Int.Signed.{le_z}
use Rattle.bus.specs.Registers.{block_bytes, command, start_command, reset_command, writable}
use Rattle.bus.specs.Area.{run_bytes}
use Rattle.bus.specs.Running.{Bus}
use Rattle.bus.specs.Bus as Acts

-- a write of a value to an address, with the tables that are lent with it; a tick; a read of an address; a look at the line
pub data Operation : Type 0 where
  write : ℤ → ℕ → List ℕ → List ℕ → Operation
  tick : Operation
  read : ℤ → Operation
  look : Operation

-- block and run area have their sizes
pub record Sized (s : Bus) : Type 0 where
  pub block_size : length s.block ≡ block_bytes
  pub run_size : length s.run ≡ run_bytes

-- the bus after an act
unfoldable pub applied : Operation → Bus → Bus
applied (write k v l u) s = (Acts.write s.block s.run k v l u).bus
applied tick s = (Acts.tick s.block s.run).bus
applied (read k) s = s
applied look s = s

-- and after a list of them
unfoldable pub after : List Operation → Bus → Bus
after [] s = s
after (o ∷ os) s = after os (applied o s)

-- the writes of the two commands
abbrev pub starts : List ℕ → List ℕ → Operation
starts l u = write (pos command) start_command l u

abbrev pub resets : List ℕ → List ℕ → Operation
resets l u = write (pos command) reset_command l u

-- whether an operation is a write of command c, whatever else it hands over
unfoldable pub commands : ℕ → Operation → Bool
commands c (write k v l u) = (le_z (pos command) k && le_z k (pos command)) && eqb (bit_and v (writable command)) c
commands c tick = false
commands c (read k) = false
commands c look = false

abbrev pub is_start : Operation → Bool
is_start o = commands start_command o

abbrev pub is_reset : Operation → Bool
is_reset o = commands reset_command o

-- whether a reset is among them
unfoldable pub any_reset : List Operation → Bool
any_reset [] = false
any_reset (o ∷ os) = is_reset o || any_reset os

-- and whether a start or a reset is
unfoldable pub any_command : List Operation → Bool
any_command [] = false
any_command (o ∷ os) = (is_start o || is_reset o) || any_command os

-- how many of them are ticks
unfoldable pub counted : Operation → ℕ → ℕ
counted (write k v l u) n = n
counted tick n = suc n
counted (read k) n = n
counted look n = n

unfoldable pub ticks : List Operation → ℕ
ticks [] = zero
ticks (o ∷ os) = counted o (ticks os)
