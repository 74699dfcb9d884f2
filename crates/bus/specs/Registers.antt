-- R28.1 to R28.7 and R28.11 of docs/RULES.md: the registers of the display bus, a byte each, and how a write moves one.
use Rattle.std.specs.Prelude.{Bool, true, false, ◌&&◌, ◌||◌, not, List, ℕ, ◌-◌, eqb, ℤ, pos, nat_abs, get_or, set, replicate}
use Rattle.std.specs.Int.Bits.{bit_and, bit_or}
use Rattle.std.specs.Int.Signed.{le_z}

-- ---- R28.1: the block and its registers
abbrev pub block_bytes : ℕ
block_bytes = 32

abbrev pub command : ℕ
command = 0

abbrev pub status : ℕ
status = 1

abbrev pub number : ℕ
number = 2

abbrev pub verdict : ℕ
verdict = 3

abbrev pub mask : ℕ
mask = 4

abbrev pub flags : ℕ
flags = 5

abbrev pub order : ℕ
order = 6

-- the bits of the status, and of mask and flags
abbrev pub busy : ℕ
busy = 1

abbrev pub done : ℕ
done = 2

abbrev pub refused : ℕ
refused = 4

-- the commands
abbrev pub start_command : ℕ
start_command = 1

abbrev pub reset_command : ℕ
reset_command = 2

-- a byte's greatest value: less a byte, all bits that the byte has not
abbrev pub all_bits : ℕ
all_bits = 255

-- register k of a block
abbrev pub register : List ℕ → ℕ → ℕ
register b k = get_or b k 0

-- ---- R28.2: the table of reset values and of writable bits
unfoldable pub reset_value : ℕ → ℕ
reset_value k = 0

unfoldable pub writable : ℕ → ℕ
writable k =
    elim (eqb k command || eqb k order) [ true ↦ all_bits | false ↦ elim (eqb k mask || eqb k flags) [ true ↦ 7 | false ↦ 0 ] ]

-- a block that was reset
unfoldable pub reset_block : List ℕ
reset_block = replicate block_bytes 0

-- ---- R28.3: what a read of an address gives
unfoldable pub read_at : List ℕ → ℤ → ℕ
read_at b k = elim (le_z (pos status) k && le_z k (pos order)) [ true ↦ register b (nat_abs k) | false ↦ 0 ]

-- ---- R28.4: what a register k that holds x holds after v was written to it
unfoldable pub put : ℕ → ℕ → ℕ → ℕ
put k x v =
    elim (eqb k flags) [
      | true ↦ bit_and x (all_bits - bit_and v (writable k))
      | false ↦ bit_or (bit_and x (all_bits - writable k)) (bit_and v (writable k))
    ]

-- ---- R28.5, R28.7 and R28.9: how start and tick move status, flags, refusal number and verdict
unfoldable pub is_busy : List ℕ → Bool
is_busy b = eqb (bit_and (register b status) busy) busy

-- bit k of the status rises, and with it its flag, unless the bit was up
unfoldable pub raised : ℕ → List ℕ → List ℕ
raised k b =
    let s : ℕ = register b status in
    set (set b status (bit_or s k)) flags (bit_or (register b flags) (bit_and k (all_bits - s)))

unfoldable pub cleared : List ℕ → List ℕ
cleared b = set (set (set b status 0) number 0) verdict 0

-- a start that is let through, and one that is refused by number r
unfoldable pub started_block : List ℕ → List ℕ
started_block b = raised busy (cleared b)

unfoldable pub refused_block : ℕ → List ℕ → List ℕ
refused_block r b = raised refused (set (cleared b) number r)

-- the verdict v is given: busy falls as done rises
unfoldable pub settled_block : ℕ → List ℕ → List ℕ
settled_block v b = raised done (set (set b verdict v) status (bit_and (register b status) (all_bits - busy)))

-- ---- R28.11: the line
unfoldable pub is_raised : List ℕ → Bool
is_raised b = not (eqb (bit_and (register b flags) (register b mask)) 0)
