-- R4 of docs/RULES.md: the number and the word of each refusal; refusal k is rule R4.k.
use Rattle.std.specs.Prelude.{ℕ}
use Prim.Native.String.{String}
use Rattle.tables.specs.declared.Refusal.{Refusal}
use Rattle.tables.specs.declared.Refusal.TheVariants.{Order, Length, Range, Crossed, Lopsided, Factor, Vector, Flat, Far}
use Rattle.tables.specs.declared.Refusal.TheVariants.{Cut, Tag, Again, Absent, Size, Long, Reversed, Sample, Full, Falling, Busy}

-- a line of R4's table; no contract cites the word
pub record RefusalLine : Type 0 where
  pub number : ℕ
  pub word : String

abbrev pub refusal_line : Refusal → RefusalLine
refusal_line Order = record { number = 1; word = "order" }
refusal_line Length = record { number = 2; word = "length" }
refusal_line Range = record { number = 3; word = "range" }
refusal_line Crossed = record { number = 4; word = "crossed" }
refusal_line Lopsided = record { number = 5; word = "lopsided" }
refusal_line Factor = record { number = 6; word = "factor" }
refusal_line Vector = record { number = 7; word = "vector" }
refusal_line Flat = record { number = 8; word = "flat" }
refusal_line Far = record { number = 9; word = "far" }
refusal_line Cut = record { number = 10; word = "cut" }
refusal_line Tag = record { number = 11; word = "tag" }
refusal_line Again = record { number = 12; word = "again" }
refusal_line Absent = record { number = 13; word = "absent" }
refusal_line Size = record { number = 14; word = "size" }
refusal_line Long = record { number = 15; word = "long" }
refusal_line Reversed = record { number = 16; word = "reversed" }
refusal_line Sample = record { number = 17; word = "sample" }
refusal_line Full = record { number = 18; word = "full" }
refusal_line Falling = record { number = 19; word = "falling" }
refusal_line Busy = record { number = 20; word = "busy" }

abbrev pub refusal_number : Refusal → ℕ
refusal_number r = (refusal_line r).number
