-- The walk over some files: what the rules give, beside what was worked out apart from them.
use mathlib.Core.Path.{◌≡◌, refl}
use mathlib.Core.List.{List, [], ◌∷◌, map}
use Prim.Native.Nat.{ℕ, ◌-◌}
use lib.ListN.{replicate}
use Rattle.words.specs.Numbers.{from_le_bytes, unsigned_at}
use Rattle.tables.specs.declared.Refusal.TheVariants.{Cut, Tag, Again, Falling}
use Rattle.std.specs.Prelude.{Option, Some, None, Ok, Err}
use Rattle.fields.specs.declared.field.Kind.{Kind}
use Rattle.fields.specs.declared.field.Part.{Part}
use Rattle.fields.specs.declared.layout.Layout.{Layout}
use Rattle.fields.specs.Fields.{kind_count, kind_in, kind_of, tagged, field_at}
use Rattle.fields.specs.Layouts.{part_of, start_of, length_of, seen, unseen, placed, Walked, walk_on, walk_fields, walk, walked, layout_of}
use Rattle.fields.specs.Layouts.{content}

record Line : Type 0 where
  file : List ℕ
  expected : Walked

abbrev part : ℕ → ℕ → Option Part
part start length = Some (record { start = start; length = length })

-- the content of tag 01 alone, at `start`
abbrev order_at : ℕ → Layout
order_at start = record { parts = part start 1 ∷ replicate (kind_count - 1) None }

-- case P, W21 of docs/RULES.md
abbrev case_p : List ℕ
case_p =
    1 ∷ 1 ∷ 0 ∷ 1
    ∷ 2 ∷ 4 ∷ 0 ∷ 4 ∷ 0 ∷ 0 ∷ 0
    ∷ 3 ∷ 4 ∷ 0 ∷ 4 ∷ 0 ∷ 0 ∷ 0
    ∷ 4 ∷ 8 ∷ 0 ∷ 0xf8 ∷ 0xff ∷ 0xff ∷ 0xff ∷ 0xff ∷ 0xff ∷ 0xff ∷ 0xff
    ∷ 5 ∷ 8 ∷ 0 ∷ 0 ∷ 0 ∷ 0 ∷ 0 ∷ 0 ∷ 0 ∷ 0 ∷ 0
    ∷ 6 ∷ 8 ∷ 0 ∷ 2 ∷ 0 ∷ 0 ∷ 0 ∷ 0 ∷ 0 ∷ 0 ∷ 0
    ∷ 7 ∷ 8 ∷ 0 ∷ 0xf8 ∷ 0xff ∷ 0xff ∷ 0xff ∷ 0xff ∷ 0xff ∷ 0xff ∷ 0xff
    ∷ []

abbrev layout_p : Layout
layout_p = record { parts = part 3 1 ∷ part 7 4 ∷ part 14 4 ∷ part 21 8 ∷ part 32 8 ∷ part 43 8 ∷ part 54 8 ∷ [] }

abbrev lines : List Line
lines =
    record { file = []; expected = Ok unseen }
    ∷ record { file = 1 ∷ []; expected = Err Cut }
    ∷ record { file = 8 ∷ 1 ∷ []; expected = Err Cut }
    ∷ record { file = 8 ∷ 0 ∷ 0 ∷ []; expected = Err Tag }
    -- 10 comes before 11
    ∷ record { file = 8 ∷ 1 ∷ 0 ∷ []; expected = Err Cut }
    -- the length's low byte comes first
    ∷ record { file = 1 ∷ 1 ∷ 0 ∷ 8 ∷ []; expected = Ok (order_at 3) }
    ∷ record { file = 1 ∷ 0 ∷ 1 ∷ 8 ∷ []; expected = Err Cut }
    ∷ record { file = 1 ∷ 1 ∷ 0 ∷ 8 ∷ 1 ∷ 1 ∷ 0 ∷ 8 ∷ []; expected = Err Again }
    -- 11 comes before 12 of a later field
    ∷ record { file = 1 ∷ 1 ∷ 0 ∷ 8 ∷ 0 ∷ 0 ∷ 0 ∷ 1 ∷ 0 ∷ 0 ∷ []; expected = Err Tag }
    -- 19 in the field that falls: not of equal tags, after 12, and before 10 of the next field
    ∷ record { file = 2 ∷ 0 ∷ 0 ∷ 1 ∷ 0 ∷ 0 ∷ []; expected = Err Falling }
    ∷ record { file = 2 ∷ 0 ∷ 0 ∷ 2 ∷ 0 ∷ 0 ∷ []; expected = Err Again }
    ∷ record { file = 1 ∷ 0 ∷ 0 ∷ 2 ∷ 0 ∷ 0 ∷ 1 ∷ 0 ∷ 0 ∷ []; expected = Err Again }
    ∷ record { file = 1 ∷ 0 ∷ 0 ∷ 3 ∷ 0 ∷ 0 ∷ 2 ∷ 0 ∷ 0 ∷ []; expected = Err Falling }
    ∷ record { file = 3 ∷ 0 ∷ 0 ∷ 2 ∷ 0 ∷ 0 ∷ 4 ∷ []; expected = Err Falling }
    ∷ record { file = 3 ∷ 0 ∷ 0 ∷ 2 ∷ 1 ∷ 0 ∷ []; expected = Err Cut }
    ∷ record { file = 3 ∷ 0 ∷ 0 ∷ 0 ∷ 0 ∷ 0 ∷ []; expected = Err Tag }
    ∷ record { file = case_p; expected = Ok layout_p }
    ∷ []

as_worked_out : map (λ (l : Line). walked l.file) lines ≡ map (λ (l : Line). l.expected) lines
unfolding walked walk walk_fields walk_on seen part_of unseen placed field_at tagged kind_of kind_in unsigned_at from_le_bytes
as_worked_out = refl

high-ends-content : content case_p (layout_of case_p) Kind.LinearHigh ≡ 0xf8 ∷ 0xff ∷ 0xff ∷ 0xff ∷ 0xff ∷ 0xff ∷ 0xff ∷ 0xff ∷ []
unfolding content start_of length_of walked walk walk_fields walk_on seen part_of unseen placed field_at tagged kind_of kind_in unsigned_at
    from_le_bytes
high-ends-content = refl
