-- R16.4 and R16.5 of docs/RULES.md: the walk over a file's fields, and where the content of each stands.
use Rattle.std.specs.Prelude.{◌≡◌, Bool, true, false, List, ℕ, zero, suc, ◌+◌, ◌≤◌, ltb, length, get_or, set, take, drop, replicate}
use Rattle.std.specs.Prelude.{Option, Some, None, is_some, Result, Ok, Err}
use Rattle.std.specs.Option.{option_map_or}
use Rattle.std.specs.Result.{result_unwrap_or}
use Rattle.tables.specs.declared.Refusal.{Refusal}
use Rattle.tables.specs.declared.Refusal.TheVariants.{Again, Falling}
use Rattle.fields.specs.declared.field.Kind.{Kind}
use Rattle.fields.specs.declared.field.Part.{Part}
use Rattle.fields.specs.declared.field.Field.{Field}
use Rattle.fields.specs.declared.layout.Layout.{Layout}
use Rattle.fields.specs.Fields.{kind_count, place_of, tag_of, Found, field_at}

-- where the content of a kind stands, if there is such a field
unfoldable pub part_of : Layout → Kind → Option Part
part_of l k = get_or l.parts (place_of k) None

unfoldable pub seen : Layout → Kind → Bool
seen l k = is_some (part_of l k)

-- where a part starts, and its length; 0 where there is none, and no content starts at 0, since one stands behind its head
abbrev pub start_in : Option Part → ℕ
start_in o = option_map_or (λ p. p.start) o 0

abbrev pub length_in : Option Part → ℕ
length_in o = option_map_or (λ p. p.length) o 0

-- where the content of a kind starts, and its length
unfoldable pub start_of : Layout → Kind → ℕ
start_of l k = start_in (part_of l k)

unfoldable pub length_of : Layout → Kind → ℕ
length_of l k = length_in (part_of l k)

-- no field
unfoldable pub unseen : Layout
unseen = record { parts = replicate kind_count None }

-- a field more
unfoldable pub placed : Layout → Field → Layout
placed l f = record { parts = set l.parts (place_of f.kind) (Some f.part) }

-- what a walk finds: the layout of all fields, or the first refusal
abbrev pub Walked : Type 0
Walked = Result Layout Refusal

-- R16.4: the walk goes on behind a field whose tag was not met before, else 12, and is not below t, the tag before it, else 19; it ends at
-- the file's end, and at the first refusal
unfoldable pub walk_on : Found → ℕ → Layout → (ℕ → ℕ → Layout → Walked) → Walked
walk_on (Ok (Some f)) t l next =
    elim (seen l f.kind) [
      | true ↦ Err Again
      | false ↦ elim (ltb (tag_of f.kind) t) [
        | true ↦ Err Falling
        | false ↦ next f.next (tag_of f.kind) (placed l f)
      ]
    ]
walk_on (Ok None) t l next = Ok l
walk_on (Err r) t l next = Err r

-- the walk from a place on, behind the tag t, over at most so many fields
unfoldable pub walk_fields : ℕ → List ℕ → ℕ → ℕ → Layout → Walked
walk_fields zero s at t l = Ok l
walk_fields (suc n) s at t l = walk_on (field_at s at) t l (walk_fields n s)

-- the walk from a place on: a field takes up three bytes or more, so there are fewer fields than bytes, and one turn more sees the end
unfoldable pub walk : List ℕ → ℕ → ℕ → Layout → Walked
walk s = walk_fields (length s + 1) s

-- R16.5: the walk over the whole file; 0, which is no tag, stands before the first
unfoldable pub walked : List ℕ → Walked
walked s = walk s 0 0 unseen

-- the layout that the walk over the file finds, with no field where it is refused
abbrev pub layout_of : List ℕ → Layout
layout_of s = result_unwrap_or (walked s) unseen

-- the content of a kind, a part of the file
unfoldable pub content : List ℕ → Layout → Kind → List ℕ
content s l k = take (length_of l k) (drop (start_of l k) s)

-- every content is a part of the file, and that of a kind with no field is empty
pub record Inside (s : List ℕ) (l : Layout) : Type 0 where
  pub ends : (k : Kind) → start_of l k + length_of l k ≤ length s
  pub absent : (k : Kind) → start_of l k ≡ 0 → length_of l k ≡ 0
