-- R16 of docs/RULES.md: a field, and what stands at a place of a file.
use Rattle.std.specs.Prelude.{true, false, List, [], ◌∷◌, ℕ, ◌+◌, leb, eqb, length, get_or, take, drop, Option, Some, None, Result, Ok, Err}
use Rattle.words.specs.Numbers.{unsigned_at}
use Rattle.tables.specs.declared.Refusal.{Refusal}
use Rattle.tables.specs.declared.Refusal.TheVariants.{Cut, Tag}
use Rattle.fields.specs.declared.field.Kind.{Kind}
use Rattle.fields.specs.declared.field.Part.{Part}
use Rattle.fields.specs.declared.field.Field.{Field}

-- the kinds of field, in the order of their tags: n, L, U, the low ends of a, α, c, the high ends of a
abbrev pub kinds : List Kind
kinds = Kind.Order ∷ Kind.Low ∷ Kind.High ∷ Kind.LinearLow ∷ Kind.Limit ∷ Kind.Centre ∷ Kind.LinearHigh ∷ []

abbrev pub kind_count : ℕ
kind_count = length kinds

-- a kind's place among them
abbrev pub place_of : Kind → ℕ
place_of Kind.Order = 0
place_of Kind.Low = 1
place_of Kind.High = 2
place_of Kind.LinearLow = 3
place_of Kind.Limit = 4
place_of Kind.Centre = 5
place_of Kind.LinearHigh = 6

-- a kind's tag, from 01 on
abbrev pub tag_of : Kind → ℕ
tag_of k = place_of k + 1

-- what a tag says: the kind of field, or the refusal of a tag that no field has
abbrev pub Tagged : Type 0
Tagged = Result Kind Refusal

-- the kind with this tag among those listed, or 11
unfoldable pub kind_in : List Kind → ℕ → Tagged
kind_in [] t = Err Tag
kind_in (k ∷ ks) t = elim (eqb t (tag_of k)) [ true ↦ Ok k | false ↦ kind_in ks t ]

unfoldable pub kind_of : ℕ → Tagged
kind_of = kind_in kinds

-- R16.1: the bytes in front of a content, one of tag and two of length
abbrev pub head : ℕ
head = 3

-- the bytes of a part of the file s
abbrev pub bytes_in : List ℕ → Part → List ℕ
bytes_in s p = take p.length (drop p.start s)

-- what stands at a place of a file: a field, or nothing at the file's end; or what is refused
abbrev pub Found : Type 0
Found = Result (Option Field) Refusal

-- the field with its head at `at` and n bytes of content, by what its tag says
unfoldable pub tagged : ℕ → ℕ → Tagged → Found
tagged at n (Ok k) = Ok (Some (record { kind = k; part = record { start = at + head; length = n }; next = at + head + n }))
tagged at n (Err r) = Err r

-- R16.4: what stands at a place of the file s: its end; 10, where bytes of the field are missing; then 11; or a field
unfoldable pub field_at : List ℕ → ℕ → Found
field_at s at =
    let n : ℕ = unsigned_at 2 s (at + 1) in
    elim (leb (length s) at) [
      | true ↦ Ok None
      | false ↦ elim (leb (at + head) (length s)) [
        | true ↦ elim (leb (at + head + n) (length s)) [ true ↦ tagged at n (kind_of (get_or s at 0)) | false ↦ Err Cut ]
        | false ↦ Err Cut
      ]
    ]
