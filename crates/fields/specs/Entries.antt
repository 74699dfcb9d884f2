-- A file as it is written: fields with rising tags, one after the other. The walk passes exactly these files, and finds these contents
-- (proofs/Entries). With all kinds there is one such file of given contents (proofs/Whole).
use Rattle.std.specs.Prelude.{◌≡◌, true, false, List, [], ◌∷◌, ◌++◌, map, ℕ, ◌^◌, ◌<◌, eqb, length, Option, Some, None}
use Rattle.words.specs.Numbers.{to_le_bytes}
use Rattle.fields.specs.declared.field.Kind.{Kind}
use Rattle.fields.specs.declared.layout.Layout.{Layout}
use Rattle.fields.specs.Fields.{kinds, place_of, tag_of}
use Rattle.fields.specs.Layouts.{seen, content}

-- a field's kind and its content
pub record Entry : Type 0 where
  pub kind : Kind
  pub bytes : List ℕ

-- R16.1: tag and length
abbrev pub head_bytes : Entry → List ℕ
head_bytes e = tag_of e.kind ∷ to_le_bytes 2 (length e.bytes)

-- R16.1: a field
unfoldable pub entry_bytes : Entry → List ℕ
entry_bytes e = head_bytes e ++ e.bytes

unfoldable pub bytes_of_entries : List Entry → List ℕ
bytes_of_entries [] = []
bytes_of_entries (e ∷ es) = entry_bytes e ++ bytes_of_entries es

-- the content of a kind among the entries
unfoldable pub entry_of : List Entry → Kind → Option (List ℕ)
entry_of [] k = None
entry_of (e ∷ es) k = elim (eqb (place_of k) (place_of e.kind)) [ true ↦ Some e.bytes | false ↦ entry_of es k ]

-- two bytes hold each length, and the tags rise from above t on
unfoldable pub Writable : ℕ → List Entry → Type 0
Writable t [] = Unit
Writable t (e ∷ es) = (length e.bytes < 256 ^ 2) × (t < tag_of e.kind) × Writable (tag_of e.kind) es

-- the content of a kind in a file with this layout
unfoldable pub content_seen : List ℕ → Layout → Kind → Option (List ℕ)
content_seen s l k = elim (seen l k) [ true ↦ Some (content s l k) | false ↦ None ]

-- s is a file of entries
pub record Written (s : List ℕ) : Type 0 where
  pub entries : List Entry
  pub writable : Writable 0 entries
  pub file : s ≡ bytes_of_entries entries

-- R16.3: an entry of each kind, in the order of their tags, with the content that c gives it; and the file of them
abbrev pub entry_with : (Kind → List ℕ) → Kind → Entry
entry_with c k = record { kind = k; bytes = c k }

abbrev pub all_entries : (Kind → List ℕ) → List Entry
all_entries c = map (entry_with c) kinds

unfoldable pub whole_file : (Kind → List ℕ) → List ℕ
whole_file c = bytes_of_entries (all_entries c)
