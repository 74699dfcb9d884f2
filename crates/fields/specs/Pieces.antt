-- R18 of docs/RULES.md: what the reader hands out.
use Rattle.std.specs.Prelude.{List, [], ℕ, Some, None, Ok, Err}
use Rattle.fields.specs.Fields.{bytes_in, Found, field_at}

-- the content of what was found, a part of the file; the empty part where there is no field
unfoldable pub content_of : List ℕ → Found → List ℕ
content_of s (Ok (Some f)) = bytes_in s f.part
content_of s (Ok None) = []
content_of s (Err r) = []

-- R18.1: the content of the field at a place of the file s
unfoldable pub content_at : List ℕ → ℕ → List ℕ
content_at s at = content_of s (field_at s at)
