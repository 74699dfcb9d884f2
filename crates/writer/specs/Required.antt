-- What the functions of the writer put into a buffer: fields, one after the other; and what they ask of the buffers of a problem.
use Rattle.std.specs.Prelude.{List, [], ◌∷◌, ℕ, ◌+◌, ◌*◌, ◌≤◌, length}
use Rattle.std.specs.Int.{w32, w64}
use mir.Val.{bytes}
use Rattle.words.specs.Numbers.{bytes_of}
use Rattle.tables.specs.Ranges.{greatest_order}
use Rattle.tables.specs.declared.problem.Problem.{Problem}
use Rattle.fields.specs.declared.field.Kind.TheVariants as Kind
use Rattle.fields.specs.Fields.{head}
use Rattle.fields.specs.Entries.{Entry}

-- the fields of the order and of both tables, and how many bytes they take up
abbrev pub bounds_entries : Problem → List Entry
bounds_entries p =
    let c = p.constraint in
    record { kind = Kind.Order; bytes = c.order ∷ [] }
    ∷ record { kind = Kind.Low; bytes = bytes_of w32 c.low (c.order * c.order) }
    ∷ record { kind = Kind.High; bytes = bytes_of w32 c.high (c.order * c.order) }
    ∷ []

abbrev pub bounds_size : ℕ → ℕ
bounds_size n = 3 * head + 1 + 2 * (n * n * bytes w32)

-- the fields of the linear terms, of the limit and of the centre
abbrev pub terms_entries : Problem → List Entry
terms_entries p =
    let c = p.constraint in
    record { kind = Kind.LinearLow; bytes = bytes_of w64 c.linear.low c.order }
    ∷ record { kind = Kind.Limit; bytes = bytes_of w64 (c.limit ∷ []) 1 }
    ∷ record { kind = Kind.Centre; bytes = bytes_of w64 p.centre c.order }
    ∷ record { kind = Kind.LinearHigh; bytes = bytes_of w64 c.linear.high c.order }
    ∷ []

abbrev pub terms_size : ℕ → ℕ
terms_size n = 4 * head + bytes w64 + 3 * (n * bytes w64)

-- buffers with the numbers that an order n calls for, where so many numbers take `taken` elements
pub record Lengthy {A : Type 0} (taken : ℕ → ℕ) (n : ℕ) (l u a b c : List A) : Type 0 where
  pub order : n ≤ greatest_order
  pub low : taken (n * n) ≤ length l
  pub high : taken (n * n) ≤ length u
  pub from : taken n ≤ length a
  pub to : taken n ≤ length b
  pub centre : taken n ≤ length c
