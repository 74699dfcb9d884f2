-- A problem that is let through, in buffers of the greatest order: all numbers of its arrays are its own in front and zeros behind them.
use mathlib.Core.Path.{◌≡◌, refl, sym, ap, ◌∙◌}
use mathlib.Core.Bool.{Bool, true, false, ◌&&◌}
use mathlib.Core.List.{List}
use Prim.Native.Nat.{ℕ, ◌*◌}
use lib.Dec.{eqb}
use lib.IntN.{pos}
use lib.ListN.{length}
use mir.Syntax.{w64}
use mir.Val.{bytes}
use borrow.Author.Tests.{eqb-true}
use Rattle.std.specs.Prelude.{Ok, Err}
use Rattle.words.specs.Numbers.{bytes_of}
use Rattle.tables.specs.Ranges.{greatest_order, table_room}
use Rattle.tables.specs.Problem.{lengths_of, constraint_sized}
use Rattle.tables.specs.declared.problem.Problem.{Problem}
use Rattle.tables.specs.declared.problem.Lengths.{Lengths}
use Rattle.tables.proofs.Matrix.{table_fits}
use Rattle.tables.proofs.Checks.{and_left, and_right}
use Rattle.tables.proofs.Problems.{constraint_sizes-of}
use Rattle.summary.specs.Problems.{Reading, reading, LetThrough}
use Rattle.summary.proofs.Spelled.{reading-through}
use Rattle.summary.proofs.RoundTrip.{holds_of}
use Rattle.buffers.specs.Buffers.{bytes_of_number}
use Rattle.file_buffers.specs.Parts.{Parts, parts, Handed, roomy, parts_roomy, parts_of, handed, read_summary}
use Rattle.file_buffers.proofs.Fronts.{padded_bytes}

-- ---- what is stored
-- the bytes of the whole arrays
abbrev pub stored : Problem → Parts
stored p =
    let c = p.constraint in
    parts (bytes_of_number (pos c.order)) (bytes_of w64 c.low table_room) (bytes_of w64 c.high table_room)
    (bytes_of w64 c.linear.low greatest_order) (bytes_of w64 c.linear.high greatest_order) (bytes_of_number c.limit)
    (bytes_of w64 p.centre greatest_order)

-- buffers of equal parts
pub parts_by : {n l u a b α c n' l' u' a' b' α' c' : List ℕ} → n ≡ n' → l ≡ l' → u ≡ u' → a ≡ a' → b ≡ b' → α ≡ α' → c ≡ c' →
    parts n l u a b α c ≡ parts n' l' u' a' b' α' c'
parts_by d e f g h i j = rw (d, e, f, g, h, i, j)

stored-parts : (p : Problem) → LetThrough p → stored p ≡ parts_of p
unfolding parts_of
stored-parts p t =
    let c = p.constraint in
    let n = c.order in
    let h = t.rooms.order in
    let f = table_fits h in
    let w = holds_of p t.rooms in
    let z = t.zeros in
    parts_by refl
    (padded_bytes table_room (n * n) c.low w.low (ap (λ (q : Problem). q.constraint.low) z) f)
    (padded_bytes table_room (n * n) c.high w.high (ap (λ (q : Problem). q.constraint.high) z) f)
    (padded_bytes greatest_order n c.linear.low w.linear_low (ap (λ (q : Problem). q.constraint.linear.low) z) h)
    (padded_bytes greatest_order n c.linear.high w.linear_high (ap (λ (q : Problem). q.constraint.linear.high) z) h)
    refl
    (padded_bytes greatest_order n p.centre w.centre (ap (λ (q : Problem). q.centre) z) h)

-- ---- the cases of a call
module _ (s : List ℕ) (b : Parts) (z : parts_roomy b ≡ true) where
  pub handing_read : (p : Problem) → reading s ≡ Ok p → read_summary s b ≡ record { answer = Ok tt; parts = parts_of p }
  unfolding read_summary handed
  handing_read p e = rw (z, read_summary) (ap (λ (r : Reading). handed r b) e)

  -- buffers that were written from what was read
  pub handing_written : {p : Problem} {d : Parts} → Ok p ≡ reading s → d ≡ stored p →
      record { answer = Ok tt; parts = d } ≡ read_summary s b
  handing_written {p} {d} e g =
      ap (λ (x : Parts). record { answer = Ok tt; parts = x }) (g ∙ stored-parts p (reading-through s (sym e)))
      ∙ sym (handing_read p (sym e))

-- a call that is not refused: the file is accepted, and its problem is stored
pub record Stored (s : List ℕ) (d : Parts) : Type 0 where
  pub problem : Problem
  pub read : reading s ≡ Ok problem
  pub stored : d ≡ parts_of problem

module _ (s : List ℕ) (b : Parts) where
  abbrev Outcome : Handed → Type 0
  Outcome h = h.answer ≡ Ok tt → Stored s h.parts

  pub handing_stored : Outcome (read_summary s b)
  unfolding read_summary handed
  handing_stored = go (parts_roomy b) refl (reading s) refl
    where
      go : (z : Bool) → parts_roomy b ≡ z → (r : Reading) → reading s ≡ r → Outcome (read_summary s b)
      go false z r q = rw (z, read_summary) (λ e. cc e)
      go true z (Ok p) q = rw (z, read_summary, q, handed) (λ e. record { problem = p; read = q; stored = refl })
      go true z (Err r) q = rw (z, read_summary, q, handed) (λ e. cc e)

-- ---- the sizes of the buffers
pub record Roomy (b : Parts) : Type 0 where
  pub order : length b.order ≡ bytes w64
  pub low : length b.low ≡ table_room * bytes w64
  pub high : length b.high ≡ table_room * bytes w64
  pub from : length b.from ≡ greatest_order * bytes w64
  pub to : length b.to ≡ greatest_order * bytes w64
  pub limit : length b.limit ≡ bytes w64
  pub centre : length b.centre ≡ greatest_order * bytes w64

module _ (b : Parts) where
  abbrev lengths : Lengths
  lengths = lengths_of (length b.low) (length b.high) (length b.from) (length b.to)

  abbrev vector : ℕ
  vector = greatest_order * bytes w64

  abbrev bounds : Bool
  bounds = constraint_sized (record { table = table_room * bytes w64; vector = vector }) lengths

  abbrev order : Bool
  order = eqb (length b.order) (bytes w64)

  abbrev limit : Bool
  limit = eqb (length b.limit) (bytes w64)

  abbrev centre : Bool
  centre = eqb (length b.centre) vector

  pub roomy_of : parts_roomy b ≡ true → Roomy b
  unfolding roomy
  roomy_of e =
      let z = constraint_sizes-of _ lengths (and_left bounds (order && (limit && centre)) e) in
      let r = and_right bounds (order && (limit && centre)) e in
      let q = and_right order (limit && centre) r in
      record {
        order = eqb-true _ _ (and_left order (limit && centre) r);
        low = z.0;
        high = z.1;
        from = z.2;
        to = z.3;
        limit = eqb-true _ _ (and_left limit centre q);
        centre = eqb-true _ _ (and_right limit centre q);
      }
