-- The door, with what it found, for the order in register 6, which is a byte.
use mathlib.Core.Path.{◌≡◌, sym, ap, ap₂, ◌∙◌}
use mathlib.Core.Bool.{true}
use mathlib.Core.List.{List}
use Prim.Native.Nat.{ℕ, ◌<◌}
use native.Mathlib.Omega.{arith}
use lib.IntN.{ℤ, pos}
use mir.Syntax.{w64}
use mir.Val.{to_z}
use Rattle.std.specs.Prelude.{Ok, Err}
use Rattle.integers.proofs.Machine.{fits, read_i64}
use Rattle.words.proofs.Laws.{length-numbers_of}
use Rattle.tables.specs.Checks.{Checked, order_of}
use Rattle.tables.specs.Answers.{after}
use Rattle.tables.specs.Entering.{entered}
use Rattle.tables.specs.declared.Refusal.{Refusal}
use Rattle.tables.proofs.Answers.{after-passed, after_ok}
use Rattle.buffers.specs.Buffers.{table_of}
use Rattle.bus.specs.Registers.{order, register, refused_block}
use Rattle.bus.specs.Running.{Bus}
use Rattle.bus.specs.Bus.{tables_sized, refused_start, begun_start, started}
use Rattle.bus.specs.Required.{admitted}
use Rattle.bus.proofs.Begun.{held_low, held_high}
use Rattle.bus.proofs.starting.start.Goals as goal

abbrev bus : List ℕ → List ℕ → Bus
bus b r = record { block = b; run = r }

-- a byte, read as a signed number
byte-read : (b : List ℕ) → register b order < 256 → to_z w64 (register b order) ≡ pos (register b order)
byte-read b h = read_i64 (register b order) (omega (arith, h))

-- ---- what the checks of a start answer, and what is made of it
after_err : {A B : Type 0} (f : Refusal → A) (a : A) (b : B) {e : Refusal} (k : Checked) → Err e ≡ after Err k (Ok b) → f e ≡ after f k a
unfolding after
after_err f a b (Ok _) q = cc
after_err f a b (Err r) q = cc

module _ (n : ℤ) (l u : List ℕ) {A : Type 0} (f : Refusal → A) (a : A) where
  abbrev made : A
  made = let k : ℕ = order_of n in entered f n (tables_sized k l u) true (table_of k l) (table_of k u) a

  admitted-order : {m : ℕ} → Ok m ≡ admitted n l u → (order_of n ≡ m) × (a ≡ made)
  unfolding admitted entered
  admitted-order q = let z = after_ok _ _ _ (sym q) in (z.1, after-passed f a z.0)

  admitted-refusal : {e : Refusal} → Err e ≡ admitted n l u → f e ≡ made
  unfolding admitted entered
  admitted-refusal q = after_err f a _ _ q

pub overflow_cast-n : goal.overflow_cast-n
overflow_cast-n c = fits (omega (arith, c.type_inv.block order))

pub begin-requires : goal.begin-requires
begin-requires c = c.requires.1

pub returns-in-Ok : goal.returns-in-Ok
unfolding started refused_start begun_start
returns-in-Ok c =
    let b = c.args.block.now in
    let n = byte-read b (omega (arith, c.slice_known-3-1.given order)) in
    let h = c.in-Ok.ensures.held in
    let o = admitted-order _ _ _ (refused_start b) (begun_start b _ _ _) (rw n at c.in-Ok.ensures.answer) in
    let begun = rw (held_low h (length-numbers_of w64 _ _), held_high h (length-numbers_of w64 _ _), sym o.0) at c.begin.ensures in
    ap₂ bus c.start.ensures begun ∙ o.1

pub returns-in-Err : goal.returns-in-Err
unfolding started refused_start begun_start
returns-in-Err c =
    let b = c.args.block.now in
    let n = byte-read b (omega (arith, c.slice_known-3-1.given order)) in
    ap₂ bus (c.refuse.ensures ∙ ap (λ (m : ℕ). refused_block m b) c.number.ensures) c.blank.ensures
    ∙ admitted-refusal _ _ _ (refused_start b) _ (rw n at c.in-Err.ensures.answer)
