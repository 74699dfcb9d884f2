use mathlib.Core.Path.{◌≡◌, sym, ◌∙◌}
use mathlib.Core.List.{List}
use Prim.Native.Nat.{ℕ, ◌+◌, ◌-◌}
use native.Mathlib.Numerals.{add-one}
use native.Mathlib.Omega.{arith}
use lib.IntN.{pos}
use lib.ListN.{length, drop, length-drop}
use lib.Seq.{get_or-drop}
use mir.Syntax.{w64}
use Rattle.integers.proofs.Machine.{clean_result}
use Rattle.words.proofs.Laws.{length-numbers_of}
use Rattle.tables.proofs.Buffers.{copied_more}
use Rattle.bus.specs.Area.{run_numbers, area_of}
use Rattle.bus.proofs.Areas.{nth-area}
use Rattle.bus.proofs.area.load_part.Goals as goal

-- the numbers from `first` on
long : (s : List ℕ) (first : ℕ) → length (drop first (area_of s)) ≡ run_numbers - first
long s first = length-drop first (area_of s) ∙ rw (length-numbers_of w64 s run_numbers)

pub loop-i-preserved : goal.loop-i-preserved
loop-i-preserved c =
    let l = c.loop-i in
    let a = c.args in
    let x = drop a.first (area_of a.run.now) in
    let v =
    clean_result c.load_signed ∙ c.load_signed.ensures
    ∙ sym (get_or-drop a.first (area_of a.run.now) l.i (pos 0) ∙ nth-area a.run.now (a.first + l.i) (omega arith)) in
    rw (add-one, l.invariant, v) (copied_more x a.out.now l.i (omega (arith, long a.run.now a.first)) (omega arith))
