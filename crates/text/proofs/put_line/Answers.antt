use mathlib.Core.Path.{◌≡◌}
use mathlib.Core.List.{List}
use Prim.Native.Nat.{ℕ, ◌≤◌, ◌<◌, ◌+◌, ◌-◌}
use native.Mathlib.Omega.{arith}
use lib.IntN.{ℤ}
use lib.ListN.{length, take, drop, length-drop}
use lib.Seq.{length-take-le}
use Rattle.std.proofs.lemmas.List.{get_or-take, get_or-drop}
use Rattle.tables.specs.Matrix.{nth}
use Rattle.text.specs.Text.{numbers, line}
use Rattle.text.proofs.Puts.{put_then}
use Rattle.text.proofs.SameLines.{numbers_ext}
use Rattle.text.proofs.put_line.Goals as goal

-- a part of x: how long it is, and its numbers
long : (x : List ℤ) (first count : ℕ) → first + count ≤ length x → length (take (first + count - first) (drop first x)) ≡ count
long x first count h =
    let e : first + count - first ≡ count = omega arith in
    rw e (length-take-le count (drop first x) (omega (arith, length-drop first x)))

part : (x : List ℤ) (first count : ℕ) →
    numbers (nth (take (first + count - first) (drop first x))) count ≡ numbers (λ k. nth x (first + k)) count
part x first count =
    numbers_ext _ _ count (λ k h. let l : k < first + count - first = omega arith in rw (get_or-take, get_or-drop))

pub returns : goal.returns
unfolding line
returns c =
    let a = c.args in
    let h : a.at ≤ length a.out.now = omega (arith, c.requires.0) in
    let p = rw (long a.x.now a.first a.count c.requires.1, part a.x.now a.first a.count) at c.put_numbers-next.ensures in
    put_then (put_then c.put_text-behind.ensures h p) h c.put.ensures
