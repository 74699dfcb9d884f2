-- An answer by its number at a C entry.
use mathlib.Core.Path.{◌≡◌, refl, ap}
use native.Mathlib.Omega.{arith}
use lib.IntN.{pos, negsuc, nat_abs}
use Rattle.std.specs.Prelude.{Result, Ok, Err}
use Rattle.tables.specs.Refusals.{refusal_number}
use Rattle.tables.specs.declared.Refusal.{Refusal}
use Rattle.tables.proofs.Answers.{refusal_positive}
use Rattle.enclosure.specs.Act.{box_code}
use Rattle.enclosure.specs.declared.enclose.BoxAnswer.{BoxAnswer}

pub code_sides : (w : Result BoxAnswer Refusal) → box_code w ≡ pos 0 → w ≡ Ok BoxAnswer.Sides
code_sides (Ok BoxAnswer.Sides) e = refl
code_sides (Ok BoxAnswer.Empty) e = cc
code_sides (Err r) e = let h = refusal_positive r in let z : refusal_number r ≡ 0 = ap nat_abs e in absurd (omega arith)

pub code_empty : (w : Result BoxAnswer Refusal) → box_code w ≡ negsuc 0 → w ≡ Ok BoxAnswer.Empty
code_empty (Ok BoxAnswer.Sides) e = cc
code_empty (Ok BoxAnswer.Empty) e = refl
code_empty (Err r) e = cc
