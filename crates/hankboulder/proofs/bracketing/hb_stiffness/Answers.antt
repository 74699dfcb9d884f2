use mathlib.Core.Path.{ap}
use Rattle.integers.proofs.Machine.{clean, clean_element}
use Rattle.tables.proofs.Answers.{exactly}
use Rattle.stiffness.specs.Bracket.{bracket_code}
use Rattle.stiffness_buffers.specs.StiffnessBuffers.{StoredStiffness}
use Rattle.hankboulder.specs.Entries.{StiffnessResult, stiffness_stored, stiffness_entry}
use Rattle.hankboulder.specs.Meanings.{StiffnessMeaning}
use Rattle.hankboulder.proofs.StiffnessBracketed.{stiffness_means}
use Rattle.hankboulder.proofs.bracketing.hb_stiffness.Goals as goal

-- an answer's number, and the buffers
abbrev numbered : StoredStiffness → StiffnessResult
numbered j = record { number = bracket_code j.stiffness; step = j.step; bound = j.bound; vector = j.vector }

pub returns : goal.returns
unfolding stiffness_entry stiffness_stored
returns c =
    let a = c.args in
    exactly (λ (j : StiffnessResult). StiffnessMeaning a.n a.low.now a.high.now j.number j.step j.bound j.vector)
    (stiffness_means a.n a.low.now a.high.now a.step.now a.bound.now a.vector.now) _
    (rw (clean_element c.answer_code.result c.answer_code.type_inv, c.answer_code.ensures)
    (ap numbered (rw (clean c.ranges.n) at c.bracket.ensures)))
