-- By the decision.
use mathlib.Core.Path.{◌∙◌}
use native.Mathlib.Omega.{arith}
use Rattle.integers.proofs.Machine.{clean_element}
use Rattle.tables.proofs.Matrix.{table_fits}
use Rattle.tables.proofs.Buffers.{stored-whole}
use Rattle.verdict.specs.Judge.{stored}
use Rattle.verdict.specs.Deciding.{stated}
use Rattle.verdict.specs.declared.judge.Decision.{Decision}
use Rattle.verdict.proofs.Decisions.{made_of}
use Rattle.verdict.proofs.judge.judge_bounds.Goals as goal

pub decide-requires : goal.decide-requires
decide-requires g c = let p = c.requires in (p.0, p.1, p.2, table_fits p.0.order)

pub returns-in-Definite : goal.returns-in-Definite
unfolding stated
returns-in-Definite g c =
    let d = c.decide.ensures in
    let e = clean_element c.in-Definite.over (omega arith) in
    let fits = table_fits c.requires.0.order in
    let t = c.store.ensures ∙ stored-whole g.E.Element.elements _ _ (omega (arith, fits, d.room)) c.requires.3 in
    rw (e, t) (made_of (λ j. stored g.E.Element.elements c.args.n j c.args.factor.now c.args.vector.now) d (Decision.Definite _) c.in-Definite.is)

pub returns-in-NotDefinite : goal.returns-in-NotDefinite
unfolding stated
returns-in-NotDefinite g c =
    let x = c.store-in-NotDefinite.ensures ∙ stored-whole g.E.Element.elements _ _ (omega (arith, c.requires.0.order)) c.requires.4 in
    rw x (made_of (λ j. stored g.E.Element.elements c.args.n j c.args.factor.now c.args.vector.now) c.decide.ensures (Decision.NotDefinite _) c.in-NotDefinite.is)

pub returns-in-Undecided : goal.returns-in-Undecided
unfolding stated
returns-in-Undecided g c =
    made_of (λ j. stored g.E.Element.elements c.args.n j c.args.factor.now c.args.vector.now) c.decide.ensures Decision.Undecided c.in-Undecided.is
