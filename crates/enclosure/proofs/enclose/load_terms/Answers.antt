use mathlib.Core.Path.{refl}
use Rattle.tables.specs.Ranges.{greatest_order}
use Rattle.tables.proofs.Admission.{loaded, loaded_room, padded-nth}
use Rattle.enclosure.proofs.enclose.load_terms.Goals as goal

pub returns-then-sized : goal.returns-then-sized
returns-then-sized g c =
    let x = g.E.Element.numbers c.args.from.now c.args.n in
    let whole = g.E.Element.laws.numbers_whole _ _ (c.requires.1 c.if-sized.true) in
    record {
      size = loaded_room greatest_order x refl whole c.requires.0 c.load.ensures;
      numbers = λ s. padded-nth (loaded greatest_order x refl whole c.requires.0 c.load.ensures);
    }
