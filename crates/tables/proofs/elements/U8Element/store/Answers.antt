use mir.Syntax.{w64}
use Rattle.tables.proofs.Spelled.{bytes_of_front}
use Rattle.tables.proofs.elements.U8Element.store.Goals as goal

pub returns : goal.returns
returns c = rw (← bytes_of_front w64 c.args.x.now c.args.count) c.store_numbers.ensures
