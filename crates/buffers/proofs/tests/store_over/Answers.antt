-- What the answer carries, in the buffer.
use mathlib.Core.Path.{◌≡◌, refl, ◌∙◌}
use mathlib.Core.List.{List}
use Prim.Native.Nat.{ℕ}
use Rattle.std.specs.Prelude.{Ok}
use Rattle.integers.proofs.Machine.{clean_element}
use Rattle.residual.specs.FactorTest.{carried}
use Rattle.residual.specs.declared.factor_test.FactorAnswer.{FactorAnswer}
use Rattle.buffers.specs.Buffers.{bytes_of_number, stored_over}
use Rattle.buffers.proofs.Stores.{number-stored}
use Rattle.buffers.proofs.tests.store_over.Goals as goal

carried-stored : (a : FactorAnswer) (o : List ℕ) → bytes_of_number (carried a) ≡ (stored_over (Ok a) o).over
carried-stored (FactorAnswer.Accepted v) o = refl
carried-stored (FactorAnswer.NotAccepted v) o = refl

pub returns : goal.returns
returns c =
    let f = clean_element c.over.result c.over.type_inv ∙ c.over.ensures in
    number-stored c.args.over.now c.requires f c.store_signed.ensures ∙ carried-stored c.args.answer c.args.over.now
