use mathlib.Core.Path.{refl, ◌∙◌}
use native.Mathlib.Omega.{arith}
use Rattle.integers.proofs.Machine.{clean_element}
use Rattle.samples.specs.Samples.{factor_count}
use Rattle.sums.specs.Required.{Rooms}
use Rattle.tables.proofs.Buffers.{stored-whole}
use Rattle.rides.proofs.Held.{stored-one}
use Rattle.rides.proofs.gather.store_sample.Goals as goal

pub returns : goal.returns
returns g c =
    let a = c.args in
    let q = a.sums.now in
    let z = c.requires.2 in
    let e = g.E.Element.elements in
    let r : Rooms factor_count q.low.now q.high.now q.from.now q.to.now = rw c.requires.0 at c.requires.1.1 in
    rw c.requires.0
    (rw (
      c.store.ensures ∙ stored-whole e q.low.now a.low.now r.low z.low,
      c.store-2.ensures ∙ stored-whole e q.high.now a.high.now r.high z.high,
      c.store-3.ensures ∙ stored-whole e q.from.now a.from.now r.linear_low z.linear_low,
      c.store-4.ensures ∙ stored-whole e q.to.now a.to.now r.linear_high z.linear_high,
      c.store-5.ensures ∙ stored-one e a.limit.now z.limit (clean_element q.limit (omega arith)),
    ) refl)
