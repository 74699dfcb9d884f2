use Rattle.std.proofs.Common.{◌≡◌, sym, ◌∙◌, rules, arith}
use Rattle.fields.proofs.Parts.{walked_inside, layout_is}
use Rattle.summary.specs.Problems.{reading, read_walked}
use Rattle.summary.proofs.RoundTrip.{reading-means}
use Rattle.summary.proofs.problem.read.Goals as goal

pub read_in-requires : goal.read_in-requires
read_in-requires c = rw (layout_is _ (sym c.walk.ensures ∙ c.in_ok-layout.was)) at (walked_inside c.args.file.now)

-- what a reading of bytes means
pub returns-clause-meaning : goal.returns-clause-meaning
unfolding reading read_walked
returns-clause-meaning c =
    let e : c.read_in.result ≡ reading c.args.file.now = search rules in
    rw e (reading-means c.args.file.now (record { each = λ j. omega (arith, c.type_inv.file j) }))
