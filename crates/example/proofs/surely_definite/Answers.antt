-- Where the answer is true the judge's is 'definite', and its meaning says the rest.
use mathlib.Core.Path.{ap, ◌∙◌}
use Rattle.std.specs.Prelude.{Ok}
use Rattle.tables.specs.Checks.{order_ok, order_of}
use Rattle.example.proofs.surely_definite.Goals as goal

pub returns-in-Definite : goal.returns-in-Definite
unfolding order_ok order_of
returns-in-Definite c e = c.judge-verdict.ensures.meaning.definite _ (c.in-Ok.is ∙ ap Ok c.in-Definite.is)
