-- The first share, and the others.
use mathlib.Core.Path.{ap₂}
use mathlib.Core.List.{List, ◌∷◌}
use native.Mathlib.Numerals.{add-one}
use Rattle.lookahead.specs.declared.least.Share.{Share}
use Rattle.lookahead.specs.LeastSums.{shares_after}
use Rattle.lookahead.proofs.least.SeveralShares.after.Goals as goal

pub returns : goal.returns
unfolding shares_after
returns g c = ap₂ (λ (a : Share) (l : List Share). a ∷ l) c.share_after-first.ensures (rw add-one at c.after-rest.ensures)
