-- One share.
use mathlib.Core.Path.{ap}
use mathlib.Core.List.{[], ◌∷◌}
use Rattle.lookahead.specs.declared.least.Share.{Share}
use Rattle.lookahead.specs.LeastSums.{shares_after}
use Rattle.lookahead.proofs.least.ShareShares.after.Goals as goal

pub returns : goal.returns
unfolding shares_after
returns c = ap (λ (a : Share). a ∷ []) c.share_after.ensures
