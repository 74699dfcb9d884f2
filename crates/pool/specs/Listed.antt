-- The lists of a pool's problems, by what they point to.
use Rattle.std.specs.Prelude.{List}
use Rattle.pool.specs.Pool.{Problems}
use Rattle.pool.specs.declared.lists.Lists.{Lists}

abbrev pub problems_in : {A : Type 0} → Lists A → Problems (List A)
problems_in q = record { lows = q.lows.now; highs = q.highs.now; froms = q.froms.now; tos = q.tos.now; limits = q.limits.now }
