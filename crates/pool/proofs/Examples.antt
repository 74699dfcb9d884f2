-- W61 to W71 of docs/RULES.md: sums halved and problems pooled by the definitions, beside what was worked out apart from them.
use mathlib.Core.Path.{◌≡◌, refl}
use mathlib.Core.List.{List, [], ◌∷◌}
use lib.IntN.{ℤ, pos, negsuc}
use Rattle.integers.specs.Numbers.{min_ℤ, max_ℤ}
use Rattle.integers.specs.Division.{floor_div, ceil_div}
use Rattle.tables.specs.Matrix.{at, table, tabulate}
use Rattle.tables.specs.Mending.{mended_by}
use Rattle.tables.specs.Checks.{Checked, all, first_refusal, order_ok, order_of, sizes_ok, within, all_within, linear_within, tables_within, nowhere_crossed, same, bounds_checks, ends_checks}
use Rattle.tables.specs.Answers.{after}
use Rattle.tables.specs.Problem.{constraint_of, constraint_sized}
use Rattle.tables.specs.declared.Refusal.{Refusal}
use Rattle.tables.specs.declared.Refusal.TheVariants as Refused
use Rattle.tables.specs.declared.problem.Constraint.{Constraint}
use Rattle.sums.specs.Sums.{plus, sums_within}
use Rattle.sums.specs.Halving.{halved, added_in, fitted}
use Rattle.sums.specs.Lent.{Lent}
use Rattle.std.specs.Prelude.{Ok, Err}
use Rattle.pool.specs.Pool.{count_of, Problems, orders_ok, orders_same, of_both, pool_checks, added_next, pooled, checked_pool, pooling}
use Rattle.pool.specs.Act.{pool_sized, pool_act, pool}

-- ---- W61, W62
abbrev one : ℤ → ℤ → ℤ → ℤ → ℤ → Constraint
one l u a b α = constraint_of 1 (l ∷ []) (u ∷ []) (a ∷ []) (b ∷ []) α

halves :
    (halved (one (negsuc 2) (pos 3) (negsuc 4) (pos 5) (pos 7)) ≡ one (negsuc 1) (pos 2) (negsuc 2) (pos 3) (pos 4))
    × (halved (one (negsuc 0) (negsuc 0) (negsuc 0) (negsuc 0) (negsuc 6)) ≡ one (negsuc 0) (pos 0) (negsuc 0) (pos 0) (negsuc 2))
unfolding halved floor_div ceil_div tabulate
halves = (refl, refl)

-- ---- W63 to W71
abbrev sums : List ℤ → List ℤ → List ℤ → List ℤ → List ℤ → Lent (List ℤ)
sums l u a b α = record { low = l; high = u; from = a; to = b; limit = α }

abbrev problems : List ℤ → List ℤ → List ℤ → List ℤ → List ℤ → Problems (List ℤ)
problems l u a b α = record { lows = l; highs = u; froms = a; tos = b; limits = α }

-- the act leaves the sums c, or it refuses and leaves b
abbrev Leaves : ℤ → List ℤ → Problems (List ℤ) → Lent (List ℤ) → Checked → Lent (List ℤ) → Type 0
Leaves n orders q b r c = pool n orders q b ≡ record { answer = r; sums = c }

-- sums and problems of order 1: no linear term, and no limit
abbrev alone : ℤ → Lent (List ℤ)
alone l = sums (l ∷ []) (l ∷ []) (pos 0 ∷ []) (pos 0 ∷ []) (pos 0 ∷ [])

abbrev zeros : List ℤ
zeros = pos 0 ∷ pos 0 ∷ []

abbrev pair : ℤ → ℤ → Problems (List ℤ)
pair l m = problems (l ∷ m ∷ []) (l ∷ m ∷ []) zeros zeros zeros

abbrev ones : List ℤ
ones = pos 1 ∷ pos 1 ∷ []

abbrev Refuses : ℤ → List ℤ → Problems (List ℤ) → Lent (List ℤ) → Refusal → Type 0
Refuses n orders q b r = Leaves n orders q b (Err r) b

-- W63 to W67, with sums and problems of order 1; W68; and the refusals of W69, W70 and W71
worked :
    Leaves (pos 1) ones (problems (pos 4 ∷ pos 4 ∷ []) (pos 4 ∷ pos 4 ∷ []) (negsuc 7 ∷ negsuc 7 ∷ []) (negsuc 7 ∷ negsuc 7 ∷ []) ones)
    (alone (pos 0))
    (Ok tt) (sums (pos 8 ∷ []) (pos 8 ∷ []) (negsuc 15 ∷ []) (negsuc 15 ∷ []) (pos 2 ∷ []))
    × Leaves (pos 1) (pos 1 ∷ []) (problems (pos 1 ∷ []) (pos 1 ∷ []) (pos 0 ∷ []) (pos 0 ∷ []) (pos 1 ∷ []))
    (sums (pos 1048576 ∷ []) (pos 1048576 ∷ []) (negsuc 0 ∷ []) (pos 1 ∷ []) (pos 3 ∷ []))
    (Ok tt) (sums (pos 524289 ∷ []) (pos 524289 ∷ []) (negsuc 0 ∷ []) (pos 1 ∷ []) (pos 3 ∷ []))
    × Refuses (pos 1) (pos 1 ∷ []) (problems (pos 1048576 ∷ []) (pos 1048576 ∷ []) (pos 0 ∷ []) (pos 0 ∷ []) (pos 0 ∷ []))
    (alone (pos 1048576)) Refused.Full
    × Refuses (pos 1) ones (pair (pos 1) (pos 1048576)) (alone (pos 1048576)) Refused.Full
    × Leaves (pos 1) ones (pair (pos 524288) (pos 1)) (alone (pos 1048576)) (Ok tt) (alone (pos 524289))
    × Leaves (pos 2) (pos 2 ∷ []) (problems (pos 2 ∷ pos 1 ∷ pos 0 ∷ pos 2 ∷ []) (pos 3 ∷ pos 2 ∷ pos 3 ∷ pos 3 ∷ []) zeros zeros
    (pos 0 ∷ []))
    (sums (pos 0 ∷ pos 0 ∷ negsuc 0 ∷ pos 0 ∷ []) (pos 0 ∷ pos 2 ∷ pos 1 ∷ pos 0 ∷ []) zeros zeros (pos 0 ∷ []))
    (Ok tt) (sums (pos 2 ∷ pos 1 ∷ pos 1 ∷ pos 2 ∷ []) (pos 3 ∷ pos 3 ∷ pos 3 ∷ pos 3 ∷ []) zeros zeros (pos 0 ∷ []))
    × Refuses (pos 1) (pos 1 ∷ pos 9 ∷ []) (pair (pos 0) (pos 0)) (alone (pos 0)) Refused.Order
    × Refuses (pos 1) (pos 1 ∷ pos 2 ∷ []) (pair (pos 0) (pos 0)) (alone (pos 0)) Refused.Length
    × Refuses (pos 1) (tabulate 65 (λ k. pos 9)) (pair (pos 0) (pos 0)) (alone (pos 0)) Refused.Length
    × Refuses (pos 1) ones (problems (pos 2 ∷ pos 1048577 ∷ []) (pos 1 ∷ pos 1048577 ∷ []) zeros zeros zeros) (alone (pos 0)) Refused.Range
unfolding pool pool_act pool_sized pooling checked_pool pooled added_next pool_checks of_both orders_ok orders_same count_of halved added_in fitted plus sums_within
    after first_refusal bounds_checks ends_checks constraint_sized sizes_ok order_ok order_of same within all_within linear_within tables_within nowhere_crossed
    mended_by all at table tabulate floor_div ceil_div min_ℤ max_ℤ
worked = (refl, refl, refl, refl, refl, refl, refl, refl, refl, refl)
