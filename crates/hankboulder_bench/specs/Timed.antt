-- What the entry that is timed answers: the refusal's number, or whether factoring ends.
use Rattle.std.specs.Prelude.{Bool, true, List, ℕ, ◌*◌, length, ℤ, Result, Ok, Err}
use Rattle.tables.specs.Checks.{order_of, sizes_ok}
use Rattle.tables.specs.Entering.{low_bounds, high_bounds, entered}
use Rattle.tables.specs.declared.Refusal.{Refusal}
use Rattle.cholesky.specs.Factoring.{factored}

-- checks 1 to 5, and then whether factoring ends
unfoldable pub factoring : ℤ → List ℤ → List ℤ → Result Bool Refusal
factoring n l u =
    let k : ℕ = order_of n in
    entered Err n (sizes_ok (k * k) (k * k) (length l) (length u) (length u)) true l u
    (Ok (factored k (low_bounds k l) (high_bounds k u)).ends)
