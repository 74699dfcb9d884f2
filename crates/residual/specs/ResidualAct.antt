-- The residual as an act, R7.5 and R7.6 of docs/RULES.md: checks 1 to 6, and then both of its tables.
use Rattle.std.specs.Prelude.{Bool, true, ◌&&◌, List, [], ◌∷◌, ℕ, ◌*◌, eqb, ℤ, length}
use Rattle.tables.specs.Matrix.{Matrix, at, table}
use Rattle.tables.specs.Checks.{Checked, first_refusal, order_of, sizes_ok}
use Rattle.tables.specs.Answers.{after}
use Rattle.tables.specs.Entering.{low_bounds, high_bounds, entered}
use Rattle.tables.specs.declared.Refusal.{Refusal}
use Rattle.std.specs.Prelude.{Ok, Err}
use Rattle.residual.specs.Residual.{residual}
use Rattle.residual.specs.FactorTest.{check_factor}

-- what the checks find, and both lent tables as they are left
pub record Tabled : Type 0 where
  pub checked : Checked
  pub low : List ℤ
  pub high : List ℤ

-- a refusal keeps both (D1.3)
abbrev pub kept : List ℤ → List ℤ → Refusal → Tabled
kept a b r = record { checked = Err r; low = a; high = b }

-- both tables, of a factor R of order n and bounds L and U
abbrev pub tables : ℕ → Matrix → Matrix → Matrix → Tabled
tables n L U R = record { checked = Ok tt; low = table n (residual n R L); high = table n (residual n R U) }

-- check 6, and then both; a and b are the lent tables as they were
unfoldable pub tabled : ℕ → Matrix → Matrix → Matrix → List ℤ → List ℤ → Tabled
tabled n L U R a b = after (kept a b) (first_refusal (check_factor n R ∷ [])) (tables n L U R)

-- the act, where check 2 finds `sized`
unfoldable pub tabling : ℤ → Bool → List ℤ → List ℤ → List ℤ → List ℤ → List ℤ → Tabled
tabling n sized l u f a b =
    let k : ℕ = order_of n in
    entered (kept a b) n sized true l u (tabled k (low_bounds k l) (high_bounds k u) (at k f) a b)

-- 2, R4.2: each lent table has the size that belongs to n
unfoldable pub residual_sizes : ℕ → ℕ → ℕ → ℕ → ℕ → ℕ → Bool
residual_sizes size l u f a b = sizes_ok size size l u f && (eqb a size && eqb b size)

-- the act, of anything at all, and lent tables that hold anything
unfoldable pub residual_act : ℤ → List ℤ → List ℤ → List ℤ → List ℤ → List ℤ → Tabled
residual_act n l u f a b =
    let k : ℕ = order_of n in
    tabling n (residual_sizes (k * k) (length l) (length u) (length f) (length a) (length b)) l u f a b
