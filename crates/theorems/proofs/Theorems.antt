-- D3.1, D3.2, D3.5 and D3.6 of docs/RULES.md: each theorem for any order n and any take-off τ that suffices, and then for
-- the orders and the take-off of the rules.
use mathlib.Core.Path.{◌≡◌}
use mathlib.Core.Bool.{true}
use Prim.Native.Nat.{ℕ, ◌≤◌}
use lib.Dec.{T}
use lib.IntN.{ℤ}
use Rattle.tables.specs.Ranges.{greatest_order}
use Rattle.tables.specs.Matrix.{Matrix}
use Rattle.tables.specs.Members.{PositiveDefinite, MarginOf, Margin}
use Rattle.tables.specs.Bounds.{Bounds}
use Rattle.integers.proofs.Parts.{le_z_true}
use Rattle.tables.proofs.Checks.{of_true, and_of, all_of, within_true, same_true}
use Rattle.cholesky.specs.Scale.{take_off, scaled_by}
use Rattle.cholesky.specs.Factoring.{entries, factoring, factored}
use Rattle.residual.specs.Residual.{accepts}
use Rattle.residual.specs.FactorTest.{factor_shape}
use Rattle.cholesky.proofs.Factored.{Factored}
use Rattle.theorems.proofs.Accepted.{factored-accepted}
use Rattle.cholesky.proofs.ScaledMatrix.{Suffices, scaled_symmetric, scaled_top, take_off_suffices}
use Rattle.residual.proofs.Meaning.{entry_by, offered-definite}
use Rattle.cholesky.proofs.Columns.{columns-factored}
use Rattle.theorems.proofs.Margin.{Leaves, coercive_ends, margin_coercive, take_off_leaves}

module _ (n : ℕ) (R : Matrix) where
  -- the factor that factoring ends with passes
  pub factored_shape : (H : Matrix) → Factored n H R → T (factor_shape n R)
  unfolding factor_shape
  factored_shape H f =
      of_true (all_of _ n (λ i h. all_of _ n (λ j k.
      entry_by i j (R i j) (λ b. b ≡ true) (λ l. within_true (record { size = (f.off i j l k).small }))
      (λ e. rw e (and_of (le_z_true (f.on j k).one) (le_z_true (f.on j k).top))) (λ l. same_true (f.below i j l h)))))

-- ---- our factoring, for any order and any take-off that suffice
module _ (τ : ℤ) (n : ℕ) (L U : Matrix) (b : Bounds n L U) (s : Suffices τ n) where
  abbrev H : Matrix
  H = scaled_by τ n L U

  abbrev R : Matrix
  R = entries (factoring n H).columns

  module _ (t : T (factoring n H).ends) where
    ended : Factored n H R
    ended = columns-factored n H (scaled_top τ n L U b s) t

    -- D3.6: the factor passes check 6
    pub ends_shape : T (factor_shape n R)
    ends_shape = factored_shape n R H ended

    -- D3.6: the factor passes the residual test
    pub ends-accepted : T (accepts n R L U)
    ends-accepted = factored-accepted τ n L U b s R ended

    -- D3.2: where factoring ends, the bounds are positive definite
    pub ends-definite : PositiveDefinite n L U
    ends-definite = offered-definite n R L U ends_shape ends-accepted

  -- D3.5: bounds that have the margin are factored to the end,
  -- and its factor is accepted": for any margin that leaves enough after the take-off
  module _ {m k : ℕ} (l : Leaves τ m k n) (margin : MarginOf m k n L U) where
    pub margin-ends : T (factoring n H).ends
    margin-ends = coercive_ends n H (scaled_symmetric τ n L U b) (margin_coercive τ n L U l margin) (scaled_top τ n L U b s)

    pub margin-accepted : T (accepts n R L U)
    margin-accepted = ends-accepted margin-ends

-- ---- the same of the orders and the take-off of the rules, and of demand 3's margin
module _ (n : ℕ) (h : n ≤ greatest_order) (L U : Matrix) (b : Bounds n L U) where
  abbrev enough : Suffices (take_off n) n
  enough = take_off_suffices n h

  pub ends_shape_take_off : T (factored n L U).ends → T (factor_shape n (entries (factored n L U).columns))
  ends_shape_take_off = ends_shape (take_off n) n L U b enough

  pub ends-accepted-take_off : T (factored n L U).ends → T (accepts n (entries (factored n L U).columns) L U)
  ends-accepted-take_off = ends-accepted (take_off n) n L U b enough

  pub ends-definite-take_off : T (factored n L U).ends → PositiveDefinite n L U
  ends-definite-take_off = ends-definite (take_off n) n L U b enough

  pub margin-ends-take_off : Margin n L U → T (factored n L U).ends
  margin-ends-take_off = margin-ends (take_off n) n L U b enough (take_off_leaves n h)

  pub margin-accepted-take_off : Margin n L U → T (accepts n (entries (factored n L U).columns) L U)
  margin-accepted-take_off = margin-accepted (take_off n) n L U b enough (take_off_leaves n h)
