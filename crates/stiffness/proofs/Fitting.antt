-- What a bracket hands out is in its range: step and bound within n·2^20, and the vector has n entries, each 0, 1 or -1.
use mathlib.Core.Path.{◌≡◌, refl, sym, subst}
use mathlib.Core.Bool.{Bool, true}
use mathlib.Core.List.{List, [], ◌∷◌, Memᴰ}
use mathlib.Core.Option.{Option, none, some}
use Prim.Native.Nat.{ℕ, ◌*◌, ◌<◌}
use native.Mathlib.Omega.{arith}
use lib.IntN.{ℤ, pos, neg_ℤ}
use lib.Signed.{◌≤ℤ◌}
use borrow.Table.Steps.{cases}
use Rattle.integers.specs.Numbers.{Within}
use Rattle.integers.proofs.Parts.{≤ℤ_trans, pos_nonneg}
use Rattle.integers.proofs.Order.{<-≤}
use Rattle.integers.proofs.Solver.{◌&◌, order, solver}
use Rattle.integers.proofs.Machine.{within_more, within_in, within-high, fits_within}
use Rattle.tables.specs.Elements.{BuffersWhole}
use Rattle.tables.specs.Ranges.{entry_range}
use Rattle.tables.specs.Matrix.{Matrix, nth}
use Rattle.tables.specs.Bounds.{Bounds}
use Rattle.tables.specs.Checks.{order_of}
use Rattle.tables.specs.Entering.{low_bounds, high_bounds}
use Rattle.tables.proofs.Buffers.{Small}
use Rattle.tables.proofs.Checks.{passed-bounds}
use Rattle.tables.proofs.Admission.{order-positive, entered-means}
use Rattle.cholesky.specs.Factoring.{factored}
use Rattle.tried.specs.Tried.{tried}
use Rattle.tried.proofs.TriedVectors.{every_at, tried-sized}
use Rattle.stiffness.specs.Bracket.{Bracketing, between, at_most, refused, least_bound, first_under, bracketed, bracketing}
use Rattle.stiffness.specs.Bracket.{written, stored, Meaning}
use Rattle.stiffness.proofs.Quotients.{under-parts, quotient-low, first_found, some_under, bound_attained, bound-≤}
use Rattle.stiffness.proofs.Meanings.{bracketed-ends, bracketed_stops, bracketing-means}

abbrev pub Fitting : ℕ → Bracketing → Type 0
Fitting n (between t v x) = Within (n * entry_range) t × Within (n * entry_range) v × Small n 1 x
Fitting n (at_most v x) = Within (n * entry_range) v × Small n 1 x
Fitting n (refused r) = Unit {0}

-- the bound alone
abbrev BoundFits : ℕ → Bracketing → Type 0
BoundFits n (between t v x) = Within (n * entry_range) v
BoundFits n (at_most v x) = Within (n * entry_range) v
BoundFits n (refused r) = Unit {0}

-- ---- v is from -n·2^20 to L(1,1)
module _ (n : ℕ) (L U : Matrix) (b : Bounds n L U) (o : 0 < n) where
  bound-low : neg_ℤ (pos (n * entry_range)) ≤ℤ least_bound n L U
  bound-low = let a = bound_attained n L U o in rw (← a.is) (quotient-low n L U (nth a.vector) b a.differs)

  bound-high : least_bound n L U ≤ℤ L 0 0
  bound-high = go (first_under n L U (L 0 0)) refl
    where
      go : (q : Option (List ℤ)) → first_under n L U (L 0 0) ≡ q → least_bound n L U ≤ℤ L 0 0
      go (some y) e =
          let f = first_found n L U (L 0 0) y e in
          let p = under-parts n L U (nth y) (L 0 0) f.1 in
          ≤ℤ_trans (bound-≤ n L U o y f.0 p.0) p.1
      go none e = absurd (some_under n L U o e)

  bound-within : Within (n * entry_range) (least_bound n L U)
  bound-within =
      let w : Within entry_range (L 0 0) = record { size = b.low_range 0 0 o o } in
      within_in bound-low (≤ℤ_trans bound-high (within-high (within_more (omega arith) w)))

  bracketed-bound : BoundFits n (bracketed n L U)
  bracketed-bound =
      cases (factored n L U).ends
      (λ e. subst (BoundFits n) (sym (bracketed-ends n L U e)) bound-within)
      (λ e. subst (BoundFits n) (sym (bracketed_stops n L U e)) bound-within)

module _ (n : ℤ) (sized : Bool) (l u : List ℤ) where
  abbrev k : ℕ
  k = order_of n

  bracketing-bound : BoundFits k (bracketing n sized l u)
  unfolding bracketing
  bracketing-bound =
      entered-means n sized true l u refused _ (BoundFits k) (λ r. tt)
      (λ b. bracketed-bound k (low_bounds k l) (high_bounds k u) (passed-bounds k l u b.tables) (order-positive n b.ordered))

  vector-small : (x : List ℤ) → Memᴰ x (tried k) → Small k 1 x
  vector-small x m = every_at (Small k 1) (tried k) (tried-sized 1 (omega arith) k) x m

  -- the step is 0 or more, and less than the bound
  pub bracketing_fitting : Fitting k (bracketing n sized l u)
  bracketing_fitting = go (bracketing n sized l u) bracketing-bound (bracketing-means n sized l u [])
    where
      go : (g : Bracketing) → BoundFits k g → (let j = written g [] in Meaning n l u j.stiffness j.vector) → Fitting k g
      go (between t v x) w m = (step-within, w, vector-small x (m.from_list v refl))
        where
          step-within : Within (k * entry_range) t
          step-within =
              let most = pos (k * entry_range) in
              let given = m.nonneg t refl & pos_nonneg (k * entry_range) in
              within_in (order (t ∷ most ∷ []) given (search solver depth 40 fits 20000) (omega arith))
              (≤ℤ_trans (<-≤ (m.ordered t v refl refl)) (within-high w))
      go (at_most v x) w m = (w, vector-small x (m.from_list v refl))
      go (refused r) w m = tt

  -- ---- of buffers: the numbers that are stored are read back
  module _ {A : Type 0} {taken : ℕ → ℕ} {numbers : List A → ℕ → List ℤ} {elements : List ℤ → ℕ → List A} where
    module _ (laws : BuffersWhole taken numbers elements) (y : List A) where
      abbrev Stored : Bracketing → Type 0
      Stored g = let j = stored elements k g y in Meaning n l u j.stiffness (numbers j.vector k)

      read_back : (x : List ℤ) → Small k 1 x → numbers (elements x k) k ≡ x
      read_back x s = laws.read_back x k s.size (λ i. fits_within (s.small i) (omega arith))

      stored-means : (g : Bracketing) → Fitting k g → (let j = written g (numbers y k) in Meaning n l u j.stiffness j.vector) → Stored g
      stored-means (between t v x) f m = rw (read_back x f.2) m
      stored-means (at_most v x) f m = rw (read_back x f.1) m
      stored-means (refused r) f m = m

      pub act-means : Stored (bracketing n sized l u)
      act-means = stored-means (bracketing n sized l u) bracketing_fitting (bracketing-means n sized l u (numbers y k))
