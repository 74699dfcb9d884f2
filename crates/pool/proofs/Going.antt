-- What a loop through the problems keeps, and one problem more of it.
use mathlib.Core.Path.{◌≡◌, sym, ap, ◌∙◌}
use Prim.Native.Nat.{ℕ, ◌+◌, ◌*◌}
use native.Mathlib.Omega.{arith}
use native.Mathlib.Numerals.{add-one}
use Rattle.tables.specs.Checks.{Checked}
use Rattle.tables.specs.declared.problem.Constraint.{Constraint}
use Rattle.sums.specs.Running.{sums_in, stated_in, Leaving, SamePlace}
use Rattle.sums.specs.declared.running.SumsMut.{SumsMut}
use Rattle.sums.proofs.Fronts.{length_front}
use Rattle.sums.proofs.Laying.{stated_by}
use Rattle.pool.specs.Pool.{checked_pool}
use Rattle.pool.specs.Passing.{next, passing}
use Rattle.pool.specs.Required.{ReadyFor}
use Rattle.pool.proofs.Passing.{passing_is, passing_ready}

-- the order and the slices are the same, whatever their lengths
pub record SameSlices (s t : SumsMut) : Type 0 where
  pub order : t.order ≡ s.order
  pub low : t.low.ghost_name ≡ s.low.ghost_name
  pub high : t.high.ghost_name ≡ s.high.ghost_name
  pub from : t.from.ghost_name ≡ s.from.ghost_name
  pub to : t.to.ghost_name ≡ s.to.ghost_name

-- ---- the loop began with the answer d₀ and the sums at s₀, and went through k problems: whatever sums the pass began with
pub record Going (p : ℕ → Constraint) (d₀ : Checked) (s₀ : SumsMut) (k : ℕ) (d : Checked) (s : SumsMut) : Type 0 where
  pub place : SameSlices s₀ s
  pub passed : (c : Constraint) → Leaving (passing c p 0) d₀ s₀ → Leaving (passing c p k) d s

module _ {p : ℕ → Constraint} {d₀ : Checked} {s₀ : SumsMut} {k : ℕ} {d : Checked} {s : SumsMut} (g : Going p d₀ s₀ k d s) where
  pub going_next : {q : Constraint} {r : Checked} {t : SumsMut} → q ≡ p k → SameSlices s t → Leaving (next q (stated_in d s)) r t →
      Going p d₀ s₀ (k + 1) r t
  unfolding passing
  going_next e w st = record {
    place = record {
      order = w.order ∙ g.place.order;
      low = w.low ∙ g.place.low;
      high = w.high ∙ g.place.high;
      from = w.from ∙ g.place.from;
      to = w.to ∙ g.place.to;
    };
    passed = λ c f. rw add-one
        (stated_by
        (ap (λ (q : Constraint). next q (stated_in d s)) e ∙ ap (next (p k)) (sym (g.passed c f).outcome))
        st);
  }

  -- the pass began with the sums at x
  module _ (x : SumsMut) (o : Leaving (passing (sums_in x) p 0) d₀ s₀) where
    pub stands : Leaving (passing (sums_in x) p k) d s
    stands = g.passed (sums_in x) o

    pub going_ready : ReadyFor d s
    going_ready =
        passing_ready (sums_in x) p k s (omega (arith, length_front (x.order * x.order) x.low.now))
        (omega (arith, length_front (x.order * x.order) x.high.now))
        stands

    -- all of them
    pub going_whole : {m : ℕ} → k ≡ m → Leaving (checked_pool (sums_in x) p m) d s
    going_whole {m} e = let c = sums_in x in stated_by (ap (passing c p) e ∙ passing_is c p m) stands

-- ---- the same, and each slice keeps its length
pub record GoingInPlace (p : ℕ → Constraint) (d₀ : Checked) (s₀ : SumsMut) (k : ℕ) (d : Checked) (s : SumsMut) : Type 0 where
  pub place : SamePlace s₀ s
  pub passed : (c : Constraint) → Leaving (passing c p 0) d₀ s₀ → Leaving (passing c p k) d s

pub slices_of : {s t : SumsMut} → SamePlace s t → SameSlices s t
slices_of w = record { order = w.order; low = w.low; high = w.high; from = w.from; to = w.to }

module _ {p : ℕ → Constraint} {d₀ : Checked} {s₀ : SumsMut} {k : ℕ} {d : Checked} {s : SumsMut} (g : GoingInPlace p d₀ s₀ k d s) where
  pub going : Going p d₀ s₀ k d s
  going = record { place = slices_of g.place; passed = g.passed }

  pub in_place_next : {q : Constraint} {r : Checked} {t : SumsMut} → q ≡ p k → SamePlace s t → Leaving (next q (stated_in d s)) r t →
      GoingInPlace p d₀ s₀ (k + 1) r t
  in_place_next e w st =
      let n = going_next going e (slices_of w) st in
      record {
        place = record {
          order = n.place.order;
          low = n.place.low;
          high = n.place.high;
          from = n.place.from;
          to = n.place.to;
          low_size = w.low_size ∙ g.place.low_size;
          high_size = w.high_size ∙ g.place.high_size;
          from_size = w.from_size ∙ g.place.from_size;
          to_size = w.to_size ∙ g.place.to_size;
        };
        passed = n.passed;
      }
