-- The steps of single entries as they are stored: first 0 for each, then one after the other.
use mathlib.Core.Path.{◌≡◌, ◌∙◌}
use mathlib.Core.Logic.{by_cases}
use mathlib.Core.List.{List}
use Prim.Native.Nat.{ℕ, suc, ◌≤◌, ◌<◌}
use native.Mathlib.Omega.{arith}
use native.Mathlib.Decide.{dec_lt}
use lib.IntN.{ℤ, pos}
use lib.ListN.{replicate, set, length-replicate}
use lib.Seq.{get_or-set_other}
use Rattle.std.proofs.lemmas.List.{get_or-replicate}
use Rattle.tables.specs.Ranges.{greatest_order}
use Rattle.tables.specs.Matrix.{nth}
use Rattle.tables.specs.Buffers.{Filled}
use Rattle.tables.proofs.Buffers.{filled_none, filled_more}

-- the steps before k stand in t, and 0 for the others
pub record Stored (n : ℕ) (f : ℕ → ℤ) (k : ℕ) (t : List ℤ) : Type 0 where
  pub steps : Filled greatest_order k f t
  pub others : (j : ℕ) → k ≤ j → j < n → nth t j ≡ pos 0

module _ {n : ℕ} (o : n ≤ greatest_order) {f : ℕ → ℤ} where
  pub stored_none : Stored n f 0 (replicate greatest_order (pos 0))
  stored_none =
      record {
        steps = filled_none (length-replicate greatest_order (pos 0));
        others = λ j q l. get_or-replicate greatest_order j (pos 0) (pos 0) (omega arith);
      }

  pub stored_more : {k : ℕ} {v : ℤ} {t : List ℤ} → k < n → v ≡ f k → Stored n f k t → Stored n f (suc k) (set t k v)
  stored_more {k} {v} {t} l e s =
      record {
        steps = filled_more (omega arith) e s.steps;
        others = λ j q m. let d : j ≡ k → ⊥ = λ e. omega arith in get_or-set_other t k j v (pos 0) d ∙ s.others j (omega arith) m;
      }

  -- where the others are 0 nothing is left to store
  pub stored_end : {k : ℕ} {t : List ℤ} → Stored n f k t → ((j : ℕ) → k ≤ j → j < n → pos 0 ≡ f j) → Filled greatest_order n f t
  stored_end {k} s z =
      record {
        size = s.steps.size;
        entries = λ j l. by_cases (dec_lt j k) (λ b. s.steps.entries j b) (λ b. let q : k ≤ j = omega arith in s.others j q l ∙ z j q l);
      }
