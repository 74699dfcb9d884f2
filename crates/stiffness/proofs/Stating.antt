-- The bracket, from the least bound and the vector in an array, and what is written of it.
use mathlib.Core.Path.{◌≡◌, refl, sym, ap, ap₂, ◌∙◌}
use mathlib.Core.Bool.{true, false}
use mathlib.Core.List.{List}
use Prim.Native.Nat.{ℕ, ◌*◌}
use lib.IntN.{ℤ}
use lib.ListN.{length}
use Rattle.std.specs.Prelude.{Ok}
use Rattle.tables.specs.Matrix.{Matrix, nth, tabulate}
use Rattle.tables.specs.Checks.{order_of, sizes_ok}
use Rattle.cholesky.specs.Factoring.{factored}
use Rattle.steps.specs.Steps.{step}
use Rattle.stiffness.specs.Bracket.{Bracketing, between, at_most, shown, bracketed, bracketing}
use Rattle.stiffness.specs.Bracket.{Bracketed, laid, written, bracket, bracket_act}
use Rattle.stiffness.specs.Descent.{Least, stated, Stated}
use Rattle.stiffness.specs.declared.bracket.Stiffness.{Stiffness}
use Rattle.stiffness.proofs.Meanings.{shown_vector, bracketed-ends, bracketed_stops}

module _ (n : ℕ) (L U : Matrix) where
  -- x holds the vector that is shown
  module _ {v : ℤ} {x : List ℤ} (a : Least n L U v x) where
    vector-shown : shown_vector n L U ≡ tabulate n (nth x)
    vector-shown = ap shown (rw a.bound at a.vector)

    -- factoring ended, or it stopped
    pub stated-between : true ≡ (factored n L U).ends → Stated (bracketed n L U) n (Stiffness.Between (step n L U) v) x
    unfolding stated
    stated-between e = record {
      stiffness = bracketed-ends n L U (sym e) ∙ ap₂ (λ (w : ℤ) (z : List ℤ). between (step n L U) w z) (sym a.bound) vector-shown;
      size = a.size;
    }

    pub stated-at-most : false ≡ (factored n L U).ends → Stated (bracketed n L U) n (Stiffness.AtMost v) x
    unfolding stated
    stated-at-most e = record {
      stiffness = bracketed_stops n L U (sym e) ∙ ap₂ at_most (sym a.bound) vector-shown;
      size = a.size;
    }

  -- ---- what is left: the vector in x, laid into a buffer by F
  pub stated-laid : {A : Type 0} (F : List ℤ → A) {r : Stiffness} {x : List ℤ} → Stated (bracketed n L U) n r x → (y : A) →
      ◌≡◌ {A = Bracketed A} (record { stiffness = Ok r; vector = F (tabulate n (nth x)) }) (laid F (bracketed n L U) y)
  unfolding stated
  stated-laid {A} F {r} {x} s y = sym (ap (λ (g : Bracketing). laid F g y) s.stiffness ∙ go r)
    where
      go : (r : Stiffness) → ◌≡◌ {A = Bracketed A} (laid F (stated n r x) y) (record { stiffness = Ok r; vector = F (tabulate n (nth x)) })
      go (Stiffness.Between t v) = refl
      go (Stiffness.AtMost v) = refl

-- the act over numbers: its buffers hold the numbers themselves
of-numbers : (n : ℤ) (l u y : List ℤ) → (let k = order_of n in
    bracket n l u y ≡ written (bracketing n (sizes_ok (k * k) k (length l) (length u) (length y)) l u) y)
unfolding bracket bracket_act
of-numbers n l u y = refl
