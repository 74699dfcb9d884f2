-- What adding to sums gives, as the code states it.
use mathlib.Core.Path.{◌≡◌, refl, sym, ap, ◌∙◌}
use mathlib.Core.Bool.{Bool, true, false}
use mathlib.Core.List.{List}
use Prim.Native.Nat.{ℕ}
use native.Mathlib.Omega.{arith}
use lib.IntN.{ℤ}
use Rattle.tables.specs.declared.Refusal.{Refusal}
use Rattle.tables.specs.declared.Refusal.TheVariants.{Full}
use Rattle.tables.specs.declared.problem.Constraint.{Constraint}
use Rattle.std.specs.Prelude.{Ok, Err}
use Rattle.tables.specs.Checks.{Checked}
use Rattle.sums.specs.Sums.{plus, sums_within}
use Rattle.sums.specs.Halving.{halved, added_in, fitted}
use Rattle.sums.specs.Required.{sums_at, Ranged, Sums, stated, Stated, Tried}
use Rattle.sums.proofs.Fronts.{halved-within, sums-ranged}

-- ---- by whether the sums are in their ranges
module _ (g c : Constraint) where
  pub added_in_lem : sums_within (plus g c) ≡ true → added_in g c ≡ Ok (plus g c)
  unfolding added_in
  added_in_lem e = rw (added_in, e)

  pub added_full : sums_within (plus g c) ≡ false → added_in g c ≡ Err Full
  unfolding added_in
  added_full e = rw (added_in, e)

  fitted_in : sums_within (plus g c) ≡ true → fitted g c ≡ Ok (plus g c)
  unfolding fitted
  fitted_in e = rw (fitted, e)

  fitted-half : sums_within (plus g c) ≡ false → fitted g c ≡ added_in g (halved c)
  unfolding fitted
  fitted-half e = rw (fitted, e)

  -- what is taken was in its ranges, and what is refused was not
  pub taken-fitted : {d : Constraint} → added_in g c ≡ Ok d → fitted g c ≡ Ok d
  taken-fitted {d} q = go (sums_within (plus g c)) refl
    where
      go : (b : Bool) → sums_within (plus g c) ≡ b → fitted g c ≡ Ok d
      go true e = fitted_in e ∙ sym (added_in_lem e) ∙ q
      go false e = cc (added_full e)

  pub refused-fitted : {r : Refusal} → added_in g c ≡ Err r → fitted g c ≡ added_in g (halved c)
  refused-fitted q = go (sums_within (plus g c)) refl
    where
      go : (b : Bool) → sums_within (plus g c) ≡ b → fitted g c ≡ added_in g (halved c)
      go true e = cc (added_in_lem e)
      go false e = fitted-half e

-- ---- what the code states
module _ {n : ℕ} {g c : Constraint} where
  pub tried_in : {l u a b : List ℤ} {α : ℤ} → sums_within (plus g c) ≡ true → Sums (plus g c) n l u a b α → Tried n g c (Ok tt) l u a b α
  unfolding stated
  tried_in e s = record {
    answered = record { outcome = added_in_lem g c e ∙ ap Ok (sym s.sums); rooms = s.rooms };
    kept = λ k q. let z : ◌≡◌ {A = ℕ} 0 1 = cc in absurd (omega arith);
  }

  pub tried_full : {l u a b : List ℤ} {α : ℤ} → sums_within (plus g c) ≡ false → Sums c n l u a b α → Tried n g c (Err Full) l u a b α
  unfolding stated
  tried_full e s = record { answered = record { outcome = added_full g c e; rooms = s.rooms }; kept = λ k q. s }

  -- added to the sums
  pub whole-fitted : {l u a b : List ℤ} {α : ℤ} → Tried n g c (Ok tt) l u a b α → Stated n (fitted g c) (Ok tt) l u a b α
  unfolding stated
  whole-fitted t = record { outcome = taken-fitted g c t.answered.outcome; rooms = t.answered.rooms }

  -- or refused: they are in their ranges as they were
  module _ {l u a b : List ℤ} {α : ℤ} {k : Refusal} (t : Tried n g c (Err k) l u a b α) where
    pub kept-ranged : sums_within c ≡ true → Ranged n l u a b α
    kept-ranged w = sums-ranged w (t.kept k refl)

    -- and added to their halves
    module _ {l' u' a' b' : List ℤ} {α' : ℤ} (s : Sums (halved (sums_at n l u a b α)) n l' u' a' b' α') where
      pub halves-ranged : sums_within c ≡ true → Ranged n l' u' a' b' α'
      halves-ranged w = sums-ranged (halved-within (sums_at n l u a b α) (kept-ranged w).within) s

      pub half-fitted : {r : Checked} {l'' u'' a'' b'' : List ℤ} {α'' : ℤ} →
          Tried n g (sums_at n l' u' a' b' α') r l'' u'' a'' b'' α'' → Stated n (fitted g c) r l'' u'' a'' b'' α''
      unfolding stated
      half-fitted v = record {
        outcome = refused-fitted g c t.answered.outcome ∙ ap (added_in g) (ap halved (sym (t.kept k refl).sums) ∙ sym s.sums)
            ∙ v.answered.outcome;
        rooms = v.answered.rooms;
      }
