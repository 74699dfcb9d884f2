-- What is laid into the lent buffers of sums, of what the code states.
use mathlib.Core.Path.{◌≡◌, refl, sym, ap, ◌∙◌}
use mathlib.Core.Bool.{false≢true}
use mathlib.Core.List.{List, [], ◌∷◌}
use Prim.Native.Nat.{ℕ, ◌*◌}
use native.Mathlib.Omega.{arith}
use lib.IntN.{ℤ}
use lib.ListN.{length, set}
use Rattle.tables.specs.Matrix.{tabulate}
use Rattle.tables.specs.declared.Refusal.{Refusal}
use Rattle.std.specs.Prelude.{Ok, Err}
use Rattle.tables.specs.Checks.{Checked}
use Rattle.sums.specs.Sums.{Outcome}
use Rattle.sums.specs.Lent.{Lent, Left, laid_sums}
use Rattle.sums.specs.Required.{front, Ranged, stated, Stated}

-- ---- a buffer of one number that is written
pub set-one : (x : List ℤ) (v : ℤ) → length x ≡ 1 → set x 0 v ≡ tabulate 1 (λ i. v)
unfolding tabulate
set-one [] v e = absurd (omega (arith, e))
set-one (y ∷ []) v e = refl
set-one (y ∷ z ∷ x) v e = absurd (omega (arith, e))

-- ---- the outcome that the code states, laid into buffers
pub stated_by : {n : ℕ} {o o' : Outcome} {r : Checked} {l u a b : List ℤ} {α : ℤ} → o ≡ o' → Stated n o r l u a b α →
    Stated n o' r l u a b α
stated_by e st = record { outcome = sym e ∙ st.outcome; rooms = st.rooms }

-- of bounds that were lent on and came back
pub stated_where : {n : ℕ} {o : Outcome} {r : Checked} {l u a b l' u' : List ℤ} {α : ℤ} → l' ≡ l → u' ≡ u → Stated n o r l u a b α →
    Stated n o r l' u' a b α
stated_where e f st = rw (e, f) st

pub ranged_where : {n : ℕ} {l u a b l' u' : List ℤ} {α : ℤ} → l' ≡ l → u' ≡ u → Ranged n l u a b α → Ranged n l' u' a b α
ranged_where e f w = rw (e, f) w

module _ {A : Type 0} (T X : List ℤ → A) (N : ℤ → A) {n : ℕ} {o : Outcome} {l u a b : List ℤ} {α : ℤ} (lent : Lent A) where
  pub laid-taken : {l' u' a' b' α' : A} → Stated n o (Ok tt) l u a b α → l' ≡ T (front (n * n) l) → u' ≡ T (front (n * n) u) →
      a' ≡ X (front n a) → b' ≡ X (front n b) → α' ≡ N α →
      ◌≡◌ {A = Left A} (record { answer = Ok tt; sums = record { low = l'; high = u'; from = a'; to = b'; limit = α' } })
      (laid_sums T X N o lent)
  unfolding stated
  laid-taken st f g h k i = rw (f, g, h, k, i) (ap (λ (o : Outcome). laid_sums T X N o lent) (sym st.outcome))

  pub laid-refused : {k : Refusal} → Stated n o (Err k) l u a b α →
      ◌≡◌ {A = Left A} (record { answer = Err k; sums = lent }) (laid_sums T X N o lent)
  unfolding stated
  laid-refused st = ap (λ (o : Outcome). laid_sums T X N o lent) (sym st.outcome)

-- an answer that is a refusal: the outcome is
pub laid_answer : {A : Type 0} (T X : List ℤ → A) (N : ℤ → A) (lent : Lent A) (k : Refusal) (o : Outcome) →
    (laid_sums T X N o lent).answer ≡ Err k → o ≡ Err k
laid_answer T X N lent k (Ok c) e = absurd (false≢true cc)
laid_answer T X N lent k (Err r) e = cc
