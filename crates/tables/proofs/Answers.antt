-- Laws of the answers: by which checks an act answers what, and what an answer says of the checks.
use mathlib.Core.Path.{◌≡◌, refl, sym, ap, subst, ◌∙◌}
use mathlib.Core.Bool.{Bool, true, false}
use mathlib.Core.List.{List, ◌++◌}
use Prim.Native.Nat.{ℕ, ◌<◌}
use native.Mathlib.Omega.{arith}
use lib.IntN.{ℤ, pos, negsuc, nat_abs}
use Rattle.tables.specs.Refusals.{refusal_number}
use Rattle.tables.specs.Checks.{Check, first_refusal}
use Rattle.tables.specs.Answers.{after, yes_or_no_code, answer_code}
use Rattle.tables.specs.declared.Refusal.{Refusal}
use Rattle.tables.specs.declared.Refusal.TheVariants.{Order, Length, Range, Crossed, Lopsided, Factor, Vector, Flat, Far, Cut, Tag, Again, Absent, Size, Long, Reversed, Sample, Full, Falling, Busy}
use Rattle.tables.specs.Checks.{Checked}
use Rattle.std.specs.Prelude.{Result, Ok, Err, IsErrAnd}
use Rattle.std.proofs.lemmas.Result.{err_from_is_err_and}
use Rattle.tables.proofs.Checks.{no-more-checks}

-- ---- checks, and one more
pub prefix_passed : (cs ds : List Check) → first_refusal (cs ++ ds) ≡ Ok tt → first_refusal cs ≡ Ok tt
prefix_passed cs ds e = go (first_refusal cs) refl
  where
    go : (k : Checked) → first_refusal cs ≡ k → k ≡ Ok tt
    go (Ok tt) q = refl
    go (Err r) q = cc (no-more-checks cs ds r q)

-- ---- an act's answer, by its checks
module _ {A : Type 0} (refused : Refusal → A) where
  pub after-refused : {k : Checked} (r : Refusal) (a : A) → k ≡ Err r → refused r ≡ after refused k a
  unfolding after
  after-refused r a e = rw e

  pub after-passed : {k : Checked} (a : A) → k ≡ Ok tt → a ≡ after refused k a
  unfolding after
  after-passed a e = rw e

  -- what holds of each refusal, and of the answer where the checks pass, holds of the whole
  pub after-means : (k : Checked) (a : A) (P : A → Type 0) → ((r : Refusal) → P (refused r)) → (k ≡ Ok tt → P a) → P (after refused k a)
  unfolding after
  after-means (Ok tt) a P f g = g refl
  after-means (Err r) a P f g = f r

  -- an answer that is no refusal: the checks passed
  pub after_is : (k : Checked) (a b : A) → ((r : Refusal) → refused r ≡ b → ⊥) → after refused k a ≡ b → (k ≡ Ok tt) × (a ≡ b)
  unfolding after
  after_is (Ok tt) a b f e = (refl, e)
  after_is (Err r) a b f e = absurd (f r e)

-- ---- an answer that no refusal stands before
pub after_ok : {A : Type 0} (k : Checked) (a b : A) → after Err k (Ok a) ≡ Ok b → (k ≡ Ok tt) × (a ≡ b)
unfolding after
after_ok (Ok _) a b e = (refl, cc)
after_ok (Err r) a b e = cc

-- ---- a refusal that `?` hands on
pub handed_on : {T : Type 0} {k : Refusal} {r : Result T Refusal} → IsErrAnd r (λ e. e ≡ k) → r ≡ Err k
handed_on {r = r} h = let p = err_from_is_err_and r h in p.1 ∙ ap Err p.2

-- ---- the numbers at the C entries
-- a refusal's number is none of an answer's
pub refusal_positive : (r : Refusal) → 0 < refusal_number r
refusal_positive Order = omega arith
refusal_positive Length = omega arith
refusal_positive Range = omega arith
refusal_positive Crossed = omega arith
refusal_positive Lopsided = omega arith
refusal_positive Factor = omega arith
refusal_positive Vector = omega arith
refusal_positive Flat = omega arith
refusal_positive Far = omega arith
refusal_positive Cut = omega arith
refusal_positive Tag = omega arith
refusal_positive Again = omega arith
refusal_positive Absent = omega arith
refusal_positive Size = omega arith
refusal_positive Long = omega arith
refusal_positive Reversed = omega arith
refusal_positive Sample = omega arith
refusal_positive Full = omega arith
refusal_positive Falling = omega arith
refusal_positive Busy = omega arith

module _ {A : Type 0} (code : A → ℤ) where
  -- 0 is an answer's number
  pub code_zero : (g : Result A Refusal) → answer_code code g ≡ pos 0 → (a : A) × (g ≡ Ok a) × (code a ≡ pos 0)
  code_zero (Ok a) e = (a, refl, e)
  code_zero (Err r) e = let h = refusal_positive r in let z : refusal_number r ≡ 0 = ap nat_abs e in absurd (omega arith)

  -- and so is each number below it
  pub code_below : (g : Result A Refusal) {k : ℕ} → answer_code code g ≡ negsuc k → (a : A) × (g ≡ Ok a) × (code a ≡ negsuc k)
  code_below (Ok a) e = (a, refl, e)
  code_below (Err r) e = cc

pub code_passed : (k : Checked) → answer_code (λ _. pos 0) k ≡ pos 0 → k ≡ Ok tt
code_passed (Ok _) e = refl
code_passed (Err r) e = let h = refusal_positive r in let z : refusal_number r ≡ 0 = ap nat_abs e in absurd (omega arith)

pub code_yes : (a : Result Bool Refusal) → answer_code yes_or_no_code a ≡ pos 0 → a ≡ Ok true
code_yes (Ok true) e = refl
code_yes (Ok false) e = cc
code_yes (Err r) e = let h = refusal_positive r in let z : refusal_number r ≡ 0 = ap nat_abs e in absurd (omega arith)

pub code_no : (a : Result Bool Refusal) → answer_code yes_or_no_code a ≡ negsuc 0 → a ≡ Ok false
code_no (Ok true) e = cc
code_no (Ok false) e = refl
code_no (Err r) e = cc

-- ---- what an answer means
-- an answer that is the definition's means what the definition's does
pub exactly : {A : Type 0} (means : A → Type 0) {d : A} → means d → (r : A) → r ≡ d → record { exact : r ≡ d; meaning : means r }
exactly means m r e = record { exact = e; meaning = subst means (sym e) m }
