-- What is printed of a file, and how it stands in the program's buffer.
use mathlib.Core.Path.{◌≡◌, refl, ap, ◌∙◌}
use mathlib.Core.List.{List, ◌++◌}
use Prim.Native.Nat.{ℕ, ◌+◌, ◌-◌, ◌≤◌}
use native.Mathlib.Omega.{arith}
use lib.ListN.{length, replicate, length-replicate}
use Rattle.words.proofs.Lists.{drop-replicate}
use Rattle.tables.specs.declared.Refusal.{Refusal}
use Rattle.tables.specs.declared.problem.Problem.{Problem}
use Rattle.std.specs.Prelude.{Ok, Err}
use Rattle.summary.specs.Problems.{Reading, reading}
use Rattle.text.specs.Text.{ascii}
use Rattle.text.specs.Putting.{with_text, Put}
use Rattle.text.proofs.Puts.{put-length}
use Rattle.report.specs.declared.report.Output.{Output}
use Rattle.report.specs.Lines.{numbered}
use Rattle.report.specs.Report.{problem_text, reading_text, printed, report_room, report}

-- ---- by what the reading found
module _ (s : List ℕ) where
  pub printed-problem : {p : Problem} → reading s ≡ Ok p → printed s ≡ problem_text p
  unfolding printed reading_text
  printed-problem h = rw h

  pub printed-refused : {k : Refusal} → reading s ≡ Err k → printed s ≡ numbered (ascii "refused") k
  unfolding printed reading_text
  printed-refused h = rw h

  -- a text that is not that of a refusal
  pub printed-passed : ((k : Refusal) → printed s ≡ numbered (ascii "refused") k → ⊥) → (p : Problem) × (reading s ≡ Ok p)
  printed-passed f = go (reading s) refl
    where
      go : (r : Reading) → reading s ≡ r → (p : Problem) × (reading s ≡ Ok p)
      go (Ok p) h = (p, h)
      go (Err k) h = absurd (f k (printed-refused h))

-- ---- in a buffer of zeros
text_first : (t : List ℕ) → length t ≤ report_room → with_text (replicate report_room 0) 0 t ≡ t ++ replicate (report_room - length t) 0
unfolding with_text
text_first t h =
    let z : 0 + length t ≡ length t = omega arith in
    rw z (ap (λ (rest : List ℕ). t ++ rest) (drop-replicate {A = ℕ} report_room (length t) 0 h))

pub output_is : (s : List ℕ) {t : List ℕ} {m r : ℕ} {a : List ℕ} → printed s ≡ t → Put (replicate report_room 0) 0 t m r a → m ≤ report_room
    → record { exact : ◌≡◌ {A = Output} (record { text = a; length = r }) (report s); within : r ≤ length a }
unfolding report
output_is s {t} {m} {r} {a} e p h =
    let z = length-replicate {A = ℕ} report_room 0 in
    let n : r ≡ length t = omega (arith, p.behind) in
    let b : a ≡ t ++ replicate (report_room - length t) 0 = p.bytes ∙ text_first t (omega (arith, p.room)) in
    let k : length a ≡ length {A = ℕ} (replicate report_room 0) = put-length p (omega (arith, z)) in
    record { exact = rw (e, n, b) refl; within = omega (arith, p.room, k, z) }
