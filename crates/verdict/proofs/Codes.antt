-- A verdict by its number at a C entry.
use mathlib.Core.Path.{◌≡◌, refl, ap, subst}
use mathlib.Core.Bool.{false≢true}
use Prim.Native.Nat.{ℕ}
use native.Mathlib.Omega.{arith}
use lib.IntN.{pos, negsuc, nat_abs}
use lib.Signed.{◌≤ℤ◌}
use Rattle.integers.proofs.Parts.{≤_out}
use Rattle.std.specs.Prelude.{Result, Ok, Err}
use Rattle.tables.specs.declared.Refusal.{Refusal}
use Rattle.tables.specs.Refusals.{refusal_number}
use Rattle.tables.proofs.Answers.{refusal_positive}
use Rattle.verdict.specs.Judge.{verdict_code, NotRefused, IsDefinite}
use Rattle.verdict.specs.declared.judge.Verdict.{Verdict}

pub code_definite : (w : Result Verdict Refusal) → verdict_code w ≡ pos 0 → IsDefinite w
code_definite (Ok (Verdict.Definite v)) e = record { over = v; verdict = refl }
code_definite (Ok Verdict.NotDefinite) e = absurd (false≢true cc)
code_definite (Ok Verdict.Undecided) e = absurd (false≢true cc)
code_definite (Err r) e = let h = refusal_positive r in let z : refusal_number r ≡ 0 = ap nat_abs e in absurd (omega arith)

pub code_not : (w : Result Verdict Refusal) → verdict_code w ≡ negsuc 0 → w ≡ Ok Verdict.NotDefinite
code_not (Ok (Verdict.Definite v)) e = cc
code_not (Ok Verdict.NotDefinite) e = refl
code_not (Ok Verdict.Undecided) e = let z : ◌≡◌ {A = ℕ} 2 1 = ap nat_abs e in absurd (omega arith)
code_not (Err r) e = cc

-- 0 or less is no refusal's
pub code_given : (w : Result Verdict Refusal) → verdict_code w ≤ℤ pos 0 → NotRefused w
code_given w h r e =
    let b : pos (refusal_number r) ≤ℤ pos 0 = subst (λ (v : Result Verdict Refusal). verdict_code v ≤ℤ pos 0) e h in
    absurd (omega (arith, refusal_positive r, ≤_out b))
