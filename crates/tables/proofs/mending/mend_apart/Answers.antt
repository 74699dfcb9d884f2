use mathlib.Core.Path.{◌≡◌, refl, sym, ap, ◌∙◌}
use mathlib.Core.Bool.{Bool, true, false}
use mathlib.Core.List.{List}
use Prim.Native.Nat.{ℕ, ◌*◌, ◌≤◌}
use borrow.Author.Tests.{not-true, not-false}
use lib.IntN.{ℤ}
use lib.ListN.{length}
use Rattle.integers.specs.Numbers.{min_ℤ, max_ℤ}
use Rattle.tables.specs.Mending.{mended_low, mended_high}
use Rattle.tables.specs.Checks.{bounds_checks, first_refusal}
use Rattle.tables.specs.Entering.{Mended}
use Rattle.tables.specs.declared.Refusal.{Refusal}
use Rattle.std.specs.Prelude.{Ok, Err}
use Rattle.tables.proofs.Answers.{handed_on}
use Rattle.tables.proofs.Checks.{others_outside}
use Rattle.tables.proofs.MendedTables.{mended-length}
use Rattle.tables.proofs.mending.mend_apart.Goals as goal

module _ (n : ℕ) (l u : List ℤ) (h : n * n ≤ length l) (k : n * n ≤ length u) where
  apart : {l' u' : List ℤ} → Ok tt ≡ first_refusal (bounds_checks true n l u) → l' ≡ mended_low n l → u' ≡ mended_high n u →
      Mended (bounds_checks true n l u) n l u (Ok tt) l' u'
  apart e v w = record {
    answered = e;
    low-size = ap length v ∙ mended-length max_ℤ n l h;
    high-size = ap length w ∙ mended-length min_ℤ n u k;
    low = λ q. v;
    high = λ q. w;
  }

-- a refusal leaves the tables as they are
kept : (others : Bool) (n : ℕ) (l u : List ℤ) {k : Refusal} → Err k ≡ first_refusal (bounds_checks others n l u) → Mended (bounds_checks others n l u) n l u (Err k) l u
kept others n l u e = record { answered = e; low-size = refl; high-size = refl; low = λ q. cc q; high = λ q. cc q }

pub returns-then-not-within : goal.returns-then-not-within
returns-then-not-within c = rw (not-true c.args.within c.if-not-within.true-raw) (kept false _ _ _ (sym (others_outside _ _ _)))

pub returns : goal.returns
returns c =
    let p = c.requires in
    rw (not-false c.args.within c.if-not-within.false-raw)
    (apart _ _ _ p.1 p.2 (sym c.in_ok-check_apart.was ∙ c.check_apart.ensures) c.mend.ensures.0 c.mend.ensures.1)

pub returns-in_err-check_apart : goal.returns-in_err-check_apart
returns-in_err-check_apart c =
    rw (not-false c.args.within c.if-not-within.false-raw, handed_on c.from_residual.ensures.1)
    (kept true _ _ _ (sym c.in_err-check_apart.was ∙ c.check_apart.ensures))
