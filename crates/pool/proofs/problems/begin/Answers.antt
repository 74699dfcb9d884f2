use mathlib.Core.Path.{refl, sym, ap, ◌∙◌}
use mathlib.Core.List.{List}
use Prim.Native.Nat.{ℕ}
use native.Mathlib.Omega.{arith}
use lib.IntN.{ℤ, pos}
use Rattle.std.specs.Prelude.{Ok, Err}
use Rattle.integers.proofs.Machine.{clean_element}
use Rattle.tables.specs.Ranges.{limit_range}
use Rattle.tables.specs.Checks.{Checked, first_refusal, within}
use Rattle.tables.specs.Answers.{after}
use Rattle.tables.specs.Entering.{Mended}
use Rattle.tables.specs.Problem.{constraint_of, mended_constraint}
use Rattle.tables.proofs.Answers.{after-refused, after-passed}
use Rattle.sums.specs.Sums.{sums_checks, own_checks}
use Rattle.sums.specs.Required.{sums_at, Rooms, stated, Stated}
use Rattle.sums.proofs.Fronts.{mended_rooms, mended_answer, mended-front}
use Rattle.pool.proofs.problems.begin.Goals as goal

-- what mending leaves, by whether it refuses
mended : {n : ℕ} {l u a b : List ℤ} {l' u' : List ℤ} (α : ℤ) (r : Checked) → Rooms n l u a b →
    Mended (sums_checks (within limit_range α) (constraint_of n l u a b (pos 0))) n l u r l' u' →
    Stated n (after Err (first_refusal (own_checks (sums_at n l u a b α))) (Ok (mended_constraint (sums_at n l u a b α)))) r l' u' a b α
unfolding stated
mended α (Ok _) z m = record {
  outcome = sym (after-passed Err _ (sym (mended_answer _ z m α))) ∙ ap Ok (sym (mended-front _ z m α refl));
  rooms = mended_rooms _ z m;
}
mended α (Err k) z m = record { outcome = sym (after-refused Err _ _ (sym (mended_answer _ z m α))); rooms = mended_rooms _ z m }

pub returns-clause-sums : goal.returns-clause-sums
returns-clause-sums c =
    let s = c.args.sums.now in
    let t = c.mend_sums.ensures.kept in
    rw (c.mend_sums.ensures.place.order, t.from, t.to, t.limit)
    (mended s.limit c.mend_sums.result c.requires.1
    (rw (c.within-within.ensures, clean_element s.limit (omega arith)) at c.mend_sums.ensures.mended))
