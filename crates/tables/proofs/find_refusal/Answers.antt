use mathlib.Core.Path.{sym, ◌∙◌}
use mathlib.Core.Bool.{false≢true}
use Rattle.tables.specs.Checks.{check_lopsided, bounds_checks}
use Rattle.tables.proofs.Checks.{false_of, call_false, call_true, first_passes, first-refuses, first-none, passed-bounded}
use Rattle.tables.proofs.find_refusal.Goals as goal

pub returns-then-not-entries : goal.returns-then-not-entries
unfolding bounds_checks
returns-then-not-entries c = sym (first-refuses _ _ (call_false c.entries_within-entries.ensures c.if-not-entries.true-raw))

pub returns-then-not-ordered : goal.returns-then-not-ordered
unfolding bounds_checks
returns-then-not-ordered c =
    sym (first_passes _ _ (call_true c.entries_within-entries.ensures c.if-not-entries.false-raw)
    ∙ first-refuses _ _ (call_false c.nowhere_crossed-ordered.ensures c.if-not-ordered.true-raw))

pub returns : goal.returns
unfolding bounds_checks
returns c =
    let b = c.args.bounds in
    let range = first_passes _ _ (call_true c.entries_within-entries.ensures c.if-not-entries.false-raw) in
    let crossed = first_passes _ _ (call_true c.nowhere_crossed-ordered.ensures c.if-not-ordered.false-raw) in
    let last = check_lopsided b.order b.low.now b.high.now in
    sym (range ∙ crossed ∙ first-refuses last _ (false_of last.passes (λ e.
    false≢true (sym c.requires ∙ passed-bounded _ _ _ (range ∙ crossed ∙ first_passes last _ e ∙ first-none)))))
