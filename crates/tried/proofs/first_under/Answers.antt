-- The search over half of the tried vectors, from what each entry adds by itself.
use mathlib.Core.Path.{◌≡◌, sym, ◌∙◌}
use Prim.Native.Nat.{◌-◌}
use native.Mathlib.Omega.{arith}
use Rattle.integers.proofs.Machine.{clean}
use Rattle.tried.proofs.Choices.{found_listed}
use Rattle.tried.proofs.Shares.{pairs_zeros, same_at, other_at, open_zeros}
use Rattle.tried.proofs.Searching.{half_ext}
use Rattle.tried.proofs.Agreement.{tried-half}
use Rattle.tried.proofs.first_under.Goals as goal

pub fill_pairs-requires : goal.fill_pairs-requires
fill_pairs-requires c = pairs_zeros c.args.bounds.checked.order

pub diagonal-requires : goal.diagonal-requires
diagonal-requires c = (open_zeros, rw (clean c.ranges.w) c.requires)

pub returns : goal.returns
returns c =
    let n = c.args.bounds.order in
    let pairs = c.fill_pairs.ensures in
    let e : n - n ≡ 0 = omega arith in
    let r = rw e at c.search_half-hit.ensures in
    rw c.then_some.ensures (
    found_listed c.search_half-hit.result n _
    ∙ sym r.answer
    ∙ half_ext _ _ _ _ (same_at pairs) (other_at pairs) n 0 _ (omega arith)
    ∙ sym (tried-half _ _ _ _ c.args.bounds.checked.bounds _ (λ i h. rw (clean c.ranges.w) at (c.diagonal.ensures.entries i h)))
    )
