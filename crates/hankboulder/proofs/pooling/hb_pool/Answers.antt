use mathlib.Core.Path.{ap, ◌∙◌}
use mathlib.Core.List.{List}
use Prim.Native.Nat.{ℕ}
use Rattle.integers.proofs.Machine.{clean, clean_element}
use Rattle.sums.specs.Lent.{Lent, Left, gathered_code}
use Rattle.pool.specs.Pool.{Problems}
use Rattle.hankboulder.specs.Entries.{GatherResult, pool_entry}
use Rattle.hankboulder.proofs.SumsPooled.{pool-spelled, pooled-number}
use Rattle.hankboulder.proofs.pooling.hb_pool.Goals as goal

-- an answer's number, and the buffers
abbrev numbered : Left (List ℕ) → GatherResult
numbered j = record { number = gathered_code j.answer; sums = j.sums }

pub returns : goal.returns
unfolding pool_entry
returns c =
    let a = c.args in
    let lent : Lent (List ℕ) =
    record { low = a.low.now; high = a.high.now; from = a.linear_low.now; to = a.linear_high.now; limit = a.running_limit.now } in
    let lists : Problems (List ℕ) =
    record { lows = a.lows.now; highs = a.highs.now; froms = a.linear_lows.now; tos = a.linear_highs.now; limits = a.limits.now } in
    let done = rw (clean c.ranges.n) at c.pool.ensures in
    rw (clean_element c.answer_code.result c.answer_code.type_inv, c.answer_code.ensures) (record {
      exact = ap numbered (done.exact ∙ pool-spelled a.n a.orders.now lists lent);
      meaning = pooled-number a.n a.orders.now lists lent _ c.pool.result done.meaning;
    })
