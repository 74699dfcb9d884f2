use mathlib.Core.Path.{ap, ◌∙◌}
use mathlib.Core.List.{List}
use Prim.Native.Nat.{ℕ}
use Rattle.integers.proofs.Machine.{clean, clean_element}
use Rattle.sums.specs.Lent.{Lent, Left, gathered_code}
use Rattle.hankboulder.specs.Entries.{GatherResult, gather_entry}
use Rattle.hankboulder.proofs.SumsGathered.{bytes-gathered, gathered-number}
use Rattle.hankboulder.proofs.gathering.hb_gather.Goals as goal

-- an answer's number, and the buffers
abbrev numbered : Left (List ℕ) → GatherResult
numbered j = record { number = gathered_code j.answer; sums = j.sums }

pub returns : goal.returns
unfolding gather_entry
returns c =
    let a = c.args in
    let lent : Lent (List ℕ) = record {
      low = a.low.now;
      high = a.high.now;
      from = a.linear_low.now;
      to = a.linear_high.now;
      limit = a.running_limit.now;
    } in
    let h = rw (clean c.ranges.n) at c.gather.ensures in
    rw (clean_element c.answer_code.result c.answer_code.type_inv, c.answer_code.ensures) (record {
      exact = ap numbered (h.exact ∙ bytes-gathered a.sample a.n lent);
      meaning = gathered-number a.sample a.n lent _ h.meaning;
    })
