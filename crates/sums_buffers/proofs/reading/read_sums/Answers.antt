use mathlib.Core.Path.{◌≡◌, refl, sym, ap, ap₂, ◌∙◌}
use mathlib.Core.List.{List}
use Prim.Native.Nat.{ℕ}
use native.Mathlib.Omega.{arith}
use lib.IntN.{ℤ}
use lib.ListN.{length}
use mir.Syntax.{w64}
use mir.Val.{bytes}
use borrow.Author.Tests.{eqb-true}
use Rattle.std.specs.Prelude.{Result, Ok}
use Rattle.integers.proofs.Machine.{clean, clean_element}
use Rattle.tables.specs.Checks.{order_of}
use Rattle.tables.specs.Problem.{constraint_of, lengths_of}
use Rattle.tables.specs.declared.Refusal.{Refusal}
use Rattle.tables.proofs.Answers.{handed_on}
use Rattle.tables.proofs.Checks.{and_right}
use Rattle.rides.specs.Reading.{read_sums}
use Rattle.rides.proofs.Readings.{reading_sizes-passed}
use Rattle.buffers.specs.Buffers.{table_of, vector_of}
use Rattle.buffers.proofs.Stores.{number-stored}
use Rattle.sums_buffers.specs.SumsBuffers.{read_buffers, stored_limit, ReadOut}
use Rattle.sums_buffers.proofs.reading.read_sums.Goals as goal
use Rattle.sums_buffers.proofs.reading.read_sums.Goals.{Start, After-read_sums_among}

-- what is read of the numbers that the buffers spell
abbrev read : Start → Result ℤ Refusal
read s =
    let a = s.args in
    let k = order_of a.n in
    read_sums a.n (read_buffers k (lengths_of (length a.low.now) (length a.high.now) (length a.from.now) (length a.to.now))
    (length a.limit.now)) a.allowance
    (constraint_of k (table_of k a.low.now) (table_of k a.high.now) (vector_of k a.from.now) (vector_of k a.to.now) a.running)

answered : (c : After-read_sums_among) → c.read_sums_among.result ≡ read (goal.at.After-read_sums_among c).Start
unfolding read_buffers
answered c = rw (clean c.ranges.n, clean c.ranges.running, clean c.ranges.allowance) at c.read_sums_among.ensures.exact

-- where a limit is given, its buffer has the size of a number
limit_sized : (s : Start) (α : ℤ) → read s ≡ Ok α → length s.args.limit.now ≡ bytes w64
unfolding read_buffers
limit_sized s α e = eqb-true _ _ (and_right _ _ (reading_sizes-passed _ _ _ _ α e))

-- the buffer with an answer
abbrev given : Start → Result ℤ Refusal → ReadOut
given s r = stored_limit r s.args.limit.now

pub returns-in_err-alpha : goal.returns-in_err-alpha
returns-in_err-alpha c =
    let p = goal.at.returns-in_err-alpha c in
    rw (handed_on c.from_residual.ensures.1) (ap (given p.Start) (sym c.in_err-alpha.was ∙ answered p.After-read_sums_among))

pub store_signed-requires : goal.store_signed-requires
store_signed-requires c =
    let p = goal.at.store_signed-requires c in
    (refl, omega (arith, limit_sized p.Start _ (sym (answered p.After-read_sums_among) ∙ c.in_ok-alpha.was)))

pub returns : goal.returns
returns c =
    let p = goal.at.returns c in
    let w = sym c.in_ok-alpha.was ∙ answered p.After-read_sums_among in
    let f = clean_element c.in_ok-alpha.alpha (omega arith) in
    ap₂ (λ (v : ℤ) (o : List ℕ). record { answer = Ok v; limit = o }) f
    (number-stored c.args.limit.now (limit_sized p.Start _ (sym w)) f c.store_signed.ensures)
    ∙ ap (given p.Start) w
