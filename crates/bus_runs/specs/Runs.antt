-- D3.11 of docs/RULES.md: what a start and the operations after it come to.
use Rattle.std.specs.Prelude.{◌≡◌, true, false, List, [], ◌∷◌, ◌++◌, ℕ, suc, ◌/◌, ◌%◌, ◌^◌, ◌≤◌, ◌<◌, ℤ, pos, length}
use Rattle.std.specs.Int.Bits.{bit_and, bit_or}
use Rattle.tables.specs.Matrix.{Matrix}
use Rattle.tables.specs.Refusals.{refusal_number}
use Rattle.tables.specs.Checks.{order_of}
use Rattle.tables.specs.Entering.{low_bounds, high_bounds}
use Rattle.tables.specs.declared.Refusal.{Refusal}
use Rattle.tables.specs.declared.Refusal.TheVariants.{Busy}
use Rattle.std.specs.Prelude.{Ok, Err}
use Rattle.cholesky.specs.Factoring.{factored}
use Rattle.verdict.specs.Judge.{Judgement, definite, not_definite, undecided, refused, judging}
use Rattle.buffers.specs.Buffers.{table_of}
use Rattle.bus.specs.Registers as Registers
use Rattle.bus.specs.Running.{Bus}
use Rattle.bus.specs.Bus as Acts
use Rattle.bus_runs.specs.Operations.{Operation, tick, after, starts, any_reset, any_command, ticks}

-- R28.1: a verdict's number in register 3
unfoldable pub verdict_number : Judgement → ℕ
verdict_number (definite t w) = 1
verdict_number (not_definite x) = 2
verdict_number undecided = 3
verdict_number (refused r) = 0

-- what status, refusal number and verdict of a bus are
pub record Shows (s : Bus) (status number verdict : ℕ) : Type 0 where
  pub status_is : Registers.register s.block Registers.status ≡ status
  pub number_is : Registers.register s.block Registers.number ≡ number
  pub verdict_is : Registers.register s.block Registers.verdict ≡ verdict

-- a bit of the flags is up, and the others are as they were
pub record Flagged (before now : Bus) (bit : ℕ) : Type 0 where
  pub up : bit_and (Registers.register now.block Registers.flags) bit ≡ bit
  pub others : Registers.register now.block Registers.flags ≡ bit_or (Registers.register before.block Registers.flags) bit

-- R28.11: the same bit is one in both
pub record CommonBit (x y : ℕ) : Type 0 where
  pub place : ℕ
  pub first : x / 2 ^ place % 2 ≡ 1
  pub second : y / 2 ^ place % 2 ≡ 1

-- the tick in which a problem of order n is settled: n where factoring ends; else that after the column in which it stops
unfoldable pub settling_tick : ℕ → Matrix → Matrix → ℕ
settling_tick n L U = elim (factored n L U).ends [ true ↦ n | false ↦ suc (suc (length (factored n L U).columns)) ]

-- a bus on which nothing runs, and a start on it with the tables that l and u spell
module _ (s : Bus) (l u : List ℕ) where
  abbrev n : ℤ
  n = pos (Registers.register s.block Registers.order)

  abbrev k : ℕ
  k = order_of n

  -- the judge's answer to the problem as it is handed to the start
  abbrev pub judgement : Judgement
  judgement = judging n (Acts.tables_sized k l u) (table_of k l) (table_of k u)

  -- the tick in which it is given
  abbrev pub last_tick : ℕ
  last_tick = settling_tick k (low_bounds k (table_of k l)) (high_bounds k (table_of k u))

  pub record StartMeaning : Type 0 where
    -- it is answered by Ok, whatever the judge says of it
    pub answers : (Acts.write s.block s.run (pos Registers.command) Registers.start_command l u).answer ≡ Ok tt
    -- a start that the judge refuses: refused alone is up, with the judge's number, and its flag
    pub refuses : (r : Refusal) → judgement ≡ refused r →
        Shows (after (starts l u ∷ []) s) Registers.refused (refusal_number r) 0
    pub flagged-refused : (r : Refusal) → judgement ≡ refused r → Flagged s (after (starts l u ∷ []) s) Registers.refused
    -- and so it stays, but for the flag, through any operations but a start and a reset
    pub stays-refused : (r : Refusal) → judgement ≡ refused r → (ps : List Operation) → any_command ps ≡ false →
        Shows (after (starts l u ∷ ps) s) Registers.refused (refusal_number r) 0
    -- any other start has busy's flag up
    pub flagged-start : ((r : Refusal) → judgement ≡ refused r → ⊥) → Flagged s (after (starts l u ∷ []) s) Registers.busy
    -- and with any operations after it but a reset: before the last tick busy alone is up, and there is no verdict
    pub runs : ((r : Refusal) → judgement ≡ refused r → ⊥) →
        (os : List Operation) → any_reset os ≡ false → ticks os < last_tick →
        Shows (after (starts l u ∷ os) s) Registers.busy 0 0
    -- and a start is refused by 20 and moves nothing
    pub busy-start : ((r : Refusal) → judgement ≡ refused r → ⊥) →
        (os : List Operation) → any_reset os ≡ false → ticks os < last_tick → (l' u' : List ℕ) →
        Acts.write (after (starts l u ∷ os) s).block (after (starts l u ∷ os) s).run
        (pos Registers.command) Registers.start_command l' u' ≡
        record { answer = Err Busy; bus = after (starts l u ∷ os) s }
    -- in the last tick done alone is up, with the judge's verdict, and its flag
    pub settles : ((r : Refusal) → judgement ≡ refused r → ⊥) →
        (os : List Operation) → any_reset os ≡ false → suc (ticks os) ≡ last_tick →
        Shows (after (starts l u ∷ (os ++ (tick ∷ []))) s) Registers.done 0 (verdict_number judgement)
    pub flagged : ((r : Refusal) → judgement ≡ refused r → ⊥) →
        (os : List Operation) → any_reset os ≡ false → suc (ticks os) ≡ last_tick →
        Flagged (after (starts l u ∷ os) s) (after (starts l u ∷ (os ++ (tick ∷ []))) s) Registers.done
    -- and so it stays, but for the flag, through any operations but a start and a reset
    pub stays : ((r : Refusal) → judgement ≡ refused r → ⊥) →
        (os : List Operation) → any_reset os ≡ false → suc (ticks os) ≡ last_tick →
        (ps : List Operation) → any_command ps ≡ false →
        Shows (after (starts l u ∷ (os ++ (tick ∷ ps))) s) Registers.done 0 (verdict_number judgement)
    -- the last tick is no later than tick n + 1
    pub soon : ((r : Refusal) → judgement ≡ refused r → ⊥) → last_tick ≤ suc k
