-- R28.12 of docs/RULES.md: on a bus whose block and run area have their sizes the acts do their work, and keep these sizes.
use mathlib.Core.Path.{◌≡◌, refl, ap}
use mathlib.Core.Bool.{◌&&◌}
use mathlib.Core.List.{List, [], ◌∷◌}
use Prim.Native.Nat.{ℕ, suc}
use borrow.Author.Tests.{eq-eqb}
use lib.Bits.{bit_and}
use lib.Dec.{eqb}
use lib.IntN.{ℤ, pos, nat_abs}
use lib.Signed.{le_z, lt_z}
use lib.ListN.{length, length-replicate}
use mir.Syntax.{w64}
use Rattle.integers.proofs.Parts.{choice_by}
use Rattle.words.proofs.Laws.{length-bytes_of}
use Rattle.tables.specs.Entering.{entered}
use Rattle.std.specs.Prelude.{Ok}
use Rattle.tables.proofs.Answers.{after-means}
use Rattle.cholesky.specs.Factoring.{Column}
use Rattle.bus.specs.Registers.{block_bytes, command, start_command, reset_command, writable, reset_block, is_busy}
use Rattle.bus.specs.Area.{run_numbers, run_bytes, area_of, area_bytes, blank_bytes}
use Rattle.bus.specs.Running.{Bus, Work, nothing, column, search, settled, column_taken, worked, work_of}
use Rattle.bus.specs.Bus as Acts
use Rattle.bus.specs.Bus.{Moved, written, written_at, commanded, start, started, refused_start, begun_start, ticked, reset_bus, bus_sized}
use Rattle.bus.specs.Bus.{where_sized}
use Rattle.bus_runs.specs.Operations.{Operation, write, tick, read, look, Sized, applied, after}
use Rattle.bus_runs.proofs.Blocks.{SizedBlock, sized_set, started-sized, refused-sized, settled-sized}

-- ---- the sizes
sized-bus : {b : List ℕ} → SizedBlock b → (r : List ℕ) → length r ≡ run_bytes → Sized (record { block = b; run = r })
sized-bus z r e = record { block_size = z.size; run_size = e }

pub area-size : (r : List ℤ) → length (area_bytes r) ≡ run_bytes
area-size r = length-bytes_of w64 r run_numbers

blank_size : length blank_bytes ≡ run_bytes
unfolding blank_bytes
blank_size = length-replicate {A = ℕ} run_bytes 0

reset_sized : Sized reset_bus
unfolding reset_bus reset_block
reset_sized = record { block_size = length-replicate {A = ℕ} block_bytes 0; run_size = blank_size }

module _ {s : Bus} (z : Sized s) where
  pub block_sized : SizedBlock s.block
  block_sized = record { size = z.block_size }

  -- ---- the acts do their work
  works : (m : Moved) → where_sized s.block s.run m ≡ m
  unfolding where_sized bus_sized
  works m = rw (where_sized, eq-eqb _ _ z.block_size, eq-eqb _ _ z.run_size) refl

  pub write-act : (k : ℤ) (v : ℕ) (l u : List ℕ) → Acts.write s.block s.run k v l u ≡ written s k v l u
  unfolding Acts.write
  write-act k v l u = works (written s k v l u)

  pub write_works : (k : ℤ) (v : ℕ) (l u : List ℕ) → applied (write k v l u) s ≡ (written s k v l u).bus
  unfolding applied
  write_works k v l u = ap (λ (m : Moved). m.bus) (write-act k v l u)

  pub tick_works : applied tick s ≡ ticked s
  unfolding applied Acts.tick
  tick_works = ap (λ (m : Moved). m.bus) (works (record { answer = Ok tt; bus = ticked s }))

  -- ---- a write
  start-sized : (l u : List ℕ) → Sized (start s l u).bus
  unfolding start started entered refused_start begun_start
  start-sized l u =
      choice_by (λ (m : Moved). Sized m.bus) (is_busy s.block) (λ t. z)
      (λ t. after-means (refused_start s.block) _ _ Sized (λ r. sized-bus (refused-sized block_sized _) blank_bytes blank_size)
      (λ e. sized-bus (started-sized block_sized) _ (area-size _)))

  command-sized : (c : ℕ) (l u : List ℕ) → Sized (commanded s c l u).bus
  unfolding commanded
  command-sized c l u =
      choice_by (λ (m : Moved). Sized m.bus) (eqb c start_command) (λ t. start-sized l u)
      (λ t. choice_by Sized (eqb c reset_command) (λ r. reset_sized) (λ r. z))

  write-sized : (k : ℤ) (v : ℕ) (l u : List ℕ) → Sized (written s k v l u).bus
  unfolding written written_at
  write-sized k v l u =
      choice_by (λ (m : Moved). Sized m.bus) (le_z (pos 0) k && lt_z k (pos block_bytes))
      (λ t. choice_by (λ (m : Moved). Sized m.bus) (eqb (nat_abs k) command) (λ r. command-sized (bit_and v (writable command)) l u)
      (λ r. sized-bus (sized_set block_sized (nat_abs k) _) s.run z.run_size))
      (λ t. z)

  -- ---- a tick
  settled-bus : (v : ℕ) → Sized (settled v s.block)
  unfolding settled
  settled-bus v = sized-bus (settled-sized block_sized v) blank_bytes blank_size

  column_sized : (r : List ℤ) (n j : ℕ) (c : Column) → Sized (column_taken s.block r n j c)
  unfolding column_taken
  column_sized r n j c =
      choice_by Sized c.done (λ t. choice_by Sized (eqb (suc j) n) (λ e. settled-bus _) (λ e. sized-bus block_sized _ (area-size _)))
      (λ t. sized-bus block_sized _ (area-size _))

  work_sized : (w : Work) → Sized (worked s.block s.run w)
  unfolding worked
  work_sized nothing = z
  work_sized (column n j) = column_sized (area_of s.run) n j _
  work_sized (search n j m) = settled-bus _

  tick-sized : Sized (ticked s)
  unfolding ticked
  tick-sized = choice_by Sized (is_busy s.block) (λ t. work_sized (work_of (area_of s.run))) (λ t. z)

-- ---- every operation keeps them, and so does a list
pub sizes-kept : (o : Operation) (s : Bus) → Sized s → Sized (applied o s)
unfolding applied
sizes-kept (write k v l u) s z = rw (write_works z k v l u) (write-sized z k v l u)
sizes-kept tick s z = rw (tick_works z) (tick-sized z)
sizes-kept (read k) s z = z
sizes-kept look s z = z

pub sizes-kept-after : (os : List Operation) (s : Bus) → Sized s → Sized (after os s)
unfolding after
sizes-kept-after [] s z = z
sizes-kept-after (o ∷ os) s z = sizes-kept-after os (applied o s) (sizes-kept o s z)
