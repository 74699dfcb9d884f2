-- The numbers that a buffer spells, loaded over zeros.
use mathlib.Core.Path.{◌≡◌, sym, ap, ◌∙◌}
use mathlib.Core.Bool.{Bool, true}
use mathlib.Core.List.{List, ◌++◌}
use Prim.Native.Nat.{ℕ, ◌≤◌}
use native.Mathlib.Omega.{arith}
use lib.IntN.{ℤ}
use lib.ListN.{length, drop, length-append, length-drop, length-replicate}
use mir.Syntax.{w64}
use Rattle.words.specs.Numbers.{numbers_of}
use Rattle.words.proofs.Laws.{length-numbers_of}
use Rattle.tables.specs.Checks.{Checked, order_ok, order_of, first_refusal, entry_checks, bounds_checks}
use Rattle.tables.specs.Entering.{Laid, Mended, Entered}
use Rattle.std.specs.Prelude.{Ok}
use Rattle.tables.proofs.Admission.{zeros, Padded, laid-zeros, entry-passes, mended-after, entered-laid}
use Rattle.buffers.specs.Buffers.{table_of, Terms}

-- k numbers laid over zeros
module _ {room k : ℕ} (s : List ℕ) {o o' : List ℤ} (b : o ≡ zeros room) (h : k ≤ room) (q : o' ≡ numbers_of w64 s k ++ drop k o) where
  pub loaded : Padded (numbers_of w64 s k) o'
  loaded = rw (q, b) (rw (length-numbers_of w64 s k) at (laid-zeros room (numbers_of w64 s k) (omega (arith, length-numbers_of w64 s k))))

  pub loaded_room : length o' ≡ room
  loaded_room = ap length q ∙ rw (length-append, length-numbers_of, length-drop, b, length-replicate) (omega arith)

-- where n is an order and the buffers have their sizes, checks 3 to 5 are all that is left to ask, and those of the bounds that were loaded
-- are those of the bounds that the buffers spell
pub came-sized : {n : ℤ} {m : ℕ} {sized sized' others : Bool} (l u : List ℕ) {l₀ u₀ l' u' : List ℤ} {r : Checked} → m ≡ order_of n →
    order_ok n ≡ true → sized' ≡ sized → sized' ≡ true →
    Laid m sized' (table_of m l) (table_of m u) l₀ u₀ → Mended (bounds_checks others m l₀ u₀) m l₀ u₀ r l' u' →
    Entered n sized others (table_of (order_of n) l) (table_of (order_of n) u) r l' u'
came-sized {n} {sized} {others} l u {l₀} {u₀} {l'} {u'} {r} e h g t p a =
    let passed : first_refusal (entry_checks n sized) ≡ Ok tt = entry-passes n h (sym g ∙ t) in
    let laid : Laid (order_of n) sized (table_of (order_of n) l) (table_of (order_of n) u) l₀ u₀ = rw (← e, ← g) p in
    let mended : Mended (bounds_checks others (order_of n) l₀ u₀) (order_of n) l₀ u₀ r l' u' = rw (← e) a in
    entered-laid n sized others (λ s. (length-numbers_of w64 l _, length-numbers_of w64 u _)) laid
    (mended-after (entry_checks n sized) passed mended)

-- of equal parts
pub terms_by : {n m : ℕ} {sized sized' : Bool} {b : List ℕ} {x : List ℤ} → n ≡ m → sized ≡ sized' → Terms n sized b x → Terms m sized' b x
terms_by e f h = rw (← e, ← f) h
