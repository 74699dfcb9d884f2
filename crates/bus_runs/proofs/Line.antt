-- R28.11 of docs/RULES.md: the line is raised exactly while flags and mask have a bit that is one in both.
use mathlib.Core.Path.{◌≡◌, refl, sym, ap, ◌∙◌}
use mathlib.Core.Bool.{Bool, true, false, not}
use mathlib.Core.Logic.{by_cases, ◌↔◌}
use mathlib.Core.List.{List}
use Prim.Native.Nat.{ℕ, zero, suc, ◌/◌, ◌%◌, ◌^◌, ◌≤◌, ◌<◌, min}
use native.Mathlib.Nat.{pow-succ', div-div-eq-div-mul, zero-div}
use native.Mathlib.Omega.{arith}
use native.Mathlib.Decide.{ℕ_discrete}
use borrow.Author.Tests.{eq-eqb, eqb-false, ne_eqb, not-true}
use lib.Bits.{bit_and, and_shr, and_step}
use lib.ListN.{length}
use Rattle.bus.specs.Registers.{block_bytes, register, flags, mask, is_raised}
use Rattle.bus.specs.Bus.{line}
use Rattle.std.specs.Prelude.{Result, Ok}
use Rattle.tables.specs.declared.Refusal.{Refusal}
use Rattle.bus.specs.declared.line.Line.{Line}
use Rattle.bus.specs.Running.{Bus}
use Rattle.bus_runs.specs.Operations.{Operation, Sized, after}
use Rattle.bus_runs.specs.Runs.{CommonBit}
use Rattle.bus_runs.proofs.Sizes.{sizes-kept-after}

-- a bit is one
record Bit (x : ℕ) : Type 0 where
  place : ℕ
  one : x / 2 ^ place % 2 ≡ 1

-- a number above 0 has a bit; m bounds it
some_bit : (m x : ℕ) → x ≤ m → 0 < x → Bit x
some_bit zero x h p = absurd (omega arith)
some_bit (suc m) x h p =
    by_cases (ℕ_discrete (x % 2) 1) (λ e. record { place = 0; one = omega arith })
    (λ e. let s = some_bit m (x / 2) (omega arith) (omega arith) in
    record { place = suc s.place; one = rw (pow-succ' 2 s.place, ← div-div-eq-div-mul x 2 (2 ^ s.place)) s.one })

-- bit k of the two together
bit_of_and : (x y k : ℕ) → bit_and x y / 2 ^ k % 2 ≡ min (x / 2 ^ k % 2) (y / 2 ^ k % 2)
bit_of_and x y k = rw (and_shr x y k) (omega (arith, and_step (x / 2 ^ k) (y / 2 ^ k)))

raised_bit : (b : List ℕ) → is_raised b ≡ true → CommonBit (register b flags) (register b mask)
unfolding is_raised
raised_bit b e =
    let x = bit_and (register b flags) (register b mask) in
    let some : x ≡ 0 → ⊥ = eqb-false x 0 (not-true _ e) in
    let s = some_bit x x (omega arith) (omega arith) in
    let both = bit_of_and (register b flags) (register b mask) s.place in
    record { place = s.place; first = omega (arith, s.one); second = omega (arith, s.one) }

bit_raised : (b : List ℕ) → CommonBit (register b flags) (register b mask) → is_raised b ≡ true
unfolding is_raised
bit_raised b c =
    let x = bit_and (register b flags) (register b mask) in
    let both = bit_of_and (register b flags) (register b mask) c.place in
    let none : x ≡ 0 → x / 2 ^ c.place ≡ 0 = λ e. rw e (zero-div (2 ^ c.place)) in
    ap not (ne_eqb x 0 (λ e. absurd (omega (arith, none e, c.first, c.second))))

pub line-means : (b : List ℕ) → (is_raised b ≡ true) ↔ CommonBit (register b flags) (register b mask)
line-means b = (raised_bit b, bit_raised b)

-- the same of the act
line-raised : (b : List ℕ) → length b ≡ block_bytes → line b ≡ elim (is_raised b) [ true ↦ Ok Line.Raised | false ↦ Ok Line.Low ]
unfolding line
line-raised b e = rw (line, eq-eqb _ _ e) refl

raised-only : (x : Bool) → ◌≡◌ {A = Result Line Refusal} (elim x [ true ↦ Ok Line.Raised | false ↦ Ok Line.Low ]) (Ok Line.Raised) →
    x ≡ true
raised-only true e = refl
raised-only false e = cc

pub line-act-means : (b : List ℕ) → length b ≡ block_bytes → (line b ≡ Ok Line.Raised) ↔ CommonBit (register b flags) (register b mask)
line-act-means b e =
    (λ h. raised_bit b (raised-only (is_raised b) (sym (line-raised b e) ∙ h)), λ c. line-raised b e ∙ rw (bit_raised b c) refl)

-- and of the bus after any operations
pub line_after : (os : List Operation) (s : Bus) → Sized s →
    (line (after os s).block ≡ Ok Line.Raised) ↔ CommonBit (register (after os s).block flags) (register (after os s).block mask)
line_after os s z = line-act-means (after os s).block (sizes-kept-after os s z).block_size
