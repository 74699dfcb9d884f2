use mathlib.Core.Path.{sym, ap, ap₂, ◌∙◌}
use Prim.Native.Nat.{ℕ, ◌^◌, ◌<◌}
use native.Mathlib.Omega.{arith}
use lib.Dec.{lit<}
use lib.IntN.{ℤ, pos, neg_ℤ, +ℤ_idl}
use Rattle.integers.specs.Division.{floor_div, ceil_div}
use Rattle.integers.specs.Numbers.{Within}
use Rattle.integers.proofs.Machine.{clean, clean_result, fits_within, within--, within_floor}
use Rattle.floats.specs.Brackets.{signed, whole_next_to}
use Rattle.floats.proofs.Next.{next_negated, within_ceil}
use Rattle.floats.proofs.cut.Goals as goal

zero_within : Within 0 (pos 0)
zero_within = record { size = omega arith }

digits-within : (digits : ℕ) → digits < 2 ^ 24 → Within (2 ^ 24) (pos digits)
digits-within digits h = record { size = omega arith }

pub overflow_sub-below : goal.overflow_sub-below
overflow_sub-below c =
    let k = c.rounded_up-ceiling in
    rw (clean_result k, k.ensures) (fits_within (within-- zero_within (within_ceil (pos (2 ^ c.args.places)) (digits-within c.args.digits c.requires.0))) (lit< tt))

pub overflow_sub-above : goal.overflow_sub-above
overflow_sub-above c =
    let k = c.rounded_down-floor in
    rw (clean_result k, k.ensures) (fits_within (within-- zero_within (within_floor (pos (2 ^ c.args.places)) (digits-within c.args.digits c.requires.0))) (lit< tt))

pub returns-then-negative : goal.returns-then-negative
unfolding signed
returns-then-negative c =
    let q = pos c.args.digits in
    let up = c.rounded_up-ceiling in
    let down = c.rounded_down-floor in
    ap₂ (λ (l u : ℤ). record { low = l; high = u })
    (clean (overflow_sub-below c) ∙ rw (clean_result up, up.ensures) (+ℤ_idl (neg_ℤ (ceil_div q (pos (2 ^ c.args.places))))))
    (clean (overflow_sub-above c) ∙ rw (clean_result down, down.ensures) (+ℤ_idl (neg_ℤ (floor_div q (pos (2 ^ c.args.places))))))
    ∙ sym (next_negated q (pos (2 ^ c.args.places)))
    ∙ ap (λ b. whole_next_to (signed b c.args.digits) (pos (2 ^ c.args.places))) (sym c.if-negative.true)

pub returns-else-negative : goal.returns-else-negative
unfolding signed whole_next_to
returns-else-negative c =
    let up = c.rounded_up-ceiling in
    let down = c.rounded_down-floor in
    ap₂ (λ (l u : ℤ). record { low = l; high = u }) (clean_result down ∙ down.ensures) (clean_result up ∙ up.ensures)
    ∙ ap (λ b. whole_next_to (signed b c.args.digits) (pos (2 ^ c.args.places))) (sym c.if-negative.false)
