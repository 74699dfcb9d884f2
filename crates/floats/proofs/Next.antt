-- Laws of the whole numbers next below and above a fraction.
use mathlib.Core.Path.{◌≡◌, refl, sym, ap, ap₂, ◌∙◌}
use mathlib.Core.List.{[], ◌∷◌}
use Prim.Native.Nat.{ℕ, zero, suc, ◌+◌, ◌-◌, ◌/◌, ◌≤◌, ◌<◌}
use native.Mathlib.Nat.{div-eq_of_lt, add-div_right}
use native.Mathlib.Numerals.{add-one}
use native.Mathlib.Omega.{arith}
use lib.IntN.{ℤ, pos, negsuc, neg_ℤ, nat_abs, neg_ℤ-neg_ℤ, ◌+ℤ◌, ◌*ℤ◌}
use lib.Signed.{◌≤ℤ◌}
use Rattle.integers.specs.Division.{floor_div, ceil_div}
use Rattle.integers.specs.Numbers.{Within}
use Rattle.integers.proofs.Solver.{◌&◌, ring, order, solver}
use Rattle.integers.proofs.Parts.{*ℤ-nonneg, gap-nonneg, ≤ℤ_trans, ≤ℤ_antisym}
use Rattle.integers.proofs.Order.{<_suc, <-≤, *ℤ_cancel}
use Rattle.integers.proofs.Division.{IsFloor, IsCeil, floor_law, floor_unique, ceil_law, ceil_least, ceil_unique}
use Rattle.integers.proofs.Machine.{within-neg, within_in, within_floor}
use Rattle.floats.specs.Brackets.{whole_next_to}
use Rattle.floats.specs.declared.Neighbours.{Neighbours}

-- what the two numbers are: the whole numbers next below and above a / d, at most 1 apart, and equal exactly where a / d is whole
pub record NextTo (a d : ℤ) (n : Neighbours) : Type 0 where
  pub below : IsFloor a d n.low
  pub above : IsCeil a d n.high
  pub ordered : n.low ≤ℤ n.high
  pub close : n.high ≤ℤ (n.low +ℤ pos 1)
  pub whole : (q : ℤ) → a ≡ d *ℤ q → (n.low ≡ q) × (n.high ≡ q)
  pub only-whole : n.low ≡ n.high → a ≡ d *ℤ n.low

pub next-to : (a d : ℤ) → pos 1 ≤ℤ d → NextTo a d (whole_next_to a d)
unfolding whole_next_to
next-to a d h =
    let l = floor_div a d in
    let u = ceil_div a d in
    let f = floor_law a d h in
    let c = ceil_law a d h in
    record {
      below = f;
      above = c;
      ordered = *ℤ_cancel d h (≤ℤ_trans f.low c.high);
      close = ceil_least a d (l +ℤ pos 1) h (<-≤ f.high);
      whole = λ q e. (
        floor_unique h f (record {
          low = order (a ∷ d ∷ q ∷ []) e (search solver depth 40 fits 20000) (omega arith);
          high = order (a ∷ d ∷ q ∷ []) (e & h) (search solver depth 40 fits 20000) (omega arith);
        }),
        ceil_unique h (record {
          low = order (a ∷ d ∷ q ∷ []) (e & h) (search solver depth 40 fits 20000) (omega arith);
          high = order (a ∷ d ∷ q ∷ []) e (search solver depth 40 fits 20000) (omega arith);
        }),
      );
      only-whole = λ e. ≤ℤ_antisym (rw e c.high) f.low;
    }

-- within ±m where a / d is
pub next-within : (m : ℕ) (a d : ℤ) → pos 1 ≤ℤ d → (d *ℤ neg_ℤ (pos m)) ≤ℤ a → a ≤ℤ (d *ℤ pos m)
    → Within m (whole_next_to a d).low × Within m (whole_next_to a d).high
unfolding whole_next_to ceil_div
next-within m a d h k l =
    let n = next-to a d h in
    let high : ceil_div a d ≤ℤ pos m = ceil_least a d (pos m) h l in
    let mirrored : ceil_div (neg_ℤ a) d ≤ℤ pos m =
    ceil_least (neg_ℤ a) d (pos m) h (order (a ∷ d ∷ pos m ∷ []) k (search solver depth 40 fits 20000) (omega arith)) in
    let low : neg_ℤ (pos m) ≤ℤ floor_div a d =
    order (floor_div a d ∷ pos m ∷ []) (rw (neg_ℤ-neg_ℤ a) at mirrored) (search solver depth 40 fits 20000) (omega arith) in (
      within_in low (≤ℤ_trans n.ordered high),
      within_in (≤ℤ_trans low n.ordered) high,
    )

-- ---- the same fraction, and one that is nearer to 0
floor_scaled : (c a d : ℤ) → pos 1 ≤ℤ c → pos 1 ≤ℤ d → floor_div (c *ℤ a) (c *ℤ d) ≡ floor_div a d
floor_scaled c a d h k =
    let q = floor_div a d in
    let f = floor_law a d k in
    let p : pos 1 ≤ℤ (c *ℤ d) = order (c ∷ d ∷ []) (*ℤ-nonneg (gap-nonneg h) (gap-nonneg k) & h & k) (search solver depth 40 fits 20000) (omega arith) in
    floor_unique p (floor_law (c *ℤ a) (c *ℤ d) p) (record {
      low = order (a ∷ c ∷ d ∷ q ∷ []) (*ℤ-nonneg (gap-nonneg h) (gap-nonneg f.low) & f.low) (search solver depth 40 fits 20000) (omega arith);
      high = order (a ∷ c ∷ d ∷ q ∷ []) (*ℤ-nonneg (gap-nonneg h) (gap-nonneg (<_suc f.high)) & f.high & h) (search solver depth 40 fits 20000) (omega arith);
    })

pub next-scaled : (c a d : ℤ) → pos 1 ≤ℤ c → pos 1 ≤ℤ d → whole_next_to (c *ℤ a) (c *ℤ d) ≡ whole_next_to a d
unfolding whole_next_to ceil_div
next-scaled c a d h k =
    let e : neg_ℤ (c *ℤ a) ≡ c *ℤ neg_ℤ a = ring (c ∷ a ∷ []) (search solver depth 40 fits 20000) refl in
    ap₂ (λ (l u : ℤ). record { low = l; high = neg_ℤ u }) (floor_scaled c a d h k)
    (ap (λ z. floor_div z (c *ℤ d)) e ∙ floor_scaled c (neg_ℤ a) d h k)

floor_far : (a : ℤ) (d e : ℕ) → nat_abs a < d → d ≤ e → floor_div a (pos d) ≡ floor_div a (pos e)
unfolding floor_div
floor_far (pos a) d e h k = ap pos (div-eq_of_lt h ∙ sym (div-eq_of_lt (omega arith)))
floor_far (negsuc a) d e h k = ap negsuc (div-eq_of_lt (omega arith) ∙ sym (div-eq_of_lt (omega arith)))

-- past |a| the divisor plays no part
pub next_far : (a : ℤ) (d e : ℕ) → nat_abs a < d → d ≤ e → whole_next_to a (pos d) ≡ whole_next_to a (pos e)
unfolding whole_next_to ceil_div
next_far a d e h k =
    let w : Within (nat_abs a) a = record { size = omega arith } in
    ap₂ (λ (l u : ℤ). record { low = l; high = neg_ℤ u }) (floor_far a d e h k)
    (floor_far (neg_ℤ a) d e (omega (arith, (within-neg w).size)) k)

pub within_ceil : {m : ℕ} {a : ℤ} (d : ℤ) → Within m a → Within m (ceil_div a d)
unfolding ceil_div
within_ceil d w = within-neg (within_floor d (within-neg w))

-- ---- of a natural number, and of its negative
pub up_is : (n d : ℕ) → 0 < d → ceil_div (pos n) (pos d) ≡ pos ((n + (d - 1)) / d)
unfolding ceil_div floor_div
up_is zero d h = ap (λ (z : ℕ). neg_ℤ (pos z)) (div-eq_of_lt h) ∙ ap pos (sym (div-eq_of_lt {n = 0 + (d - 1)} {m = d} (omega arith)))
up_is (suc n) d h = let e : suc n + (d - 1) ≡ n + d = omega arith in ap pos (sym (ap (λ (z : ℕ). z / d) e ∙ add-div_right n h ∙ add-one (n / d)))

-- the neighbours of -a / d are those of a / d, negated and exchanged
pub next_negated : (a d : ℤ) → whole_next_to (neg_ℤ a) d ≡ record { low = neg_ℤ (ceil_div a d); high = neg_ℤ (floor_div a d) }
unfolding whole_next_to ceil_div
next_negated a d =
    ap₂ (λ (l u : ℤ). record { low = l; high = neg_ℤ (floor_div u d) }) (sym (neg_ℤ-neg_ℤ (floor_div (neg_ℤ a) d))) (neg_ℤ-neg_ℤ a)
