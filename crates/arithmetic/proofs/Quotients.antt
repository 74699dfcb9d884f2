-- Quotients and roots that are rounded up: their sizes, and the cases of the root.
use mathlib.Core.Path.{◌≡◌, refl, ap}
use mathlib.Core.List.{[], ◌∷◌}
use Prim.Native.Nat.{ℕ, zero, suc}
use native.Mathlib.Omega.{arith}
use native.Mathlib.Numerals.{add-one}
use lib.IntN.{ℤ, pos, negsuc, ◌+ℤ◌, ◌-ℤ◌}
use lib.Signed.{◌≤ℤ◌, ◌<ℤ◌}
use Rattle.integers.specs.Numbers.{Within}
use Rattle.integers.specs.Division.{ceil_div}
use Rattle.integers.specs.Root.{whole_root, root_within, root_above, least_root}
use Rattle.integers.proofs.Parts.{≤_out, <_out, ≡_in, minus_diff, pos_nonneg, *ℤ-nonneg, gap-nonneg}
use Rattle.integers.proofs.Order.{≤_unless}
use Rattle.integers.proofs.Solver.{◌&◌, order, solver}
use Rattle.integers.proofs.Machine.{within-neg, within_floor, within-high}
use Rattle.integers.proofs.Roots.{root_law, root_above-nonneg, root_above-least}
use Rattle.arithmetic.specs.Required.{root_range, bound_range}

-- ---- sizes
pub within_ceil : {m : ℕ} {a : ℤ} (d : ℤ) → Within m a → Within m (ceil_div a d)
unfolding ceil_div
within_ceil d w = within-neg (within_floor d (within-neg w))

pub nonneg-within : {m : ℕ} {x : ℤ} → pos 0 ≤ℤ x → x ≤ℤ pos m → Within m x
nonneg-within {x = pos a} h k = record { size = omega (arith, ≤_out k) }
nonneg-within {x = negsuc a} h k = absurd h.le

-- a root is not above its number
pub within-whole_root : {m : ℕ} {x : ℤ} → pos 0 ≤ℤ x → Within m x → Within m (whole_root x)
within-whole_root {m} {x} h w =
    let r = whole_root x in
    let l = root_law x h in
    nonneg-within l.nonneg (≤_unless (λ e.
    let one : pos 1 ≤ℤ r = order (r ∷ pos m ∷ []) (e & pos_nonneg m) (search solver depth 40 fits 20000) (omega arith) in
    order (x ∷ r ∷ pos m ∷ []) (l.low & within-high w & *ℤ-nonneg l.nonneg (gap-nonneg one)) (search solver depth 40 fits 20000)
    (omega arith)))

-- the least root of such a number
pub within_root : (t b : ℤ) → Within bound_range b → Within root_range (least_root t b)
unfolding least_root
within_root t b w =
    nonneg-within (root_above-nonneg (ceil_div b t))
    (root_above-least (ceil_div b t) (pos root_range) (pos_nonneg _) (within-high (within_ceil t w)))

-- ---- the root's two cases
none_above : (q : ℤ) → q ≤ℤ pos 0 → pos 0 ≡ root_above q
unfolding root_above
none_above (pos zero) h = refl
none_above (pos (suc q)) h = absurd (omega (arith, ≤_out h))
none_above (negsuc q) h = refl

some_above : (q : ℤ) → pos 0 <ℤ q → whole_root (q -ℤ pos 1) +ℤ pos 1 ≡ root_above q
unfolding root_above whole_root
some_above (pos zero) h = absurd (omega (arith, <_out h))
some_above (pos (suc q)) h =
    let e : pos (suc q) -ℤ pos 1 ≡ pos q = ≡_in (omega (arith, (minus_diff (pos 1) (pos (suc q))).is)) in
    rw e (ap pos (add-one (root_within q q)))
some_above (negsuc q) h = absurd (omega (arith, <_out h))

module _ (t b : ℤ) where
  pub root_none : ceil_div b t ≤ℤ pos 0 → pos 0 ≡ least_root t b
  unfolding least_root
  root_none h = none_above (ceil_div b t) h

  pub root_some : pos 0 <ℤ ceil_div b t → whole_root (ceil_div b t -ℤ pos 1) +ℤ pos 1 ≡ least_root t b
  unfolding least_root
  root_some h = some_above (ceil_div b t) h
