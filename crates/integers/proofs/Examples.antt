-- Uses of the solvers, which the check runs.
use mathlib.Core.Path.{◌≡◌, refl}
use mathlib.Core.List.{[], ◌∷◌}
use Prim.Native.Nat.{ℕ}
use native.Mathlib.Omega.{arith}
use lib.IntN.{ℤ, pos, negsuc, ◌+ℤ◌, ◌-ℤ◌, ◌*ℤ◌}
use lib.Signed.{◌≤ℤ◌, ◌<ℤ◌}
use Rattle.integers.specs.Division.{floor_div, ceil_div}
use Rattle.integers.specs.Root.{root_above, root_within, whole_root, least_root}
use Rattle.integers.specs.Sum.{sum}
use Rattle.integers.proofs.Parts.{square_nonneg, pos_nonneg}
use Rattle.integers.proofs.Solver.{◌&◌, ring, order, solver}
use Rattle.integers.proofs.Certificate.{combined, ◌⊞◌, ◌⊠◌}

-- ---- equations
difference_of-squares : (a b : ℤ) → (a +ℤ b) *ℤ (a -ℤ b) ≡ a *ℤ a -ℤ b *ℤ b
difference_of-squares a b = ring (a ∷ b ∷ []) (search solver depth 40 fits 20000) refl

two-squares : (a b c d : ℤ) →
    (a *ℤ d -ℤ b *ℤ c) *ℤ (a *ℤ d -ℤ b *ℤ c) +ℤ (a *ℤ c +ℤ b *ℤ d) *ℤ (a *ℤ c +ℤ b *ℤ d)
    ≡ (a *ℤ a +ℤ b *ℤ b) *ℤ (c *ℤ c +ℤ d *ℤ d)
two-squares a b c d = ring (a ∷ b ∷ c ∷ d ∷ []) (search solver depth 40 fits 20000) refl

large_numerals : (a b : ℤ) →
    (pos 4294967296 *ℤ a +ℤ pos 2147483648 *ℤ b) *ℤ (pos 4294967296 *ℤ a -ℤ pos 2147483648 *ℤ b)
    ≡ pos 18446744073709551616 *ℤ (a *ℤ a) -ℤ pos 4611686018427387904 *ℤ (b *ℤ b)
large_numerals a b = ring (a ∷ b ∷ []) (search solver depth 40 fits 20000) refl

-- ---- orders
chain : (a b c d : ℤ) → a ≤ℤ b → b ≤ℤ c → c <ℤ d → d ≤ℤ pos 10 → (a +ℤ b +ℤ c +ℤ d) ≤ℤ pos 37
chain a b c d h k l m = order (a ∷ b ∷ c ∷ d ∷ []) (h & k & l & m) (search solver depth 40 fits 20000) (omega arith)

by_equations : (x y z w : ℤ) → x ≡ y +ℤ pos 1 → y ≡ z -ℤ w → w <ℤ pos 0 → z ≤ℤ x
by_equations x y z w h k l = order (x ∷ y ∷ z ∷ w ∷ []) (h & k & l) (search solver depth 40 fits 20000) (omega arith)

whole : (x y : ℤ) → (pos 3 *ℤ x) ≤ℤ (pos 3 *ℤ y +ℤ pos 2) → x ≤ℤ y
whole x y h = order (x ∷ y ∷ []) h (search solver depth 40 fits 20000) (omega arith)

cauchy_schwarz : (a b c d : ℤ) → ((a *ℤ c +ℤ b *ℤ d) *ℤ (a *ℤ c +ℤ b *ℤ d)) ≤ℤ ((a *ℤ a +ℤ b *ℤ b) *ℤ (c *ℤ c +ℤ d *ℤ d))
cauchy_schwarz a b c d =
    order (a ∷ b ∷ c ∷ d ∷ []) (square_nonneg (a *ℤ d -ℤ b *ℤ c)) (search solver depth 40 fits 20000) (omega arith)

with-a-sum : (n : ℕ) (f : ℕ → ℤ) → pos 0 ≤ℤ f n → sum n f ≤ℤ (sum n f +ℤ f n)
with-a-sum n f h = order (sum n f ∷ f n ∷ []) h (search solver depth 40 fits 20000) (omega arith)

-- ---- one combined fact
twice_first : (a b c : ℤ) → a ≤ℤ b → b ≤ℤ c → (a +ℤ a) ≤ℤ (b +ℤ c +ℤ c *ℤ c)
twice_first a b c h k = combined (a ∷ b ∷ c ∷ []) (pos_nonneg 2 ⊠ h ⊞ k) (search solver depth 40 fits 20000) tt

cauchy_schwarz_3 : (a b c d e f : ℤ) →
    ((a *ℤ d +ℤ b *ℤ e +ℤ c *ℤ f) *ℤ (a *ℤ d +ℤ b *ℤ e +ℤ c *ℤ f)) ≤ℤ ((a *ℤ a +ℤ b *ℤ b +ℤ c *ℤ c) *ℤ (d *ℤ d +ℤ e *ℤ e +ℤ f *ℤ f))
cauchy_schwarz_3 a b c d e f =
    combined (a ∷ b ∷ c ∷ d ∷ e ∷ f ∷ [])
    (square_nonneg (a *ℤ e -ℤ b *ℤ d) ⊞ square_nonneg (a *ℤ f -ℤ c *ℤ d) ⊞ square_nonneg (b *ℤ f -ℤ c *ℤ e))
    (search solver depth 40 fits 20000) tt

-- ---- the definitions compute
around_zero : (floor_div (negsuc 0) (pos 2) ≡ negsuc 0) × (floor_div (pos 1) (pos 2) ≡ pos 0) × (floor_div (negsuc 3) (pos 2) ≡ negsuc 1) × (ceil_div (negsuc 0) (pos 2) ≡ pos 0)
unfolding floor_div ceil_div
around_zero = (refl, refl, refl, refl)

roots : (whole_root (pos 72057594037927935) ≡ pos 268435455) × (whole_root (pos 72057594037927936) ≡ pos 268435456)
unfolding whole_root root_within
roots = (refl, refl)

-- 3 s² ≥ 12 from s = 2 on, 3 s² ≥ 13 from s = 3 on
least_roots : (least_root (pos 3) (pos 12) ≡ pos 2) × (least_root (pos 3) (pos 13) ≡ pos 3) × (least_root (pos 3) (negsuc 4) ≡ pos 0)
unfolding least_root ceil_div floor_div root_above root_within
least_roots = (refl, refl, refl)
