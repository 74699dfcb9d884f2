-- Laws of whole roots.
use mathlib.Core.Path.{◌≡◌}
use mathlib.Core.Logic.{by_cases}
use mathlib.Core.List.{[], ◌∷◌}
use Prim.Native.Nat.{ℕ, zero, suc, ◌+◌, ◌*◌, ◌-◌, ◌/◌, ◌≤◌, ◌<◌}
use native.Mathlib.Nat.{mul-le-mul, mul-le-mul_left, mul-div-le, lt-mul-div-succ}
use native.Mathlib.Decide.{dec_le, dec_lt}
use native.Mathlib.Omega.{arith}
use lib.Dec.{leb, leb→le, nleb→lt}
use lib.IntN.{ℤ, pos, negsuc, nat_abs, ◌+ℤ◌, ◌*ℤ◌}
use lib.Signed.{◌≤ℤ◌, ◌<ℤ◌, ≤ℤ_refl}
use Rattle.integers.specs.Division.{ceil_div}
use Rattle.integers.specs.Root.{root_digit, root_within, whole_root, root_above, least_root}
use Rattle.integers.proofs.Parts.{≤_in, <_in, ≤ℤ_antisym, ≤ℤ_trans, *ℤ-nonneg, gap-nonneg, pos_nonneg, choice_by}
use Rattle.integers.proofs.Solver.{◌&◌, order, solver}
use Rattle.integers.proofs.Order.{≤_unless, <_suc, *ℤ_mono, product_mono, square_cancel}
use Rattle.integers.proofs.Division.{ceil_law, ceil_least}

-- r is the root of x, rounded down: r² ≤ x < (r + 1)²
pub record IsRoot (x r : ℤ) : Type 0 where
  pub nonneg : pos 0 ≤ℤ r
  pub low : (r *ℤ r) ≤ℤ x
  pub high : x <ℤ ((r +ℤ pos 1) *ℤ (r +ℤ pos 1))

-- the same of naturals
record RootOf (x r : ℕ) : Type 0 where
  low : r * r ≤ x
  high : x < (r + 1) * (r + 1)

digit_law : (x s : ℕ) → RootOf (x / 4) s → RootOf x (root_digit x s)
digit_law x s h =
    choice_by (RootOf x) (leb ((s + s + 1) * (s + s + 1)) x) (λ t. record { low = leb→le _ _ t; high = omega (arith, h.high) })
    (λ t. record { low = omega (arith, h.low); high = nleb→lt _ _ t })

within_law : (k x : ℕ) → x ≤ k → RootOf x (root_within k x)
unfolding root_within
within_law zero x h = record { low = omega arith; high = omega arith }
within_law (suc k) x h =
    choice_by (RootOf x) (leb x 0) (λ t. let e = leb→le x 0 t in record { low = omega arith; high = omega arith })
    (λ t. let e = nleb→lt x 0 t in digit_law x (root_within k (x / 4)) (within_law k (x / 4) (omega arith)))

root_of : (x : ℕ) → RootOf x (root_within x x)
root_of x = within_law x x (omega arith)

pub root_in : {x r : ℕ} → r * r ≤ x → x < (r + 1) * (r + 1) → IsRoot (pos x) (pos r)
root_in {x} {r} h k = record { nonneg = pos_nonneg r; low = ≤_in (omega arith); high = <_in (omega arith) }

pub root_law : (x : ℤ) → pos 0 ≤ℤ x → IsRoot x (whole_root x)
unfolding whole_root
root_law (pos x) h = root_in (root_of x).low (root_of x).high
root_law (negsuc x) h = absurd h.le

-- and it is the only one
pub root_unique : {x r s : ℤ} → IsRoot x r → IsRoot x s → r ≡ s
root_unique h k = ≤ℤ_antisym (below h k) (below k h)
  where
    below : {x r s : ℤ} → IsRoot x r → IsRoot x s → r ≤ℤ s
    below {x} {r} {s} h k =
        ≤_unless (λ e.
        let m = <_suc e in
        let z : pos 0 ≤ℤ (r +ℤ s +ℤ pos 1) = order (r ∷ s ∷ []) (h.nonneg & k.nonneg) (search solver depth 40 fits 20000) (omega arith) in
        order (x ∷ r ∷ s ∷ []) (*ℤ-nonneg (gap-nonneg m) z & h.low & k.high & e) (search solver depth 40 fits 20000) (omega arith))

pub root_is : (x : ℤ) (r : ℕ) → pos 0 ≤ℤ x → r * r ≤ nat_abs x → nat_abs x < (r + 1) * (r + 1) → pos r ≡ whole_root x
root_is (pos x) r h low high = root_unique (root_in low high) (root_law (pos x) h)
root_is (negsuc x) r h low high = absurd h.le

-- the root of a number from 1 up is at least 1, and that of a number up to p² at most p
pub root_one : {x r : ℤ} → pos 1 ≤ℤ x → IsRoot x r → pos 1 ≤ℤ r
root_one {x} {r} h k =
    ≤_unless (λ e.
    let z : r ≡ pos 0 = ≤ℤ_antisym (order (r ∷ []) e (search solver depth 40 fits 20000) (omega arith)) k.nonneg in
    order (x ∷ r ∷ []) (h & (rw z at k.high) & e) (search solver depth 40 fits 20000) (omega arith))

pub root_≤ : {x r p : ℤ} → pos 0 ≤ℤ p → x ≤ℤ (p *ℤ p) → IsRoot x r → r ≤ℤ p
root_≤ h k l = square_cancel h (≤ℤ_trans l.low k)

-- ---- the least s ≥ 0 with q ≤ s²
pub root_above-nonneg : (q : ℤ) → pos 0 ≤ℤ root_above q
unfolding root_above
root_above-nonneg (pos zero) = ≤ℤ_refl (pos 0)
root_above-nonneg (pos (suc q)) = pos_nonneg _
root_above-nonneg (negsuc q) = ≤ℤ_refl (pos 0)

pub root_above_law : (q : ℤ) → q ≤ℤ (root_above q *ℤ root_above q)
unfolding root_above
root_above_law (pos zero) = ≤ℤ_refl (pos 0)
root_above_law (pos (suc q)) = ≤_in (omega (arith, (root_of q).high))
root_above_law (negsuc q) = ≤_in (omega arith)

pub root_above-least : (q s : ℤ) → pos 0 ≤ℤ s → q ≤ℤ (s *ℤ s) → root_above q ≤ℤ s
unfolding root_above
root_above-least (pos zero) s h k = h
root_above-least (pos (suc q)) s h k =
    ≤_unless (λ e.
    let m : s ≤ℤ pos (root_within q q) = order (s ∷ pos (root_within q q) ∷ []) e (search solver depth 40 fits 20000) (omega arith) in
    let l : (pos (root_within q q) *ℤ pos (root_within q q)) ≤ℤ pos q = ≤_in (omega (arith, (root_of q).low)) in
    order (s ∷ pos (root_within q q) ∷ pos q ∷ []) (product_mono h h m m & k & l & e) (search solver depth 40 fits 20000) (omega arith))
root_above-least (negsuc q) s h k = h

-- ---- the least s ≥ 0 with b ≤ t s²
pub least_root-nonneg : (t b : ℤ) → pos 0 ≤ℤ least_root t b
unfolding least_root
least_root-nonneg t b = root_above-nonneg (ceil_div b t)

pub least_root_law : (t b : ℤ) → pos 1 ≤ℤ t → b ≤ℤ (t *ℤ (least_root t b *ℤ least_root t b))
unfolding least_root
least_root_law t b h =
    ≤ℤ_trans (ceil_law b t h).high (*ℤ_mono (≤ℤ_trans (pos_nonneg 1) h) (root_above_law (ceil_div b t)))

pub least_root-least : (t b s : ℤ) → pos 1 ≤ℤ t → pos 0 ≤ℤ s → b ≤ℤ (t *ℤ (s *ℤ s)) → least_root t b ≤ℤ s
unfolding least_root
least_root-least t b s h k l = root_above-least (ceil_div b t) s k (ceil_least b t (s *ℤ s) h l)

-- ---- Newton's step s = (r + x / r) / 2
means : (a b : ℕ) → 4 * (a * b) ≤ (a + b) * (a + b)
means a b =
    by_cases (dec_le a b) (λ h. let e : a + (b - a) ≡ b = omega arith in rw e at (gap a (b - a)).0)
    (λ h. let e : b + (a - b) ≡ a = omega arith in rw e at (gap b (a - b)).1)
  where
    gap : (a d : ℕ) → (4 * (a * (a + d)) ≤ (a + (a + d)) * (a + (a + d))) × (4 * ((a + d) * a) ≤ (a + d + a) * (a + d + a))
    gap a d = omega arith

-- it is not below the root, whatever r was
pub newton_above : (x r : ℕ) → 0 < r → x < ((r + x / r) / 2 + 1) * ((r + x / r) / 2 + 1)
newton_above x r h = within (x / r) ((r + x / r) / 2) (lt-mul-div-succ x h) (omega arith)
  where
    within : (q s : ℕ) → x < r * (q + 1) → r + (q + 1) ≤ 2 * (s + 1) → x < (s + 1) * (s + 1)
    within q s k l = omega (arith, means r (q + 1), mul-le-mul l l)

-- and from an r above the root it falls
pub newton_falls : (x r : ℕ) → x < r * r → (r + x / r) / 2 < r
newton_falls x r h =
    by_cases (dec_lt (x / r) r) (λ k. omega arith) (λ k. let l : r ≤ x / r = omega arith in omega (arith, mul-div-le x r, mul-le-mul_left r l))
