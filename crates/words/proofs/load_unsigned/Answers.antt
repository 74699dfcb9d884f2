use mathlib.Core.Path.{◌≡◌}
use mathlib.Core.List.{List}
use Prim.Native.Nat.{ℕ, suc, ◌≤◌, ◌<◌, ◌-◌, ◌+◌, ◌^◌}
use native.Mathlib.Nat.{sub_self, pow-le-pow_right}
use native.Mathlib.Omega.{arith}
use Rattle.words.specs.Numbers.{unsigned_at, from_le_bytes}
use Rattle.words.proofs.Laws.{AllBytes, unsigned_at-below, unsigned_at_suc}
use Rattle.words.proofs.load_unsigned.Goals as goal

-- a number of at most 7 bytes
below : (b : List ℕ) (k at : ℕ) → AllBytes b → k ≤ 7 → unsigned_at k b at < 256 ^ 7
below b k at h l =
    let p : 256 ^ k ≤ 256 ^ 7 = pow-le-pow_right {n = 256} (omega arith) {j = 7} (omega arith) in
    omega (arith, unsigned_at-below k b at h)

pub loop-i-init : goal.loop-i-init
unfolding unsigned_at from_le_bytes
loop-i-init c = rw sub_self

pub overflow_mul-u : goal.overflow_mul-u
overflow_mul-u c =
    let l = c.loop-i in
    let a = c.args in
    let h = below a.b.now (a.k - l.i) (a.at + l.i) (record { each = λ j. omega (arith, c.type_inv.b j) }) (omega arith) in
    record { fits = omega arith }

pub overflow_add-u-in-loop-i : goal.overflow_add-u-in-loop-i
overflow_add-u-in-loop-i c =
    let l = c.loop-i in
    let a = c.args in
    let h = below a.b.now (a.k - l.i) (a.at + l.i) (record { each = λ j. omega (arith, c.type_inv.b j) }) (omega arith) in
    record { fits = omega arith }

pub loop-i-preserved : goal.loop-i-preserved
loop-i-preserved c =
    let l = c.loop-i in
    let a = c.args in
    let n : a.k - (l.i - 1) ≡ suc (a.k - l.i) = omega arith in
    let m : suc (a.at + (l.i - 1)) ≡ a.at + l.i = omega arith in
    rw (n, unsigned_at_suc (a.k - l.i) a.b.now (a.at + (l.i - 1)) (omega arith), m) (omega arith)
