use mathlib.Core.Path.{◌≡◌, sym, ap, ◌∙◌}
use Prim.Native.Nat.{ℕ, ◌+◌, ◌-◌, ◌*◌, ◌/◌, ◌%◌, ◌^◌, ◌≤◌, ◌<◌}
use native.Mathlib.Nat.{div-le_self, one-mul}
use native.Mathlib.Omega.{arith}
use lib.Dec.{lit<}
use lib.IntN.{pos}
use lib.Pow.{pow_pos, pow_mono, shl_exact}
use mir.Syntax.{w64}
use mir.Val.{SFits, to_z}
use Rattle.integers.proofs.Machine.{read_i64}
use Rattle.floats.proofs.Next.{up_is}
use Rattle.floats.proofs.rounded_up.Lts as lts
use Rattle.floats.proofs.rounded_up.Reads as reads
use Rattle.floats.proofs.rounded_up.Goals as goal

abbrev Start : Type 0
Start = lts.Start reads.Pre reads.Post

abbrev power : Start → ℕ
power s = 2 ^ s.args.places

-- 1 << places
abbrev shifted : Start → ℕ
shifted s = 1 * power s % 4294967296

shifted_is : (s : Start) → shifted s ≡ power s
shifted_is s = shl_exact {a = 1} 1 s.args.places 32 (lit< tt) (omega (arith, s.requires.1)) ∙ one-mul (power s)

record Sizes (s : Start) : Type 0 where
  pub digits : s.args.digits < 2 ^ 24
  pub some : 0 < shifted s
  pub most : shifted s ≤ 2 ^ 24

sizes : (s : Start) → Sizes s
sizes s = record {
  digits = s.requires.0;
  some = rw (shifted_is s) (pow_pos s.args.places);
  most = rw (shifted_is s) (pow_mono s.requires.1);
}

small : (n d : ℕ) → n ≤ 2 ^ 25 → n / d < 2 ^ 63
small n d h = omega (arith, div-le_self n d)

quotient_fits : (n d : ℕ) → n ≤ 2 ^ 25 → SFits w64 (pos (n / d))
quotient_fits n d h = record { sfits = small n d h }

quotient-read : (n d : ℕ) → n ≤ 2 ^ 25 → to_z w64 (n / d) ≡ pos (n / d)
quotient-read n d h = read_i64 (n / d) (small n d h)

-- the sizes are asked of whatever is divided: a wrong quotient is refused at the promise
pub returns : goal.returns
returns c =
    let q = c.args.digits in
    quotient-read (q + (shifted c - 1)) (power c) (omega (arith, sizes c))
    ∙ ap (λ (z : ℕ). pos ((q + (z - 1)) / power c)) (shifted_is c)
    ∙ sym (up_is q (power c) (pow_pos c.args.places))

pub overflow_sub-last : goal.overflow_sub-last
overflow_sub-last c = omega (arith, sizes c)

pub overflow_add-result : goal.overflow_add-result
overflow_add-result c = record { fits = omega (arith, sizes c) }

pub overflow_cast-result : goal.overflow_cast-result
overflow_cast-result c = quotient_fits _ _ (omega (arith, sizes c))
