-- How texts end: a line with a number ends with the number's last digit and a line feed.
use mathlib.Core.Path.{◌≡◌, refl, sym, ap, ◌∙◌}
use mathlib.Core.List.{List, [], ◌∷◌, ◌++◌, append_assoc}
use Prim.Native.Nat.{ℕ, suc, ◌*◌, ◌+◌}
use native.Mathlib.Omega.{arith}
use lib.IntN.{ℤ, nat_abs}
use lib.ListN.{length, drop, length-append}
use lib.Seq.{drop_at}
use Rattle.tables.specs.Matrix.{nth}
use Rattle.text.specs.Text.{newline, space, digit, natural, decimal, numbers, line, lines}
use Rattle.text.proofs.Digits.{front, natural-front, sign, decimal-sign}

-- the text t ends with x
pub record Ends (t x : List ℕ) : Type 0 where
  pub rest : List ℕ
  pub whole : t ≡ rest ++ x

-- ends of one length are the same
pub ends_same : {t x y : List ℕ} → Ends t x → Ends t y → length x ≡ length y → x ≡ y
ends_same {t} {x} {y} a b h =
    let n : length b.rest ≡ length a.rest =
    omega (arith, ap length a.whole, ap length b.whole, length-append a.rest x, length-append b.rest y)
    in
    sym (drop_at a.rest x _ refl) ∙ ap (drop (length a.rest)) (sym a.whole ∙ b.whole) ∙ drop_at b.rest y _ n

-- a text behind another, and a text with another behind it
pub ends-behind : (s : List ℕ) {t x : List ℕ} → Ends t x → Ends (s ++ t) x
ends-behind s {t} {x} a = record { rest = s ++ a.rest; whole = ap (λ (t : List ℕ). s ++ t) a.whole ∙ sym (append_assoc s a.rest x) }

ends_then : (s : List ℕ) {t x : List ℕ} → Ends t x → Ends (t ++ s) (x ++ s)
ends_then s {t} {x} a = record { rest = a.rest; whole = ap (λ (t : List ℕ). t ++ s) a.whole ∙ append_assoc a.rest x s }

natural-ends : (n : ℕ) → Ends (natural n) (digit n ∷ [])
natural-ends n = record { rest = front n; whole = natural-front n }

decimal-ends : (z : ℤ) → Ends (decimal z) (digit (nat_abs z) ∷ [])
decimal-ends z = rw (decimal-sign z) (ends-behind (sign z) (natural-ends (nat_abs z)))

pub line-ends : (word : List ℕ) (f : ℕ → ℤ) (n : ℕ) → Ends (line word f (suc n)) (digit (nat_abs (f n)) ∷ newline ∷ [])
unfolding line numbers
line-ends word f n = ends_then (newline ∷ []) (ends-behind word (ends-behind (numbers f n) (ends-behind (space ∷ []) (decimal-ends (f n)))))

pub lines_end : (word : List ℕ) (x : List ℤ) (d n : ℕ) →
    Ends (lines word x (suc d) (suc n)) (digit (nat_abs (nth x (n * suc d + d))) ∷ newline ∷ [])
unfolding lines
lines_end word x d n = ends-behind (lines word x (suc d) n) (line-ends word (λ k. nth x (n * suc d + k)) d)
