-- Numbers in decimal: the digits of n are those of n / 10 and the last one, and a number of 64 bits takes up at most `widest` bytes.
use mathlib.Core.Path.{◌≡◌, refl, sym, ap, subst, ◌∙◌}
use mathlib.Core.Bool.{Bool, true, false}
use mathlib.Core.Logic.{by_cases}
use mathlib.Core.List.{List, [], ◌∷◌, ◌++◌}
use Prim.Native.Nat.{ℕ, zero, suc, ◌+◌, ◌-◌, ◌/◌, ◌^◌, ◌≤◌, ◌<◌}
use native.Mathlib.Nat.{pow-succ'}
use native.Mathlib.Decide.{dec_lt}
use native.Mathlib.Omega.{arith}
use borrow.Author.Tests.{le-leb, lt-leb, ltb-true}
use lib.Dec.{T, leb, leb-zero}
use lib.ListN.{length, length-append}
use lib.IntN.{ℤ, pos, negsuc, nat_abs}
use lib.Signed.{le_z, lt_z}
use mir.Syntax.{w64}
use mir.Val.{SFits}
use Rattle.integers.proofs.Parts.{choice_by}
use Rattle.integers.proofs.Machine.{within_fits}
use Rattle.text.specs.Text.{digit, digits, natural, decimal, minus, widest}

digits-one : (k n : ℕ) → n < 10 → digits k n ≡ digit n ∷ []
unfolding digits
digits-one zero n h = refl
digits-one (suc k) n h = rw (lt-leb 10 n h, digits)

digits_more : (k n : ℕ) → 10 ≤ n → digits (suc k) n ≡ digits k (n / 10) ++ (digit n ∷ [])
unfolding digits
digits_more k n h = rw (le-leb 10 n h, digits)

-- n has no more than n + 1 digits: a larger bound changes nothing
pub digits_same : (k m n : ℕ) → n ≤ k → n ≤ m → digits k n ≡ digits m n
digits_same zero m n h l = digits-one zero n (omega arith) ∙ sym (digits-one m n (omega arith))
digits_same (suc k) zero n h l = digits-one (suc k) n (omega arith) ∙ sym (digits-one zero n (omega arith))
digits_same (suc k) (suc m) n h l =
    by_cases (dec_lt n 10) (λ u. digits-one (suc k) n u ∙ sym (digits-one (suc m) n u))
    (λ u. rw (digits_more k n (omega arith), digits_more m n (omega arith), digits_same k m (n / 10) (omega arith) (omega arith)))

-- the digits before the last one
unfoldable pub front : ℕ → List ℕ
front n = elim (leb 10 n) [ true ↦ natural (n / 10) | false ↦ [] ]

pub front-none : (n : ℕ) → n < 10 → front n ≡ []
unfolding front
front-none n h = rw (lt-leb 10 n h, front)

pub front_some : (n : ℕ) → 10 ≤ n → front n ≡ natural (n / 10)
unfolding front
front_some n h = rw (le-leb 10 n h, front)

pub natural-front : (n : ℕ) → natural n ≡ front n ++ (digit n ∷ [])
unfolding natural
natural-front n =
    by_cases (dec_lt n 10) (λ u. rw (front-none n u) (digits-one n n u))
    (λ u. let e : n ≡ suc (n - 1) = omega arith in
    rw (front_some n (omega arith))
    (ap (λ (k : ℕ). digits k n) e ∙ digits_more (n - 1) n (omega arith)
    ∙ ap (λ (x : List ℕ). x ++ (digit n ∷ [])) (digits_same (n - 1) (n / 10) (n / 10) (omega arith) (omega arith))))

pub length-natural-front : (n : ℕ) → length (natural n) ≡ length (front n) + 1
length-natural-front n = ap length (natural-front n) ∙ length-append (front n) (digit n ∷ [])

-- a number below 10 ^ k, for k from 1 on, has at most k digits
pub length-natural : (k n : ℕ) → n < 10 ^ suc k → length (natural n) ≤ suc k
length-natural zero n h = rw (natural-front n, front-none n h) (omega arith)
length-natural (suc k) n h =
    let l = length-natural k (n / 10) (omega (arith, pow-succ' 10 (suc k))) in
    by_cases (dec_lt n 10) (λ u. rw (natural-front n, front-none n u) (omega arith))
    (λ u. rw (natural-front n, front_some n (omega arith), length-append) (omega arith))

-- the minus sign of a negative number
unfoldable pub sign : ℤ → List ℕ
sign z = elim (le_z (pos 0) z) [ true ↦ [] | false ↦ minus ∷ [] ]

pub sign-none : (z : ℤ) → lt_z z (pos 0) ≡ false → sign z ≡ []
unfolding sign
sign-none (pos n) t = rw (leb-zero n, sign)
sign-none (negsuc n) t = absurd (subst T t tt)

pub sign-minus : (z : ℤ) → lt_z z (pos 0) ≡ true → sign z ≡ minus ∷ []
unfolding sign
sign-minus (pos n) t = absurd (let h = ltb-true n 0 t in omega arith)
sign-minus (negsuc n) t = refl

pub decimal-sign : (z : ℤ) → decimal z ≡ sign z ++ natural (nat_abs z)
unfolding decimal sign
decimal-sign z = go (le_z (pos 0) z)
  where
    go : (b : Bool) → elim b [ true ↦ natural (nat_abs z) | false ↦ minus ∷ natural (nat_abs z) ] ≡
        elim b [ true ↦ [] | false ↦ minus ∷ [] ] ++ natural (nat_abs z)
    go true = refl
    go false = refl

pub length-decimal-sign : (z : ℤ) → length (decimal z) ≡ length (sign z) + length (natural (nat_abs z))
length-decimal-sign z = ap length (decimal-sign z) ∙ length-append (sign z) (natural (nat_abs z))

length-sign : (z : ℤ) → length (sign z) ≤ 1
unfolding sign
length-sign z = choice_by (λ s. length {A = ℕ} s ≤ 1) (le_z (pos 0) z) (λ t. omega arith) (λ t. omega arith)

-- a sign and at most 19 digits
pub length-decimal : {z : ℤ} → SFits w64 z → length (decimal z) ≤ widest
length-decimal {z} f =
    let n : nat_abs z < 10 ^ 19 = omega (arith, (within_fits f).size) in
    omega (arith, length-decimal-sign z, length-sign z, length-natural 18 (nat_abs z) n)
