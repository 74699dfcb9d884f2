-- Lists of which a front is known.
use mathlib.Core.Path.{◌≡◌, sym, ap, ◌∙◌}
use mathlib.Core.List.{List, ◌++◌, append-nil}
use Prim.Native.Nat.{ℕ, ◌+◌, ◌-◌, ◌≤◌}
use native.Mathlib.Omega.{arith}
use lib.ListN.{length, drop, replicate, length-replicate, replicate-append-replicate, drop_of_length-le}
use lib.Seq.{drop-append-add, drop_at}

module _ {A : Type 0} where
  pub drop_past : (p q : List A) (n k : ℕ) → length p ≡ n → drop (n + k) (p ++ q) ≡ drop k q
  drop_past p q n k e = rw (← e, drop-append-add)

  pub drop-replicate : (n k : ℕ) (x : A) → k ≤ n → drop k (replicate n x) ≡ replicate (n - k) x
  drop-replicate n k x h =
      let e : n ≡ k + (n - k) = omega arith in
      ap (λ (m : ℕ). drop k (replicate m x)) e ∙ ap (drop k) (sym (replicate-append-replicate k (n - k) x))
      ∙ drop_at (replicate k x) (replicate (n - k) x) k (length-replicate k x)

  -- nothing is left of a list behind its end
  pub append-drop_end : (p l : List A) (n : ℕ) → length l ≤ n → p ++ drop n l ≡ p
  append-drop_end p l n h = rw (drop_of_length-le l h, append-nil)
