-- Entries of lists that grow at their end.
use mathlib.Core.Path.{◌≡◌, ap, ◌∙◌}
use mathlib.Core.List.{List, [], ◌∷◌, ◌++◌}
use Prim.Native.Nat.{ℕ, suc, ◌<◌, ◌≤◌}
use native.Mathlib.Omega.{arith}
use lib.ListN.{length, length-append, get_or-append, get_or-eq_default}
use lib.Seq.{get_or-append_seam}
use lib.IntN.{ℤ, pos}
use Rattle.tables.specs.Matrix.{nth}
use Rattle.cholesky.specs.Factoring.{entries}

pub length_snoc : {A : Type 0} (s : List A) (x : A) → length (s ++ (x ∷ [])) ≡ suc (length s)
length_snoc s x = length-append s (x ∷ []) ∙ omega arith

module _ (c : List ℤ) (x : ℤ) where
  pub nth-before : (k : ℕ) → k < length c → nth (c ++ (x ∷ [])) k ≡ nth c k
  nth-before k h = get_or-append c (x ∷ []) (pos 0) k h

  pub nth_last : nth (c ++ (x ∷ [])) (length c) ≡ x
  nth_last = get_or-append_seam c x [] (pos 0)

-- past its end a vector reads 0
pub nth_past : (c : List ℤ) (k : ℕ) → length c ≤ k → nth c k ≡ pos 0
nth_past c k h = get_or-eq_default c (pos 0) h

module _ (cs : List (List ℤ)) (c : List ℤ) where
  pub entries-before : (i j : ℕ) → j < length cs → entries (cs ++ (c ∷ [])) i j ≡ entries cs i j
  unfolding entries
  entries-before i j h = ap (λ (s : List ℤ). nth s i) (get_or-append cs (c ∷ []) [] j h)

  pub entries-last : (i : ℕ) → entries (cs ++ (c ∷ [])) i (length cs) ≡ nth c i
  unfolding entries
  entries-last i = ap (λ (s : List ℤ). nth s i) (get_or-append_seam cs c [] [])
