-- Laws of a table that is scaled number by number.
use mathlib.Core.Path.{◌≡◌, sym, ap₂, ◌∙◌}
use mathlib.Core.Bool.{true, false}
use mathlib.Core.Logic.{by_cases}
use mathlib.Core.List.{List}
use Prim.Native.Nat.{ℕ, suc, ◌+◌, ◌*◌, ◌≤◌, ◌<◌}
use native.Mathlib.Omega.{arith}
use native.Mathlib.Decide.{ℕ_discrete, dec_lt}
use lib.IntN.{ℤ, pos}
use lib.ListN.{length, set}
use lib.Seq.{get_or-set_same, get_or-set_other}
use Rattle.tables.specs.Ranges.{entry_range}
use Rattle.tables.specs.Matrix.{Matrix, at}
use Rattle.tables.specs.Checks.{all, within}
use Rattle.tables.proofs.Checks.{within_of, all_of, all_false, all_ext}
use Rattle.tables.proofs.Matrix.{inside, same_row, same_column}
use Rattle.scaling.specs.Scaling.{rescaled, entries_within}
use Rattle.scaling.specs.Scratch.{InRange, Part}

module _ {n : ℕ} {k : ℕ → ℕ} where
  -- one number more
  pub part-more : {M : Matrix} {a : ℕ} {t : List ℤ} (i j : ℕ) → j < n → a ≤ i * n + j → i * n + j < length t →
      within entry_range (rescaled k M i j) ≡ true → Part n k M a (i * n + j) t →
      Part n k M a (suc (i * n + j)) (set t (i * n + j) (rescaled k M i j))
  unfolding at
  part-more {M} {a} {t} i j h l m w p =
      let other : (c d : ℕ) → (c * n + d ≡ i * n + j → ⊥) → at n (set t (i * n + j) (rescaled k M i j)) c d ≡ at n t c d =
      λ c d e. get_or-set_other t (i * n + j) (c * n + d) (rescaled k M i j) (pos 0) e in
      record {
        scaled = λ c d g b e.
            by_cases (ℕ_discrete (c * n + d) (i * n + j))
            (λ q.
            rw q (get_or-set_same t (i * n + j) (rescaled k M i j) (pos 0) m)
            ∙ ap₂ (rescaled k M) (sym (same_row i j c d h g q)) (sym (same_column i j c d h g q)))
            (λ q. other c d q ∙ p.scaled c d g b (omega arith));
        inside = λ c d g b e.
            by_cases (ℕ_discrete (c * n + d) (i * n + j))
            (λ q. rw (same_row i j c d h g q, same_column i j c d h g q) w)
            (λ q. p.inside c d g b (omega arith));
        before = λ c d g b. other c d (λ q. omega arith) ∙ p.before c d g b;
        behind = λ c d g b. other c d (λ q. omega arith) ∙ p.behind c d g (omega arith);
      }

  -- numbers a to b - 1, and then b to c - 1
  pub part_join : {M : Matrix} {a b c : ℕ} {t t' : List ℤ} → a ≤ b → b ≤ c → Part n k M a b t → Part n k (at n t) b c t' → Part n k M a c t'
  unfolding rescaled
  part_join {b = b} h l p q = record {
    scaled = λ i j g m r.
        by_cases (dec_lt (i * n + j) b) (λ s. q.before i j g s ∙ p.scaled i j g m s)
        (λ s. q.scaled i j g (omega arith) r ∙ rw (p.behind i j g (omega arith)));
    inside = λ i j g m r.
        by_cases (dec_lt (i * n + j) b) (λ s. p.inside i j g m s)
        (λ s. rw (p.behind i j g (omega arith)) at (q.inside i j g (omega arith) r));
    before = λ i j g m. q.before i j g (omega arith) ∙ p.before i j g m;
    behind = λ i j g m. q.behind i j g m ∙ p.behind i j g (omega arith);
  }

  pub part_range : (s : List ℤ) {t : List ℤ} {b : ℕ} → InRange n s → Part n k (at n s) 0 b t → InRange n t
  part_range s {b = b} r p i j h l =
      by_cases (dec_lt (i * n + j) b) (λ m. rw (p.scaled i j l (omega arith) m) (within_of entry_range _ (p.inside i j l (omega arith) m)))
      (λ m. rw (p.behind i j l (omega arith)) (r i j h l))

  -- ---- the answer
  module _ {M : Matrix} {t : List ℤ} where
    -- row i, of a table whose rows before it are scaled, is that of M
    row_same : (i : ℕ) → Part n k M 0 (i * n) t → (j : ℕ) → j < n →
        within entry_range (rescaled k (at n t) i j) ≡ within entry_range (rescaled k M i j)
    unfolding rescaled
    row_same i p j h = rw (p.behind i j h (omega arith))

    pub row_leaves : (i : ℕ) → i < n → Part n k M 0 (i * n) t → all n (λ j. within entry_range (rescaled k (at n t) i j)) ≡ false →
        entries_within n (rescaled k M) ≡ false
    unfolding entries_within
    row_leaves i h p e = all_false _ n i h (sym (all_ext n _ _ (row_same i p)) ∙ e)

    pub all_stay : Part n k M 0 (n * n) t → entries_within n (rescaled k M) ≡ true
    unfolding entries_within
    all_stay p = all_of _ n (λ i h. all_of _ n (λ j l. p.inside i j l (omega arith) (inside h l)))
