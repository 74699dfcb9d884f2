-- Mending pair by pair, in place, gives the mended table.
use mathlib.Core.Path.{◌≡◌, refl, sym, ap, ap₂, ◌∙◌}
use mathlib.Core.Logic.{◌≢◌}
use mathlib.Core.List.{List}
use Prim.Native.Nat.{ℕ, zero, suc, ◌+◌, ◌*◌, ◌≤◌, ◌<◌}
use native.Mathlib.Decide.{dec_lt, ℕ_discrete}
use native.Mathlib.Omega.{arith}
use lib.IntN.{ℤ, pos}
use lib.ListN.{length, drop, set, length-set}
use lib.Seq.{get_or-set_same, get_or-set_other, drop-set-lt}
use Rattle.tables.specs.Matrix.{nth, at}
use Rattle.tables.specs.Mending.{mended_by}
use Rattle.tables.specs.Pairs.{joined, joined_row, joined_rows}
use Rattle.tables.proofs.Matrix.{inside, same_row, same_column}
use Rattle.tables.proofs.MendedTables.{Pairing, mended_as}

module _ {m : ℤ → ℤ → ℤ} (p : Pairing m) (n : ℕ) where
  -- a table t' that some pairs of t were joined in: the pairs have the same m as in t, and those whose halves agree in t agree in t'
  pub record Kept (t t' : List ℤ) : Type 0 where
    pub size : length t' ≡ length t
    pub behind : drop (n * n) t' ≡ drop (n * n) t
    pub same : (a b : ℕ) → a < n → b < n → m (at n t' a b) (at n t' b a) ≡ m (at n t a b) (at n t b a)
    pub even : (a b : ℕ) → a < n → b < n → at n t a b ≡ at n t b a → at n t' a b ≡ at n t' b a

  kept-none : (t : List ℤ) → Kept t t
  kept-none t = record { size = refl; behind = refl; same = λ a b h k. refl; even = λ a b h k e. e }

  kept_more : {t t' t'' : List ℤ} → Kept t t' → Kept t' t'' → Kept t t''
  kept_more v w = record {
    size = w.size ∙ v.size;
    behind = w.behind ∙ v.behind;
    same = λ a b h k. w.same a b h k ∙ v.same a b h k;
    even = λ a b h k e. w.even a b h k (v.even a b h k e);
  }

  -- ---- one pair
  module _ (t : List ℤ) (room : n * n ≤ length t) (i j : ℕ) (h : i < n) (k : j < n) where
    abbrev x : ℤ
    x = m (at n t i j) (at n t j i)

    abbrev t' : List ℤ
    t' = joined m t (i * n + j) (j * n + i)

    second : at n t' j i ≡ x
    unfolding at joined
    second = get_or-set_same (set t (i * n + j) x) (j * n + i) x (pos 0) (omega (arith, inside k h, length-set t (i * n + j) x))

    first : at n t' i j ≡ x
    unfolding at joined
    first = go (ℕ_discrete (i * n + j) (j * n + i))
      where
        go : Dec (i * n + j ≡ j * n + i) → nth t' (i * n + j) ≡ x
        go (yes e) = ap (nth t') e ∙ second
        go (no e) =
            get_or-set_other (set t (i * n + j) x) (j * n + i) (i * n + j) x (pos 0) e
            ∙ get_or-set_same t (i * n + j) x (pos 0) (omega (arith, inside h k))

    other : (a b : ℕ) → a * n + b ≢ i * n + j → a * n + b ≢ j * n + i → at n t' a b ≡ at n t a b
    unfolding at joined
    other a b d e = get_or-set_other (set t (i * n + j) x) (j * n + i) (a * n + b) x (pos 0) e ∙ get_or-set_other t (i * n + j) (a * n + b) x (pos 0) d

    -- what holds of this pair, and of each that is neither of its places, holds of all
    each : (P : ℕ → ℕ → Type 0) → P i j → P j i →
        ((a b : ℕ) → at n t' a b ≡ at n t a b → at n t' b a ≡ at n t b a → P a b) → (a b : ℕ) → a < n → b < n → P a b
    each P f g r a b c d = go (ℕ_discrete (a * n + b) (i * n + j)) (ℕ_discrete (a * n + b) (j * n + i))
      where
        go : Dec (a * n + b ≡ i * n + j) → Dec (a * n + b ≡ j * n + i) → P a b
        go (yes e) z = rw (same_row i j a b k d e, same_column i j a b k d e) f
        go (no e) (yes z) = rw (same_row j i a b h d z, same_column j i a b h d z) g
        go (no e) (no z) =
            r a b (other a b e z)
            (other b a (λ q. z (rw (same_row i j b a k c q, same_column i j b a k c q)))
            (λ q. e (rw (same_row j i b a h c q, same_column j i b a h c q))))

    pub pair_even_lem : at n t' i j ≡ at n t' j i
    pair_even_lem = first ∙ sym second

    pub pair-kept : Kept t t'
    unfolding joined at
    pair-kept = record {
      size = size;
      behind = behind;
      same = each (λ a b. m (at n t' a b) (at n t' b a) ≡ m (at n t a b) (at n t b a))
          (ap₂ m first second ∙ p.equal x) (ap₂ m second first ∙ p.equal x ∙ p.turned _ _) (λ a b e f. ap₂ m e f);
      even = each (λ a b. at n t a b ≡ at n t b a → at n t' a b ≡ at n t' b a)
          (λ e. pair_even_lem) (λ e. sym pair_even_lem) (λ a b e f q. e ∙ q ∙ sym f);
    }
      where
        size : length t' ≡ length t
        size = length-set (set t (i * n + j) x) (j * n + i) x ∙ length-set t (i * n + j) x

        behind : drop (n * n) t' ≡ drop (n * n) t
        behind = drop-set-lt (n * n) (set t (i * n + j) x) (j * n + i) x (inside k h) ∙ drop-set-lt (n * n) t (i * n + j) x (inside h k)

  -- ---- the first c pairs of row i
  record RowKept (i c : ℕ) (t t' : List ℤ) : Type 0 where
    pub kept : Kept t t'
    pub agree : (b : ℕ) → b < c → at n t' i b ≡ at n t' b i

  row_kept : (t : List ℤ) → n * n ≤ length t → (i c : ℕ) → i < n → c ≤ i → RowKept i c t (joined_row m n i c t)
  unfolding joined_row
  row_kept t room i zero h l = record { kept = kept-none t; agree = λ b k. absurd (omega arith) }
  row_kept t room i (suc c) h l =
      let before = row_kept t room i c h (omega arith) in
      let s = joined_row m n i c t in
      let z : n * n ≤ length s = omega (arith, before.kept.size) in
      let q : c < n = omega arith in
      let pair = pair-kept s z i c h q in
      let agree : (b : ℕ) → b < suc c → at n (joined_row m n i (suc c) t) i b ≡ at n (joined_row m n i (suc c) t) b i =
      λ b k. (elim (ℕ_discrete b c) [
        | yes e ↦ rw e (pair_even_lem s z i c h q)
        | no e ↦ pair.even i b h (omega arith) (before.agree b (omega arith))
      ])
      in
      record { kept = kept_more before.kept pair; agree = agree }

  -- ---- the first c rows
  record RowsKept (c : ℕ) (t t' : List ℤ) : Type 0 where
    pub kept : Kept t t'
    pub agree : (a b : ℕ) → a < c → b < a → at n t' a b ≡ at n t' b a

  rows-kept : (t : List ℤ) → n * n ≤ length t → (c : ℕ) → c ≤ n → RowsKept c t (joined_rows m n c t)
  unfolding joined_rows
  rows-kept t room zero l = record { kept = kept-none t; agree = λ a b h k. absurd (omega arith) }
  rows-kept t room (suc c) l =
      let before = rows-kept t room c (omega arith) in
      let s = joined_rows m n c t in
      let row = row_kept s (omega (arith, before.kept.size)) c c (omega arith) (omega arith) in
      record { kept = kept_more before.kept row.kept; agree = more before row }
    where
      more : RowsKept c t (joined_rows m n c t) → RowKept c c (joined_rows m n c t) (joined_row m n c c (joined_rows m n c t)) →
          (a b : ℕ) → a < suc c → b < a → at n (joined_row m n c c (joined_rows m n c t)) a b ≡ at n (joined_row m n c c (joined_rows m n c t)) b a
      more before row a b h k = go (ℕ_discrete a c)
        where
          go : Dec (a ≡ c) → at n (joined_row m n c c (joined_rows m n c t)) a b ≡ at n (joined_row m n c c (joined_rows m n c t)) b a
          go (yes e) = rw e (row.agree b (omega arith))
          go (no e) = row.kept.even a b (omega arith) (omega arith) (before.agree a b (omega arith) k)

  -- ---- all of them
  pub rows-size : (t : List ℤ) → n * n ≤ length t → (c : ℕ) → c ≤ n → length (joined_rows m n c t) ≡ length t
  rows-size t room c l = (rows-kept t room c l).kept.size

  pub row-size : (t : List ℤ) → n * n ≤ length t → (i c : ℕ) → i < n → c ≤ i → length (joined_row m n i c t) ≡ length t
  row-size t room i c h l = (row_kept t room i c h l).kept.size

  pub rows-mended : (t : List ℤ) → n * n ≤ length t → joined_rows m n n t ≡ mended_by m n t
  rows-mended t room =
      let all = rows-kept t room n (omega arith) in
      let t' = joined_rows m n n t in
      let agree : (a b : ℕ) → a < n → b < n → at n t' a b ≡ at n t' b a = λ a b h k. both all a b h k in
      mended_as m n p t t' (omega (arith, all.kept.size)) all.kept.behind
      (λ a b h k. sym (ap (m (at n t' a b)) (sym (agree a b h k)) ∙ p.equal _) ∙ all.kept.same a b h k)
    where
      both : RowsKept n t (joined_rows m n n t) → (a b : ℕ) → a < n → b < n → at n (joined_rows m n n t) a b ≡ at n (joined_rows m n n t) b a
      both all a b h k = go (dec_lt b a) (dec_lt a b)
        where
          go : Dec (b < a) → Dec (a < b) → at n (joined_rows m n n t) a b ≡ at n (joined_rows m n n t) b a
          go (yes q) d = all.agree a b h q
          go (no q) (yes d) = sym (all.agree b a k d)
          go (no q) (no d) = let e : a ≡ b = omega arith in rw e
