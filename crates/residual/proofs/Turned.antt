-- Laws of the residual that is worked out in the scratch tables of the bounds: where it stands, pair by pair.
use mathlib.Core.Path.{◌≡◌, refl, sym, ap, ◌∙◌}
use mathlib.Core.Bool.{true}
use mathlib.Core.Logic.{◌≢◌, by_cases}
use mathlib.Core.List.{List}
use Prim.Native.Nat.{ℕ, zero, suc, ◌+◌, ◌*◌, ◌≤◌, ◌<◌}
use native.Mathlib.Omega.{arith}
use native.Mathlib.Decide.{ℕ_discrete, dec_lt}
use lib.IntN.{ℤ, pos, ◌-ℤ◌, ◌*ℤ◌, zero-*ℤ}
use lib.ListN.{length, set, length-set}
use lib.Seq.{get_or-set_same, get_or-set_other}
use Rattle.integers.proofs.Sums.{sum_prefix}
use Rattle.integers.specs.Numbers.{Within}
use Rattle.tables.specs.Ranges.{greatest_order, table_room, entry_range}
use Rattle.tables.specs.Matrix.{Matrix, nth, at, gram}
use Rattle.tables.proofs.Matrix.{inside, table_fits, same_row, same_column}
use Rattle.tables.proofs.Forms.{gram_symmetric}
use Rattle.cholesky.specs.Scale.{scale}
use Rattle.residual.specs.FactorTest.{factor_shape}
use Rattle.residual.specs.Residual.{residual}
use Rattle.residual.specs.Scratch.{gram_at, Unturned, UnturnedColumn, turned_pair, turned_column, turned}
use Rattle.residual.proofs.OfferedFactor.{factor-below}

-- ---- one number in two places
module _ (t : List ℤ) (p q : ℕ) (x : ℤ) where
  both_first : p < length t → q < length t → nth (set (set t p x) q x) p ≡ x
  both_first h k =
      by_cases (ℕ_discrete p q) (λ e. rw e (get_or-set_same (set t q x) q x (pos 0) (omega (arith, length-set t q x))))
      (λ d. get_or-set_other (set t p x) q p x (pos 0) d ∙ get_or-set_same t p x (pos 0) h)

  both_second : q < length t → nth (set (set t p x) q x) q ≡ x
  both_second k = get_or-set_same (set t p x) q x (pos 0) (omega (arith, length-set t p x))

  both_other : (m : ℕ) → m ≢ p → m ≢ q → nth (set (set t p x) q x) m ≡ nth t m
  both_other m d e = get_or-set_other (set t p x) q m x (pos 0) e ∙ get_or-set_other t p m x (pos 0) d

-- ---- the pair (i, j) is turned
module _ {n : ℕ} (s : List ℤ) {i j : ℕ} (hi : i < n) (hj : j < n) (p : ℤ) where
  pair_size : length (turned_pair n s i j p) ≡ length s
  pair_size = length-set (set s (i * n + j) _) (j * n + i) _ ∙ length-set s (i * n + j) _

  pair-first : n * n ≤ length s → at n (turned_pair n s i j p) i j ≡ scale *ℤ at n s i j -ℤ p
  unfolding at
  pair-first z = both_first s (i * n + j) (j * n + i) _ (omega (arith, inside hi hj)) (omega (arith, inside hj hi))

  pair-second : n * n ≤ length s → at n (turned_pair n s i j p) j i ≡ scale *ℤ at n s i j -ℤ p
  unfolding at
  pair-second z = both_second s (i * n + j) (j * n + i) _ (omega (arith, inside hj hi))

  -- and no other
  pair_other : (a b : ℕ) → b < n → ((a ≡ i) → (b ≡ j) → ⊥) → ((a ≡ j) → (b ≡ i) → ⊥) → at n (turned_pair n s i j p) a b ≡ at n s a b
  unfolding at
  pair_other a b k d e =
      both_other s (i * n + j) (j * n + i) _ (a * n + b)
      (λ q. d (same_row i j a b hj k q) (same_column i j a b hj k q)) (λ q. e (same_row j i a b hi k q) (same_column j i a b hi k q))

-- ---- the pairs of the columns before j are turned, and of column j those before i
module _ (n : ℕ) (R : Matrix) (t : List ℤ) where
  abbrev entry : ℕ → ℕ → ℤ
  entry a b = scale *ℤ at n t a b -ℤ gram_at R a b

  -- the others are as they were
  pub record Kept (s : List ℤ) (j i : ℕ) : Type 0 where
    pub size : length s ≡ length t
    pub rest : (a b : ℕ) → a ≤ b → b < n → j ≤ b → (b ≡ j → i ≤ a) → at n s a b ≡ at n t a b

  pub record Turned (s : List ℤ) (j i : ℕ) : Type 0 where
    pub kept : Kept s j i
    pub before : (a b : ℕ) → a ≤ b → b < j → b < n → (at n s a b ≡ entry a b) × (at n s b a ≡ entry a b)
    pub column : (a : ℕ) → a < i → a ≤ j → (at n s a j ≡ entry a j) × (at n s j a ≡ entry a j)

  kept-none : {j : ℕ} → Kept t j 0
  kept-none = record { size = refl; rest = λ a b h k l m. refl }

  turned_none : Turned t 0 0
  turned_none = record { kept = kept-none; before = λ a b h k l. absurd (omega arith); column = λ a h k. absurd (omega arith) }

  turned-next : {s : List ℤ} {j : ℕ} → Turned s j (suc j) → Turned s (suc j) 0
  turned-next {s} {j} w = record {
    kept = record { size = w.kept.size; rest = λ a b h k l m. w.kept.rest a b h k (omega arith) (λ e. absurd (omega arith)) };
    before =
        λ a b h k l. by_cases (ℕ_discrete b j) (λ e. rw e (w.column a (omega arith) (omega arith))) (λ d. w.before a b h (omega arith) l);
    column = λ a h k. absurd (omega arith);
  }

  -- the pair (i, j) of it
  module _ (z : n * n ≤ length t) (s : List ℤ) {j i : ℕ} (hi : i ≤ j) (hj : j < n) where
    other : (a b : ℕ) → b < n → ((a ≡ i) → (b ≡ j) → ⊥) → ((a ≡ j) → (b ≡ i) → ⊥) →
        at n (turned_pair n s i j (gram_at R i j)) a b ≡ at n s a b
    other = pair_other s (omega arith) hj (gram_at R i j)

    kept_more : Kept s j i → Kept (turned_pair n s i j (gram_at R i j)) j (suc i)
    kept_more w = record {
      size = pair_size s (omega arith) hj (gram_at R i j) ∙ w.size;
      rest = λ a b h k l m.
          by_cases (ℕ_discrete b j)
          (λ c. let q = m c in other a b k (λ e r. omega arith) (λ e r. omega arith) ∙ w.rest a b h k l (λ e. omega arith))
          (λ c. other a b k (λ e r. omega arith) (λ e r. omega arith) ∙ w.rest a b h k l (λ e. absurd (omega arith)));
    }

    turned_more : Turned s j i → Turned (turned_pair n s i j (gram_at R i j)) j (suc i)
    turned_more w =
        let room : n * n ≤ length s = omega (arith, w.kept.size) in
        let own : scale *ℤ at n s i j -ℤ gram_at R i j ≡ entry i j = rw (w.kept.rest i j hi hj (omega arith) (λ e. omega arith)) in
        record {
          kept = kept_more w.kept;
          before = λ a b h k l.
              let v = w.before a b h k l in (
                other a b l (λ e q. omega arith) (λ e q. omega arith) ∙ v.0,
                other b a (omega arith) (λ e q. omega arith) (λ e q. omega arith) ∙ v.1,
              );
          column = λ a h k.
              by_cases (ℕ_discrete a i)
              (λ e. rw e (
                pair-first s (omega arith) hj (gram_at R i j) room ∙ own,
                pair-second s (omega arith) hj (gram_at R i j) room
                    ∙ own,
              ))
              (λ d. let v = w.column a (omega arith) k in (
                other a j hj (λ e q. omega arith) (λ e q. omega arith) ∙ v.0,
                other j a (omega arith) (λ e q. omega arith) (λ e q. omega arith) ∙ v.1,
              ));
        }

  module _ (z : n * n ≤ length t) where
    column-kept : {s : List ℤ} {j : ℕ} → j < n → Kept s j 0 → (i : ℕ) → i ≤ suc j → Kept (turned_column n R s j i) j i
    unfolding turned_column
    column-kept hj w zero h = w
    column-kept hj w (suc i) h = kept_more z _ (omega arith) hj (column-kept hj w i (omega arith))

    column-turned : {s : List ℤ} {j : ℕ} → j < n → Turned s j 0 → (i : ℕ) → i ≤ suc j → Turned (turned_column n R s j i) j i
    unfolding turned_column
    column-turned hj w zero h = w
    column-turned hj w (suc i) h = turned_more z _ (omega arith) hj (column-turned hj w i (omega arith))

    pub columns-turned : (j : ℕ) → j ≤ n → Turned (turned n R t j) j 0
    unfolding turned
    columns-turned zero h = turned_none
    columns-turned (suc j) h = turned-next (column-turned (omega arith) (columns-turned j (omega arith)) (suc j) (omega arith))

  -- ---- the whole residual
  gram-at : factor_shape n R ≡ true → (i j : ℕ) → i ≤ j → j < n → gram_at R i j ≡ gram n R i j
  unfolding gram gram_at
  gram-at e i j h k =
      sym (sum_prefix n (suc i) (λ k. R k i *ℤ R k j) (omega arith) (λ k a b. ap (λ (z : ℤ). z *ℤ R k j) (factor-below n R e k i a b)
      ∙ zero-*ℤ (R k j)))

  pub turned-whole : n * n ≤ length t → factor_shape n R ≡ true → ((i j : ℕ) → i < n → j < n → at n t i j ≡ at n t j i) →
      (i j : ℕ) → i < n → j < n → at n (turned n R t n) i j ≡ residual n R (at n t) i j
  unfolding residual
  turned-whole z e f i j h k =
      let w = columns-turned z n (omega arith) in
      by_cases (dec_lt j i)
      (λ l. (w.before j i (omega arith) h h).1 ∙ rw (gram-at e j i (omega arith) h, f j i k h, gram_symmetric n R j i))
      (λ l. (w.before i j (omega arith) k k).0 ∙ rw (gram-at e i j (omega arith) k))

-- ---- what the code finds: a column is as it was until its pairs are turned
module _ {n : ℕ} (R : Matrix) {j : ℕ} (small : n ≤ greatest_order) (hj : j < n) (t : List ℤ) where
  pub column_unturned : UnturnedColumn n t j → (i : ℕ) → i ≤ j → Unturned n (turned_column n R t j i) i j
  column_unturned f i h =
      let z : n * n ≤ length t = omega (arith, table_fits small, (f 0 (omega arith)).size) in
      let w = column-kept n R t z hj (kept-none n R t) i (omega arith) in
      record { size = w.size ∙ (f i h).size; entry = rw (w.rest i j h hj (omega arith) (λ e. omega arith)) (f i h).entry }

  pub columns_unturned : length t ≡ table_room → ((a b : ℕ) → a < n → b < n → Within entry_range (at n t a b)) →
      UnturnedColumn n (turned n R t j) j
  columns_unturned e f i h =
      let z : n * n ≤ length t = omega (arith, table_fits small, e) in
      let w = (columns-turned n R t z j (omega arith)).kept in
      record { size = w.size ∙ e; entry = rw (w.rest i j h hj (omega arith) (λ q. omega arith)) (f i j (omega arith) hj) }
