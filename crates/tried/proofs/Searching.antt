-- The search's steps, as the code takes them: the choices of entry d, of order n, each with what was found from entry d + 1 on.
use mathlib.Core.Path.{◌≡◌, refl, ap, ap₂, ◌∙◌}
use mathlib.Core.Bool.{Bool, true, false}
use mathlib.Core.List.{List}
use Prim.Native.Nat.{ℕ, zero, suc, ◌+◌, ◌≤◌, ◌<◌}
use native.Mathlib.Omega.{arith}
use lib.IntN.{ℤ, pos, negsuc, ◌+ℤ◌}
use lib.Signed.{le_z}
use lib.ListN.{length, set}
use Rattle.tables.specs.Ranges.{greatest_order}
use Rattle.tables.specs.Matrix.{Matrix}
use Rattle.lookahead.specs.Pairs.{more}
use Rattle.tried.specs.Search.{front, or_else, seek, by_sign, after, seek_after, in_front, seek_half, Searched}
use Rattle.tried.proofs.Choices.{chosen, found_first, found-next, reached_is, nothing_found}

-- it rests on what the entries from d on and before m would add, and on the tables' entries there
module _ {m : ℕ} (S S' O O' : Matrix) (e : (i j : ℕ) → i < m → j < m → S' i j ≡ S i j) (f : (i j : ℕ) → i < m → j < m → O' i j ≡ O i j) where
  more_ext : (T T' : Matrix) → ((i j : ℕ) → i < m → j < m → T' i j ≡ T i j) → (d : ℕ) (p p' : ℕ → ℤ) → d < m → ((i : ℕ) → d ≤ i → i < m → p' i ≡ p i) →
      (i : ℕ) → suc d ≤ i → i < m → more T' d p' i ≡ more T d p i
  more_ext T T' c d p p' l g i k h = ap₂ (λ (x y : ℤ). x +ℤ y) (g i (omega arith) h) (c d i l h)

  pub seek_ext : (k d : ℕ) (p p' q q' : ℕ → ℤ) (s : ℤ) → d + k ≡ m → ((i : ℕ) → d ≤ i → i < m → p' i ≡ p i) → ((i : ℕ) → d ≤ i → i < m → q' i ≡ q i) →
      seek S' O' d k p' q' s ≡ seek S O d k p q s
  unfolding seek
  seek_ext zero d p p' q q' s l g h = refl
  seek_ext (suc k) d p p' q q' s l g h =
      ap₂ or_else (ap (front (pos 0)) (seek_ext k (suc d) p p' q q' s (omega arith) (λ i j. g i (omega arith)) (λ i j. h i (omega arith))))
      (ap₂ or_else
      (ap (front (pos 1)) (ap (λ (z : ℤ). seek S' O' (suc d) k (more S' d p') (more O' d q') (s +ℤ z)) (g d (omega arith) (omega arith))
      ∙ seek_ext k (suc d) (more S d p) (more S' d p') (more O d q) (more O' d q') (s +ℤ p d) (omega arith)
      (more_ext S S' e d p p' (omega arith) g) (more_ext O O' f d q q' (omega arith) h)))
      (ap (front (negsuc 0)) (ap (λ (z : ℤ). seek S' O' (suc d) k (more O' d p') (more S' d q') (s +ℤ z)) (h d (omega arith) (omega arith))
      ∙ seek_ext k (suc d) (more O d p) (more O' d p') (more S d q) (more S' d q') (s +ℤ q d) (omega arith)
      (more_ext O O' f d p p' (omega arith) g) (more_ext S S' e d q q' (omega arith) h))))

  pub half_ext : (k d : ℕ) (p : ℕ → ℤ) → d + k ≡ m → seek_half S' O' d k p ≡ seek_half S O d k p
  unfolding seek_half
  half_ext zero d p l = refl
  half_ext (suc k) d p l =
      ap₂ or_else (ap (front (pos 0)) (half_ext k (suc d) p (omega arith)))
      (ap (front (pos 1)) (seek_ext k (suc d) (more S d p) (more S' d p) (more O d p) (more O' d p) (pos 0 +ℤ p d) (omega arith)
      (more_ext S S' e d p p (omega arith) (λ i j h. refl)) (more_ext O O' f d p p (omega arith) (λ i j h. refl))))

-- no entry is left
module _ (S O : Matrix) (d : ℕ) {k : ℕ} (e : k ≡ 0) (p : ℕ → ℤ) {x : List ℤ} (l : length x ≡ greatest_order) where
  pub none_left : (a : ℤ) (q : ℕ → ℤ) (s : ℤ) {r : Bool} {d' : ℕ} → le_z s (pos 0) ≡ r → Searched (seek_after S O d k a p q s) r d' k x
  unfolding seek
  none_left a q s {d' = d'} f = rw e (reached_is x d' s l f)

  pub half-none-left : Searched (seek_half S O d k p) false d k x
  unfolding seek_half
  half-none-left = rw e (nothing_found l refl)

module _ (S O : Matrix) where
  -- the entries after entry d, from d' on, by what the code has of them
  pub after-found : (n : ℕ) {d d' k : ℕ} → d' ≡ suc d → d' + k ≡ n → (p q p' q' : ℕ → ℤ) (a : ℤ) → ((i : ℕ) → d < i → i < n → p' i ≡ after S O d a p i) →
      ((i : ℕ) → d < i → i < n → q' i ≡ after O S d a q i) → (s : ℤ) {r : Bool} {x : List ℤ} →
      Searched (seek S O d' k p' q' s) r d' k x → Searched (seek_after S O d k a p q s) r d' k x
  after-found n {d} {k = k} h l p q p' q' a f g s w =
      rw (← seek_ext {m = n} S S O O (λ i j a b. refl) (λ i j a b. refl) k (suc d) (after S O d a p) p' (after O S d a q) q' s (omega arith) f g, h) (rw h at w)

  -- they would add what they did before where entry d is 0
  pub kept-found : (n : ℕ) {d d' k : ℕ} → d' ≡ suc d → d' + k ≡ n → (p q : ℕ → ℤ) (a : ℤ) → a ≡ pos 0 → (s : ℤ) {r : Bool} {x : List ℤ} →
      Searched (seek S O d' k p q s) r d' k x → Searched (seek_after S O d k a p q s) r d' k x
  unfolding after by_sign
  kept-found n h l p q a z s w = after-found n h l p q p q a (λ i a b. rw z refl) (λ i a b. rw z refl) s w

  -- entry d is chosen, and k are left after it
  module _ (d : ℕ) {k left : ℕ} (e : left ≡ suc k) where
    -- an entry in front
    pub with-found : {d₀ d₁ : ℕ} → d₀ ≡ d → d₁ ≡ suc d → d < greatest_order → (a : ℤ) (p q : ℕ → ℤ) (s : ℤ) {r : Bool} {x : List ℤ} →
        Searched (seek_after S O d₀ k a p q (by_sign a s (s +ℤ p d) (s +ℤ q d))) r d₁ k x → Searched (in_front S O d k a p q s) r d left (set x d a)
    unfolding in_front
    with-found f g b a p q s w = rw e (chosen a b (rw (f, g) at w))

    -- the choices of entry d
    module _ (p q : ℕ → ℤ) (s : ℤ) where
      abbrev With : ℤ → Bool → List ℤ → Type 0
      With a r x = Searched (in_front S O d k a p q s) r d left x

      abbrev Here : Bool → List ℤ → Type 0
      Here r x = Searched (seek S O d left p q s) r d left x

      parts : seek S O d left p q s ≡ or_else (in_front S O d k (pos 0) p q s) (or_else (in_front S O d k (pos 1) p q s) (in_front S O d k (negsuc 0) p q s))
      unfolding seek in_front after by_sign
      parts = rw e refl

      pub zero_hit : {x : List ℤ} → With (pos 0) true x → Here true x
      zero_hit f = rw parts (found_first _ f)

      module _ {x₀ : List ℤ} (f : With (pos 0) false x₀) where
        pub one_hit : {x : List ℤ} → With (pos 1) true x → Here true x
        one_hit g = rw parts (found-next _ f (found_first _ g))

        pub minus_one : {x₁ : List ℤ} → With (pos 1) false x₁ → {x : List ℤ} {r : Bool} → With (negsuc 0) r x → Here r x
        minus_one g h = rw parts (found-next _ f (found-next _ g h))

    -- the same where all entries before d are 0
    module _ (p : ℕ → ℤ) {d₁ : ℕ} (g : d₁ ≡ suc d) (b : d < greatest_order) where
      half-parts : seek_half S O d left p ≡ or_else (front (pos 0) (seek_half S O (suc d) k p)) (in_front S O d k (pos 1) p p (pos 0))
      unfolding seek_half in_front after by_sign
      half-parts = rw e refl

      half-zero : {r : Bool} {x : List ℤ} → Searched (seek_half S O d₁ k p) r d₁ k x → Searched (front (pos 0) (seek_half S O (suc d) k p)) r d left (set x d (pos 0))
      half-zero f = rw e (chosen (pos 0) b (rw g at f))

      pub half_hit : {x : List ℤ} → Searched (seek_half S O d₁ k p) true d₁ k x → Searched (seek_half S O d left p) true d left (set x d (pos 0))
      half_hit f = rw half-parts (found_first _ (half-zero f))

      pub half-one : {x₀ : List ℤ} → Searched (seek_half S O d₁ k p) false d₁ k x₀ → {x : List ℤ} {r : Bool} → With p p (pos 0) (pos 1) r x →
          Searched (seek_half S O d left p) r d left x
      half-one f h = rw half-parts (found-next _ (half-zero f) h)
