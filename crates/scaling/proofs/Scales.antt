-- Laws of the scale in an array: each store adds a number to it.
use mathlib.Core.Path.{◌≡◌, sym, ap, ◌∙◌}
use mathlib.Core.Logic.{by_cases}
use mathlib.Core.List.{List}
use Prim.Native.Nat.{ℕ, ◌+◌, ◌≤◌, ◌<◌}
use native.Mathlib.Omega.{arith}
use native.Mathlib.Decide.{ℕ_discrete}
use lib.IntN.{ℤ, pos, nat_abs}
use lib.ListN.{set, length-set}
use lib.Seq.{get_or-set_same, get_or-set_other}
use Rattle.integers.proofs.Parts.{pos_nonneg}
use Rattle.tables.specs.Ranges.{greatest_order}
use Rattle.tables.specs.Matrix.{nth}
use Rattle.scaling.specs.Scaling.{greatest_exponent}
use Rattle.scaling.specs.Scratch.{Exponent, scale_in, Scale}

module _ {k : ℕ → ℕ} {x : List ℤ} where
  pub scale-more : (m : ℕ) → m < greatest_order → k m ≤ greatest_exponent → Scale k m x → Scale k (m + 1) (set x m (pos (k m)))
  scale-more m h b s = record {
    size = length-set x m (pos (k m)) ∙ s.size;
    numbers = λ i l.
        by_cases (ℕ_discrete i m) (λ e. rw e (get_or-set_same x m (pos (k m)) (pos 0) (omega (arith, s.size))))
        (λ d. get_or-set_other x m i (pos (k m)) (pos 0) d ∙ s.numbers i (omega arith));
    small = λ i l. by_cases (ℕ_discrete i m) (λ e. rw e b) (λ d. s.small i (omega arith));
  }

  -- read from the array again
  pub scale-read : {m : ℕ} → Scale k m x → (i : ℕ) → i < m → scale_in x i ≡ k i
  scale-read s i h = ap nat_abs (s.numbers i h)

  pub scale_in_lem : {m : ℕ} → Scale k m x → Scale (scale_in x) m x
  scale_in_lem s = record {
    size = s.size;
    numbers = λ i h. s.numbers i h ∙ ap pos (sym (scale-read s i h));
    small = λ i h. rw (scale-read s i h) (s.small i h);
  }

  pub scale-exponent : {m : ℕ} → Scale k m x → (i : ℕ) → i < m → Exponent (nth x i)
  scale-exponent s i h = rw (s.numbers i h) (record { low = pos_nonneg (k i); high = s.small i h })
