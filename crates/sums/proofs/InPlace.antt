-- Laws of a list whose numbers are replaced one after the other, in place.
use mathlib.Core.Path.{◌≡◌, ◌∙◌}
use mathlib.Core.List.{List}
use Prim.Native.Nat.{ℕ, suc, ◌^◌, ◌≤◌, ◌<◌}
use native.Mathlib.Omega.{arith}
use lib.IntN.{ℤ, pos}
use lib.ListN.{set}
use lib.Seq.{get_or-set_other}
use lib.Signed.{mag}
use mir.Syntax.{w64}
use mir.Val.{to_z, of_z}
use Rattle.integers.proofs.Machine.{clean_element}
use Rattle.tables.specs.Matrix.{nth}
use Rattle.tables.specs.Buffers.{Filled}
use Rattle.tables.proofs.Buffers.{filled_more}

-- the first m of the s numbers of x are f's, and the others those of x₀
pub record Replaced (s m : ℕ) (f : ℕ → ℤ) (x₀ x : List ℤ) : Type 0 where
  pub front : Filled s m f x
  pub rest : (k : ℕ) → m ≤ k → nth x k ≡ nth x₀ k

module _ {s : ℕ} {f : ℕ → ℤ} {x₀ : List ℤ} where
  pub replaced_more : {x : List ℤ} {m : ℕ} {v : ℤ} → m < s → v ≡ f m → Replaced s m f x₀ x → Replaced s (suc m) f x₀ (set x m v)
  replaced_more {x} {m} {v} h e w = record {
    front = filled_more h e w.front;
    rest = λ k l. get_or-set_other x m k v (pos 0)
        (λ q. omega arith) ∙ w.rest k (omega arith);
  }

-- the next number to be replaced, as the code reads it
pub read_next : {s m : ℕ} {f : ℕ → ℤ} {x₀ : List ℤ} (x : List ℤ) → mag (nth x m) < 2 ^ 63 → Replaced s m f x₀ x →
    to_z w64 (of_z w64 (nth x m)) ≡ nth x₀ m
read_next {m = m} x h w = clean_element (nth x m) h ∙ w.rest m (omega arith)
