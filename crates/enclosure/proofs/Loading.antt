-- What the checks find of numbers that were loaded from buffers of any kind: what they find of the numbers that the buffers hold.
use mathlib.Core.Path.{◌≡◌, refl}
use mathlib.Core.Bool.{Bool, true, false, ◌&&◌}
use mathlib.Core.List.{List}
use Prim.Native.Nat.{ℕ, ◌≤◌}
use native.Mathlib.Omega.{arith}
use lib.IntN.{ℤ}
use lib.ListN.{length}
use Rattle.tables.specs.Ranges.{greatest_order, linear_range, centre_range}
use Rattle.tables.specs.Matrix.{nth}
use Rattle.tables.specs.Checks.{linear_within, terms_within, first_refusal, ends_checks}
use Rattle.tables.proofs.Admission.{range_same, crossed_same}
use Rattle.enclosure.specs.Act.{Loaded}

-- numbers of each order have room
pub loaded_fits : {n : ℕ} {sized : Bool} {x t : List ℤ} → n ≤ greatest_order → Loaded sized x t → n ≤ length t
loaded_fits h l = omega (arith, h, l.size)

-- 3
pub terms_same : (n : ℕ) (a b c x y z : List ℤ) (α : ℤ) → nth x ≡ nth a → nth y ≡ nth b → nth z ≡ nth c →
    terms_within n x y α z ≡ terms_within n a b α c
unfolding linear_within terms_within
terms_same n a b c x y z α e f g =
    rw (range_same linear_range n a x e, range_same linear_range n b y f, range_same centre_range n c z g) refl

pub terms-loaded : (n : ℕ) (sized : Bool) {a b c x y z : List ℤ} (α : ℤ) → Loaded sized a x → Loaded sized b y → Loaded sized c z →
    (sized && terms_within n x y α z) ≡ (sized && terms_within n a b α c)
terms-loaded n true {a} {b} {c} {x} {y} {z} α p q r = terms_same n a b c x y z α (p.numbers refl) (q.numbers refl) (r.numbers refl)
terms-loaded n false α p q r = refl

-- 16
pub ends_same : (n : ℕ) (a b x y : List ℤ) → nth x ≡ nth a → nth y ≡ nth b →
    first_refusal (ends_checks n x y) ≡ first_refusal (ends_checks n a b)
unfolding ends_checks
ends_same n a b x y e f = rw (crossed_same n a x b y e f) refl
