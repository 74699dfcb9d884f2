-- R8 and R26.1 of docs/RULES.md: the least value of a vector, which vectors show 'not definite', and which are under a number.
use Rattle.std.specs.Prelude.{Bool, true, false, not, ◌&&◌, ◌||◌, ℕ, eqb, ℤ, pos, ◌*ℤ◌, ◌≤ℤ◌}
use Rattle.std.specs.Int.Signed.{le_z, lt_z}
use Rattle.tables.specs.Matrix.{Matrix, form, norm_squared}
use Rattle.tables.specs.Members.{Member, Nonzero}
use Rattle.tables.specs.Checks.{all, same}

-- R8.1: the member with the least x'Mx has L(i,j) if i = j or x(i) x(j) > 0, and U(i,j) if not
unfoldable pub least_member : Matrix → Matrix → (ℕ → ℤ) → Matrix
least_member L U x i j = elim (eqb i j || lt_z (pos 0) (x i *ℤ x j)) [ true ↦ L i j | false ↦ U i j ]

-- R8.2: its x'Mx, the least value of x
unfoldable pub least_value : ℕ → Matrix → Matrix → (ℕ → ℤ) → ℤ
least_value n L U x = form n (least_member L U x) x

unfoldable pub nonzero : ℕ → (ℕ → ℤ) → Bool
nonzero n x = not (all n (λ i. same (x i) (pos 0)))

-- R8.3: x shows 'not definite', being nonzero with a least value that is not positive
unfoldable pub shows : ℕ → Matrix → Matrix → (ℕ → ℤ) → Bool
shows n L U x = nonzero n x && le_z (least_value n L U x) (pos 0)

-- a witness vector: x is nonzero, and some member M has x'Mx ≤ 0
pub record Witness (n : ℕ) (L U : Matrix) (x : ℕ → ℤ) : Type 0 where
  pub differs : Nonzero n x
  pub matrix : Matrix
  pub denominator : ℤ
  pub member : Member n L U matrix denominator
  pub low : form n matrix x ≤ℤ pos 0

-- R26.1: x is under w, being nonzero with a least value of at most w·x'x. Under 0 is what shows 'not definite'
unfoldable pub under : ℕ → Matrix → Matrix → ℤ → (ℕ → ℤ) → Bool
under n L U w x = nonzero n x && le_z (least_value n L U x) (w *ℤ norm_squared n x)

-- a witness vector at w: x is nonzero, and some member M has x'Mx ≤ w·x'x. At 0 that is `Witness`
pub record WitnessAt (n : ℕ) (L U : Matrix) (w : ℤ) (x : ℕ → ℤ) : Type 0 where
  pub differs : Nonzero n x
  pub matrix : Matrix
  pub denominator : ℤ
  pub member : Member n L U matrix denominator
  pub low : form n matrix x ≤ℤ (denominator *ℤ w *ℤ norm_squared n x)
