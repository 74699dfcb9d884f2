use mathlib.Core.Path.{◌≡◌, refl, ◌∙◌}
use mathlib.Core.Bool.{Bool, true, false, false≢true}
use mathlib.Core.List.{◌∷◌}
use Prim.Native.Nat.{ℕ, ◌<◌}
use native.Mathlib.Omega.{arith}
use lib.Ieee.{Float, nan}
use lib.ListN.{get_or}
use Rattle.std.specs.Prelude.{Some, None}
use Rattle.tables.specs.Checks.{all}
use Rattle.tables.proofs.Checks.{all_false}
use Rattle.floats.specs.Brackets.{in_range, bracket_of}
use Rattle.floats.specs.declared.Neighbours.{Neighbours}
use Rattle.floats.proofs.Meaning.{inside, outside}
use Rattle.samples.specs.declared.sample.Sample.{Sample}
use Rattle.samples.specs.Samples.{factors_in, next_to, sample_fits, measured}
use Rattle.samples.proofs.sample.measure.Goals as goal

-- what a bracket says of its number
inside_is : (x : Float) {y : Neighbours} → Some y ≡ bracket_of x → (in_range x ≡ true) × (y ≡ next_to x)
inside_is x {y} e = go (in_range x) refl
  where
    go : (b : Bool) → in_range x ≡ b → (in_range x ≡ true) × (y ≡ next_to x)
    go true q = (q, (let f = inside x q in cc))
    go false q = absurd (let f = outside x q in false≢true cc)

outside_is : (x : Float) → None ≡ bracket_of x → in_range x ≡ false
outside_is x e = go (in_range x) refl
  where
    go : (b : Bool) → in_range x ≡ b → in_range x ≡ false
    go true q = absurd (let f = inside x q in false≢true cc)
    go false q = q

module _ (s : Sample) where
  all_inside : {r c a t d : Neighbours} → Some r ≡ bracket_of s.rolling → Some c ≡ bracket_of s.climb → Some a ≡ bracket_of s.air →
      Some t ≡ bracket_of s.start → Some d ≡ bracket_of s.draw →
      Some (record { rolling = r; climb = c; air = a; start = t; draw = d }) ≡ measured s
  unfolding measured sample_fits all
  all_inside r c a t d =
      let r' = inside_is _ r in
      let c' = inside_is _ c in
      let a' = inside_is _ a in
      let t' = inside_is _ t in
      let d' = inside_is _ d in
      rw (measured, r'.0, c'.0, a'.0, t'.0, d'.0, r'.1, c'.1, a'.1, t'.1, d'.1)

  -- number i of the draw and the factors is outside
  one_outside : (i : ℕ) → i < 5 → None ≡ bracket_of (get_or (s.draw ∷ factors_in s) i nan) → None ≡ measured s
  unfolding measured sample_fits
  one_outside i h e = rw (measured, all_false (λ k. in_range (get_or (s.draw ∷ factors_in s) k nan)) 5 i h (outside_is _ e))

pub returns-in_err-bracket : goal.returns-in_err-bracket
returns-in_err-bracket c = c.from_residual.ensures ∙ one_outside _ 1 (omega arith) c.in_err-bracket.ensures

pub returns-in_err-bracket-2 : goal.returns-in_err-bracket-2
returns-in_err-bracket-2 c = c.from_residual-in_err-bracket-2.ensures ∙ one_outside _ 2 (omega arith) c.in_err-bracket-2.ensures

pub returns-in_err-bracket-3 : goal.returns-in_err-bracket-3
returns-in_err-bracket-3 c = c.from_residual-in_err-bracket-3.ensures ∙ one_outside _ 3 (omega arith) c.in_err-bracket-3.ensures

pub returns-in_err-bracket-4 : goal.returns-in_err-bracket-4
returns-in_err-bracket-4 c = c.from_residual-in_err-bracket-4.ensures ∙ one_outside _ 4 (omega arith) c.in_err-bracket-4.ensures

pub returns-in_err-bracket-5 : goal.returns-in_err-bracket-5
returns-in_err-bracket-5 c = c.from_residual-in_err-bracket-5.ensures ∙ one_outside _ 0 (omega arith) c.in_err-bracket-5.ensures

pub returns : goal.returns
returns c =
    all_inside _ c.in_ok-bracket.ensures c.in_ok-bracket-2.ensures c.in_ok-bracket-3.ensures c.in_ok-bracket-4.ensures c.in_ok-bracket-5.ensures
