use mathlib.Core.Path.{◌≡◌, sym, ◌∙◌}
use native.Mathlib.Omega.{arith}
use native.Mathlib.Numerals.{add-one}
use Prim.Native.Nat.{ℕ, ◌+◌, ◌*◌}
use lib.IntN.{ℤ, ◌+ℤ◌, ◌*ℤ◌}
use mir.Syntax.{w64}
use mir.Val.{to_z, of_z}
use Rattle.integers.specs.Numbers.{Within, min_ℤ, max_ℤ}
use Rattle.integers.specs.Sum.{sum}
use Rattle.integers.proofs.Machine.{clean, clean_element, within_more, fits_within}
use Rattle.integers.proofs.Sums.{sum_zero, sum_suc}
use Rattle.tables.specs.Ranges.{greatest_order, linear_range}
use Rattle.tables.specs.Matrix.{nth}
use Rattle.integers.proofs.Extremes.{within_min, within_max}
use Rattle.centre.specs.Centre.{low_gradient, high_gradient, gradient}
use Rattle.centre.specs.Required.{row_term_range}
use Rattle.centre.proofs.Magnitudes.{picked, low_product_fits, high_product_fits, picked_fits, picked-row}
use Rattle.centre.proofs.gradient.Goals as goal
use Rattle.centre.proofs.gradient.Goals.{After-high_at, After-smaller-least, After-greater-greatest, After-loop-j}

pub loop-j-init : goal.loop-j-init
loop-j-init c = (sym (sum_zero _), sym (sum_zero _))

pub overflow_mul-l : goal.overflow_mul-l
overflow_mul-l c =
    let p = c.args.problem in
    let l = c.low_at in
    rw (clean_element l.result l.type_inv, l.ensures, clean_element (nth p.centre.now c.loop-j.j) (omega arith))
    (low_product_fits p.bounds.checked p.terms c.requires c.loop-j-test.true)

pub overflow_mul-u : goal.overflow_mul-u
overflow_mul-u c =
    let p = c.args.problem in
    let u = c.high_at in
    rw (clean_element u.result u.type_inv, u.ensures, clean_element (nth p.centre.now c.loop-j.j) (omega arith))
    (high_product_fits p.bounds.checked p.terms c.requires c.loop-j-test.true)

-- what the machine reads back
abbrev held : ℤ → ℤ
held z = to_z w64 (of_z w64 z)

-- the next products, of which one is picked
products : (c : After-high_at) (pick : ℤ → ℤ → ℤ) →
    let p = c.args.problem in
    let x = held (nth p.centre.now c.loop-j.j) in
    pick (held (held c.low_at.result *ℤ x)) (held (held c.high_at.result *ℤ x))
    ≡ picked pick p.bounds.order p.bounds.low.now p.bounds.high.now p.centre.now c.args.k c.loop-j.j
products c pick =
    let p = c.args.problem in
    let l = c.low_at in
    let u = c.high_at in
    let t = c.loop-j-test.true in
    rw (clean_element l.result l.type_inv, clean_element u.result u.type_inv, l.ensures, u.ensures)
    (rw (clean_element (nth p.centre.now c.loop-j.j) (omega arith), clean (low_product_fits p.bounds.checked p.terms c.requires t))
    (rw (clean (high_product_fits p.bounds.checked p.terms c.requires t))))

next-least : (c : After-smaller-least) →
    let p = c.args.problem in
    held c.smaller-least.result ≡ picked min_ℤ p.bounds.order p.bounds.low.now p.bounds.high.now p.centre.now c.args.k c.loop-j.j
next-least c =
    let s = c.smaller-least in
    clean_element s.result s.type_inv ∙ s.ensures ∙ products (goal.at.After-smaller-least c).After-high_at min_ℤ

next-greatest : (c : After-greater-greatest) →
    let p = c.args.problem in
    held c.greater-greatest.result ≡ picked max_ℤ p.bounds.order p.bounds.low.now p.bounds.high.now p.centre.now c.args.k c.loop-j.j
next-greatest c =
    let s = c.greater-greatest in
    clean_element s.result s.type_inv ∙ s.ensures ∙ products (goal.at.After-greater-greatest c).After-high_at max_ℤ

pub overflow_add-least : goal.overflow_add-least
overflow_add-least c =
    let p = c.args.problem in
    rw (next-least c, c.loop-j.invariant.0)
    (picked_fits p.bounds.checked p.terms c.requires min_ℤ (λ x y v w. within_min v w) c.loop-j-test.true)

pub overflow_add-greatest : goal.overflow_add-greatest
overflow_add-greatest c =
    let p = c.args.problem in
    rw (next-greatest c, c.loop-j.invariant.1)
    (picked_fits p.bounds.checked p.terms c.requires max_ℤ (λ x y v w. within_max v w) c.loop-j-test.true)

pub loop-j-preserved : goal.loop-j-preserved
loop-j-preserved c =
    let l = c.loop-j in
    let s = (goal.at.loop-j-preserved c).After-smaller-least in (
      clean (overflow_add-least s) ∙ rw (next-least s, l.invariant.0, add-one) (sym (sum_suc l.j _)),
      clean (overflow_add-greatest c) ∙ rw (next-greatest c, l.invariant.1, add-one) (sym (sum_suc l.j _)),
    )

-- all products passed
passed : (c : After-loop-j) →
    let l = c.loop-j in
    let p = c.args.problem in
    (to_z w64 l.least-bits ≡ sum p.bounds.order (picked min_ℤ p.bounds.order p.bounds.low.now p.bounds.high.now p.centre.now c.args.k))
    × (to_z w64 l.greatest-bits ≡ sum p.bounds.order (picked max_ℤ p.bounds.order p.bounds.low.now p.bounds.high.now p.centre.now c.args.k))
passed c =
    let l = c.loop-j in
    let e : l.j ≡ c.args.problem.bounds.order = omega arith in
    (rw e at l.invariant.0, rw e at l.invariant.1)

-- an end of a(k) added
abbrev row_range : ℕ
row_range = greatest_order * row_term_range + linear_range

rows : (c : After-loop-j) →
    let l = c.loop-j in
    let p = c.args.problem in
    Within row_range (to_z w64 l.least-bits +ℤ nth p.from.now c.args.k)
    × Within row_range (to_z w64 l.greatest-bits +ℤ nth p.to.now c.args.k)
rows c =
    let p = c.args.problem in
    let h = c.requires in
    let s = passed c in (
      rw s.0 (picked-row p.bounds.checked p.terms h min_ℤ (λ x y v w. within_min v w) (p.terms.low _ h)),
      rw s.1 (picked-row p.bounds.checked p.terms h max_ℤ (λ x y v w. within_max v w) (p.terms.high _ h)),
    )

pub overflow_add-least-2 : goal.overflow_add-least-2
overflow_add-least-2 c =
    rw (clean_element (nth c.args.problem.from.now c.args.k) (omega arith))
    (fits_within (rows (goal.at.overflow_add-least-2 c).After-loop-j).0 (omega arith))

pub absolute-x-requires : goal.absolute-x-requires
unfolding gradient low_gradient high_gradient
absolute-x-requires c =
    rw (clean (overflow_add-least-2 c), clean_element (nth c.args.problem.from.now c.args.k) (omega arith))
    (within_more (omega arith) (rows (goal.at.absolute-x-requires c).After-loop-j).0)

pub overflow_add-greatest-2 : goal.overflow_add-greatest-2
overflow_add-greatest-2 c =
    rw (clean_element (nth c.args.problem.to.now c.args.k) (omega arith))
    (fits_within (rows (goal.at.overflow_add-greatest-2 c).After-loop-j).1 (omega arith))

pub absolute-y-requires : goal.absolute-y-requires
unfolding gradient low_gradient high_gradient
absolute-y-requires c =
    rw (clean (overflow_add-greatest-2 c), clean_element (nth c.args.problem.to.now c.args.k) (omega arith))
    (within_more (omega arith) (rows (goal.at.absolute-y-requires c).After-loop-j).1)

pub returns : goal.returns
unfolding gradient low_gradient high_gradient
returns c =
    let p = c.args.problem in
    let o = (goal.at.returns c).After-loop-j in
    let x = c.absolute-x in
    let y = c.absolute-y in
    clean_element c.greater.result c.greater.type_inv ∙ c.greater.ensures
    ∙ rw (clean_element x.result x.type_inv, x.ensures, clean_element y.result y.type_inv, y.ensures)
    (rw (clean_element (nth p.from.now c.args.k) (omega arith), clean_element (nth p.to.now c.args.k) (omega arith))
    (rw (clean (fits_within (rows o).0 (omega arith)), clean (fits_within (rows o).1 (omega arith)), (passed o).0, (passed o).1)))
