-- By recursion over the remaining order: each of 0, 1 and -1 in front, with what is found after it.
use Rattle.std.proofs.Common.{◌≡◌, ℕ, suc, ◌-◌, ◌<◌, List, ℤ, ◌+ℤ◌, FitsSigned, w64, to_z, of_z, refl, sym, ◌∙◌, arith, add-one}
use Rattle.integers.proofs.Machine.{clean, same_bits, fits_literal, fits_within}
use Rattle.tables.specs.Matrix.{nth}
use Rattle.lookahead.specs.Pairs.{Searching}
use Rattle.tried.specs.Search.{by_sign}
use Rattle.tried.proofs.Choices.{nothing_found}
use Rattle.tried.proofs.Shares.{first-within, next-within}
use Rattle.tried.proofs.Passed.{passed_none}
use Rattle.tried.proofs.Searching.{none_left, after-found, kept-found, with-found, zero_hit, one_hit, minus_one}
use Rattle.tried.proofs.+search_search_after_search_with.Goals as goal

pub search-returns-then-passed_over : goal.search-returns-then-passed_over
search-returns-then-passed_over t c =
    nothing_found c.requires.2 (passed_none _ _ _ _ _ _ _ (sym (rw (clean c.ranges.sum) at c.passed_over.ensures) ∙ c.if-passed_over.true))

pub search-returns-then-search_with : goal.search-returns-then-search_with
search-returns-then-search_with t c =
    zero_hit _ _ _ (omega arith) _ _ _ (rw (clean c.ranges.sum, c.if-search_with.true) at c.search_with.ensures)

pub search-returns-then-search_with-2 : goal.search-returns-then-search_with-2
search-returns-then-search_with-2 t c =
    one_hit _ _ _ (omega arith) _ _ _ (rw (clean c.ranges.sum, c.if-search_with.false) at c.search_with.ensures)
    (rw (clean c.ranges.sum, c.if-search_with-2.true) at c.search_with-2.ensures)

pub search-returns : goal.search-returns
search-returns t c =
    minus_one _ _ _ (omega arith) _ _ _ (rw (clean c.ranges.sum, c.if-search_with.false) at c.search_with.ensures)
    (rw (clean c.ranges.sum, c.if-search_with-2.false) at c.search_with-2.ensures) (rw (clean c.ranges.sum) at c.search_with-3.ensures)

pub search_after-returns-then-left-eq0 : goal.search_after-returns-then-left-eq0
search_after-returns-then-left-eq0 t c = none_left _ _ _ c.if-left-eq0.true _ c.requires.3 _ _ _ (rw (clean c.ranges.sum) refl)

pub search_after-returns-then-entry-eq0 : goal.search_after-returns-then-entry-eq0
search_after-returns-then-entry-eq0 t c =
    kept-found _ _ c.args.n (omega arith) (omega arith) _ _ _ (same_bits c.ranges.entry (fits_literal tt) c.if-entry-eq0.true) _
    (rw (clean c.ranges.sum) at c.search.ensures)

pub search_after-returns : goal.search_after-returns
search_after-returns t c =
    let e = rw (clean c.ranges.entry, add-one) at c.choose.ensures in
    after-found _ _ c.args.n (omega arith) (omega arith) _ _ _ _ _ (λ i a b. e.plus_is i b) (λ i a b. e.minus_is i b) _
    (rw (clean c.ranges.sum) at c.search-2.ensures)

-- what `sum_with` gave, with the entry's shares as they stand
sum-is : {n : ℕ} {t : List ℤ} {left : ℕ} {a s z : ℤ} {p q : List ℤ} → Searching n t left s p q → 0 < left → FitsSigned w64 a → FitsSigned w64 s → FitsSigned w64 z →
    z ≡ by_sign (to_z w64 (of_z w64 a)) (to_z w64 (of_z w64 s))
    (to_z w64 (of_z w64 s) +ℤ to_z w64 (of_z w64 (nth p (n - left)))) (to_z w64 (of_z w64 s) +ℤ to_z w64 (of_z w64 (nth q (n - left)))) →
    to_z w64 (of_z w64 z) ≡ by_sign a s (s +ℤ nth p (n - left)) (s +ℤ nth q (n - left))
sum-is {n} {left = left} {p = p} {q = q} g h a s z e =
    let x = clean (fits_within (first-within g h g.shares.plus) (omega arith)) in
    let y = clean (fits_within (first-within g h g.shares.minus) (omega arith)) in
    clean z ∙ (rw (clean a, clean s, x, y) at e)

pub search_with-search_after-hit-requires : goal.search_with-search_after-hit-requires
search_with-search_after-hit-requires t c =
    let p = c.requires in
    let g = p.0 in
    let e : c.args.n - suc (c.args.left - 1) ≡ c.args.n - c.args.left = omega arith in (
      omega arith,
      (
        rw e g.shares,
        omega (arith, g.inside),
        rw (sum-is g p.1 c.ranges.entry c.ranges.sum (record { sfits = c.sum_with-with.type_inv }) c.sum_with-with.ensures) (next-within g p.1 _),
        p.2,
      ),
    )

pub search_with-returns : goal.search_with-returns
search_with-returns t c =
    let p = c.requires in
    let g = p.0 in
    let e = rw (sum-is g p.1 c.ranges.entry c.ranges.sum (record { sfits = c.sum_with-with.type_inv }) c.sum_with-with.ensures, clean c.ranges.entry) at c.search_after-hit.ensures in
    rw (clean c.ranges.entry)
    (with-found _ _ _ (omega arith) (omega arith) (omega (arith, g.inside)) (omega (arith, g.inside, g.shares.pairs.order)) _ _ _ _ e)
