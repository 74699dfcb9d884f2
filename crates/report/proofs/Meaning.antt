-- What the program's text means, of any file at all: 'definite', 'not' or 'undecided' first, and 'empty' last. The first byte tells the
-- verdicts and a refusal apart; the last but one tells 'empty' from a number's last digit.
use mathlib.Core.Path.{◌≡◌, refl, sym, ap, subst, ◌∙◌}
use mathlib.Core.Bool.{true}
use mathlib.Core.List.{List, [], ◌∷◌, ◌++◌, append_assoc}
use Prim.Native.Nat.{ℕ, zero, suc, ◌<◌}
use native.Mathlib.Omega.{arith}
use lib.IntN.{ℤ, pos}
use lib.Signed.{◌≤ℤ◌}
use lib.ListN.{get_or, drop}
use Rattle.tables.specs.Matrix.{at, nth}
use Rattle.tables.specs.Members.{PositiveDefinite}
use Rattle.tables.specs.Checks.{order_ok, order_of}
use Rattle.tables.specs.Entering.{low_bounds, high_bounds}
use Rattle.tables.specs.Problem.{ends_in}
use Rattle.tables.specs.Refusals.{refusal_number}
use Rattle.tables.specs.declared.Refusal.{Refusal}
use Rattle.std.specs.Prelude.{Ok, is_ok, IsOk}
use Rattle.tables.specs.declared.problem.Constraint.{Constraint}
use Rattle.tables.specs.declared.problem.Problem.{Problem}
use Rattle.residual.specs.Residual.{FormBound}
use Rattle.residual.specs.FactorTest.{factor_tested}
use Rattle.residual.specs.declared.factor_test.FactorAnswer.TheVariants.{Accepted}
use Rattle.vectors.specs.Least.{Witness}
use Rattle.verdict.specs.Judge.{Judgement, judged, written, Meaning}
use Rattle.verdict.specs.Judge as Judge
use Rattle.verdict.proofs.Meanings.{judged-means}
use Rattle.enclosure.specs.Points.{Allowed}
use Rattle.sides.specs.Sides.{Box}
use Rattle.enclosure.specs.Box.{problem_box}
use Rattle.enclosure.proofs.Enclosing.{Says, box_says}
use Rattle.enclosure.proofs.BoxMeanings.{point_mended}
use Rattle.summary.specs.Problems.{reading, spelled_by}
use Rattle.summary.proofs.MendedProblems.{low-holds, high-holds}
use Rattle.summary.proofs.OneFile.{accepted-order, accepted-checks, accepted_rooms, accepted-problem}
use Rattle.text.specs.Text.{ascii, digit, newline, line, lines}
use Rattle.text.proofs.Endings.{Ends, ends_same, ends-behind, line-ends, lines_end}
use Rattle.report.specs.Lines.{numbered, over_text, verdict_text, box_text}
use Rattle.report.specs.Report.{problem_verdict, problem_text, printed}
use Rattle.report.proofs.Fitting.{known, positive, opened, bounded, text_mended}
use Rattle.report.proofs.Printed.{printed-problem, printed-passed}

-- a text's first byte
abbrev first : List ℕ → ℕ
first t = get_or t 0 0

-- what a verdict means, with what it writes
abbrev Means : ℕ → List ℤ → List ℤ → Judgement → Type 0
Means n l u g = let j = written g [] [] in Meaning (pos n) l u j.verdict j.factor j.vector

-- ---- the verdict's lines, with others behind them
module _ (n : ℕ) (l u : List ℤ) (behind t : List ℕ) where
  -- the factor R that is printed, and behind it v, what the rows of its residual have over: the factor test accepts R with v over, v is 0
  -- or more, 2^32 x'Mx ≥ v x'x + |Rx|² for every member M and every x, and every member is positive definite
  pub record Certified : Type 0 where
    pub factor : List ℤ
    pub over : ℤ
    pub text : t ≡ lines (ascii "row") factor n n ++ over_text over ++ behind
    pub accepted : factor_tested (pos n) true l u factor ≡ Ok (Accepted over)
    pub enough : pos 0 ≤ℤ over
    pub bound : FormBound n (at n factor) (at n l) (at n u) over
    pub definite : PositiveDefinite n (at n l) (at n u)

  -- the vector that is printed, and a member M with x'Mx ≤ 0
  pub record Shown : Type 0 where
    pub vector : List ℤ
    pub text : t ≡ lines (ascii "vector") vector n 1 ++ behind
    pub witness : Witness n (at n l) (at n u) (nth vector)

  -- by the first line: what is said next, if anything
  record Opened (s : List ℕ) : Type 0 where
    definite : s ≡ ascii "definite\n" ++ t → Certified
    shown : s ≡ ascii "not\n" ++ t → Shown
    undecided : s ≡ ascii "undecided\n" ++ t → t ≡ behind

  first-line : order_of (pos n) ≡ n → (g : Judgement) → Means n l u g → Opened (verdict_text n g ++ behind)
  unfolding verdict_text numbered line
  first-line k (Judge.definite f w) m = record {
    definite = λ e. record {
      factor = f;
      over = w;
      text = sym (ap (drop 9) e);
      accepted = m.accepted w refl;
      enough = m.enough w refl;
      bound = rw k at (m.bound w refl);
      definite = rw k at (m.definite w refl);
    };
    shown = λ e. absurd (omega (arith, ap first e));
    undecided = λ e. absurd (omega (arith, ap first e));
  }
  first-line k (Judge.not_definite x) m = record {
    definite = λ e. absurd (omega (arith, ap first e));
    shown = λ e. record { vector = x; text = sym (ap (drop 4) e); witness = rw k at (m.shown refl) };
    undecided = λ e. absurd (omega (arith, ap first e));
  }
  first-line k Judge.undecided m = record {
    definite = λ e. absurd (omega (arith, ap first e));
    shown = λ e. absurd (omega (arith, ap first e));
    undecided = λ e. sym (ap (drop 10) e);
  }
  first-line k (Judge.refused r) m = record {
    definite = λ e. absurd (omega (arith, ap first e));
    shown = λ e. absurd (omega (arith, ap first e));
    undecided = λ e. absurd (omega (arith, ap first e));
  }

-- ---- a text that ends with a digit and a line feed does not end with 'empty'
not_empty : {d : ℕ} {s : List ℕ} → Ends s (d ∷ newline ∷ []) → d < 58 → (t : List ℕ) → s ≡ t ++ ascii "empty\n" → ⊥
not_empty {d} a l t e =
    let h : d ≡ 121 =
    ap first
    (ends_same a (record { rest = t ++ ascii "empt"; whole = e ∙ sym (append_assoc t (ascii "empt") (ascii "y\n")) }) refl)
    in
    omega arith

numbered-ends : (word : List ℕ) (r : Refusal) → Ends (numbered word r) (digit (refusal_number r) ∷ newline ∷ [])
unfolding numbered
numbered-ends word r = line-ends word (λ _. pos (refusal_number r)) 0

empty_last : (n : ℕ) → 0 < n → (b : Box) (before t : List ℕ) → before ++ box_text n b ≡ t ++ ascii "empty\n" → b ≡ Box.empty
unfolding box_text
empty_last zero h b before t e = absurd (omega arith)
empty_last (suc n) h (Box.sides x) before t e = absurd (not_empty (ends-behind before (lines_end (ascii "side") x 1 n)) (omega arith) t e)
empty_last (suc n) h Box.empty before t e = refl
empty_last (suc n) h (Box.refused r) before t e =
    absurd (not_empty (ends-behind before (numbered-ends (ascii "box refused") r)) (omega arith) t e)

-- ---- of any file at all: what is said of its tables is said of them as they stand in the file
module _ (s : List ℕ) where
  abbrev p : Problem
  p = spelled_by s

  abbrev c : Constraint
  c = p.constraint

  abbrev n : ℕ
  n = c.order

  module _ {q : Problem} (h : reading s ≡ Ok q) where
    -- the text is that of the problem that the file spells
    spelled-text : printed s ≡ problem_text p
    spelled-text =
        let z = accepted_rooms s h in
        printed-problem s h ∙ ap problem_text (accepted-problem s h) ∙ text_mended p (low-holds p z) (high-holds p z)

    abbrev order : order_ok (pos n) ≡ true
    order = accepted-order s h

    means : Means n c.low c.high (problem_verdict p)
    unfolding problem_verdict
    means =
        let b = opened p order (accepted-checks s h) in
        let m =
        judged-means (pos n) true c.low c.high
        (record { ordered = b.ordered; sizes = refl; within = refl; checked = b.tables; tables = b.tables }) [] []
        in
        subst (λ (k : ℕ). Means n c.low c.high (judged k (low_bounds k c.low) (high_bounds k c.high)))
        (known p order (accepted-checks s h)) m

    -- what its first line says
    first-printed : (t : List ℕ) → Opened n c.low c.high (box_text n (problem_box p)) t (printed s)
    unfolding problem_text
    first-printed t =
        rw spelled-text
        (first-line n c.low c.high (box_text n (problem_box p)) t (known p order (accepted-checks s h)) (problem_verdict p) means)

  -- 'definite' first: the factor and the number over, which are printed next, and behind them there are the lines of the box alone
  pub definite-means : (t : List ℕ) → printed s ≡ ascii "definite\n" ++ t
      → IsOk (reading s) × Certified n c.low c.high (box_text n (problem_box p)) t
  unfolding numbered line
  definite-means t e =
      let h = (printed-passed s (λ r q. omega (arith, ap first (sym q ∙ e)))).1 in
      (ap is_ok h, (first-printed h t).definite e)

  -- 'not' first: the vector that is printed next has x'Mx ≤ 0 for some member M
  pub not_means : (t : List ℕ) → printed s ≡ ascii "not\n" ++ t
      → IsOk (reading s) × Shown n c.low c.high (box_text n (problem_box p)) t
  unfolding numbered line
  not_means t e =
      let h = (printed-passed s (λ r q. omega (arith, ap first (sym q ∙ e)))).1 in
      (ap is_ok h, (first-printed h t).shown e)

  -- 'undecided' first: behind it there are the lines of the box alone
  pub undecided_means : (t : List ℕ) → printed s ≡ ascii "undecided\n" ++ t
      → IsOk (reading s) × (t ≡ box_text n (problem_box p))
  unfolding numbered line
  undecided_means t e =
      let h = (printed-passed s (λ r q. omega (arith, ap first (sym q ∙ e)))).1 in
      (ap is_ok h, (first-printed h t).undecided e)

  -- 'empty' last: the ellipsoid has no point, whichever linear terms between their ends
  pub empty_means : (t : List ℕ) → printed s ≡ t ++ ascii "empty\n"
      → IsOk (reading s) × ((X : ℕ → ℤ) (q : ℤ) → Allowed c X q → ⊥)
  unfolding problem_text problem_box
  empty_means t e =
      let h = (printed-passed s (λ r q. not_empty (numbered-ends (ascii "refused") r) (omega arith) t (sym q ∙ e))).1 in
      let o = accepted-order s h in
      let b =
      empty_last n (positive p o (accepted-checks s h)) (problem_box p) (verdict_text n (problem_verdict p)) t
      (sym (spelled-text h) ∙ e)
      in
      let L = low_bounds n c.low in
      let U = high_bounds n c.high in
      let says = box_says n (accepted_rooms s h).order L U (bounded p o (accepted-checks s h)) (ends_in c) c.limit (nth p.centre) in
      let none = subst (Says n L U (ends_in c) c.limit) b says in
      (ap is_ok h, λ X q x. none X q (point_mended c x))
