-- Laws of the problem that a file spells: what the checks of its fields say, and what a problem that is handed out is.
use mathlib.Core.Path.{◌≡◌, refl, sym, ap, ◌∙◌}
use mathlib.Core.Bool.{true}
use mathlib.Core.List.{List, ◌++◌}
use Prim.Native.Nat.{ℕ, ◌*◌, ◌-◌, ◌≤◌, ◌<◌}
use native.Mathlib.Decide.{dec_le}
use native.Mathlib.Omega.{arith}
use lib.IntN.{ℤ, pos}
use lib.ListN.{length, get_or, replicate}
use lib.Seq.{take_at}
use mir.Syntax.{Width, w32, w64}
use borrow.Author.Tests.{le-leb, lt-leb, eqb-true}
use Rattle.words.specs.Numbers.{numbers_of, padded_numbers_of}
use Rattle.words.proofs.Laws.{length-numbers_of, length-padded_numbers_of}
use Rattle.tables.specs.Ranges.{greatest_order, table_room}
use Rattle.tables.specs.Checks.{bounds_checks, order_ok, first_refusal}
use Rattle.tables.specs.declared.problem.Problem.{Problem}
use Rattle.tables.specs.Entering.{Mended}
use Rattle.tables.specs.Problem.{problem_within, constraint_ends, problem_checks, mended_problem}
use Rattle.tables.specs.declared.Refusal.{Refusal}
use Rattle.tables.specs.declared.Refusal.TheVariants.{Long}
use Rattle.tables.specs.Checks.{Checked}
use Rattle.tables.specs.Answers.{after}
use Rattle.std.specs.Prelude.{Ok, Err}
use Rattle.tables.proofs.Matrix.{table_fits}
use Rattle.tables.proofs.Answers.{after-passed, after-refused, after_ok}
use Rattle.tables.proofs.Checks.{more-checks, no-more-checks, all-at, first-passed, rest-passed, order-of}
use Rattle.fields.specs.declared.field.Kind.{Kind}
use Rattle.fields.specs.declared.layout.Layout.{Layout}
use Rattle.fields.specs.Fields.{kind_count, place_of}
use Rattle.fields.specs.Layouts.{part_of, length_of, content, Inside, Walked, walked, layout_of}
use Rattle.fields.proofs.Finding.{place-below}
use Rattle.fields.proofs.Parts.{layout_is}
use Rattle.summary.proofs.MendedProblems.{mended-through}
use Rattle.summary.specs.Problems.{longest, order_in, length_for, lengths_for, lengths_ok, field_checks, padded_to, padded, problem_in}
use Rattle.summary.specs.Problems.{with_tables, checked_of, reading_of, read_in, read_walked, reading}
use Rattle.summary.specs.Problems.{ProblemRooms, FieldsFit, LetThrough, spelled_by}

-- ---- the lengths of the fields
pub called_for : (n : ℕ) (k : Kind) → get_or (lengths_for n) (place_of k) 0 ≡ length_for n k
called_for n Kind.Order = refl
called_for n Kind.Low = refl
called_for n Kind.High = refl
called_for n Kind.LinearLow = refl
called_for n Kind.Limit = refl
called_for n Kind.Centre = refl
called_for n Kind.LinearHigh = refl

-- each field has the length that n calls for
pub length_is : (l : Layout) (n : ℕ) → lengths_ok l n ≡ true → (k : Kind) → length_of l k ≡ length_for n k
unfolding lengths_ok length_of part_of
length_is l n e k = eqb-true _ _ (all-at _ kind_count e (place_of k) (place-below k)) ∙ called_for n k

-- ---- fields that pass
module _ (s : List ℕ) (l : Layout) (e : first_refusal (field_checks s l) ≡ Ok tt) where
  pub fields_order : order_ok (pos (order_in s l)) ≡ true
  unfolding field_checks
  fields_order = first-passed _ _ (rest-passed _ _ (rest-passed _ _ e))

  pub order_small : order_in s l ≤ greatest_order
  order_small = (order-of fields_order).1

  pub fields_fit : Inside s l → FieldsFit s l
  unfolding field_checks
  fields_fit i =
      let e₁ = rest-passed _ _ e in
      record {
        inside = i;
        tag_size = eqb-true _ _ (first-passed _ _ e₁);
        order = order_small;
        sizes = first-passed _ _ (rest-passed _ _ (rest-passed _ _ e₁));
      }

-- ---- a problem's sizes
pub problem_rooms : (s : List ℕ) (l : Layout) → order_in s l ≤ greatest_order → ProblemRooms (problem_in s l)
unfolding problem_in
problem_rooms s l h =
    record {
      order = h;
      low = length-padded_numbers_of w32 table_room _ _ (table_fits h);
      high = length-padded_numbers_of w32 table_room _ _ (table_fits h);
      linear_low = length-padded_numbers_of w64 greatest_order _ _ h;
      linear_high = length-padded_numbers_of w64 greatest_order _ _ h;
      centre = length-padded_numbers_of w64 greatest_order _ _ h;
    }

-- zeros stand behind its numbers
pub padded-numbers : (w : Width) (room : ℕ) (t : List ℕ) (k : ℕ) →
    padded_to room k (padded_numbers_of w room t k) ≡ padded_numbers_of w room t k
unfolding padded_numbers_of
padded-numbers w room t k =
    ap (λ (x : List ℤ). x ++ replicate (room - k) (pos 0)) (take_at (numbers_of w t k) _ k (length-numbers_of w t k))

pub problem-padded : (s : List ℕ) (l : Layout) → padded (problem_in s l) ≡ problem_in s l
unfolding problem_in
problem-padded s l =
    let n = order_in s l in
    rw (
      padded-numbers w32 table_room (content s l Kind.Low) (n * n),
      padded-numbers w32 table_room (content s l Kind.High) (n * n),
      padded-numbers w64 greatest_order (content s l Kind.LinearLow) n,
      padded-numbers w64 greatest_order (content s l Kind.LinearHigh) n,
      padded-numbers w64 greatest_order (content s l Kind.Centre) n,
    )

-- ---- the cases of a reading
pub reading_as : (p : Problem) {k : Checked} → first_refusal (problem_checks p) ≡ k → reading_of p ≡ after Err k (Ok (mended_problem p))
unfolding reading_of
reading_as p e = ap (λ (k : Checked). after Err k (Ok (mended_problem p))) e

-- what all checks leave, with the tables mended in their place, is the reading
pub reading_left : (p : Problem) {r : Checked} {l u : List ℤ} →
    (let c = p.constraint in Mended (problem_checks p) c.order c.low c.high r l u) → after Err r (Ok (with_tables p l u)) ≡ reading_of p
unfolding after
reading_left p {r} {l} {u} m = go r refl
  where
    go : (k : Checked) → r ≡ k → after Err k (Ok (with_tables p l u)) ≡ reading_of p
    go (Ok tt) e = rw (m.low e, m.high e) (sym (reading_as p (sym m.answered ∙ e)))
    go (Err k) e = sym (reading_as p (sym m.answered ∙ e))

-- 3, 4 and 5, with the tables mended in their place, and then 16
module _ (p : Problem) {r : Checked} {l u : List ℤ}
    (m : let c = p.constraint in Mended (bounds_checks (problem_within p) c.order c.low c.high) c.order c.low c.high r l u) where
  abbrev Done : Checked → Type 0
  Done k = let c = p.constraint in Mended (problem_checks p) c.order c.low c.high k l u

  pub mended-refused : {k : Refusal} → r ≡ Err k → Done (Err k)
  mended-refused e =
      record {
        answered = sym (no-more-checks _ _ _ (sym m.answered ∙ e));
        low-size = m.low-size;
        high-size = m.high-size;
        low = λ q. cc q;
        high = λ q. cc q;
      }

  pub mended-passed : {k : Checked} → r ≡ Ok tt → k ≡ first_refusal (constraint_ends p.constraint) → Done k
  mended-passed q e =
      record {
        answered = e ∙ sym (more-checks _ _ (sym m.answered ∙ q));
        low-size = m.low-size;
        high-size = m.high-size;
        low = λ _. m.low q;
        high = λ _. m.high q;
      }

  pub reading-refused : {k : Refusal} → r ≡ Err k → Err k ≡ reading_of p
  unfolding after
  reading-refused e = reading_left p (mended-refused e)

  pub reading-mended : {k : Checked} → r ≡ Ok tt → k ≡ first_refusal (constraint_ends p.constraint) →
      after Err k (Ok (with_tables p l u)) ≡ reading_of p
  reading-mended q e = reading_left p (mended-passed q e)

pub reading_checked : (p : Problem) → checked_of (reading_of p) ≡ first_refusal (problem_checks p)
unfolding after
reading_checked p = go (first_refusal (problem_checks p)) refl
  where
    go : (k : Checked) → first_refusal (problem_checks p) ≡ k → checked_of (reading_of p) ≡ k
    go (Ok tt) h = ap checked_of (reading_as p h)
    go (Err r) h = ap checked_of (reading_as p h)

-- what is handed out is the mended problem, and the checks pass
pub reading-handed : (p : Problem) {q : Problem} → reading_of p ≡ Ok q → (first_refusal (problem_checks p) ≡ Ok tt) × (q ≡ mended_problem p)
unfolding reading_of
reading-handed p {q} e = let h = after_ok (first_refusal (problem_checks p)) (mended_problem p) q e in (h.0, sym h.1)

module _ (s : List ℕ) (l : Layout) where
  pub read_in_passed : first_refusal (field_checks s l) ≡ Ok tt → read_in s l ≡ reading_of (problem_in s l)
  unfolding read_in
  read_in_passed e = sym (after-passed Err (reading_of (problem_in s l)) e)

  pub read_in_refused : (r : Refusal) → first_refusal (field_checks s l) ≡ Err r → read_in s l ≡ Err r
  unfolding read_in
  read_in_refused r e = sym (after-refused Err r (reading_of (problem_in s l)) e)

module _ (s : List ℕ) where
  pub reading-long : longest < length s → reading s ≡ Err Long
  unfolding reading
  reading-long h = rw (lt-leb _ _ h, reading)

  module _ (h : length s ≤ longest) where
    pub reading-walked : {l : Layout} → walked s ≡ Ok l → reading s ≡ read_in s l
    unfolding reading read_walked
    reading-walked e = rw (le-leb _ _ h, e, reading, read_walked)

    pub reading-stopped : (r : Refusal) → walked s ≡ Err r → reading s ≡ Err r
    unfolding reading read_walked
    reading-stopped r e = rw (le-leb _ _ h, e, reading, read_walked)

-- ---- a reading that hands out a problem
-- the walk passed, and so did the checks of the fields
pub record Accepted (s : List ℕ) : Type 0 where
  pub passed : walked s ≡ Ok (layout_of s)
  pub checked : first_refusal (field_checks s (layout_of s)) ≡ Ok tt
  pub read : reading s ≡ reading_of (spelled_by s)

pub accepted : (s : List ℕ) {p : Problem} → reading s ≡ Ok p → Accepted s
accepted s {p} e = go (dec_le (length s) longest) (walked s) refl
  where
    fields : (l : Layout) → walked s ≡ Ok l → layout_of s ≡ l → reading s ≡ read_in s l → (c : Checked) →
        first_refusal (field_checks s l) ≡ c → Accepted s
    fields l w m q (Ok tt) f =
        record {
          passed = w ∙ ap Ok (sym m);
          checked = rw m f;
          read = q ∙ read_in_passed s l f
              ∙ ap (λ (l : Layout). reading_of (problem_in s l)) (sym m);
        }
    fields l w m q (Err r) f = cc (e, q, read_in_refused s l r f)

    go : Dec (length s ≤ longest) → (w : Walked) → walked s ≡ w → Accepted s
    go (yes h) (Ok l) f = fields l f (layout_is s f) (reading-walked s h f) (first_refusal (field_checks s l)) refl
    go (yes h) (Err r) f = cc (e, reading-stopped s h r f)
    go (no h) w f = cc (e, reading-long s (omega arith))

-- what it hands out is let through
pub reading-through : (s : List ℕ) {p : Problem} → reading s ≡ Ok p → LetThrough p
unfolding problem_in
reading-through s {p} e =
    let a = accepted s e in
    let l = layout_of s in
    let h = reading-handed (spelled_by s) (sym a.read ∙ e) in
    let z = problem_rooms s l (order_small s l a.checked) in
    rw h.1 (mended-through (problem_in s l) z (fields_order s l a.checked) h.0 (problem-padded s l))
