-- R16.3 and R17.6 of docs/RULES.md: a file that is accepted is its seven fields in the order of their tags, one after the
-- other and nothing else, so its order gives its length, and its contents give all of its bytes. And a file that is put
-- together so is read as the problem of its contents.
use mathlib.Core.Path.{◌≡◌, refl, sym, ap, ◌∙◌}
use mathlib.Core.Bool.{true}
use mathlib.Core.List.{List, [], ◌∷◌}
use Prim.Native.Nat.{ℕ, ◌*◌, ◌^◌, ◌≤◌, ◌<◌}
use native.Mathlib.Omega.{arith}
use lib.Dec.{eqb}
use lib.IntN.{pos}
use lib.ListN.{length, get_or}
use lib.Seq.{take_all}
use mir.Syntax.{Width, w32, w64}
use mir.Val.{bytes}
use borrow.Author.Tests.{eq-eqb}
use Rattle.words.specs.Numbers.{signed_at, numbers_of, padded_numbers_of, bytes_of}
use Rattle.words.proofs.Laws.{AllBytes, part_bytes, length-bytes_of, bytes_of-numbers_of}
use Rattle.words.proofs.Sign.{Narrow, narrow-of}
use Rattle.tables.specs.Ranges.{greatest_order, table_room}
use Rattle.tables.specs.Checks.{order_ok, first_refusal}
use Rattle.tables.specs.Problem.{problem_checks, mended_problem}
use Rattle.tables.specs.declared.problem.Problem.{Problem}
use Rattle.std.specs.Prelude.{Ok, None, is_some}
use Rattle.tables.proofs.Matrix.{table_fits}
use Rattle.tables.proofs.Checks.{all_of, all-at, first-none, first_passes, first-passed, order-of}
use Rattle.fields.specs.declared.field.Kind.{Kind}
use Rattle.fields.specs.declared.layout.Layout.{Layout}
use Rattle.fields.specs.Fields.{kind_count, place_of}
use Rattle.fields.specs.Layouts.{part_of, length_in, start_of, length_of, seen, layout_of, content}
use Rattle.fields.specs.Entries.{whole_file}
use Rattle.fields.proofs.Finding.{place-below, each_place}
use Rattle.fields.proofs.Parts.{walked_inside, length-content}
use Rattle.fields.proofs.Whole.{whole-passes, whole-found, passed-whole, length_whole, whole_ext}
use Rattle.summary.specs.Problems.{longest, all_present, order_in, length_for, lengths_for, file_size, lengths_ok, field_checks}
use Rattle.summary.specs.Problems.{problem_from, contents_of, file_of, problem_in, reading_of, reading, ProblemRooms, spelled_by}
use Rattle.summary.proofs.Spelled.{length_is, called_for, fields_order, order_small, fields_fit, problem_rooms, read_in_passed}
use Rattle.summary.proofs.Spelled.{reading-walked, reading-handed, accepted}

-- ---- a file that is accepted
-- every field is there, with the length that the order calls for
module _ (s : List ℕ) (e : first_refusal (field_checks s (layout_of s)) ≡ Ok tt) where
  all_seen : (k : Kind) → seen (layout_of s) k ≡ true
  unfolding field_checks all_present seen part_of
  all_seen k = all-at _ kind_count (first-passed _ _ e) (place_of k) (place-below k)

  field-length : (k : Kind) → length (content s (layout_of s) k) ≡ length_for (order_in s (layout_of s)) k
  field-length k =
      let l = (layout_of s) in
      let i = walked_inside s in
      length-content s l k i ∙ length_is l (order_in s l) (fields_fit s l e i).sizes k

-- the length of the file of these contents
whole-size : (c : Kind → List ℕ) (n : ℕ) → ((k : Kind) → length (c k) ≡ length_for n k) → length (whole_file c) ≡ file_size n
whole-size c n z =
    length_whole c ∙ omega (arith, z Kind.Order, z Kind.Low, z Kind.High, z Kind.LinearLow, z Kind.Limit, z Kind.Centre, z Kind.LinearHigh)

-- ---- the file of a problem: its contents have the lengths that its order calls for, and so has the file
pub contents_length_lem : (p : Problem) (k : Kind) → length (contents_of p k) ≡ length_for p.constraint.order k
contents_length_lem p Kind.Order = refl
contents_length_lem p Kind.Low = length-bytes_of w32 _ _
contents_length_lem p Kind.High = length-bytes_of w32 _ _
contents_length_lem p Kind.LinearLow = length-bytes_of w64 _ _
contents_length_lem p Kind.Limit = length-bytes_of w64 _ _
contents_length_lem p Kind.Centre = length-bytes_of w64 _ _
contents_length_lem p Kind.LinearHigh = length-bytes_of w64 _ _

pub file-length : (p : Problem) → length (file_of p) ≡ file_size p.constraint.order
unfolding file_of
file-length p = whole-size (contents_of p) p.constraint.order (contents_length_lem p)

-- ---- contents of these lengths, as numbers and back
module _ {w : Width} (n : Narrow w) (room : ℕ) (t : List ℕ) (k : ℕ) (v : AllBytes t) (h : length t ≡ k * bytes w) where
  numbers-back : bytes_of w (padded_numbers_of w room t k) k ≡ t
  unfolding padded_numbers_of
  numbers-back = bytes_of-numbers_of n t _ k v (omega arith) ∙ take_all (k * bytes w) t (omega arith)

one_byte : (t : List ℕ) → length t ≡ 1 → get_or t 0 0 ∷ [] ≡ t
one_byte [] h = absurd (omega arith)
one_byte (b ∷ []) h = refl
one_byte (b ∷ d ∷ t) h = absurd (omega arith)

one_number : (t : List ℕ) → AllBytes t → length t ≡ bytes w64 → bytes_of w64 (signed_at w64 t 0 ∷ []) 1 ≡ t
unfolding numbers_of
one_number t v h = bytes_of-numbers_of (narrow-of 8) t [] 1 v (omega arith) ∙ take_all (1 * bytes w64) t (omega arith)

contents_back : (c : Kind → List ℕ) → ((k : Kind) → AllBytes (c k)) →
    ((k : Kind) → length (c k) ≡ length_for (get_or (c Kind.Order) 0 0) k) →
    (k : Kind) → contents_of (problem_from (get_or (c Kind.Order) 0 0) c) k ≡ c k
contents_back c v z Kind.Order = one_byte (c Kind.Order) (z Kind.Order)
contents_back c v z Kind.Low = numbers-back (narrow-of 4) table_room (c Kind.Low) _ (v Kind.Low) (z Kind.Low)
contents_back c v z Kind.High = numbers-back (narrow-of 4) table_room (c Kind.High) _ (v Kind.High) (z Kind.High)
contents_back c v z Kind.LinearLow = numbers-back (narrow-of 8) greatest_order (c Kind.LinearLow) _ (v Kind.LinearLow) (z Kind.LinearLow)
contents_back c v z Kind.Limit = one_number (c Kind.Limit) (v Kind.Limit) (z Kind.Limit)
contents_back c v z Kind.Centre = numbers-back (narrow-of 8) greatest_order (c Kind.Centre) _ (v Kind.Centre) (z Kind.Centre)
contents_back c v z Kind.LinearHigh =
    numbers-back (narrow-of 8) greatest_order (c Kind.LinearHigh) _ (v Kind.LinearHigh) (z Kind.LinearHigh)

-- ---- a file that is accepted is the file of its contents, which are those of the problem that it spells
module _ (s : List ℕ) {p : Problem} (e : reading s ≡ Ok p) where
  -- the problem that it spells has an order, checks 3, 4, 5 and 16 let it through, and its arrays have their sizes
  pub accepted-order : order_ok (pos (spelled_by s).constraint.order) ≡ true
  unfolding problem_in
  accepted-order = fields_order s (layout_of s) (accepted s e).checked

  pub accepted-checks : first_refusal (problem_checks (spelled_by s)) ≡ Ok tt
  accepted-checks = (reading-handed (spelled_by s) (sym (accepted s e).read ∙ e)).0

  pub accepted_rooms : ProblemRooms (spelled_by s)
  accepted_rooms = problem_rooms s (layout_of s) (order_small s (layout_of s) (accepted s e).checked)

  -- what is handed out is that problem, mended
  pub accepted-problem : p ≡ mended_problem (spelled_by s)
  accepted-problem = (reading-handed (spelled_by s) (sym (accepted s e).read ∙ e)).1

  module _ (v : AllBytes s) where
    pub accepted-whole : s ≡ whole_file (content s (layout_of s))
    accepted-whole = let a = accepted s e in passed-whole s v a.passed (all_seen s a.checked)

    pub accepted-size : length s ≡ file_size p.constraint.order
    unfolding problem_in
    accepted-size =
        ap length accepted-whole ∙ whole-size (content s (layout_of s)) (order_in s (layout_of s)) (field-length s (accepted s e).checked)
        ∙ ap file_size (sym (ap (λ (p : Problem). p.constraint.order) accepted-problem))

    pub accepted_contents : (k : Kind) → contents_of (spelled_by s) k ≡ content s (layout_of s) k
    unfolding problem_in order_in content
    accepted_contents k =
        let l = (layout_of s) in
        contents_back (content s l) (λ k. part_bytes (length_of l k) (start_of l k) s v) (field-length s (accepted s e).checked) k

    pub accepted-back : s ≡ file_of (spelled_by s)
    unfolding file_of
    accepted-back = accepted-whole ∙ sym (whole_ext _ _ accepted_contents)

-- ---- so the same contents, or the same problem in the fields, have one file
module _ (s s' : List ℕ) (v : AllBytes s) (v' : AllBytes s') {p p' : Problem} (e : reading s ≡ Ok p) (e' : reading s' ≡ Ok p') where
  pub same-file : ((k : Kind) → content s (layout_of s) k ≡ content s' (layout_of s') k) → s ≡ s'
  same-file h = accepted-whole s e v ∙ whole_ext _ _ h ∙ sym (accepted-whole s' e' v')

  pub same-problem : spelled_by s ≡ spelled_by s' → s ≡ s'
  same-problem h = accepted-back s e v ∙ ap file_of h ∙ sym (accepted-back s' e' v')

-- ---- a file that is put together of contents of the lengths that the order calls for
module _ (c : Kind → List ℕ) (o : order_ok (pos (get_or (c Kind.Order) 0 0)) ≡ true) (z : (k : Kind) →
    length (c k) ≡ length_for (get_or (c Kind.Order) 0 0) k) where
  abbrev order : ℕ
  order = get_or (c Kind.Order) 0 0

  abbrev file : List ℕ
  file = whole_file c

  abbrev layout : Layout
  layout = layout_of file

  -- two bytes hold each length
  short : (k : Kind) → length_for order k < 256 ^ 2
  short Kind.Order = omega arith
  short Kind.Low = let h = (order-of o).1 in omega (arith, table_fits h)
  short Kind.High = let h = (order-of o).1 in omega (arith, table_fits h)
  short Kind.LinearLow = let h = (order-of o).1 in omega arith
  short Kind.Limit = omega arith
  short Kind.Centre = let h = (order-of o).1 in omega arith
  short Kind.LinearHigh = let h = (order-of o).1 in omega arith

  found : (k : Kind) → (seen layout k ≡ true) × (content file layout k ≡ c k)
  found = whole-found c (λ k. rw (z k) (short k))

  pub whole-content : (k : Kind) → content file layout k ≡ c k
  whole-content k = (found k).1

  pub whole-order : order_in file layout ≡ order
  unfolding order_in
  whole-order = ap (λ (t : List ℕ). get_or t 0 0) (whole-content Kind.Order)

  pub whole_length : length file ≡ file_size order
  whole_length = whole-size c order z

  size-found : (k : Kind) → length_of layout k ≡ length_for order k
  size-found k = sym (length-content file layout k (walked_inside file)) ∙ ap length (whole-content k) ∙ z k

  -- 13, 14, 1 and 14 pass
  present : all_present layout ≡ true
  unfolding all_present seen part_of
  present = all_of _ kind_count (each_place (λ i. is_some (get_or layout.parts i None) ≡ true) (λ k. (found k).0))

  sized : lengths_ok layout order ≡ true
  unfolding lengths_ok length_of part_of
  sized =
      all_of _ kind_count
      (each_place (λ i. eqb (length_in (get_or layout.parts i None)) (get_or (lengths_for order) i 0) ≡ true)
      (λ k. eq-eqb _ _ (size-found k ∙ sym (called_for order k))))

  pub whole-checks : first_refusal (field_checks file layout) ≡ Ok tt
  unfolding field_checks
  whole-checks =
      first_passes _ _ present ∙ first_passes _ _ (eq-eqb _ _ (size-found Kind.Order)) ∙ first_passes _ _ (rw whole-order o)
      ∙ first_passes _ _ (rw whole-order sized) ∙ first-none

  -- the problem of its contents
  pub problem-there : spelled_by file ≡ problem_from order c
  unfolding problem_in
  problem-there =
      rw (
        whole-order,
        whole-content Kind.Low,
        whole-content Kind.High,
        whole-content Kind.LinearLow,
        whole-content Kind.LinearHigh,
        whole-content Kind.Limit,
        whole-content Kind.Centre,
      )

  pub whole-read : reading file ≡ reading_of (problem_from order c)
  whole-read =
      let h = (order-of o).1 in
      let fits : length file ≤ longest = omega (arith, whole_length, table_fits h) in
      reading-walked file fits (whole-passes c (λ k. rw (z k) (short k))) ∙ read_in_passed file layout whole-checks
      ∙ ap reading_of problem-there
