-- R24.2 and R24.3 of docs/RULES.md: the file of a problem that is let through is read as that problem; a file with symmetric tables that is
-- accepted is the file of its problem; so each such problem has just one file with symmetric tables. Any other file comes back as that one.
use mathlib.Core.Path.{◌≡◌, refl, sym, ap, subst, ◌∙◌}
use mathlib.Core.Bool.{Bool, true, false, ◌&&◌}
use mathlib.Core.List.{List, [], ◌∷◌, ◌++◌, map, append-nil}
use Prim.Native.Nat.{ℕ, zero, suc, ◌*◌, ◌-◌, ◌/◌, ◌^◌, ◌≤◌, ◌<◌}
use native.Mathlib.Nat.{one-le-pow}
use native.Mathlib.Decide.{dec_lt}
use native.Mathlib.Omega.{arith}
use lib.IntN.{ℤ, pos, negsuc}
use lib.ListN.{length, get_or, take, replicate, get_or-eq_default}
use lib.Seq.{take_all, get_or-take, length-take-le}
use mir.Syntax.{Width, w32, w64}
use mir.Val.{hbits, SFits}
use Rattle.words.specs.Numbers.{to_le_bytes, signed_at, numbers_of, padded_numbers_of, bytes_of}
use Rattle.words.proofs.Laws.{AllBytes, AllFit, numbers_of-bytes_of}
use Rattle.words.proofs.Sign.{Narrow, narrow-of}
use Rattle.integers.specs.Numbers.{Within}
use Rattle.tables.specs.Ranges.{greatest_order, table_room, entry_range, linear_range, limit_range, centre_range}
use Rattle.tables.specs.Matrix.{nth}
use Rattle.tables.specs.Checks.{order_ok, within, all_within, tables_within, linear_within, terms_within, bounds_checks, first_refusal}
use Rattle.tables.specs.Answers.{after}
use Rattle.tables.specs.Problem.{problem_within, problem_checks}
use Rattle.tables.specs.declared.problem.Problem.{Problem}
use Rattle.tables.specs.declared.Refusal.TheVariants.{Range}
use Rattle.std.specs.Prelude.{Ok, Err}
use Rattle.tables.proofs.Matrix.{table_fits}
use Rattle.tables.proofs.Checks.{all-at, within_of, and_left, and_right, first-passed, first-refuses}
use Rattle.tables.proofs.Answers.{prefix_passed}
use Rattle.tables.proofs.Problems.{symmetric_problem, mended-problem_symmetric}
use Rattle.fields.specs.declared.field.Kind.{Kind}
use Rattle.fields.specs.Fields.{kinds}
use Rattle.fields.specs.Entries.{head_bytes, entry_bytes, bytes_of_entries, entry_with, whole_file}
use Rattle.fields.proofs.Finding.{place-below}
use Rattle.summary.specs.Problems.{problem_from, contents_of, file_of, padded_to, padded, reading_of, reading, ProblemRooms, LetThrough}
use Rattle.summary.specs.Problems.{spelled_by, SymmetricTables, ReadingMeaning}
use Rattle.summary.proofs.MendedProblems.{low-holds, high-holds}
use Rattle.summary.proofs.Spelled.{reading_as, reading-through}
use Rattle.summary.proofs.OneFile.{contents_length_lem, accepted_rooms, accepted-problem, accepted-back, problem-there, whole-read}

-- ---- numbers as bytes and back
fits_in : (w : Width) {b : ℕ} {z : ℤ} → Within b z → b < 2 ^ hbits w → SFits w z
fits_in w {z = pos n} r h = let k = r.size in record { sfits = omega arith }
fits_in w {z = negsuc n} r h = let k = r.size in record { sfits = omega arith }

-- the bytes of the first k numbers do not depend on what stands behind these
pub bytes_ext : (w : Width) (x y : List ℤ) (k : ℕ) → ((i : ℕ) → i < k → nth x i ≡ nth y i) → bytes_of w x k ≡ bytes_of w y k
unfolding bytes_of
bytes_ext w x y zero e = refl
bytes_ext w x y (suc k) e = rw (bytes_ext w x y k (λ i h. e i (omega arith)), e k (omega arith))

-- numbers of which the first k fit
module _ {w : Width} (n : Narrow w) (x : List ℤ) (k : ℕ) (h : k ≤ length x) (f : (i : ℕ) → i < k → SFits w (nth x i)) where
  front_fits : AllFit w (take k x)
  front_fits = record { each = λ i. go i (dec_lt i k) }
    where
      go : (i : ℕ) → Dec (i < k) → SFits w (get_or (take k x) i (pos 0))
      go i (yes l) = rw (get_or-take k x i (pos 0) l) (f i l)
      go i (no l) =
          let past : length (take k x) ≤ i = omega (arith, length-take-le k x h) in
          rw (get_or-eq_default (take k x) (pos 0) past) (record { sfits = one-le-pow (hbits w) 2 (omega arith) })

  numbers-read : (r : List ℕ) → numbers_of w (bytes_of w x k ++ r) k ≡ take k x
  numbers-read r =
      let t = take k x in
      ap (λ (s : List ℕ). numbers_of w (s ++ r) k) (bytes_ext w x t k (λ i l. sym (get_or-take k x i (pos 0) l)))
      ∙ numbers_of-bytes_of n t r k front_fits (omega (arith, length-take-le k x h)) ∙ take_all k t (omega (arith, length-take-le k x h))

  -- whatever stands behind their bytes
  pub front_read : (room : ℕ) (r : List ℕ) → padded_numbers_of w room (bytes_of w x k ++ r) k ≡ padded_to room k x
  unfolding padded_numbers_of
  front_read room r = ap (λ (z : List ℤ). z ++ replicate (room - k) (pos 0)) (numbers-read r)

  padded-read : (room : ℕ) → padded_numbers_of w room (bytes_of w x k) k ≡ padded_to room k x
  padded-read room = ap (λ (s : List ℕ). padded_numbers_of w room s k) (sym (append-nil (bytes_of w x k))) ∙ front_read room []

number_read : (v : ℤ) → SFits w64 v → signed_at w64 (bytes_of w64 (v ∷ []) 1) 0 ≡ v
unfolding numbers_of
number_read v f =
    rw (append-nil (bytes_of w64 (v ∷ []) 1)) at
    (ap (λ (x : List ℤ). nth x 0) (numbers-read (narrow-of 8) (v ∷ []) 1 (omega arith) (λ i h. let e : i ≡ 0 = omega arith in rw e f) []))

-- ---- the file of a problem whose numbers fit their fields: 4 bytes for those of the tables, 8 for the others
pub record InFields (p : Problem) : Type 0 where
  pub low : (i : ℕ) → i < p.constraint.order * p.constraint.order → SFits w32 (nth p.constraint.low i)
  pub high : (i : ℕ) → i < p.constraint.order * p.constraint.order → SFits w32 (nth p.constraint.high i)
  pub linear_low : (i : ℕ) → i < p.constraint.order → SFits w64 (nth p.constraint.linear.low i)
  pub linear_high : (i : ℕ) → i < p.constraint.order → SFits w64 (nth p.constraint.linear.high i)
  pub limit : SFits w64 p.constraint.limit
  pub centre : (i : ℕ) → i < p.constraint.order → SFits w64 (nth p.centre i)

-- its lists have the numbers that its order calls for
pub record Holds (p : Problem) : Type 0 where
  pub low : p.constraint.order * p.constraint.order ≤ length p.constraint.low
  pub high : p.constraint.order * p.constraint.order ≤ length p.constraint.high
  pub linear_low : p.constraint.order ≤ length p.constraint.linear.low
  pub linear_high : p.constraint.order ≤ length p.constraint.linear.high
  pub centre : p.constraint.order ≤ length p.centre

module _ (p : Problem) (z : Holds p) (f : InFields p) where
  problem-back : problem_from p.constraint.order (contents_of p) ≡ padded p
  problem-back =
      let c = p.constraint in
      let n = c.order in
      rw (
        padded-read (narrow-of 4) c.low (n * n) z.low f.low table_room,
        padded-read (narrow-of 4) c.high (n * n) z.high f.high table_room,
        padded-read (narrow-of 8) c.linear.low n z.linear_low f.linear_low greatest_order,
        padded-read (narrow-of 8) c.linear.high n z.linear_high f.linear_high greatest_order,
        padded-read (narrow-of 8) p.centre n z.centre f.centre greatest_order,
        number_read c.limit f.limit,
      )

  -- what its file spells and is read as, whether the checks refuse it or not
  file_spells : order_ok (pos p.constraint.order) ≡ true → spelled_by (file_of p) ≡ padded p
  unfolding file_of
  file_spells o = problem-there (contents_of p) o (contents_length_lem p) ∙ problem-back

  pub file-read : order_ok (pos p.constraint.order) ≡ true → reading (file_of p) ≡ reading_of (padded p)
  unfolding file_of
  file-read o = whole-read (contents_of p) o (contents_length_lem p) ∙ ap reading_of problem-back

-- ---- the file of a problem that is let through
-- where check 3 passes its numbers fit
all_fit : (w : Width) (b : ℕ) → b < 2 ^ hbits w → (k : ℕ) (x : List ℤ) → all_within b k x ≡ true → (i : ℕ) → i < k → SFits w (nth x i)
unfolding all_within
all_fit w b h k x e i l = fits_in w (within_of b (nth x i) (all-at _ k e i l)) h

abbrev in_range : Problem → Bool
in_range p = let c = p.constraint in problem_within p && tables_within (c.order * c.order) c.low c.high

fields_within : (p : Problem) → in_range p ≡ true → InFields p
unfolding tables_within terms_within linear_within
fields_within p r =
    let c = p.constraint in
    let n = c.order in
    let t = and_right (problem_within p) _ r in
    let l = and_left (linear_within n c.linear.low c.linear.high) _ (and_left (problem_within p) _ r) in
    let o = and_right (linear_within n c.linear.low c.linear.high) _ (and_left (problem_within p) _ r) in
    record {
      low = all_fit w32 entry_range (omega arith) (n * n) c.low (and_left (all_within entry_range (n * n) c.low) _ t);
      high = all_fit w32 entry_range (omega arith) (n * n) c.high (and_right (all_within entry_range (n * n) c.low) _ t);
      linear_low = all_fit w64 linear_range (omega arith) n c.linear.low (and_left (all_within linear_range n c.linear.low) _ l);
      linear_high = all_fit w64 linear_range (omega arith) n c.linear.high (and_right (all_within linear_range n c.linear.low) _ l);
      limit = fits_in w64 (within_of limit_range c.limit (and_left (within limit_range c.limit) _ o)) (omega arith);
      centre = all_fit w64 centre_range (omega arith) n p.centre (and_right (within limit_range c.limit) _ o);
    }

pub fields_of_lem : (p : Problem) → first_refusal (problem_checks p) ≡ Ok tt → InFields p
unfolding bounds_checks
fields_of_lem p e =
    let c = p.constraint in fields_within p (first-passed _ _ (prefix_passed (bounds_checks (problem_within p) c.order c.low c.high) _ e))

-- a number that does not fit its field is refused by 3
pub outside_range : (p : Problem) → (InFields p → ⊥) → first_refusal (problem_checks p) ≡ Err Range
unfolding bounds_checks
outside_range p f = go (in_range p) refl
  where
    go : (b : Bool) → in_range p ≡ b → first_refusal (problem_checks p) ≡ Err Range
    go true e = absurd (f (fields_within p e))
    go false e = first-refuses _ _ e

pub holds_of : (p : Problem) → ProblemRooms p → Holds p
holds_of p z =
    let t = table_fits z.order in
    record {
      low = omega (arith, z.low);
      high = omega (arith, z.high);
      linear_low = omega (arith, z.order, z.linear_low);
      linear_high = omega (arith, z.order, z.linear_high);
      centre = omega (arith, z.order, z.centre);
    }

module _ (p : Problem) (t : LetThrough p) where
  pub let_symmetric : SymmetricTables p
  let_symmetric = mended-problem_symmetric p t.mended

  -- it spells that problem, and is read as it
  pub file-spelled : spelled_by (file_of p) ≡ p
  file-spelled = file_spells p (holds_of p t.rooms) (fields_of_lem p t.checks) t.order ∙ t.zeros

  pub read_back : reading (file_of p) ≡ Ok p
  unfolding after
  read_back =
      file-read p (holds_of p t.rooms) (fields_of_lem p t.checks) t.order ∙ ap reading_of t.zeros ∙ reading_as p t.checks ∙ ap Ok t.mended

-- ---- a file that is accepted
module _ (s : List ℕ) (v : AllBytes s) {p : Problem} (e : reading s ≡ Ok p) where
  -- with symmetric tables: nothing is mended, and it is the file of its problem
  symmetric_read : SymmetricTables (spelled_by s) → p ≡ spelled_by s
  symmetric_read h =
      let z = accepted_rooms s e in
      accepted-problem s e ∙ symmetric_problem (spelled_by s) (low-holds (spelled_by s) z) (high-holds (spelled_by s) z) h

  accepted-file : SymmetricTables (spelled_by s) → file_of p ≡ s
  accepted-file h = ap file_of (symmetric_read h) ∙ sym (accepted-back s e v)

  -- and only then
  accepted_symmetric : file_of p ≡ s → SymmetricTables (spelled_by s)
  accepted_symmetric f = let t = reading-through s e in subst SymmetricTables (sym (file-spelled p t) ∙ ap spelled_by f) (let_symmetric p t)

pub reading-means : (s : List ℕ) → AllBytes s → ReadingMeaning s (reading s)
reading-means s v =
    record {
      through = reading-through s;
      problem = accepted-problem s;
      spelled = λ e. sym (accepted-back s e v);
      back = accepted-file s v;
      only = accepted_symmetric s v;
      -- the file of its problem is read as it was
      again = λ {p} e. read_back p (reading-through s e) ∙ sym e;
    }

-- ---- the file is made of bytes
no_bytes : AllBytes []
no_bytes = record { each = λ i. omega arith }

cons_bytes : {x : ℕ} {s : List ℕ} → x < 256 → AllBytes s → AllBytes (x ∷ s)
cons_bytes {x} {s} h a = record { each = go }
  where
    go : (i : ℕ) → get_or (x ∷ s) i 0 < 256
    go zero = h
    go (suc i) = a.each i

append_bytes : (s t : List ℕ) → AllBytes s → AllBytes t → AllBytes (s ++ t)
append_bytes [] t a b = b
append_bytes (x ∷ s) t a b = cons_bytes (a.each 0) (append_bytes s t (record { each = λ i. a.each (suc i) }) b)

low_bytes : (k u : ℕ) → AllBytes (to_le_bytes k u)
unfolding to_le_bytes
low_bytes zero u = no_bytes
low_bytes (suc k) u = cons_bytes (omega arith) (low_bytes k (u / 256))

number_bytes : (w : Width) (x : List ℤ) (k : ℕ) → AllBytes (bytes_of w x k)
unfolding bytes_of
number_bytes w x zero = no_bytes
number_bytes w x (suc k) = append_bytes (bytes_of w x k) _ (number_bytes w x k) (low_bytes _ _)

content_bytes : (p : Problem) → p.constraint.order < 256 → (k : Kind) → AllBytes (contents_of p k)
content_bytes p h Kind.Order = cons_bytes h no_bytes
content_bytes p h Kind.Low = number_bytes w32 _ _
content_bytes p h Kind.High = number_bytes w32 _ _
content_bytes p h Kind.LinearLow = number_bytes w64 _ _
content_bytes p h Kind.Limit = number_bytes w64 _ _
content_bytes p h Kind.Centre = number_bytes w64 _ _
content_bytes p h Kind.LinearHigh = number_bytes w64 _ _

entry_bytes_lem : (c : Kind → List ℕ) → ((k : Kind) → AllBytes (c k)) → (ks : List Kind) →
    AllBytes (bytes_of_entries (map (entry_with c) ks))
unfolding bytes_of_entries entry_bytes
entry_bytes_lem c v [] = no_bytes
entry_bytes_lem c v (k ∷ ks) =
    append_bytes (entry_bytes (entry_with c k)) _
    (append_bytes (head_bytes (entry_with c k)) (c k) (cons_bytes (omega (arith, place-below k)) (low_bytes 2 (length (c k)))) (v k))
    (entry_bytes_lem c v ks)

pub file_bytes : (p : Problem) → p.constraint.order ≤ greatest_order → AllBytes (file_of p)
unfolding file_of whole_file
file_bytes p h = entry_bytes_lem (contents_of p) (content_bytes p (omega arith)) kinds

-- ---- R24.3: there is exactly one file with symmetric tables that is read as a problem p
pub record OnlyFile (p : Problem) (s : List ℕ) : Type 0 where
  pub bytes : AllBytes s
  pub symmetric : SymmetricTables (spelled_by s)
  pub read : reading s ≡ Ok p
  pub only : (s' : List ℕ) → AllBytes s' → SymmetricTables (spelled_by s') → reading s' ≡ Ok p → s' ≡ s

-- for each problem that is let through
pub one-file : (p : Problem) → LetThrough p → OnlyFile p (file_of p)
one-file p t =
    record {
      bytes = file_bytes p t.rooms.order;
      symmetric = subst SymmetricTables (sym (file-spelled p t)) (let_symmetric p t);
      read = read_back p t;
      only = λ s v h e. sym (accepted-file s v e h);
    }

-- and each file with symmetric tables that is accepted is that of its problem
pub accepted-one : (s : List ℕ) {p : Problem} → AllBytes s → SymmetricTables (spelled_by s) → reading s ≡ Ok p →
    LetThrough p × (s ≡ file_of p)
accepted-one s v h e = (reading-through s e, sym (accepted-file s v e h))
