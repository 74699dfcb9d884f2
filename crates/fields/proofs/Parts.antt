-- Laws of the layout that the walk gives: every content is a part of the file.
use mathlib.Core.Path.{◌≡◌, refl, ap}
use mathlib.Core.List.{List}
use Prim.Native.Nat.{ℕ, ◌+◌, ◌≤◌}
use native.Mathlib.Decide.{ℕ_discrete}
use native.Mathlib.Omega.{arith}
use lib.ListN.{length, take, drop, length-set, length-drop, get_or-replicate}
use lib.Seq.{get_or-set_same, get_or-set_other, length-take-le}
use Rattle.std.specs.Prelude.{Option, Some, None, Ok}
use Rattle.std.specs.Result.{result_unwrap_or}
use Rattle.fields.specs.declared.field.Kind.{Kind}
use Rattle.fields.specs.declared.field.Part.{Part}
use Rattle.fields.specs.declared.field.Field.{Field}
use Rattle.fields.specs.declared.layout.Layout.{Layout}
use Rattle.fields.specs.Fields.{kind_count, place_of, bytes_in}
use Rattle.fields.specs.Layouts.{part_of, seen, start_in, length_in, start_of, length_of, unseen, placed, Walked, walked, layout_of}
use Rattle.fields.specs.Layouts.{content, Inside}
use Rattle.fields.specs.Entries.{content_seen}
use Rattle.fields.proofs.Finding.{Stands, place-below, same_kind, found_inside}
use Rattle.fields.proofs.Walking.{walk_ind}

-- kinds are the same or not
pub kind_discrete : (a b : Kind) → Dec (a ≡ b)
kind_discrete a b = go (ℕ_discrete (place_of a) (place_of b))
  where
    go : Dec (place_of a ≡ place_of b) → Dec (a ≡ b)
    go (yes e) = yes (same_kind a b e)
    go (no n) = no (λ e. n (ap place_of e))

-- a layout has a place for each kind
pub record HasPlaces (l : Layout) : Type 0 where
  pub places : length l.parts ≡ kind_count

-- ---- a layout with no field, and with one more
pub unseen-part : (k : Kind) → part_of unseen k ≡ None
unfolding part_of unseen
unseen-part k = get_or-replicate kind_count (place_of k) None None (place-below k)

pub unseen_places : HasPlaces unseen
unfolding unseen
unseen_places = record { places = refl }

module _ (l : Layout) (f : Field) where
  pub part-placed : HasPlaces l → part_of (placed l f) f.kind ≡ Some f.part
  unfolding part_of placed
  part-placed z = get_or-set_same l.parts (place_of f.kind) (Some f.part) None (omega (arith, place-below f.kind))

  pub part-kept : (k : Kind) → (k ≡ f.kind → ⊥) → part_of (placed l f) k ≡ part_of l k
  unfolding part_of placed
  part-kept k n = get_or-set_other l.parts (place_of f.kind) (place_of k) (Some f.part) None (λ e. n (same_kind k f.kind e))

  pub placed_places : HasPlaces l → HasPlaces (placed l f)
  unfolding placed
  placed_places z = record { places = simp length-set z.places }

-- ---- every content is a part of the file
-- the same of one part, or of none
record Lies (s : List ℕ) (o : Option Part) : Type 0 where
  ends : start_in o + length_in o ≤ length s
  absent : start_in o ≡ 0 → length_in o ≡ 0

module _ (s : List ℕ) where
  none_lies : Lies s None
  none_lies = record { ends = omega arith; absent = λ _. refl }

  -- what the walk keeps
  record Laid (l : Layout) : Type 0 where
    places : HasPlaces l
    lies : (k : Kind) → Lies s (part_of l k)

  unseen_laid : Laid unseen
  unseen_laid = record { places = unseen_places; lies = λ k. rw (unseen-part k) none_lies }

  placed_laid : (at : ℕ) (l : Layout) (f : Field) → Stands s at f → Laid l → Laid (placed l f)
  placed_laid at l f w p = record { places = placed_places l f p.places; lies = λ k. lies k (kind_discrete k f.kind) }
    where
      here : Lies s (Some f.part)
      here = record { ends = let i = w.inside in omega (arith, w.ends); absent = λ e. absurd (omega (arith, w.begins)) }

      lies : (k : Kind) → Dec (k ≡ f.kind) → Lies s (part_of (placed l f) k)
      lies k (yes e) = rw (e, part-placed l f p.places) here
      lies k (no n) = rw (part-kept l f k n) (p.lies k)

  laid : Laid (layout_of s)
  unfolding walked
  laid =
      walk_ind s (λ at t l w. Laid l → Laid (result_unwrap_or w unseen))
      (λ at t l f w e q h r p. r (placed_laid at l f (found_inside s at f e) p))
      (λ at t l e p. p) (λ at t l r p. unseen_laid) 0 0 unseen unseen_laid

  pub walked_inside : Inside s (layout_of s)
  unfolding start_of length_of
  walked_inside = record { ends = λ k. (laid.lies k).ends; absent = λ k. (laid.lies k).absent }

-- the layout of a walk that passes
pub layout_is : (s : List ℕ) {l : Layout} → walked s ≡ Ok l → layout_of s ≡ l
layout_is s e = ap (λ (w : Walked). result_unwrap_or w unseen) e

-- ---- the content
pub length-content : (s : List ℕ) (l : Layout) (k : Kind) → Inside s l → length (content s l k) ≡ length_of l k
unfolding content
length-content s l k i = length-take-le (length_of l k) _ (rw length-drop (omega (arith, i.ends k)))

-- the bytes of its part, where there is one
module _ (s : List ℕ) (l : Layout) (k : Kind) where
  pub content_there : {p : Part} → part_of l k ≡ Some p → content_seen s l k ≡ Some (bytes_in s p)
  unfolding content_seen seen content start_of length_of
  content_there e = rw (e, content_seen, seen) (ap (λ (o : Option Part). Some (take (length_in o) (drop (start_in o) s))) e)

  pub content_missing : part_of l k ≡ None → content_seen s l k ≡ None
  unfolding content_seen seen
  content_missing e = rw (e, content_seen, seen)
