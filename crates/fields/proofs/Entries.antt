-- The walk passes exactly the files that are made of fields with rising tags, and finds their contents.
use mathlib.Core.Path.{◌≡◌, refl, sym, ap, ◌∙◌}
use mathlib.Core.Bool.{true, false}
use mathlib.Core.List.{List, [], ◌∷◌, ◌++◌, append_assoc}
use Prim.Native.Nat.{ℕ, suc, ◌+◌, ◌^◌, ◌≤◌, ◌<◌}
use native.Mathlib.Nat.{add-zero}
use native.Mathlib.Numerals.{add-one}
use native.Mathlib.Decide.{ℕ_discrete}
use native.Mathlib.Omega.{arith}
use borrow.Author.Tests.{eq-eqb, ne_eqb, le-ltb}
use lib.ListN.{length, get_or, take, drop, length-append, length-drop, take-append-drop, drop_of_length-le}
use lib.Seq.{length-take-le, take_at, drop_at, drop-cons, drop-drop, get_or-drop}
use Rattle.words.specs.Numbers.{to_le_bytes, from_le_bytes, unsigned_at, with_unsigned}
use Rattle.words.proofs.Laws.{AllBytes, length-to_le_bytes, from_le_bytes-to_le_bytes, unsigned_at-below, with_unsigned-same}
use Rattle.std.specs.Prelude.{Option, Some, None, Ok}
use Rattle.fields.specs.declared.field.Kind.{Kind}
use Rattle.fields.specs.declared.field.Field.{Field}
use Rattle.fields.specs.declared.layout.Layout.{Layout}
use Rattle.fields.specs.Fields.{place_of, tag_of, head, kind_of, tagged, field_at}
use Rattle.fields.specs.Layouts.{part_of, seen, unseen, placed, Walked, walk, walked, layout_of}
use Rattle.fields.specs.Entries.{Entry, head_bytes, entry_bytes, bytes_of_entries, entry_of, Writable, content_seen, Written}
use Rattle.fields.proofs.Finding.{Stands, kind_place, same_kind, tag_known, field_end, field-whole, found_inside, found_end}
use Rattle.fields.proofs.Walking.{seen_is, walk_end, walk_more, walk_ind}
use Rattle.fields.proofs.Parts.{kind_discrete, HasPlaces, unseen-part, unseen_places, part-placed, part-kept, placed_places, layout_is}
use Rattle.fields.proofs.Parts.{content_there, content_missing}

-- ---- the content of a kind among the entries
module _ (e : Entry) (es : List Entry) (k : Kind) where
  pub entry_here : k ≡ e.kind → entry_of (e ∷ es) k ≡ Some e.bytes
  unfolding entry_of
  entry_here q = rw (eq-eqb (place_of k) (place_of e.kind) (ap place_of q), entry_of)

  pub entry_next : (k ≡ e.kind → ⊥) → entry_of (e ∷ es) k ≡ entry_of es k
  unfolding entry_of
  entry_next n = rw (ne_eqb (place_of k) (place_of e.kind) (λ q. n (same_kind k e.kind q)), entry_of)

-- with rising tags from above t on, no entry has a tag up to t
pub none_below : (es : List Entry) (t : ℕ) → Writable t es → (k : Kind) → tag_of k ≤ t → entry_of es k ≡ None
unfolding Writable entry_of
none_below [] t w k h = refl
none_below (e ∷ es) t w k h =
    let n : k ≡ e.kind → ⊥ = λ p. let q = ap place_of p in let b = w.1 in omega arith in
    entry_next e es k n ∙ none_below es (tag_of e.kind) w.2 k (let b = w.1 in omega arith)

-- ---- an entry in a file
-- the field of an entry whose head stands at `at`
abbrev field_of : ℕ → Entry → Field
field_of at e = record { kind = e.kind; part = record { start = at + head; length = length e.bytes }; next = at + head + length e.bytes }

module _ (s : List ℕ) (at : ℕ) (e : Entry) (rest : List ℕ) (h : drop at s ≡ entry_bytes e ++ rest) where
  split : drop at s ≡ head_bytes e ++ (e.bytes ++ rest)
  unfolding entry_bytes
  split = h ∙ append_assoc (head_bytes e) e.bytes rest

  entry-size : length s ≡ at + head + length e.bytes + length rest
  entry-size =
      let q = sym (length-drop at s) ∙ ap length split in
      let number = to_le_bytes 2 (length e.bytes) in
      omega (arith, length-append number (e.bytes ++ rest), length-append e.bytes rest, length-to_le_bytes 2 (length e.bytes))

  entry_tag : get_or s at 0 ≡ tag_of e.kind
  entry_tag =
      ap (λ (i : ℕ). get_or s i 0) (sym (add-zero at)) ∙ sym (get_or-drop at s 0 0) ∙ ap (λ (t : List ℕ). get_or t 0 0) split

  entry_length : length e.bytes < 256 ^ 2 → unsigned_at 2 s (at + 1) ≡ length e.bytes
  unfolding unsigned_at
  entry_length b =
      ap (λ (t : List ℕ). from_le_bytes (take 2 t)) (sym (drop-drop 1 at s) ∙ ap (drop 1) split)
      ∙ ap from_le_bytes (take_at (to_le_bytes 2 (length e.bytes)) (e.bytes ++ rest) 2 (length-to_le_bytes 2 (length e.bytes)))
      ∙ from_le_bytes-to_le_bytes 2 (length e.bytes) b

  behind-head : drop (at + head) s ≡ e.bytes ++ rest
  behind-head =
      sym (drop-drop head at s) ∙ ap (drop head) split
      ∙ drop_at (head_bytes e) (e.bytes ++ rest) head (ap suc (length-to_le_bytes 2 (length e.bytes)))

  entry-content : take (length e.bytes) (drop (at + head) s) ≡ e.bytes
  entry-content = rw behind-head (take_at e.bytes rest _ refl)

  entry-behind : drop (at + head + length e.bytes) s ≡ rest
  entry-behind = sym (drop-drop (length e.bytes) (at + head) s) ∙ ap (drop (length e.bytes)) behind-head ∙ drop_at e.bytes rest _ refl

  entry_found : length e.bytes < 256 ^ 2 → field_at s at ≡ Ok (Some (field_of at e))
  unfolding tagged
  entry_found b =
      sym (field-whole s at {t = Ok e.kind} (sym (entry_length b)) (omega (arith, entry-size))
      (sym (ap kind_of entry_tag ∙ (kind_place e.kind).0)))

-- ---- the walk over entries
module _ (s : List ℕ) where
  -- what comes of the walk from the layout l over the entries es
  record Reads (es : List Entry) (l : Layout) (w : Walked) : Type 0 where
    layout : Layout
    passed : w ≡ Ok layout
    found : (k : Kind) (b : List ℕ) → entry_of es k ≡ Some b → content_seen s layout k ≡ Some b
    kept : (k : Kind) → entry_of es k ≡ None → part_of layout k ≡ part_of l k

  reads_none : (l : Layout) → Reads [] l (Ok l)
  unfolding entry_of
  reads_none l = record { layout = l; passed = refl; found = λ k b q. cc q; kept = λ k q. refl }

  module _ (e : Entry) (es : List Entry) (at : ℕ) (l : Layout) (h : drop at s ≡ entry_bytes e ++ bytes_of_entries es)
      (d : entry_of es e.kind ≡ None) (z : HasPlaces l) where
    reads_more : (w : Walked) → Reads es (placed l (field_of at e)) w → Reads (e ∷ es) l w
    reads_more w r =
        record {
          layout = r.layout;
          passed = r.passed;
          found = λ k. found k (kind_discrete k e.kind);
          kept = λ k. kept k (kind_discrete k e.kind);
        }
      where
        found : (k : Kind) → Dec (k ≡ e.kind) → (b : List ℕ) → entry_of (e ∷ es) k ≡ Some b → content_seen s r.layout k ≡ Some b
        found k (yes p) b q =
            let f = field_of at e in
            let part = r.kept k (ap (entry_of es) p ∙ d) ∙ ap (part_of (placed l f)) p ∙ part-placed l f z in
            content_there s r.layout k part ∙ ap Some (entry-content s at e (bytes_of_entries es) h) ∙ sym (entry_here e es k p) ∙ q
        found k (no n) b q = r.found k b (sym (entry_next e es k n) ∙ q)

        kept : (k : Kind) → Dec (k ≡ e.kind) → entry_of (e ∷ es) k ≡ None → part_of r.layout k ≡ part_of l k
        kept k (yes p) q = cc (entry_here e es k p, q)
        kept k (no n) q = r.kept k (sym (entry_next e es k n) ∙ q) ∙ part-kept l (field_of at e) k n

  -- no kind with a tag above t is in the layout
  abbrev Above : ℕ → Layout → Type 0
  Above t l = (k : Kind) → t < tag_of k → part_of l k ≡ None

  reads : (es : List Entry) (at t : ℕ) (l : Layout) → drop at s ≡ bytes_of_entries es → Writable t es → HasPlaces l → Above t l →
      Reads es l (walk s at t l)
  unfolding bytes_of_entries Writable
  reads [] at t l h w z u =
      let end : length s ≤ at = let q = sym (length-drop at s) ∙ ap length h in omega arith in
      rw (walk_end s at t l (field_end s at end)) (reads_none l)
  reads (e ∷ es) at t l h w z u =
      let f = field_of at e in
      let b : t < tag_of e.kind = w.1 in
      let here = entry_found s at e (bytes_of_entries es) h w.0 in
      let fresh = seen_is l e.kind (sym (u e.kind b)) refl in
      let d = none_below es (tag_of e.kind) w.2 e.kind (omega arith) in
      rw (walk_more s at t l f here fresh (le-ltb (tag_of e.kind) t (omega arith)))
      (reads_more e es at l h d z _
      (reads es f.next (tag_of e.kind) (placed l f) (entry-behind s at e (bytes_of_entries es) h) w.2 (placed_places l f z)
      (λ k q. let n : k ≡ e.kind → ⊥ = λ p. let o = ap place_of p in omega arith in part-kept l f k n ∙ u k (omega arith))))

-- ---- a file that is made of entries passes, and their contents are found
module _ (s : List ℕ) (w : Written s) where
  whole : Reads s w.entries unseen (walked s)
  unfolding walked
  whole = reads s w.entries 0 0 unseen w.file w.writable unseen_places (λ k h. unseen-part k)

  pub written-passes : walked s ≡ Ok (layout_of s)
  written-passes = whole.passed ∙ ap Ok (sym (layout_is s whole.passed))

  pub written_contents : (k : Kind) → content_seen s (layout_of s) k ≡ entry_of w.entries k
  written_contents k = rw (layout_is s whole.passed) (go (entry_of w.entries k) refl)
    where
      go : (o : Option (List ℕ)) → entry_of w.entries k ≡ o → content_seen s whole.layout k ≡ o
      go None q = content_missing s whole.layout k (whole.kept k q ∙ unseen-part k)
      go (Some b) q = whole.found k b q

-- ---- a file that passes is made of entries
module _ (s : List ℕ) (v : AllBytes s) where
  -- the bytes of a number, and what stands behind it
  number_bytes : (n at : ℕ) → at + n ≤ length s → drop at s ≡ to_le_bytes n (unsigned_at n s at) ++ drop (at + n) s
  unfolding with_unsigned
  number_bytes n at h =
      let p = take at s in
      ap (drop at) (sym (with_unsigned-same n s at v h) ∙ append_assoc p (to_le_bytes n (unsigned_at n s at)) (drop (at + n) s))
      ∙ drop_at p (to_le_bytes n (unsigned_at n s at) ++ drop (at + n) s) at (length-take-le at s (omega arith))

  abbrev entry_at : Field → Entry
  entry_at f = record { kind = f.kind; bytes = take f.part.length (drop f.part.start s) }

  module _ (at : ℕ) (f : Field) (w : Stands s at f) where
    content-size : length (entry_at f).bytes ≡ f.part.length
    content-size = length-take-le f.part.length (drop f.part.start s) (rw length-drop (omega arith))

    content-behind : drop (at + 1 + 2) s ≡ (entry_at f).bytes ++ drop f.next s
    content-behind =
        let start : at + 1 + 2 ≡ f.part.start = omega arith in
        ap (λ (n : ℕ). drop n s) start ∙ sym (take-append-drop f.part.length (drop f.part.start s))
        ∙ rw (drop-drop f.part.length f.part.start s, ← w.ends)

    entry-stands : drop at s ≡ entry_bytes (entry_at f) ++ drop f.next s
    unfolding entry_bytes
    entry-stands =
        let tag : get_or s at 0 ≡ tag_of f.kind = tag_known (get_or s at 0) f.kind w.tag in
        let number : unsigned_at 2 s (at + 1) ≡ length (entry_at f).bytes = sym (content-size ∙ w.size) in
        drop-cons s at 0 (omega arith)
        ∙ rw (tag, ← add-one at, number_bytes 2 (at + 1) (omega arith), number, content-behind)
        (ap (λ (t : List ℕ). tag_of f.kind ∷ t)
        (sym (append_assoc (to_le_bytes 2 (length (entry_at f).bytes)) (entry_at f).bytes (drop f.next s))))

  -- the entries from a place on, behind the tag t
  record Behind (at t : ℕ) : Type 0 where
    entries : List Entry
    writable : Writable t entries
    file : drop at s ≡ bytes_of_entries entries

  behind_end : (at t : ℕ) → field_at s at ≡ Ok None → Behind at t
  unfolding Writable bytes_of_entries
  behind_end at t e = record { entries = []; writable = tt; file = drop_of_length-le s (found_end s at e) }

  -- the walk has met the tag that it carries, where that is one
  record Carries (t : ℕ) (l : Layout) : Type 0 where
    places : HasPlaces l
    met : (k : Kind) → tag_of k ≡ t → seen l k ≡ true

  carries_none : Carries 0 unseen
  carries_none = record { places = unseen_places; met = λ k e. absurd (omega arith) }

  carries_placed : (at t : ℕ) (l : Layout) (f : Field) → Stands s at f → Carries t l → Carries (tag_of f.kind) (placed l f)
  carries_placed at t l f w c =
      record {
        places = placed_places l f c.places;
        met = λ k e. let p = same_kind k f.kind (omega arith) in rw p (seen_is (placed l f) f.kind (sym (part-placed l f c.places)) refl);
      }

  -- so a field that is neither again nor below it has a tag above it
  above : (t : ℕ) (l : Layout) (k : Kind) → Carries t l → seen l k ≡ false → t ≤ tag_of k → t < tag_of k
  above t l k c q h = go (ℕ_discrete (tag_of k) t)
    where
      go : Dec (tag_of k ≡ t) → t < tag_of k
      go (yes e) = cc (c.met k e, q)
      go (no n) = omega arith

  behind_more : (at t : ℕ) (f : Field) → Stands s at f → t < tag_of f.kind → Behind f.next (tag_of f.kind) → Behind at t
  unfolding Writable bytes_of_entries
  behind_more at t f w h b =
      record {
        entries = entry_at f ∷ b.entries;
        writable = (omega (arith, unsigned_at-below 2 s (at + 1) v, content-size at f w), h, b.writable);
        file = entry-stands at f w ∙ ap (λ (r : List ℕ). entry_bytes (entry_at f) ++ r) b.file;
      }

  pub passed-written : {l : Layout} → walked s ≡ Ok l → Written s
  unfolding walked
  passed-written {l} p =
      let b =
      walk_ind s (λ at t m w. Carries t m → w ≡ Ok l → Behind at t)
      (λ at t m f w e q h r c p.
      let i = found_inside s at f e in
      behind_more at t f i (above t m f.kind c q h) (r (carries_placed at t m f i c) p))
      (λ at t m e c p. behind_end at t e) (λ at t m r c p. cc p) 0 0 unseen carries_none p
      in
      record { entries = b.entries; writable = b.writable; file = b.file }
