-- R16.3 of docs/RULES.md: a file with all kinds that the walk passes is their fields in the order of the tags, one after the other
-- and nothing else; and such a file passes, with its contents.
use mathlib.Core.Path.{◌≡◌, refl, sym, ap, ◌∙◌}
use mathlib.Core.Bool.{Bool, true, false, false≢true}
use mathlib.Core.List.{List, [], ◌∷◌, map}
use Prim.Native.Nat.{ℕ, ◌+◌, ◌*◌, ◌^◌, ◌≤◌, ◌<◌}
use native.Mathlib.Omega.{arith}
use lib.ListN.{length, length-append}
use Rattle.words.specs.Numbers.{to_le_bytes}
use Rattle.words.proofs.Laws.{AllBytes, length-to_le_bytes}
use Rattle.std.specs.Prelude.{Some, None, Ok}
use Rattle.fields.specs.declared.field.Kind.{Kind}
use Rattle.fields.specs.declared.layout.Layout.{Layout}
use Rattle.fields.specs.Fields.{kinds, kind_count, place_of, tag_of, head}
use Rattle.fields.specs.Layouts.{seen, walked, layout_of, content}
use Rattle.fields.specs.Entries.{Entry, entry_bytes, bytes_of_entries, entry_of, Writable, content_seen, Written, entry_with, all_entries}
use Rattle.fields.specs.Entries.{whole_file}
use Rattle.fields.proofs.Finding.{place-below, same_kind}
use Rattle.fields.proofs.Parts.{kind_discrete, layout_is}
use Rattle.fields.proofs.Entries.{entry_here, entry_next, none_below, written-passes, written_contents, passed-written}

-- ---- the contents that are seen
module _ (s : List ℕ) (l : Layout) (k : Kind) where
  seen-content : seen l k ≡ true → content_seen s l k ≡ Some (content s l k)
  unfolding content_seen
  seen-content e = rw (e, content_seen)

  content-seen : (b : List ℕ) → content_seen s l k ≡ Some b → (seen l k ≡ true) × (content s l k ≡ b)
  unfolding content_seen
  content-seen b e = go (seen l k) refl
    where
      go : (x : Bool) → seen l k ≡ x → (seen l k ≡ true) × (content s l k ≡ b)
      go true q = (q, cc (seen-content q))
      go false q = let n : content_seen s l k ≡ None = rw (q, content_seen) in absurd (false≢true (cc))

-- ---- entries with rising tags, of all kinds above t
-- ks are the kinds with tags above t
abbrev From : ℕ → List Kind → Type 0
From t [] = kind_count ≤ t
From t (k ∷ ks) = (tag_of k ≡ t + 1) × From (t + 1) ks

module _ (c : Kind → List ℕ) where
  -- each kind above t has its content among the entries
  abbrev Has : ℕ → List Entry → Type 0
  Has t es = (k : Kind) → t < tag_of k → entry_of es k ≡ Some (c k)

  -- the first of them has the next tag
  first_kind : (t : ℕ) (k : Kind) (e : Entry) (es : List Entry) → tag_of k ≡ t + 1 → Writable t (e ∷ es) → Has t (e ∷ es) → e.kind ≡ k
  unfolding Writable
  first_kind t k e es h w a = go (kind_discrete k e.kind)
    where
      go : Dec (k ≡ e.kind) → e.kind ≡ k
      go (yes p) = sym p
      go (no n) =
          let b : t < tag_of e.kind = w.1 in
          let o : place_of k ≡ place_of e.kind → ⊥ = λ q. n (same_kind k e.kind q) in
          let l : tag_of k ≤ tag_of e.kind = omega arith in
          let none-there = entry_next e es k n ∙ none_below es (tag_of e.kind) w.2 k l in
          absurd (false≢true (cc (a k (omega arith))))

  in_order : (ks : List Kind) (es : List Entry) (t : ℕ) → From t ks → Writable t es → Has t es → es ≡ map (entry_with c) ks
  unfolding Writable entry_of
  in_order [] [] t h w a = refl
  in_order [] (e ∷ es) t h w a = let b = w.1 in absurd (omega (arith, place-below e.kind))
  in_order (k ∷ ks) [] t h w a = absurd (false≢true (cc (a k (let b = h.0 in omega arith))))
  in_order (k ∷ ks) (e ∷ es) t h w a =
      let p = first_kind t k e es h.0 w a in
      let q : tag_of e.kind ≡ t + 1 = ap tag_of p ∙ h.0 in
      let here : e.bytes ≡ c k = cc (entry_here e es k (sym p), a k (let b = h.0 in omega arith)) in
      let same : e ≡ entry_with c k =
      ap (λ (x : Kind). record { kind = x; bytes = e.bytes }) p ∙ ap (λ (b : List ℕ). record { kind = k; bytes = b }) here in
      let more : Has (t + 1) es =
      λ x b. let n : x ≡ e.kind → ⊥ = λ o. let r = ap place_of o in omega arith in sym (entry_next e es x n) ∙ a x (omega arith) in
      let rest = in_order ks es (t + 1) h.1 (rw (← q) w.2) more in
      cc

-- ---- the file of all kinds
module _ (c : Kind → List ℕ) (b : (k : Kind) → length (c k) < 256 ^ 2) where
  all-writable : Writable 0 (all_entries c)
  unfolding Writable
  all-writable = search (arith, b)

  all_have : (k : Kind) → entry_of (all_entries c) k ≡ Some (c k)
  unfolding entry_of
  all_have Kind.Order = refl
  all_have Kind.Low = refl
  all_have Kind.High = refl
  all_have Kind.LinearLow = refl
  all_have Kind.Limit = refl
  all_have Kind.Centre = refl
  all_have Kind.LinearHigh = refl

  whole-written : Written (whole_file c)
  unfolding whole_file
  whole-written = record { entries = all_entries c; writable = all-writable; file = refl }

  -- it passes
  pub whole-passes : walked (whole_file c) ≡ Ok (layout_of (whole_file c))
  whole-passes = written-passes (whole_file c) whole-written

  -- and its contents are found
  pub whole-found : (k : Kind) → (seen (layout_of (whole_file c)) k ≡ true) × (content (whole_file c) (layout_of (whole_file c)) k ≡ c k)
  unfolding whole-written
  whole-found k = content-seen _ _ k (c k) (written_contents (whole_file c) whole-written k ∙ all_have k)

-- no more than the contents counts
entries_ext : (c d : Kind → List ℕ) → ((k : Kind) → c k ≡ d k) → (ks : List Kind) → map (entry_with c) ks ≡ map (entry_with d) ks
entries_ext c d e [] = refl
entries_ext c d e (k ∷ ks) = rw (e k, entries_ext c d e ks)

pub whole_ext : (c d : Kind → List ℕ) → ((k : Kind) → c k ≡ d k) → whole_file c ≡ whole_file d
unfolding whole_file
whole_ext c d e = ap bytes_of_entries (entries_ext c d e kinds)

-- a file that passes and has all kinds is the file of its contents
pub passed-whole : (s : List ℕ) {l : Layout} → AllBytes s → walked s ≡ Ok l → ((k : Kind) → seen l k ≡ true) → s ≡ whole_file (content s l)
unfolding whole_file
passed-whole s {l} v p a =
    let w = passed-written s v p in
    let has : Has (content s l) 0 w.entries =
    λ k h. sym (written_contents s w k) ∙ ap (λ (m : Layout). content_seen s m k) (layout_is s p) ∙ seen-content s l k (a k) in
    let first : From 0 kinds = (refl, (refl, (refl, (refl, (refl, (refl, (refl, omega arith))))))) in
    w.file ∙ ap bytes_of_entries (in_order (content s l) kinds w.entries 0 first w.writable has)

-- ---- its length: that of the heads and of the contents
entry_length : (e : Entry) → length (entry_bytes e) ≡ head + length e.bytes
unfolding entry_bytes
entry_length e = omega (arith, length-append (to_le_bytes 2 (length e.bytes)) e.bytes, length-to_le_bytes 2 (length e.bytes))

abbrev contents_length : (Kind → List ℕ) → List Kind → ℕ
contents_length c [] = 0
contents_length c (k ∷ ks) = length (c k) + contents_length c ks

length-entries : (c : Kind → List ℕ) (ks : List Kind) →
    length (bytes_of_entries (map (entry_with c) ks)) ≡ length ks * head + contents_length c ks
unfolding bytes_of_entries
length-entries c [] = refl
length-entries c (k ∷ ks) =
    length-append (entry_bytes (entry_with c k)) _ ∙ omega (arith, entry_length (entry_with c k), length-entries c ks)

pub length_whole : (c : Kind → List ℕ) →
    length (whole_file c) ≡
    kind_count * head + (length (c Kind.Order) + length (c Kind.Low) + length (c Kind.High) + length (c Kind.LinearLow) + length
    (c Kind.Limit) + length (c Kind.Centre) + length (c Kind.LinearHigh))
unfolding whole_file
length_whole c = omega (arith, length-entries c kinds)
