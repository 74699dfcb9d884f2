-- Laws of a field's tag, and of what stands at a place of a file.
use mathlib.Core.Path.{◌≡◌, refl, sym, ap, ◌∙◌}
use mathlib.Core.Bool.{false≢true}
use mathlib.Core.List.{List, [], ◌∷◌}
use Prim.Native.Nat.{ℕ, zero, suc, ◌+◌, ◌≤◌, ◌<◌}
use native.Mathlib.Decide.{dec_le, ℕ_discrete}
use native.Mathlib.Omega.{arith}
use lib.ListN.{length, get_or}
use borrow.Author.Tests.{le-leb, lt-leb, eq-eqb, ne_eqb}
use Rattle.std.specs.Prelude.{Some, None, Ok, Err}
use Rattle.words.specs.Numbers.{unsigned_at}
use Rattle.tables.specs.declared.Refusal.TheVariants.{Cut}
use Rattle.fields.specs.declared.field.Kind.{Kind}
use Rattle.fields.specs.declared.field.Field.{Field}
use Rattle.fields.specs.Fields.{kinds, kind_count, place_of, tag_of, Tagged, kind_in, kind_of, head, tagged, field_at}

-- ---- tags
-- each kind is listed, below their number
pub kind_place : (k : Kind) → (kind_of (tag_of k) ≡ Ok k) × (place_of k < kind_count)
unfolding kind_of kind_in
kind_place Kind.Order = (refl, omega arith)
kind_place Kind.Low = (refl, omega arith)
kind_place Kind.High = (refl, omega arith)
kind_place Kind.LinearLow = (refl, omega arith)
kind_place Kind.Limit = (refl, omega arith)
kind_place Kind.Centre = (refl, omega arith)
kind_place Kind.LinearHigh = (refl, omega arith)

tag_listed : (ks : List Kind) (t : ℕ) (k : Kind) → kind_in ks t ≡ Ok k → t ≡ tag_of k
unfolding kind_in
tag_listed [] t k e = absurd (false≢true (cc))
tag_listed (x ∷ xs) t k e = go (ℕ_discrete t (tag_of x)) (tag_listed xs t k)
  where
    go : Dec (t ≡ tag_of x) → (kind_in xs t ≡ Ok k → t ≡ tag_of k) → t ≡ tag_of k
    go (yes q) rest =
        let known : kind_in (x ∷ xs) t ≡ Ok x = rw (eq-eqb t (tag_of x) q, kind_in) in
        let same : x ≡ k = cc in
        q ∙ ap (λ (z : Kind). tag_of z) same
    go (no n) rest = let next : kind_in (x ∷ xs) t ≡ kind_in xs t = rw (ne_eqb t (tag_of x) n, kind_in) in rest (sym next ∙ e)

pub tag_known : (t : ℕ) (k : Kind) → kind_of t ≡ Ok k → t ≡ tag_of k
unfolding kind_of
tag_known t k e = tag_listed kinds t k e

pub place-below : (k : Kind) → place_of k < kind_count
place-below k = (kind_place k).1

-- kinds at one place are the same
pub same_kind : (a b : Kind) → place_of a ≡ place_of b → a ≡ b
same_kind a b e = cc ((kind_place a).0, (kind_place b).0)

-- what holds at the place of each kind holds at each place
pub each_place : (P : ℕ → Type 0) → ((k : Kind) → P (place_of k)) → (i : ℕ) → i < kind_count → P i
each_place P f zero h = f Kind.Order
each_place P f (suc zero) h = f Kind.Low
each_place P f (suc (suc zero)) h = f Kind.High
each_place P f (suc (suc (suc zero))) h = f Kind.LinearLow
each_place P f (suc (suc (suc (suc zero)))) h = f Kind.Limit
each_place P f (suc (suc (suc (suc (suc zero))))) h = f Kind.Centre
each_place P f (suc (suc (suc (suc (suc (suc zero)))))) h = f Kind.LinearHigh
each_place P f (suc (suc (suc (suc (suc (suc (suc n))))))) h = absurd (omega arith)

-- the field f stands at `at`: what its head says, and where its content lies
pub record Stands (s : List ℕ) (at : ℕ) (f : Field) : Type 0 where
  pub tag : kind_of (get_or s at 0) ≡ Ok f.kind
  pub size : f.part.length ≡ unsigned_at 2 s (at + 1)
  pub begins : f.part.start ≡ at + head
  pub ends : f.next ≡ f.part.start + f.part.length
  pub inside : f.next ≤ length s

-- ---- what stands at a place
module _ (s : List ℕ) (at : ℕ) where
  pub field_end : length s ≤ at → field_at s at ≡ Ok None
  unfolding field_at
  field_end h = rw (le-leb _ _ h, field_at)

  pub field-head_cut : at < length s → length s < at + head → field_at s at ≡ Err Cut
  unfolding field_at
  field-head_cut h k = rw (lt-leb _ _ h, lt-leb _ _ k, field_at)

  pub field_cut : at + head ≤ length s → length s < at + head + unsigned_at 2 s (at + 1) → field_at s at ≡ Err Cut
  unfolding field_at
  field_cut h k = let l : at < length s = omega arith in rw (lt-leb _ _ l, le-leb _ _ h, lt-leb _ _ k, field_at)

  pub field-whole : {n : ℕ} {t : Tagged} → n ≡ unsigned_at 2 s (at + 1) → at + head + n ≤ length s → t ≡ kind_of (get_or s at 0) →
      tagged at n t ≡ field_at s at
  unfolding field_at
  field-whole {n} e k t =
      let l : at < length s = omega arith in
      let h : at + head ≤ length s = omega arith in
      let m : at + head + unsigned_at 2 s (at + 1) ≤ length s = omega arith in
      rw (e, t, lt-leb _ _ l, le-leb _ _ h, le-leb _ _ m, field_at)

  -- a field that is found stands there, whole
  pub found_inside : (f : Field) → field_at s at ≡ Ok (Some f) → Stands s at f
  unfolding tagged
  found_inside f e = go (dec_le (at + head + unsigned_at 2 s (at + 1)) (length s)) (dec_le (at + head) (length s)) (dec_le (length s) at)
    where
      known : (t : Tagged) → kind_of (get_or s at 0) ≡ t → at + head + unsigned_at 2 s (at + 1) ≤ length s →
          tagged at (unsigned_at 2 s (at + 1)) t ≡ Ok (Some f) → Stands s at f
      known (Ok k) q h e =
          let r : record {
            kind = k;
            part = record { start = at + head; length = unsigned_at 2 s (at + 1) };
            next = at + head + unsigned_at 2 s (at + 1);
          } ≡ f = cc in
          rw (← r) (record { tag = q; size = refl; begins = refl; ends = refl; inside = h })
      known (Err r) q h e = absurd (false≢true (cc))

      go : Dec (at + head + unsigned_at 2 s (at + 1) ≤ length s) → Dec (at + head ≤ length s) → Dec (length s ≤ at) → Stands s at f
      go (yes h) k l = known (kind_of (get_or s at 0)) refl h (field-whole refl h refl ∙ e)
      go (no h) (yes k) l = absurd (false≢true (cc (field_cut k (omega arith))))
      go (no h) (no k) (yes l) = absurd (false≢true (cc (field_end l)))
      go (no h) (no k) (no l) = absurd (false≢true (cc (field-head_cut (omega arith) (omega arith))))

  -- the file's end is found only there
  pub found_end : field_at s at ≡ Ok None → length s ≤ at
  unfolding tagged
  found_end e = go (dec_le (length s) at) (dec_le (at + head) (length s)) (dec_le (at + head + unsigned_at 2 s (at + 1)) (length s))
    where
      never : (t : Tagged) → tagged at (unsigned_at 2 s (at + 1)) t ≡ Ok None → ⊥
      never (Ok k) q = false≢true (cc)
      never (Err r) q = false≢true (cc)

      go : Dec (length s ≤ at) → Dec (at + head ≤ length s) → Dec (at + head + unsigned_at 2 s (at + 1) ≤ length s) → length s ≤ at
      go (yes l) k h = l
      go (no l) (no k) h = absurd (false≢true (cc (field-head_cut (omega arith) (omega arith))))
      go (no l) (yes k) (no h) = absurd (false≢true (cc (field_cut k (omega arith))))
      go (no l) (yes k) (yes h) = absurd (never (kind_of (get_or s at 0)) (field-whole refl h refl ∙ e))
