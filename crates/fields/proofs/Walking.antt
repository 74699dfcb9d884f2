-- Laws of the walk: it has turns enough, one turn of it, and an induction over its turns.
use mathlib.Core.Path.{◌≡◌, refl, sym, ap, ◌∙◌}
use mathlib.Core.Bool.{Bool, true, false}
use mathlib.Core.List.{List}
use Prim.Native.Nat.{ℕ, zero, suc, ◌+◌, ◌≤◌, ◌<◌}
use native.Mathlib.Numerals.{add-one}
use native.Mathlib.Omega.{arith}
use lib.ListN.{length}
use lib.Dec.{ltb}
use borrow.Author.Tests.{ltb-false}
use Rattle.tables.specs.declared.Refusal.{Refusal}
use Rattle.tables.specs.declared.Refusal.TheVariants.{Again, Falling}
use Rattle.std.specs.Prelude.{Option, Some, None, is_some, Ok, Err}
use Rattle.fields.specs.declared.field.Kind.{Kind}
use Rattle.fields.specs.declared.field.Part.{Part}
use Rattle.fields.specs.declared.field.Field.{Field}
use Rattle.fields.specs.declared.layout.Layout.{Layout}
use Rattle.fields.specs.Fields.{tag_of, head, Found, field_at}
use Rattle.fields.specs.Layouts.{part_of, seen, placed, Walked, walk_on, walk_fields, walk}
use Rattle.fields.proofs.Finding.{field_end, found_inside}

-- ---- one turn
-- the code's tests: of a kind that was seen, and of a tag below the one before it
pub seen_is : (l : Layout) (k : Kind) {o : Option Part} {b : Bool} → o ≡ part_of l k → is_some o ≡ b → seen l k ≡ b
unfolding seen
seen_is l k e h = ap is_some (sym e) ∙ h

pub falls_is : (k : Kind) (t : ℕ) {tag : ℕ} {b : Bool} → tag ≡ tag_of k → ltb tag t ≡ b → ltb (tag_of k) t ≡ b
falls_is k t e h = ap (λ (n : ℕ). ltb n t) (sym e) ∙ h

module _ (t : ℕ) (l : Layout) (next : ℕ → ℕ → Layout → Walked) (f : Field) where
  on_again : seen l f.kind ≡ true → walk_on (Ok (Some f)) t l next ≡ Err Again
  unfolding walk_on
  on_again e = rw (e, walk_on)

  on_falling : seen l f.kind ≡ false → ltb (tag_of f.kind) t ≡ true → walk_on (Ok (Some f)) t l next ≡ Err Falling
  unfolding walk_on
  on_falling e h = rw (e, h, walk_on)

  on_more : seen l f.kind ≡ false → ltb (tag_of f.kind) t ≡ false →
      walk_on (Ok (Some f)) t l next ≡ next f.next (tag_of f.kind) (placed l f)
  unfolding walk_on
  on_more e h = rw (e, h, walk_on)

-- the rest of the walk counts only where the field at hand ends
on_ext : (r : Found) (t : ℕ) (l : Layout) (g h : ℕ → ℕ → Layout → Walked) →
    ((f : Field) → r ≡ Ok (Some f) → g f.next (tag_of f.kind) (placed l f) ≡ h f.next (tag_of f.kind) (placed l f)) →
    walk_on r t l g ≡ walk_on r t l h
unfolding walk_on
on_ext (Ok (Some f)) t l g h e =
    ap (λ (w : Walked). elim (seen l f.kind) [ true ↦ Err Again | false ↦ elim (ltb (tag_of f.kind) t) [ true ↦ Err Falling | false ↦ w ] ])
    (e f refl)
on_ext (Ok None) t l g h e = refl
on_ext (Err r) t l g h e = refl

-- ---- turns enough
module _ (s : List ℕ) where
  -- a field ends behind its head
  next-behind : (at : ℕ) (f : Field) → field_at s at ≡ Ok (Some f) → at + head ≤ f.next
  next-behind at f e = let w = found_inside s at f e in omega arith

  -- past the end there is no field, so no turn is missed there
  none_missed : (n at t : ℕ) (l : Layout) → length s ≤ at → walk_fields n s at t l ≡ Ok l
  unfolding walk_fields walk_on
  none_missed zero at t l h = refl
  none_missed (suc n) at t l h = rw (field_end s at h)

  -- two numbers of turns that reach past the end give the same walk
  pub turns_enough : (n m at t : ℕ) (l : Layout) → length s < at + n → length s < at + m → walk_fields n s at t l ≡ walk_fields m s at t l
  unfolding walk_fields
  turns_enough zero m at t l h k = sym (none_missed m at t l (omega arith))
  turns_enough (suc n) zero at t l h k = none_missed (suc n) at t l (omega arith)
  turns_enough (suc n) (suc m) at t l h k =
      on_ext (field_at s at) t l (walk_fields n s) (walk_fields m s)
      (λ f e. turns_enough n m f.next (tag_of f.kind) (placed l f) (omega (arith, next-behind at f e)) (omega (arith, next-behind at f e)))

  -- the walk goes on as if its turns were not counted
  pub walk_unfolds : (at t : ℕ) (l : Layout) → walk s at t l ≡ walk_on (field_at s at) t l (walk s)
  unfolding walk walk_fields
  walk_unfolds at t l =
      ap (λ (n : ℕ). walk_fields n s at t l) (add-one (length s))
      ∙ on_ext (field_at s at) t l (walk_fields (length s) s) (walk s)
      (λ f e. turns_enough (length s) (length s + 1) f.next (tag_of f.kind) (placed l f) (omega (arith, next-behind at f e))
      (omega (arith, next-behind at f e)))

  module _ (at t : ℕ) (l : Layout) where
    pub walk_end : field_at s at ≡ Ok None → walk s at t l ≡ Ok l
    unfolding walk_on
    walk_end e = walk_unfolds at t l ∙ rw e

    pub walk_refused : (r : Refusal) → field_at s at ≡ Err r → walk s at t l ≡ Err r
    unfolding walk_on
    walk_refused r e = walk_unfolds at t l ∙ rw e

    module _ (f : Field) (e : field_at s at ≡ Ok (Some f)) where
      pub walk_again : seen l f.kind ≡ true → walk s at t l ≡ Err Again
      walk_again b = walk_unfolds at t l ∙ rw e (on_again t l (walk s) f b)

      pub walk_falling : seen l f.kind ≡ false → ltb (tag_of f.kind) t ≡ true → walk s at t l ≡ Err Falling
      walk_falling b h = walk_unfolds at t l ∙ rw e (on_falling t l (walk s) f b h)

      pub walk_more : seen l f.kind ≡ false → ltb (tag_of f.kind) t ≡ false → walk s at t l ≡ walk s f.next (tag_of f.kind) (placed l f)
      walk_more b h = walk_unfolds at t l ∙ rw e (on_more t l (walk s) f b h)

-- ---- an induction over the turns, for any claim on where the walk stands and what comes of it
module _ (s : List ℕ) (R : ℕ → ℕ → Layout → Walked → Type 0)
    (more : (at t : ℕ) (l : Layout) (f : Field) (w : Walked) → field_at s at ≡ Ok (Some f) → seen l f.kind ≡ false → t ≤ tag_of f.kind →
    R f.next (tag_of f.kind) (placed l f) w → R at t l w)
    (end : (at t : ℕ) (l : Layout) → field_at s at ≡ Ok None → R at t l (Ok l))
    (stop : (at t : ℕ) (l : Layout) (r : Refusal) → R at t l (Err r)) where
  module _ (at t : ℕ) (l : Layout)
      (rest : (f : Field) → field_at s at ≡ Ok (Some f) →
      R f.next (tag_of f.kind) (placed l f) (walk s f.next (tag_of f.kind) (placed l f))) where
    field-turn : (f : Field) → field_at s at ≡ Ok (Some f) → (b c : Bool) → seen l f.kind ≡ b → ltb (tag_of f.kind) t ≡ c →
        R at t l (walk s at t l)
    field-turn f e true c q h = rw (walk_again s at t l f e q) (stop at t l Again)
    field-turn f e false true q h = rw (walk_falling s at t l f e q h) (stop at t l Falling)
    field-turn f e false false q h = rw (walk_more s at t l f e q h) (more at t l f _ e q (ltb-false (tag_of f.kind) t h) (rest f e))

    turn : (r : Found) → field_at s at ≡ r → R at t l (walk s at t l)
    turn (Ok (Some f)) e = field-turn f e (seen l f.kind) (ltb (tag_of f.kind) t) refl refl
    turn (Ok None) e = rw (walk_end s at t l e) (end at t l e)
    turn (Err r) e = rw (walk_refused s at t l r e) (stop at t l r)

  turns : (n at t : ℕ) (l : Layout) → length s < at + n → R at t l (walk s at t l)
  turns zero at t l h = turn at t l (λ f e. absurd (omega (arith, found_inside s at f e))) (field_at s at) refl
  turns (suc n) at t l h =
      turn at t l (λ f e. turns n f.next (tag_of f.kind) (placed l f) (omega (arith, next-behind s at f e))) (field_at s at) refl

  pub walk_ind : (at t : ℕ) (l : Layout) → R at t l (walk s at t l)
  walk_ind at t l = turns (length s + 1) at t l (omega arith)
