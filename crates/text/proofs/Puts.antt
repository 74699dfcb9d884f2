-- Texts that are put into a buffer one after the other.
use mathlib.Core.Path.{◌≡◌, refl, sym, ap, ◌∙◌}
use mathlib.Core.List.{List, [], ◌∷◌, ◌++◌, append_assoc, append-nil}
use Prim.Native.Nat.{ℕ, ◌+◌, ◌≤◌}
use native.Mathlib.Nat.{add-zero}
use native.Mathlib.Omega.{arith}
use lib.ListN.{length, set, take, drop, length-append, length-drop, take-append-drop}
use lib.Seq.{length-take-le, take_at, drop-append-add, drop-drop, sets-eq}
use Rattle.text.specs.Putting.{with_text, Put}

-- what stands up to the end of the text
length_front : (b : List ℕ) (at : ℕ) (t : List ℕ) → at ≤ length b → length (take at b ++ t) ≡ at + length t
length_front b at t h = rw (length-append, length-take-le at b h)

pub length-with_text : (b : List ℕ) (at : ℕ) (t : List ℕ) → at + length t ≤ length b → length (with_text b at t) ≡ length b
unfolding with_text
length-with_text b at t h = rw (length-append, length_front b at t (omega arith), length-drop) (omega arith)

pub with_text_nothing : (b : List ℕ) (at : ℕ) → with_text b at [] ≡ b
unfolding with_text
with_text_nothing b at = rw (append-nil, add-zero, take-append-drop)

-- a text and a second one behind it
pub with_text_then : (b : List ℕ) (at : ℕ) (t s : List ℕ) → at ≤ length b
    → with_text (with_text b at t) (at + length t) s ≡ with_text b at (t ++ s)
unfolding with_text
with_text_then b at t s h =
    let p = take at b ++ t in
    let e = length_front b at t h in
    let n : at + length (t ++ s) ≡ at + length t + length s = omega (arith, length-append t s) in
    rw (take_at p (drop (at + length t) b) (at + length t) e, n, ← e, drop-append-add p, drop-drop, append_assoc (take at b) t s)

module _ {b : List ℕ} {at : ℕ} where
  -- no text
  pub put_nothing : Put b at [] 0 at b
  put_nothing = record { behind = sym (add-zero at); bytes = sym (with_text_nothing b at); room = omega arith }

  -- one byte
  pub put_byte : (v : ℕ) → at + 1 ≤ length b → Put b at (v ∷ []) 1 (at + 1) (set b at v)
  unfolding with_text
  put_byte v h = record { behind = refl; bytes = sets-eq (v ∷ []) b at h; room = omega arith }

  module _ {t : List ℕ} {m r : ℕ} {a : List ℕ} (p : Put b at t m r a) where
    -- a larger bound
    pub put-within : {k : ℕ} → m ≤ k → Put b at t k r a
    put-within h = record { behind = p.behind; bytes = p.bytes; room = omega arith }

    -- the buffer keeps its length
    pub put-length : at + m ≤ length b → length a ≡ length b
    put-length h = ap length p.bytes ∙ length-with_text b at t (omega arith)

    -- there is room for k bytes more
    pub put_room : (k : ℕ) → at + (m + k) ≤ length b → r + k ≤ length a
    put_room k h = omega (arith, p.behind, p.room, put-length (omega arith))

    -- a second text behind it
    pub put_then : {s : List ℕ} {k q : ℕ} {d : List ℕ} → at ≤ length b → Put a r s k q d → Put b at (t ++ s) (m + k) q d
    put_then {s} h o =
        record {
          behind = omega (arith, length-append t s, p.behind, o.behind);
          bytes = o.bytes ∙ rw (p.bytes, p.behind) (with_text_then b at t s h);
          room = omega (arith, length-append t s, p.room, o.room);
        }
