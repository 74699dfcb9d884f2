-- Fields that are put into a buffer one after the other.
use mathlib.Core.Path.{◌≡◌, refl, sym, ap, ◌∙◌}
use mathlib.Core.List.{List, [], ◌∷◌, ◌++◌, append_assoc, append-nil}
use Prim.Native.Nat.{ℕ, ◌+◌, ◌-◌, ◌/◌, ◌%◌, ◌^◌, ◌≤◌, ◌<◌}
use native.Mathlib.Numerals.{add-one}
use native.Mathlib.Omega.{arith}
use lib.ListN.{length, set, take, drop, length-drop, drop_of_length-le}
use lib.Seq.{sets-eq, take_all, drop-drop}
use Rattle.words.specs.Numbers.{to_le_bytes}
use Rattle.fields.specs.declared.field.Kind.{Kind}
use Rattle.fields.specs.Fields.{tag_of, head}
use Rattle.fields.specs.Entries.{Entry, entry_bytes, bytes_of_entries}
use Rattle.text.specs.Putting.{with_text, Put}
use Rattle.text.proofs.Puts.{put_then}

-- a tag, and a size of two bytes
pub head-put : (s : List ℕ) (at tag size : ℕ) {t : ℕ} → at + head ≤ length s → size < 256 ^ 2 → t ≡ tag →
    Put s at (tag ∷ to_le_bytes 2 size) head (at + head) (set (set (set s at t) (at + 1) (size % 256)) (at + 2) (size / 256))
unfolding to_le_bytes with_text
head-put s at tag size h k e =
    let high : size / 256 % 256 ≡ size / 256 = omega arith in
    let two : at + 2 ≡ at + 1 + 1 = omega arith in
    record {
      behind = refl;
      bytes = rw (e, high, two, add-one (at + 1), add-one at) (sets-eq (tag ∷ size % 256 ∷ size / 256 ∷ []) s at h);
      room = omega arith;
    }

-- k bytes at the front of a part that goes on to the buffer's end, d being the part as it is left
pub part-put : (s : List ℕ) (at : ℕ) (t d : List ℕ) (k : ℕ) {j : ℕ} → length t ≡ k → j ≡ k → at + k ≤ length s →
    d ≡ t ++ drop j (take (length s - at) (drop at s)) → Put s at t k (at + k) (take at s ++ (d ++ drop (length s - at) (drop at s)))
unfolding with_text
part-put s at t d k e f h q =
    let rest = drop at s in
    let n : length rest ≤ length s - at = omega (arith, length-drop at s) in
    record {
      behind = omega arith;
      bytes = rw (q, f, take_all (length s - at) rest n, drop_of_length-le rest n, append-nil, drop-drop, e, ← append_assoc (take at s));
      room = omega arith;
    }

-- a field: its head, and its content behind it
pub field_put : (k : Kind) (t : List ℕ) {s a d : List ℕ} {at r q n m : ℕ} → length t ≡ n → at ≤ length s →
    Put s at (tag_of k ∷ to_le_bytes 2 n) head r a → Put a r t m q d →
    Put s at (entry_bytes (record { kind = k; bytes = t })) (head + m) q d
unfolding entry_bytes
field_put k t e h p o = rw e (put_then p h o)

-- ---- fields, one after the other
entries-joined : (es ds : List Entry) → bytes_of_entries (es ++ ds) ≡ bytes_of_entries es ++ bytes_of_entries ds
unfolding bytes_of_entries
entries-joined [] ds = refl
entries-joined (e ∷ es) ds =
    ap (λ (r : List ℕ). entry_bytes e ++ r) (entries-joined es ds)
    ∙ sym (append_assoc (entry_bytes e) (bytes_of_entries es) (bytes_of_entries ds))

pub one-put : (e : Entry) {s a : List ℕ} {at m r : ℕ} → Put s at (entry_bytes e) m r a → Put s at (bytes_of_entries (e ∷ [])) m r a
unfolding bytes_of_entries
one-put e p = rw append-nil p

pub entries-put : (es ds : List Entry) {s a d : List ℕ} {at r q m k : ℕ} → at ≤ length s →
    Put s at (bytes_of_entries es) m r a → Put a r (bytes_of_entries ds) k q d → Put s at (bytes_of_entries (es ++ ds)) (m + k) q d
entries-put es ds h p o = rw entries-joined (put_then p h o)

-- a field behind others
pub next-put : (es : List Entry) (e : Entry) {s a d : List ℕ} {at r q m k : ℕ} → at ≤ length s →
    Put s at (bytes_of_entries es) m r a → Put a r (entry_bytes e) k q d → Put s at (bytes_of_entries (es ++ (e ∷ []))) (m + k) q d
next-put es e h p o = entries-put es (e ∷ []) h p (one-put e o)

-- a buffer that they fill is they alone
pub put_whole : (t : List ℕ) {s a : List ℕ} {m r : ℕ} → length t ≡ length s → Put s 0 t m r a → a ≡ t
unfolding with_text
put_whole t {s} e p = let n : length s ≤ 0 + length t = omega arith in p.bytes ∙ rw (drop_of_length-le s n) (append-nil t)
