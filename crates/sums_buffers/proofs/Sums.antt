-- Running sums that buffers spell, loaded to the front of arrays; and the buffers' sizes where check 2 of reading passes.
use mathlib.Core.Path.{◌≡◌, ap, ◌∙◌}
use mathlib.Core.Bool.{Bool, true}
use mathlib.Core.List.{List, ◌++◌}
use Prim.Native.Nat.{ℕ, ◌*◌, ◌≤◌}
use native.Mathlib.Omega.{arith}
use lib.Dec.{eqb}
use lib.IntN.{ℤ, pos}
use lib.ListN.{length, get_or-append, length-append}
use borrow.Author.Tests.{eqb-true}
use mir.Syntax.{w64}
use mir.Val.{bytes}
use Rattle.words.specs.Numbers.{numbers_of}
use Rattle.words.proofs.Laws.{length-numbers_of}
use Rattle.tables.specs.Entering.{Laid}
use Rattle.tables.specs.Problem.{constraint_sized}
use Rattle.tables.specs.declared.problem.Lengths.{Lengths}
use Rattle.tables.proofs.Checks.{and_left, and_right}
use Rattle.tables.proofs.Problems.{constraint_sizes-of}
use Rattle.sums.specs.Lent.{Lent}
use Rattle.sums.specs.Required.{front, Sums}
use Rattle.sums.proofs.Fronts.{front_is, constraint_by}
use Rattle.buffers.specs.Buffers.{table_of, number_of}
use Rattle.sums_buffers.specs.SumsBuffers.{spelled_sums, read_buffers}

-- k numbers that were loaded to the front of an array
pub loaded-front : (s : List ℕ) (k : ℕ) (t : List ℤ) → front k (numbers_of w64 s k ++ t) ≡ numbers_of w64 s k
loaded-front s k t =
    let y = numbers_of w64 s k in
    let e = length-numbers_of w64 s k in
    front_is k (y ++ t) y e (λ i h. get_or-append y t (pos 0) i (omega (arith, e, h)))

room : (s : List ℕ) (k : ℕ) (t : List ℤ) {x : List ℤ} → x ≡ numbers_of w64 s k ++ t → k ≤ length x
room s k t e = rw (e, length-append, length-numbers_of) (omega arith)

-- sums that were loaded to the front of lists
pub loaded-sums : (n : ℕ) (s : Lent (List ℕ)) (x y z w : List ℤ) {l u a b : List ℤ} {α : ℤ} →
    l ≡ numbers_of w64 s.low (n * n) ++ x → u ≡ numbers_of w64 s.high (n * n) ++ y →
    a ≡ numbers_of w64 s.from n ++ z → b ≡ numbers_of w64 s.to n ++ w → α ≡ number_of s.limit → Sums (spelled_sums n s) n l u a b α
loaded-sums n s x y z w h k p q e =
    record {
      sums =
          constraint_by (ap (front (n * n)) h ∙ loaded-front s.low (n * n) _) (ap (front (n * n)) k ∙ loaded-front s.high (n * n) _)
          (ap (front n) p ∙ loaded-front s.from n _) (ap (front n) q ∙ loaded-front s.to n _) e;
      rooms = record {
        low = room s.low (n * n) x h;
        high = room s.high (n * n) y k;
        linear_low = room s.from n z p;
        linear_high = room s.to n w q;
      };
    }

-- where check 2 of reading passes each buffer has its size
pub read-sizes-of : (n : ℕ) (b : Lengths) (s : ℕ) → read_buffers n b s ≡ true →
    (b.bounds.low ≡ n * n * bytes w64) × (b.bounds.high ≡ n * n * bytes w64) × (b.linear.low ≡ n * bytes w64)
    × (b.linear.high ≡ n * bytes w64) × (s ≡ bytes w64)
unfolding read_buffers
read-sizes-of n b s e =
    let z = constraint_sized (record { table = n * n * bytes w64; vector = n * bytes w64 }) b in
    let t = constraint_sizes-of _ b (and_left z (eqb s (bytes w64)) e) in
    (t.0, t.1, t.2, t.3, eqb-true _ _ (and_right z (eqb s (bytes w64)) e))

-- tables that are laid, of an equal order and where the same sizes are asked
pub laid_by : {n m : ℕ} {sized sized' : Bool} (l u : List ℕ) {l' u' : List ℤ} → n ≡ m → sized ≡ sized' →
    Laid n sized (table_of n l) (table_of n u) l' u' → Laid m sized' (table_of m l) (table_of m u) l' u'
laid_by l u e f h = rw (← e, ← f) h
