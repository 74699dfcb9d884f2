-- R27.2 of docs/RULES.md: the numbers of a list that stand from one of them on, of numbers or of the bytes that spell them.
use native.Mathlib.Omega.{arith}
use lib.IntN.{pos}
use lib.Seq.{get_or-drop}
use Rattle.std.specs.Prelude.{◌≡◌, List, ℕ, ◌+◌, ◌*◌, ◌≤◌, ◌<◌, ℤ, length, drop}
use Rattle.std.specs.Int.{w64}
use mir.Val.{bytes}
use Rattle.words.specs.Numbers.{numbers_of}
use Rattle.words.proofs.Laws.{length-numbers_of}
use Rattle.tables.specs.Matrix.{nth}
use Rattle.pool.specs.Spelled.{spelled-later}

-- each number takes as many elements as one does, which are 1 to 8; a list with room for k numbers has them; and the j numbers of what
-- stands from number k on are numbers k, k + 1, .. of all m
pub record PartsWhole {A : Type 0} (taken : ℕ → ℕ) (numbers : List A → ℕ → List ℤ) : Type 0 where
  pub each : (k : ℕ) → taken k ≡ k * taken 1
  pub some : 0 < taken 1
  pub few : taken 1 ≤ 8
  pub room : (b : List A) (k : ℕ) → taken k ≤ length b → k ≤ length (numbers b k)
  pub later : (b : List A) (k j m i : ℕ) → k + j ≤ m → i < j → nth (numbers (drop (taken k) b) j) i ≡ nth (numbers b m) (k + i)

-- so it is of numbers, and of the bytes that spell them
pub numbers_parts : PartsWhole {A = ℤ} (λ k. k) (λ x k. x)
numbers_parts = record {
  each = λ k. omega arith;
  some = omega arith;
  few = omega arith;
  room = λ b k h. h;
  later = λ b k j m i h l. get_or-drop k b i (pos 0);
}

pub bytes_parts : PartsWhole (λ k. k * bytes w64) (numbers_of w64)
bytes_parts = record {
  each = λ k. omega arith;
  some = omega arith;
  few = omega arith;
  room = λ b k h. omega (arith, length-numbers_of w64 b k);
  later = λ b k j m i h l. spelled-later w64 b k h l;
}
