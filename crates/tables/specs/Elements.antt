-- What the buffers of a call are made of: numbers, or the bytes that spell them (R15 of docs/RULES.md).
use Rattle.std.specs.Prelude.{◌≡◌, List, ℕ, ◌*◌, ℤ, length}
use Rattle.std.specs.Int.{w64}
use mir.Val.{bytes, SFits}
use Rattle.words.specs.Numbers.{numbers_of, bytes_of}
use Rattle.words.proofs.Sign.{narrow-of}
use Rattle.words.proofs.Laws.{length-numbers_of, length-bytes_of, read_whole}
use Rattle.tables.specs.Matrix.{nth}

-- `taken k` elements are k numbers, which are `numbers` of them, and `elements` of a list of k numbers are so many; from these the numbers
-- are read back, where 64 bits hold each
pub record BuffersWhole {A : Type 0} (taken : ℕ → ℕ) (numbers : List A → ℕ → List ℤ) (elements : List ℤ → ℕ → List A) : Type 0 where
  pub numbers_whole : (b : List A) (k : ℕ) → length b ≡ taken k → length (numbers b k) ≡ k
  pub elements_whole : (x : List ℤ) (k : ℕ) → length x ≡ k → length (elements x k) ≡ taken k
  pub read_back : (x : List ℤ) (k : ℕ) → length x ≡ k → ((i : ℕ) → SFits w64 (nth x i)) → numbers (elements x k) k ≡ x

-- so it is of the bytes that spell numbers
pub bytes_whole : BuffersWhole (λ k. k * bytes w64) (numbers_of w64) (bytes_of w64)
bytes_whole = record {
  numbers_whole = λ b k e. length-numbers_of w64 b k;
  elements_whole = λ x k e. length-bytes_of w64 x k;
  read_back = λ x k e f. read_whole (narrow-of 8) x (record { each = f }) e;
}
