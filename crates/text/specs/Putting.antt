-- What the code of the text leaves in a buffer.
use Rattle.std.specs.Prelude.{◌≡◌, List, ◌++◌, ℕ, ◌+◌, ◌≤◌, length, take, drop}

-- the buffer b with the text t at `at`
unfoldable pub with_text : List ℕ → ℕ → List ℕ → List ℕ
with_text b at t = take at b ++ t ++ drop (at + length t) b

-- the text t was put into the buffer b at `at`: r is the place behind it, and a the buffer as it is left; t takes up at most m bytes
pub record Put (b : List ℕ) (at : ℕ) (t : List ℕ) (m r : ℕ) (a : List ℕ) : Type 0 where
  pub behind : r ≡ at + length t
  pub bytes : a ≡ with_text b at t
  pub room : length t ≤ m
