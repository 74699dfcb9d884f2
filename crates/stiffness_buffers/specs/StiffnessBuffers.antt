-- R15.2, R15.3 and R15.7 of docs/RULES.md, of the bracket: the sizes of its buffers of bytes, and the bytes that it stores in them.
use Rattle.std.specs.Prelude.{Bool, ◌&&◌, List, ℕ, eqb, Result, Ok, Err}
use Rattle.std.specs.Int.{w64}
use mir.Val.{bytes}
use Rattle.words.specs.Numbers.{bytes_of}
use Rattle.tables.specs.declared.Refusal.{Refusal}
use Rattle.stiffness.specs.Bracket.{Bracketing, Bracketed, stored}
use Rattle.stiffness.specs.declared.bracket.Stiffness.{Stiffness}
use Rattle.buffers.specs.Buffers.{vector_buffers, bytes_of_number}

-- 2, over bytes: l and u are the lengths of the tables, s and b those of step and bound, one number each, and x that of the vector
unfoldable pub stiffness_buffers : ℕ → ℕ → ℕ → ℕ → ℕ → ℕ → Bool
stiffness_buffers n l u s b x = vector_buffers n l u x && (eqb s (bytes w64) && eqb b (bytes w64))

-- ---- what is stored
-- the buffers of step and bound
pub record Ends : Type 0 where
  pub step : List ℕ
  pub bound : List ℕ

-- R15.7: the bound is written with every answer, and the step where it is given; both are kept by a refusal
abbrev pub stored_ends : Result Stiffness Refusal → List ℕ → List ℕ → Ends
stored_ends (Ok (Stiffness.Between t v)) s b = record { step = bytes_of_number t; bound = bytes_of_number v }
stored_ends (Ok (Stiffness.AtMost v)) s b = record { step = s; bound = bytes_of_number v }
stored_ends (Err r) s b = record { step = s; bound = b }

-- the answer, and the buffers as they are left
pub record StoredStiffness : Type 0 where
  pub stiffness : Result Stiffness Refusal
  pub step : List ℕ
  pub bound : List ℕ
  pub vector : List ℕ

-- beside the answer and the vector, which the act leaves
abbrev pub beside : Bracketed (List ℕ) → Ends → StoredStiffness
beside j e = record { stiffness = j.stiffness; step = e.step; bound = e.bound; vector = j.vector }

-- the vector too is written with every answer, and kept by a refusal
abbrev pub stored_stiffness : ℕ → Bracketing → List ℕ → List ℕ → List ℕ → StoredStiffness
stored_stiffness n g s b y =
    let j : Bracketed (List ℕ) = stored (bytes_of w64) n g y in
    beside j (stored_ends j.stiffness s b)
