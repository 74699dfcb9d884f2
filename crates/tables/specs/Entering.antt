-- R5 of docs/RULES.md: the door of every act on bounds l and u: checks 1 to 5, and then the act, with its own checks, on the bounds that
-- everything below reads.
use Rattle.std.specs.Prelude.{◌≡◌, Bool, true, List, ◌++◌, ℕ, ◌*◌, ℤ, pos, length, drop, replicate, Ok}
use Rattle.tables.specs.Ranges.{table_room}
use Rattle.tables.specs.Matrix.{Matrix, at}
use Rattle.tables.specs.Mending.{mended_low, mended_high}
use Rattle.tables.specs.Checks.{Check, Checked, order_of, first_refusal, entry_checks, bounds_checks}
use Rattle.tables.specs.Answers.{after}
use Rattle.tables.specs.Bounds.{CheckedTables}
use Rattle.tables.specs.declared.Refusal.{Refusal}

-- the bounds that everything below reads: those of the mended tables
abbrev pub low_bounds : ℕ → List ℤ → Matrix
low_bounds n l = at n (mended_low n l)

abbrev pub high_bounds : ℕ → List ℤ → Matrix
high_bounds n u = at n (mended_high n u)

-- R5.2: checks 1 to 5
abbrev pub door_checks : ℤ → Bool → Bool → List ℤ → List ℤ → List Check
door_checks n sized others l u = entry_checks n sized ++ bounds_checks others (order_of n) l u

-- the first refusal of these, or else what the act answers
unfoldable pub entered : {A : Type 0} → (Refusal → A) → ℤ → Bool → Bool → List ℤ → List ℤ → A → A
entered refused n sized others l u a = after refused (first_refusal (door_checks n sized others l u)) a

-- ---- what the code of the door asks and leaves
-- where the buffers have their sizes, both tables have the elements that n² numbers take
abbrev pub Exact : (ℕ → ℕ) → ℕ → Bool → ℕ → ℕ → Type 0
Exact taken n sized l u = sized ≡ true → (l ≡ taken (n * n)) × (u ≡ taken (n * n))

-- a scratch table of zeros
abbrev pub Blank : List ℤ → Type 0
Blank t = t ≡ replicate table_room (pos 0)

-- scratch tables
pub record Rooms (l' u' : List ℤ) : Type 0 where
  pub low-size : length l' ≡ table_room
  pub high-size : length u' ≡ table_room

-- the numbers of x stand at the front of t, over zeros
abbrev pub Over : ℕ → List ℤ → List ℤ → Type 0
Over k x t = t ≡ x ++ drop k (replicate table_room (pos 0))

-- where the buffers have their sizes, l and u stand in the scratch tables
pub record Laid (n : ℕ) (sized : Bool) (l u l' u' : List ℤ) : Type 0 where
  pub rooms : Rooms l' u'
  pub low : sized ≡ true → Over (n * n) l l'
  pub high : sized ≡ true → Over (n * n) u u'

-- the first refusal r of checks of tables l and u of order n, and where nothing is refused these tables mended, in their place
pub record Mended (checks : List Check) (n : ℕ) (l u : List ℤ) (r : Checked) (l' u' : List ℤ) : Type 0 where
  pub answered : r ≡ first_refusal checks
  pub low-size : length l' ≡ length l
  pub high-size : length u' ≡ length u
  pub low : r ≡ Ok tt → l' ≡ mended_low n l
  pub high : r ≡ Ok tt → u' ≡ mended_high n u

-- scratch tables of order n that hold the bounds of l and u, which passed the checks
pub record Held (n : ℕ) (l u l' u' : List ℤ) : Type 0 where
  pub tables : CheckedTables n l' u'
  pub low : at n l' ≡ low_bounds n l
  pub high : at n u' ≡ high_bounds n u

-- the answer r of checks 1 to 5, and where nothing is refused the bounds in the scratch tables
pub record Entered (n : ℤ) (sized others : Bool) (l u : List ℤ) (r : Checked) (l' u' : List ℤ) : Type 0 where
  pub answered : r ≡ first_refusal (door_checks n sized others l u)
  pub rooms : Rooms l' u'
  pub held : r ≡ Ok tt → Held (order_of n) l u l' u'
