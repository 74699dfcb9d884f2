-- Laws of the front door: which way it lets a call go, and what holds after it.
use mathlib.Core.Path.{◌≡◌, refl, sym, ap, ap₂, ◌∙◌}
use mathlib.Core.Bool.{Bool, true, false, false≢true, ◌&&◌}
use mathlib.Core.List.{List, ◌++◌}
use Prim.Native.Nat.{ℕ, ◌+◌, ◌*◌, ◌-◌, ◌≤◌, ◌<◌}
use native.Mathlib.Omega.{arith}
use lib.IntN.{ℤ, pos, negsuc, nat_abs}
use lib.Signed.{◌≤ℤ◌, le_z}
use lib.ListN.{length, take, drop, replicate, length-append, length-drop, length-replicate, replicate-append-replicate}
use lib.Seq.{take_all, drop_at}
use Rattle.integers.specs.Numbers.{min_ℤ, max_ℤ}
use Rattle.integers.proofs.Parts.{≤_out}
use Rattle.tables.specs.Ranges.{greatest_order, table_room, entry_range}
use Rattle.tables.specs.Matrix.{nth, at}
use Rattle.tables.specs.Checks.{Check, all, within, all_within, tables_within, nowhere_crossed, bounds_checks, first_refusal, order_ok, order_of, ordered, entry_checks}
use Rattle.tables.specs.Mending.{mended_by, mended_low, mended_high}
use Rattle.tables.specs.Entering.{Exact, Blank, Rooms, Over, Laid, Mended, Entered, door_checks, entered}
use Rattle.tables.specs.declared.Refusal.{Refusal}
use Rattle.tables.specs.declared.Refusal.TheVariants.{Order, Length}
use Rattle.tables.specs.Checks.{Checked}
use Rattle.std.specs.Prelude.{Ok, Err}
use mir.Syntax.{w64}
use mir.Val.{SFits, to_z, of_z}
use Rattle.std.specs.Result.{result_unwrap_or}
use Rattle.integers.proofs.Machine.{clean}
use Rattle.tables.proofs.Matrix.{nth-padded, at-padded, table_fits}
use Rattle.tables.proofs.MendedTables.{mended-over}
use Rattle.tables.proofs.Checks.{false_of, first_passes, first-refuses, first-none, first-passed, rest-passed, more-checks, no-more-checks, order-of, passed-bounds, mended-passed, and_left}
use Rattle.tables.proofs.Answers.{after-refused, after-passed, after-means, prefix_passed}

-- ---- a list of numbers with zeros behind it
abbrev pub zeros : ℕ → List ℤ
zeros m = replicate m (pos 0)

-- x, and zeros behind it
pub record Padded (x x' : List ℤ) : Type 0 where
  pub rest : ℕ
  pub list : x' ≡ x ++ zeros rest

module _ {x x' : List ℤ} (p : Padded x x') where
  pub padded-nth : nth x' ≡ nth x
  padded-nth = rw p.list (nth-padded x p.rest)

  pub padded-at : (n : ℕ) → at n x' ≡ at n x
  padded-at n = rw p.list (at-padded n x p.rest)

-- numbers laid over zeros
pub laid-zeros : (room : ℕ) (x : List ℤ) → length x ≤ room → Padded x (x ++ drop (length x) (zeros room))
laid-zeros room x h = record { rest = room - length x; list = ap (λ (z : List ℤ). x ++ z) (split room (length x) h) }
  where
    split : (n k : ℕ) → k ≤ n → drop k (zeros n) ≡ zeros (n - k)
    split n k h =
        let e : n ≡ k + (n - k) = omega arith in
        ap (λ (m : ℕ). drop k (zeros m)) e ∙ ap (drop k) (sym (replicate-append-replicate k (n - k) (pos 0)))
        ∙ drop_at (zeros k) (zeros (n - k)) k (length-replicate k (pos 0))

-- numbers that were loaded over zeros
module _ (room : ℕ) {k : ℕ} (x : List ℤ) {o t : List ℤ} (b : o ≡ zeros room) (e : length x ≡ k) (h : k ≤ room) (q : t ≡ take k x ++ drop k o) where
  loaded_front : t ≡ x ++ drop k (zeros room)
  loaded_front = q ∙ rw (b, take_all k x (omega (arith, e))) refl

  pub loaded : Padded x t
  loaded = rw (loaded_front, ← e) (laid-zeros room x (omega (arith, e)))

  pub loaded_room : length t ≡ room
  loaded_room = ap length loaded_front ∙ rw (length-append, e, length-drop, length-replicate) (omega arith)

-- into a scratch table
pub blank_length : {o : List ℤ} → Blank o → length o ≡ table_room
blank_length b = ap length b ∙ length-replicate table_room (pos 0)

pub copied-over : {k : ℕ} (x : List ℤ) {o t : List ℤ} → Blank o → length x ≡ k → t ≡ take k x ++ drop k o → Over k x t
copied-over {k} x b e q = q ∙ rw (b, take_all k x (omega (arith, e))) refl

pub over-padded : {k : ℕ} {x t : List ℤ} → length x ≡ k → k ≤ table_room → Over k x t → Padded x t
over-padded {k} {x} e h q = rw (q, ← e) (laid-zeros table_room x (omega (arith, e)))

pub over_room : {k : ℕ} (x : List ℤ) {t : List ℤ} → length x ≡ k → k ≤ table_room → Over k x t → length t ≡ table_room
over_room {k} x e h q = ap length q ∙ rw (length-append, e, length-drop, length-replicate) (omega arith)

-- ---- checks look at the numbers alone, and zeros behind the tables change none
pub range_same : (b m : ℕ) (x x' : List ℤ) → nth x' ≡ nth x → all_within b m x' ≡ all_within b m x
unfolding all_within
range_same b m x x' p = ap (λ (f : ℕ → ℤ). all m (λ i. within b (f i))) p

pub crossed_same : (m : ℕ) (x x' y y' : List ℤ) → nth x' ≡ nth x → nth y' ≡ nth y → nowhere_crossed m x' y' ≡ nowhere_crossed m x y
unfolding nowhere_crossed
crossed_same m x x' y y' p q = ap₂ (λ (f g : ℕ → ℤ). all m (λ i. le_z (f i) (g i))) p q

-- where check 3 passes the other numbers pass, and so do the bounds alone
others-within : (others : Bool) (n : ℕ) (l u : List ℤ) → first_refusal (bounds_checks others n l u) ≡ Ok tt → others ≡ true
unfolding bounds_checks
others-within others n l u e = and_left others (tables_within (n * n) l u) (first-passed _ _ e)

others-passed : (others : Bool) (n : ℕ) (l u : List ℤ) → first_refusal (bounds_checks others n l u) ≡ Ok tt → first_refusal (bounds_checks true n l u) ≡ Ok tt
unfolding bounds_checks
others-passed true n l u e = e
others-passed false n l u e = cc (first-passed _ _ e)

-- with the act's other numbers
pub bounds-mended : (others : Bool) (n : ℕ) (l u : List ℤ) → n * n ≤ length l → n * n ≤ length u → first_refusal (bounds_checks others n l u) ≡ Ok tt →
    first_refusal (bounds_checks others n (mended_low n l) (mended_high n u)) ≡ Ok tt
bounds-mended true n l u h k e = mended-passed n l u h k e
bounds-mended false n l u h k e = absurd (false≢true (others-within false n l u e))

-- and so is it with the mended tables
pub mended-padded : (m : ℤ → ℤ → ℤ) (n : ℕ) {x x' : List ℤ} → Padded x x' → length x ≡ n * n → Padded (mended_by m n x) (mended_by m n x')
mended-padded m n {x} p e = record { rest = p.rest; list = ap (mended_by m n) p.list ∙ mended-over m n x (zeros p.rest) e (at-padded n x p.rest) }

module _ {l u l' u' : List ℤ} (p : Padded l l') (q : Padded u u') where
  pub checks-padded : (others : Bool) (n : ℕ) → length l ≡ n * n → length u ≡ n * n → bounds_checks others n l' u' ≡ bounds_checks others n l u
  unfolding bounds_checks tables_within
  checks-padded others n h k =
      rw (
        range_same entry_range (n * n) l l' (padded-nth p),
        range_same entry_range (n * n) u u' (padded-nth q),
        crossed_same (n * n) l l' u u' (padded-nth p) (padded-nth q),
        crossed_same (n * n) (mended_low n l) (mended_low n l') (mended_high n u) (mended_high n u')
            (padded-nth (mended-padded max_ℤ n p h)) (padded-nth (mended-padded min_ℤ n q k)),
      )

-- what checks 1 and 2 say
pub entry-passed : (n : ℤ) (sized : Bool) → first_refusal (entry_checks n sized) ≡ Ok tt → (order_ok n ≡ true) × (sized ≡ true)
unfolding entry_checks
entry-passed n sized p = (first-passed _ _ p, first-passed _ _ (rest-passed _ _ p))

pub entry-passes : (n : ℤ) {sized : Bool} → order_ok n ≡ true → sized ≡ true → first_refusal (entry_checks n sized) ≡ Ok tt
unfolding entry_checks
entry-passes n e f = first_passes _ _ e ∙ first_passes _ _ f ∙ first-none

-- ---- the order of a call
pub order_small : (n : ℤ) → order_of n ≤ greatest_order
unfolding order_of
order_small n = go (order_ok n) refl
  where
    go : (b : Bool) → order_ok n ≡ b → elim b as (λ z. ℕ) [ true ↦ nat_abs n | false ↦ 0 ] ≤ greatest_order
    go true e = (order-of e).1
    go false e = omega arith

pub order-known : (n : ℤ) → order_ok n ≡ true → order_of n ≡ nat_abs n
unfolding order_of
order-known n e = rw (order_of, e)

pub order-none : (n : ℤ) → order_of n ≡ 0 → order_ok n ≡ false
order-none n e = false_of (order_ok n) (λ o. go n (order-of o).0 (sym (order-known n o) ∙ e))
  where
    go : (n : ℤ) → pos 1 ≤ℤ n → nat_abs n ≡ 0 → ⊥
    go (pos m) h z = omega (arith, ≤_out h)
    go (negsuc m) h z = absurd h.le

pub order-positive : (n : ℤ) → order_ok n ≡ true → 0 < order_of n
order-positive n e = let d : order_of n ≡ 0 → ⊥ = λ q. false≢true (sym (order-none n q) ∙ e) in omega arith

pub order-given : (n : ℤ) → (order_of n ≡ 0 → ⊥) → order_ok n ≡ true
unfolding order_of
order-given n h = go (order_ok n) refl
  where
    go : (b : Bool) → order_ok n ≡ b → order_ok n ≡ true
    go true e = e
    go false e = absurd (h (rw (order_of, e)))

-- the numbers of a table of the order of a call
-- what a call's order says, and its refusal
pub ordered-yes : (n : ℤ) → order_ok n ≡ true → ordered n ≡ Ok (order_of n)
unfolding ordered
ordered-yes n e = rw (ordered, e)

pub ordered-no : (n : ℤ) → order_ok n ≡ false → ordered n ≡ Err Order
unfolding ordered
ordered-no n e = rw (ordered, e)

pub ordered_or : (n : ℤ) → result_unwrap_or (ordered n) 0 ≡ order_of n
unfolding order_of
ordered_or n = go (order_ok n) refl
  where
    go : (b : Bool) → order_ok n ≡ b → result_unwrap_or (ordered n) 0 ≡ order_of n
    go true e = rw (ordered-yes n e)
    go false e = rw (ordered-no n e, order_of, e)

-- what the code of a call reads of it
pub order-passed : {n : ℤ} {m : ℕ} → SFits w64 n → Ok m ≡ ordered (to_z w64 (of_z w64 n)) → (m ≡ order_of n) × (order_ok n ≡ true)
order-passed {n} {m} f q = go (order_ok n) refl
  where
    e : Ok m ≡ ordered n
    e = rw (clean f) at q

    go : (b : Bool) → order_ok n ≡ b → (m ≡ order_of n) × (order_ok n ≡ true)
    go true o = (cc (e, ordered-yes n o), o)
    go false o = cc (e, ordered-no n o)

pub order-refused : {n : ℤ} {k : Refusal} → SFits w64 n → Err k ≡ ordered (to_z w64 (of_z w64 n)) → (k ≡ Order) × (order_of n ≡ 0)
unfolding order_of
order-refused {n} {k} f q = go (order_ok n) refl
  where
    e : Err k ≡ ordered n
    e = rw (clean f) at q

    go : (b : Bool) → order_ok n ≡ b → (k ≡ Order) × (order_of n ≡ 0)
    go true o = cc (e, ordered-yes n o)
    go false o = (cc (e, ordered-no n o), rw (order_of, o))

pub order_fits : {m : ℕ} (n : ℤ) → m ≡ order_of n → m * m ≤ table_room
order_fits n e = rw e (table_fits (order_small n))

-- where checks in front of others pass, the others decide
pub mended-after : (cs : List Check) {ds : List Check} {n : ℕ} {l u : List ℤ} {r : Checked} {l' u' : List ℤ} → first_refusal cs ≡ Ok tt →
    Mended ds n l u r l' u' → Mended (cs ++ ds) n l u r l' u'
mended-after cs {ds} e m = record { answered = m.answered ∙ sym (more-checks cs ds e); low-size = m.low-size; high-size = m.high-size; low = m.low; high = m.high }

-- ---- checks 1 to 5 of what was laid into the scratch tables l₀ and u₀, and these mended in their place
pub entered-laid : (n : ℤ) (sized others : Bool) {l u l₀ u₀ l' u' : List ℤ} {r : Checked} → Exact (λ k. k) (order_of n) sized (length l) (length u) → Laid (order_of n) sized l u l₀ u₀ →
    Mended (door_checks n sized others l₀ u₀) (order_of n) l₀ u₀ r l' u' → Entered n sized others l u r l' u'
entered-laid n sized others {l} {u} {l₀} {u₀} {l'} {u'} {r} x p a = go (first_refusal (entry_checks n sized)) refl
  where
    rooms : Rooms l' u'
    rooms = record { low-size = a.low-size ∙ p.rooms.low-size; high-size = a.high-size ∙ p.rooms.high-size }

    go : (c : Checked) → first_refusal (entry_checks n sized) ≡ c → Entered n sized others l u r l' u'
    go (Err k) e =
        rw (a.answered ∙ no-more-checks (entry_checks n sized) (bounds_checks others (order_of n) l₀ u₀) k e)
        (record { answered = sym (no-more-checks (entry_checks n sized) (bounds_checks others (order_of n) l u) k e); rooms = rooms; held = λ s. absurd (false≢true cc) })
    go (Ok tt) e =
        let z = (entry-passed n sized e).1 in
        let h = table_fits (order_small n) in
        let v = over-padded (x z).0 h (p.low z) in
        let w = over-padded (x z).1 h (p.high z) in
        let b = a.answered ∙ more-checks (entry_checks n sized) _ e in
        let vm = mended-padded max_ℤ (order_of n) v (x z).0 in
        let wm = mended-padded min_ℤ (order_of n) w (x z).1 in
        record {
          answered = b ∙ ap first_refusal (checks-padded v w others (order_of n) (x z).0 (x z).1) ∙ sym (more-checks (entry_checks n sized) _ e);
          rooms = rooms;
          held = λ s. rw (a.low s, a.high s) (record {
            tables = record {
              order = order_small n;
              low-length = omega (arith, ap length (sym (a.low s)) ∙ rooms.low-size);
              high-length = omega (arith, ap length (sym (a.high s)) ∙ rooms.high-size);
              bounds = passed-bounds (order_of n) l₀ u₀ (others-passed _ (order_of n) l₀ u₀ (sym b ∙ s));
            };
            low = padded-at vm (order_of n);
            high = padded-at wm (order_of n);
          });
        }

-- ---- what holds where checks 1 to 5 pass
pub record Behind (n : ℤ) (sized others : Bool) (l u : List ℤ) : Type 0 where
  pub ordered : order_ok n ≡ true
  pub sizes : sized ≡ true
  pub within : others ≡ true
  pub checked : first_refusal (bounds_checks others (order_of n) l u) ≡ Ok tt
  pub tables : first_refusal (bounds_checks true (order_of n) l u) ≡ Ok tt

module _ (n : ℤ) (sized others : Bool) (l u : List ℤ) where
  pub behind : first_refusal (door_checks n sized others l u) ≡ Ok tt → Behind n sized others l u
  behind p =
      let first = prefix_passed (entry_checks n sized) (bounds_checks others (order_of n) l u) p in
      let rest = sym (more-checks (entry_checks n sized) (bounds_checks others (order_of n) l u) first) ∙ p in
      record { ordered = (entry-passed n sized first).0; sizes = (entry-passed n sized first).1; within = others-within others (order_of n) l u rest; checked = rest; tables = others-passed others (order_of n) l u rest }

  pub behind-passed : Behind n sized others l u → first_refusal (door_checks n sized others l u) ≡ Ok tt
  behind-passed b = more-checks (entry_checks n sized) (bounds_checks others (order_of n) l u) (entry-passes n b.ordered b.sizes) ∙ b.checked

  pub came-through : {r : Checked} {l' u' : List ℤ} → Entered n sized others l u r l' u' → r ≡ Ok tt → Behind n sized others l u
  came-through e q = behind (sym e.answered ∙ q)

  -- ---- an act behind the door
  module _ {A : Type 0} (refused : Refusal → A) (a : A) where
    module _ {r : Checked} {l' u' : List ℤ} (e : Entered n sized others l u r l' u') where
      pub entered-refused : {k : Refusal} → r ≡ Err k → refused k ≡ entered refused n sized others l u a
      unfolding entered
      entered-refused {k} q = after-refused refused k a (sym e.answered ∙ q)

      pub entered-passed : r ≡ Ok tt → a ≡ entered refused n sized others l u a
      unfolding entered
      entered-passed q = after-passed refused a (sym e.answered ∙ q)

    pub behind-entered : Behind n sized others l u → a ≡ entered refused n sized others l u a
    unfolding entered
    behind-entered b = after-passed refused a (behind-passed b)

    -- a call whose n is no order
    pub no-order : order_of n ≡ 0 → refused Order ≡ entered refused n sized others l u a
    unfolding entered entry_checks
    no-order e = after-refused refused Order a (no-more-checks (entry_checks n sized) (bounds_checks others (order_of n) l u) Order (first-refuses _ _ (order-none n e)))

    -- what holds of each refusal, and of the act behind the door, holds of the whole
    pub entered-means : (P : A → Type 0) → ((r : Refusal) → P (refused r)) → (Behind n sized others l u → P a) → P (entered refused n sized others l u a)
    unfolding entered
    entered-means P f g = after-means refused (first_refusal (door_checks n sized others l u)) a P f (λ q. g (behind q))

-- a call whose n is an order, and whose buffers have other sizes
pub no-sizes : (n : ℤ) (sized others : Bool) (l u : List ℤ) {A : Type 0} (refused : Refusal → A) (a : A) → (order_of n ≡ 0 → ⊥) → sized ≡ false →
    refused Length ≡ entered refused n sized others l u a
unfolding entered entry_checks
no-sizes n sized others l u refused a h e =
    after-refused refused Length a (no-more-checks (entry_checks n sized) (bounds_checks others (order_of n) l u) Length (first_passes _ _ (order-given n h) ∙ first-refuses _ _ e))

-- where the sizes fail, nothing else is asked
pub entered-sized : (n : ℤ) (sized others : Bool) (l u : List ℤ) {r : Checked} {l' u' : List ℤ} → Entered n sized (sized && others) l u r l' u' → Entered n sized others l u r l' u'
unfolding entry_checks first_refusal
entered-sized n true others l u e = e
entered-sized n false others l u e = record { answered = e.answered; rooms = e.rooms; held = e.held }

-- of equal parts
pub entered_by : {n m : ℤ} {sized sized' others others' : Bool} {l u : List ℤ} {r : Checked} {l' u' : List ℤ} → n ≡ m → sized ≡ sized' → others ≡ others' →
    Entered n sized others l u r l' u' → Entered m sized' others' l u r l' u'
entered_by e f g h = rw (← e, ← f, ← g) h
