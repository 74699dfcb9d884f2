-- What start, tick and the writes between them leave in status, refusal number, verdict and flags.
use mathlib.Core.Path.{◌≡◌, refl, ap, ap₂, ◌∙◌}
use mathlib.Core.Logic.{◌≢◌, by_cases}
use mathlib.Core.Bool.{true, false}
use mathlib.Core.List.{List}
use Prim.Native.Nat.{ℕ, zero, suc, ◌-◌, ◌/◌, ◌%◌, ◌≤◌, ◌<◌, max}
use native.Mathlib.Omega.{arith}
use native.Mathlib.Decide.{ℕ_discrete}
use lib.Bits.{bit_and, bit_or, and_zero_r, or_zero_r, and_step, or_step}
use lib.Dec.{eqb}
use lib.ListN.{length, set, length-set}
use lib.Seq.{get_or-set_same, get_or-set_other}
use Rattle.bus.specs.Registers.{block_bytes, status, number, verdict, flags, busy, done, refused, all_bits, register, writable, put}
use Rattle.bus.specs.Registers.{is_busy, raised, cleared, started_block, refused_block, settled_block}
use Rattle.bus.specs.Running.{Bus}
use Rattle.bus_runs.specs.Runs.{Shows, Flagged}

-- a block of 32 registers
pub record SizedBlock (b : List ℕ) : Type 0 where
  pub size : length b ≡ block_bytes

-- ---- one register is set
module _ {b : List ℕ} (z : SizedBlock b) (i v : ℕ) where
  pub sized_set : SizedBlock (set b i v)
  sized_set = record { size = length-set b i v ∙ z.size }

  set_same : i < block_bytes → register (set b i v) i ≡ v
  set_same h = get_or-set_same b i v 0 (omega (arith, z.size))

  set_other : (k : ℕ) → k ≢ i → register (set b i v) k ≡ register b k
  set_other k h = get_or-set_other b i k v 0 h

-- ---- a bit of the status rises
module _ (k : ℕ) {b : List ℕ} (z : SizedBlock b) where
  abbrev s : ℕ
  s = bit_or (register b status) k

  sized-raised : SizedBlock (raised k b)
  unfolding raised
  sized-raised = sized_set (sized_set z status _) flags _

  raised-status : register (raised k b) status ≡ s
  unfolding raised
  raised-status = set_other (sized_set z status s) flags _ status (omega arith) ∙ set_same z status s (omega arith)

  raised_other : (i : ℕ) → i ≢ status → i ≢ flags → register (raised k b) i ≡ register b i
  unfolding raised
  raised_other i p q = set_other (sized_set z status s) flags _ i q ∙ set_other z status s i p

  raised-flags : register (raised k b) flags ≡ bit_or (register b flags) (bit_and k (all_bits - register b status))
  unfolding raised
  raised-flags = set_same (sized_set z status s) flags _ (omega arith)

-- ---- a bit that was put in is up
bit_in : (m x y : ℕ) → y ≤ m → bit_and (bit_or x y) y ≡ y
bit_in zero x y h = let e : y ≡ 0 = omega arith in rw e (and_zero_r (bit_or x 0))
bit_in (suc m) x y h =
    let q = or_step x y in
    let half : bit_or x y / 2 ≡ bit_or (x / 2) (y / 2) = omega arith in
    let odd : bit_or x y % 2 ≡ max (x % 2) (y % 2) = omega arith in
    let a = bit_in m (x / 2) (y / 2) (omega arith) in
    let b : bit_and (bit_or x y / 2) (y / 2) ≡ y / 2 = rw half a in
    omega (arith, and_step (bit_or x y) y)

module _ {s s' : Bus} (bit : ℕ) (e : register s'.block flags ≡ bit_or (register s.block flags) bit) where
  flagged : Flagged s s' bit
  flagged = record { up = rw e (bit_in bit (register s.block flags) bit (omega arith)); others = e }

-- ---- start
module _ {b : List ℕ} (z : SizedBlock b) where
  sized-cleared : SizedBlock (cleared b)
  unfolding cleared
  sized-cleared = sized_set (sized_set (sized_set z status 0) number 0) verdict 0

  cleared-shows : (r : List ℕ) → Shows (record { block = cleared b; run = r }) 0 0 0
  unfolding cleared
  cleared-shows r =
      let z₁ = sized_set z status 0 in
      let z₂ = sized_set z₁ number 0 in
      record {
        status_is =
            set_other z₂ verdict 0 status (omega arith) ∙ set_other z₁ number 0 status (omega arith) ∙ set_same z status 0 (omega arith);
        number_is = set_other z₂ verdict 0 number (omega arith) ∙ set_same z₁ number 0 (omega arith);
        verdict_is = set_same z₂ verdict 0 (omega arith);
      }

  cleared-flags : register (cleared b) flags ≡ register b flags
  unfolding cleared
  cleared-flags =
      let z₁ = sized_set z status 0 in
      set_other (sized_set z₁ number 0) verdict 0 flags (omega arith) ∙ set_other z₁ number 0 flags (omega arith)
      ∙ set_other z status 0 flags (omega arith)

  pub started-sized : SizedBlock (started_block b)
  unfolding started_block
  started-sized = sized-raised busy sized-cleared

  pub started-shows : (r : List ℕ) → Shows (record { block = started_block b; run = r }) busy 0 0
  unfolding started_block
  started-shows r =
      let c = cleared-shows r in
      record {
        status_is = raised-status busy sized-cleared ∙ ap (λ (x : ℕ). bit_or x busy) c.status_is;
        number_is = raised_other busy sized-cleared number (omega arith) (omega arith) ∙ c.number_is;
        verdict_is = raised_other busy sized-cleared verdict (omega arith) (omega arith) ∙ c.verdict_is;
      }

  pub started-flagged : (q r : List ℕ) → Flagged (record { block = b; run = q }) (record { block = started_block b; run = r }) busy
  unfolding started_block
  started-flagged q r =
      flagged busy (raised-flags busy sized-cleared
      ∙ ap₂ (λ (f x : ℕ). bit_or f (bit_and busy (all_bits - x))) cleared-flags (cleared-shows r).status_is)

  pub refused-sized : (m : ℕ) → SizedBlock (refused_block m b)
  unfolding refused_block
  refused-sized m = sized-raised refused (sized_set sized-cleared number m)

  pub settled-sized : (v : ℕ) → SizedBlock (settled_block v b)
  unfolding settled_block
  settled-sized v = sized-raised done (sized_set (sized_set z verdict v) status _)

  pub refused-shows : (m : ℕ) (r : List ℕ) → Shows (record { block = refused_block m b; run = r }) refused m 0
  unfolding refused_block
  refused-shows m r =
      let c = cleared-shows r in
      let z₀ = sized-cleared in
      let z₁ = sized_set z₀ number m in
      record {
        status_is = raised-status refused z₁ ∙ ap (λ (x : ℕ). bit_or x refused) (set_other z₀ number m status (omega arith) ∙ c.status_is);
        number_is = raised_other refused z₁ number (omega arith) (omega arith) ∙ set_same z₀ number m (omega arith);
        verdict_is =
            raised_other refused z₁ verdict (omega arith) (omega arith) ∙ set_other z₀ number m verdict (omega arith) ∙ c.verdict_is;
      }

  pub refused-flagged : (m : ℕ) (q r : List ℕ) →
      Flagged (record { block = b; run = q }) (record { block = refused_block m b; run = r }) refused
  unfolding refused_block
  refused-flagged m q r =
      let z₀ = sized-cleared in
      flagged refused (raised-flags refused (sized_set z₀ number m)
      ∙ ap₂ (λ (f x : ℕ). bit_or f (bit_and refused (all_bits - x))) (set_other z₀ number m flags (omega arith) ∙ cleared-flags)
      (set_other z₀ number m status (omega arith) ∙ (cleared-shows r).status_is))

-- ---- the run area shows nothing
pub shows_block : {s : Bus} {x y v : ℕ} → Shows s x y v → (r : List ℕ) → Shows (record { block = s.block; run = r }) x y v
shows_block h r = record { status_is = h.status_is; number_is = h.number_is; verdict_is = h.verdict_is }

-- ---- while busy alone is up
module _ {s : Bus} (z : SizedBlock s.block) (h : Shows s busy 0 0) where
  pub shows-busy : is_busy s.block ≡ true
  unfolding is_busy
  shows-busy = rw h.status_is refl

  pub settled-shows : (v : ℕ) (r : List ℕ) → Shows (record { block = settled_block v s.block; run = r }) done 0 v
  unfolding settled_block
  settled-shows v r =
      let x = bit_and (register s.block status) (all_bits - busy) in
      let z₁ = sized_set z verdict v in
      let z₂ = sized_set z₁ status x in
      record {
        status_is =
            raised-status done z₂ ∙ ap (λ (y : ℕ). bit_or y done) (set_same z₁ status x (omega arith))
            ∙ ap (λ (y : ℕ). bit_or (bit_and y (all_bits - busy)) done) h.status_is;
        number_is =
            raised_other done z₂ number (omega arith) (omega arith) ∙ set_other z₁ status x number (omega arith)
            ∙ set_other z verdict v number (omega arith) ∙ h.number_is;
        verdict_is =
            raised_other done z₂ verdict (omega arith) (omega arith) ∙ set_other z₁ status x verdict (omega arith)
            ∙ set_same z verdict v (omega arith);
      }

  pub settled-flagged : (v : ℕ) (r : List ℕ) → Flagged s (record { block = settled_block v s.block; run = r }) done
  unfolding settled_block
  settled-flagged v r =
      let x = bit_and (register s.block status) (all_bits - busy) in
      let z₁ = sized_set z verdict v in
      flagged done (raised-flags done (sized_set z₁ status x)
      ∙ ap₂ (λ (f y : ℕ). bit_or f (bit_and done (all_bits - y)))
      (set_other z₁ status x flags (omega arith) ∙ set_other z verdict v flags (omega arith))
      (set_same z₁ status x (omega arith) ∙ ap (λ (y : ℕ). bit_and y (all_bits - busy)) h.status_is))

-- ---- a write to a register that has no writable bits
put-none : (k x v : ℕ) → writable k ≡ 0 → eqb k flags ≡ false → bit_and x all_bits ≡ x → put k x v ≡ x
unfolding put
put-none k x v e f g = rw (put, f, e, and_zero_r v, g, or_zero_r x) refl

-- leaves it, and one to another too
put_keeps : {b : List ℕ} → SizedBlock b → (i x k v : ℕ) → register b i ≡ x → i < block_bytes → writable i ≡ 0 → eqb i flags ≡ false →
    bit_and x all_bits ≡ x →
    register (set b k (put k (register b k) v)) i ≡ x
put_keeps z i x k v e h w f g =
    by_cases (ℕ_discrete i k) (λ q. rw (← q, e) (set_same z i (put i x v) h ∙ put-none i x v w f g)) (λ q. set_other z k _ i q ∙ e)

-- the three are bytes
pub record Bytes (x y w : ℕ) : Type 0 where
  pub status_byte : bit_and x all_bits ≡ x
  pub number_byte : bit_and y all_bits ≡ y
  pub verdict_byte : bit_and w all_bits ≡ w

pub put-shows : {x y w : ℕ} → Bytes x y w → {s : Bus} → SizedBlock s.block → Shows s x y w → (k v : ℕ) (r : List ℕ) →
    Shows (record { block = set s.block k (put k (register s.block k) v); run = r }) x y w
unfolding writable
put-shows {x} {y} {w} a z h k v r =
    record {
      status_is = put_keeps z status x k v h.status_is (omega arith) refl refl a.status_byte;
      number_is = put_keeps z number y k v h.number_is (omega arith) refl refl a.number_byte;
      verdict_is = put_keeps z verdict w k v h.verdict_is (omega arith) refl refl a.verdict_byte;
    }
