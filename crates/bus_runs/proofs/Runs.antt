-- D3.11 of docs/RULES.md: what a start and the operations after it come to, whoever makes them.
use mathlib.Core.Path.{◌≡◌, refl, sym, ap, ◌∙◌, subst}
use mathlib.Core.Bool.{Bool, true, false, false≢true, ◌&&◌, ◌||◌}
use mathlib.Core.List.{List, [], ◌∷◌, ◌++◌}
use mathlib.Core.Option.{Option, none, some}
use Prim.Native.Nat.{ℕ, zero, suc, ◌+◌, ◌*◌, ◌≤◌, ◌<◌}
use native.Mathlib.Omega.{arith}
use lib.Bits.{bit_and}
use lib.Dec.{T, eqb, eqb→eq}
use lib.IntN.{ℤ, pos, negsuc}
use lib.Signed.{le_z, lt_z}
use lib.ListN.{length, get_or-replicate}
use mir.Syntax.{w64}
use Rattle.integers.specs.Numbers.{min_ℤ, max_ℤ}
use Rattle.integers.proofs.Parts.{choice_by}
use Rattle.words.proofs.Laws.{length-numbers_of}
use Rattle.tables.specs.Matrix.{Matrix, nth}
use Rattle.tables.specs.Mending.{mended_low, mended_high}
use Rattle.tables.specs.Checks.{order_of, first_refusal}
use Rattle.tables.specs.Entering.{low_bounds, high_bounds, door_checks, entered}
use Rattle.tables.specs.Refusals.{refusal_number}
use Rattle.tables.specs.declared.Refusal.{Refusal}
use Rattle.tables.specs.Checks.{Checked}
use Rattle.std.specs.Prelude.{Ok, Err}
use Rattle.tables.specs.declared.Refusal.TheVariants.{Order, Length, Range, Crossed, Lopsided, Factor, Vector, Flat}
use Rattle.tables.specs.declared.Refusal.TheVariants.{Far, Cut, Tag, Again, Absent, Size, Long, Reversed, Sample, Full, Falling, Busy}
use Rattle.tables.proofs.Checks.{mended-passed}
use Rattle.tables.proofs.Answers.{after-refused, after-passed}
use Rattle.tables.proofs.Admission.{behind, order_small, order-positive}
use Rattle.tables.proofs.MendedTables.{greater_pairing, smaller_pairing, mended-length, mended_twice}
use Rattle.cholesky.specs.Factoring.{factored}
use Rattle.vectors.specs.Least.{shows}
use Rattle.tried.specs.Tried.{first}
use Rattle.verdict.specs.Judge.{Judgement, definite, not_definite, undecided, refused, judged, listed, shown_by, judging}
use Rattle.verdict.proofs.Decisions.{judged-ends, judged_stops}
use Rattle.buffers.specs.Buffers.{table_of}
use Rattle.bus.specs.Registers as Registers
use Rattle.bus.specs.Registers.{block_bytes, command, start_command, reset_command, order, busy, done, all_bits, register, reset_value}
use Rattle.bus.specs.Registers.{reset_block}
use Rattle.bus.specs.Registers.{writable, is_busy}
use Rattle.bus.specs.Area.{area_bytes, blank_bytes, begun_area}
use Rattle.bus.specs.Running.{Bus, settled}
use Rattle.bus.specs.Bus as Acts
use Rattle.bus.specs.Bus.{Moved, written, written_at, commanded, start, started, tables_sized, refused_start, begun_start, ticked}
use Rattle.bus.specs.Bus.{reset_bus}
use Rattle.bus_runs.specs.Operations.{Operation, write, tick, read, look, Sized, applied, after, starts, resets}
use Rattle.bus_runs.specs.Operations.{commands, is_start, is_reset, any_reset, any_command, counted, ticks}
use Rattle.bus_runs.specs.Runs.{verdict_number, Shows, Flagged, judgement, StartMeaning}
use Rattle.bus_runs.proofs.Blocks.{SizedBlock, sized_set, started-sized, started-shows, started-flagged, refused-shows, refused-flagged}
use Rattle.bus_runs.proofs.Blocks.{shows_block, shows-busy, settled-shows, settled-flagged, Bytes, put-shows}
use Rattle.bus_runs.proofs.Sizes.{area-size, block_sized, write-act, write_works, tick_works, sizes-kept, sizes-kept-after}
use Rattle.bus_runs.proofs.RunArea.{Tables}
use Rattle.bus_runs.proofs.Begun.{begun}
use Rattle.bus_runs.proofs.Ticks.{Phase, Next, goes, settles, last_tick, verdict, phase_next, phase_early, last-soon}

-- ---- one list after another
after-append : (os ps : List Operation) (s : Bus) → after (os ++ ps) s ≡ after ps (after os s)
unfolding after
after-append [] ps s = refl
after-append (o ∷ os) ps s = after-append os ps (applied o s)

-- ---- a reset, whatever was there and whatever is lent with it
pub reset_answers : (s : Bus) (l u : List ℕ) → Sized s →
    Acts.write s.block s.run (pos command) reset_command l u ≡ record { answer = Ok tt; bus = reset_bus }
unfolding written written_at commanded writable
reset_answers s l u z = write-act z (pos command) reset_command l u

pub reset_means : (os : List Operation) (s : Bus) (l u : List ℕ) → Sized s → after (os ++ (resets l u ∷ [])) s ≡ reset_bus
unfolding after applied
reset_means os s l u z =
    after-append os (resets l u ∷ []) s ∙ ap (λ (m : Moved). m.bus) (reset_answers (after os s) l u (sizes-kept-after os s z))

pub reset_registers : (k : ℕ) → k < block_bytes → register reset_bus.block k ≡ reset_value k
unfolding reset_bus reset_block reset_value
reset_registers k h = get_or-replicate block_bytes k 0 0 h

-- ---- a start, by whether busy is up
module _ (s : Bus) (l u : List ℕ) where
  start-written : written s (pos command) start_command l u ≡ start s l u
  unfolding written written_at commanded writable
  start-written = refl

  start_idle : is_busy s.block ≡ false → start s l u ≡ record { answer = Ok tt; bus = started s.block l u }
  unfolding start
  start_idle e = rw (start, e) refl

  start-busy : is_busy s.block ≡ true → start s l u ≡ record { answer = Err Busy; bus = s }
  unfolding start
  start-busy e = rw (start, e) refl

  -- the same of the act, on any bus that has its sizes
  pub start-answers : Sized s → is_busy s.block ≡ false →
      Acts.write s.block s.run (pos command) start_command l u ≡ record { answer = Ok tt; bus = started s.block l u }
  start-answers z e = write-act z (pos command) start_command l u ∙ start-written ∙ start_idle e

  pub busy-answers : Sized s → is_busy s.block ≡ true →
      Acts.write s.block s.run (pos command) start_command l u ≡ record { answer = Err Busy; bus = s }
  busy-answers z e = write-act z (pos command) start_command l u ∙ start-written ∙ start-busy e

-- ---- a write but a reset, and a start where it does, keeps the run, and status x, refusal number y and verdict w
record Kept (x y w : ℕ) (s s' : Bus) : Type 0 where
  sized : SizedBlock s'.block
  shows : Shows s' x y w
  run : s'.run ≡ s.run

module _ {x y w : ℕ} (a : Bytes x y w) {s : Bus} (z : SizedBlock s.block) (h : Shows s x y w) where
  kept_self : Kept x y w s s
  kept_self = record { sized = z; shows = h; run = refl }

  command-kept : (c : ℕ) (l u : List ℕ) → (T (eqb c start_command) → Kept x y w s (start s l u).bus) → eqb c reset_command ≡ false →
      Kept x y w s (commanded s c l u).bus
  unfolding commanded
  command-kept c l u f e =
      choice_by (λ (m : Moved). Kept x y w s m.bus) (eqb c start_command) f
      (λ t. choice_by (Kept x y w s) (eqb c reset_command) (λ r. absurd (subst T e r)) (λ r. kept_self))

  write_kept : (k : ℤ) (v : ℕ) (l u : List ℕ) → (T (is_start (write k v l u)) → Kept x y w s (start s l u).bus) →
      is_reset (write k v l u) ≡ false →
      Kept x y w s (written s k v l u).bus
  unfolding written written_at commands
  write_kept (pos zero) v l u f e = command-kept (bit_and v (writable command)) l u f e
  write_kept (pos (suc k)) v l u f e =
      choice_by (λ (m : Moved). Kept x y w s m.bus) (le_z (pos 0) (pos (suc k)) && lt_z (pos (suc k)) (pos block_bytes))
      (λ t. choice_by (λ (m : Moved). Kept x y w s m.bus) (eqb (suc k) command) (λ r. absurd (omega (arith, eqb→eq (suc k) command r)))
      (λ r. record { sized = sized_set z (suc k) _; shows = put-shows a z h (suc k) v s.run; run = refl }))
      (λ t. kept_self)
  write_kept (negsuc k) v l u f e = kept_self

busy_bytes : Bytes busy 0 0
busy_bytes = record { status_byte = refl; number_byte = refl; verdict_byte = refl }

-- neither of two
or_left : (a b : Bool) → (a || b) ≡ false → a ≡ false
or_left true b e = e
or_left false b e = refl

or_right : (a b : Bool) → (a || b) ≡ false → b ≡ false
or_right true b e = absurd (false≢true (sym e))
or_right false b e = e

-- ---- while busy is not up, all but a start and a reset keeps them
module _ {x y w : ℕ} (a : Bytes x y w) (idle : eqb (bit_and x busy) busy ≡ false) where
  tick_idle : {s : Bus} → Shows s x y w → ticked s ≡ s
  unfolding ticked is_busy
  tick_idle {s} h = let e : is_busy s.block ≡ false = rw h.status_is idle in rw (ticked, e) refl

  stay : (o : Operation) → is_start o ≡ false → is_reset o ≡ false → {s : Bus} → Sized s → Shows s x y w → Shows (applied o s) x y w
  unfolding applied
  stay (write k v l u) p q z h =
      rw (write_works z k v l u) (write_kept a (block_sized z) h k v l u (λ t. absurd (subst T p t)) q).shows
  stay tick p q z h = rw (tick_works z, tick_idle h) h
  stay (read k) p q z h = h
  stay look p q z h = h

  stay_on : (os : List Operation) → any_command os ≡ false → {s : Bus} → Sized s → Shows s x y w → Shows (after os s) x y w
  unfolding after any_command
  stay_on [] e z h = h
  stay_on (o ∷ os) e {s} z h =
      let c = or_left (is_start o || is_reset o) (any_command os) e in
      stay_on os (or_right (is_start o || is_reset o) (any_command os) e) (sizes-kept o s z)
      (stay o (or_left (is_start o) (is_reset o) c) (or_right (is_start o) (is_reset o) c) z h)

-- ---- a run on the mended tables l and u of order n, after k ticks
module _ (n : ℕ) (l u : List ℤ) (a : Tables n l u) where
  pub record Running (k : ℕ) (s : Bus) : Type 0 where
    pub sized : SizedBlock s.block
    pub shows : Shows s busy 0 0
    pub area : List ℤ
    pub run : s.run ≡ area_bytes area
    pub phase : Phase n l u k area

  running-sized : {k : ℕ} {s : Bus} → Running k s → Sized s
  running-sized g = record { block_size = g.sized.size; run_size = ap length g.run ∙ area-size g.area }

  running-kept : {k : ℕ} {s s' : Bus} → Running k s → Kept busy 0 0 s s' → Running k s'
  running-kept g e = record { sized = e.sized; shows = e.shows; area = g.area; run = e.run ∙ g.run; phase = g.phase }

  -- a tick: it goes on before the last one, which gives the verdict
  running-next : {k : ℕ} {s : Bus} → Running k s → Next n l u s.block k (ticked s)
  unfolding ticked
  running-next {k} {s} g = rw (ticked, shows-busy g.sized g.shows) (rw g.run (phase_next n l u a s.block g.phase))

  tick_goes : {k : ℕ} {s : Bus} → Running k s → suc k < last_tick n l u → Running (suc k) (ticked s)
  tick_goes {k} {s} g h = go (running-next g)
    where
      go : Next n l u s.block k (ticked s) → Running (suc k) (ticked s)
      go (goes r p e) = rw e (record { sized = g.sized; shows = shows_block g.shows (area_bytes r); area = r; run = refl; phase = p })
      go (settles e q) = absurd (omega arith)

  tick-settles : {k : ℕ} {s : Bus} → Running k s → suc k ≡ last_tick n l u → applied tick s ≡ settled (verdict n l u) s.block
  tick-settles {k} {s} g h = tick_works (running-sized g) ∙ go (running-next g)
    where
      go : Next n l u s.block k (ticked s) → ticked s ≡ settled (verdict n l u) s.block
      go (goes r p e) = absurd (omega (arith, phase_early n l u a p))
      go (settles e q) = q

  last-shows : {k : ℕ} {s : Bus} → Running k s → suc k ≡ last_tick n l u → Shows (applied tick s) done 0 (verdict n l u)
  unfolding settled
  last-shows g h = rw (tick-settles g h) (settled-shows g.sized g.shows (verdict n l u) blank_bytes)

  last-flagged : {k : ℕ} {s : Bus} → Running k s → suc k ≡ last_tick n l u → Flagged s (applied tick s) done
  unfolding settled
  last-flagged g h = rw (tick-settles g h) (settled-flagged g.sized g.shows (verdict n l u) blank_bytes)

  -- a list of operations
  run_on : (os : List Operation) → any_reset os ≡ false → {k : ℕ} {s : Bus} (m : ℕ) → Running k s → m ≡ k + ticks os → m < last_tick n l u →
      Running m (after os s)
  unfolding after applied any_reset commands ticks counted
  run_on [] e {k} {s} m g q h = let i : k ≡ m = omega arith in subst (λ (j : ℕ). Running j s) i g
  run_on (write k v x y ∷ os) e {s = s} m g q h =
      let o = is_reset (write k v x y) in
      let z = g.sized in
      let kept =
      write_kept busy_bytes z g.shows k v x y (λ t. rw (start-busy s x y (shows-busy z g.shows)) (kept_self busy_bytes z g.shows))
      (or_left o _ e) in
      rw (write_works (running-sized g) k v x y) (run_on os (or_right o _ e) m (running-kept g kept) q h)
  run_on (tick ∷ os) e m g q h = rw (tick_works (running-sized g)) (run_on os e m (tick_goes g (omega arith)) (omega arith) h)
  run_on (read k ∷ os) e m g q h = run_on os e m g q h
  run_on (look ∷ os) e m g q h = run_on os e m g q h

-- ---- what a start comes to are bytes
refusal_byte : (r : Refusal) → bit_and (refusal_number r) all_bits ≡ refusal_number r
refusal_byte Order = refl
refusal_byte Length = refl
refusal_byte Range = refl
refusal_byte Crossed = refl
refusal_byte Lopsided = refl
refusal_byte Factor = refl
refusal_byte Vector = refl
refusal_byte Flat = refl
refusal_byte Far = refl
refusal_byte Cut = refl
refusal_byte Tag = refl
refusal_byte Again = refl
refusal_byte Absent = refl
refusal_byte Size = refl
refusal_byte Long = refl
refusal_byte Reversed = refl
refusal_byte Sample = refl
refusal_byte Full = refl
refusal_byte Falling = refl
refusal_byte Busy = refl

refused_bytes : (r : Refusal) → Bytes Registers.refused (refusal_number r) 0
refused_bytes r = record { status_byte = refl; number_byte = refusal_byte r; verdict_byte = refl }

judgement_byte : (j : Judgement) → bit_and (verdict_number j) all_bits ≡ verdict_number j
unfolding verdict_number
judgement_byte (definite t w) = refl
judgement_byte (not_definite x) = refl
judgement_byte undecided = refl
judgement_byte (refused r) = refl

done_bytes : (j : Judgement) → Bytes done 0 (verdict_number j)
done_bytes j = record { status_byte = refl; number_byte = refl; verdict_byte = judgement_byte j }

-- ---- a start on a bus that is not busy
-- the judge's verdict on bounds is no refusal
judged-given : (n : ℕ) (L U : Matrix) (r : Refusal) → judged n L U ≡ refused r → ⊥
unfolding verdict_number
judged-given n L U r e = go (factored n L U).ends refl
  where
    shown : (o : Option (List ℤ)) → verdict_number (shown_by o) ≡ 0 → ⊥
    shown (some x) q = omega arith
    shown none q = omega arith

    go : (b : Bool) → (factored n L U).ends ≡ b → ⊥
    go true q = let z : ◌≡◌ {A = ℕ} 1 0 = ap verdict_number (sym (judged-ends n L U q) ∙ e) in omega arith
    go false q = shown (first (λ x. shows n L U (nth x)) (listed n L U)) (ap verdict_number (sym (judged_stops n L U q) ∙ e))

module _ (s : Bus) (l u : List ℕ) (sizes : Sized s) (idle : is_busy s.block ≡ false) where
  abbrev n : ℤ
  n = pos (register s.block order)

  abbrev k : ℕ
  k = order_of n

  abbrev low : List ℤ
  low = mended_low k (table_of k l)

  abbrev high : List ℤ
  high = mended_high k (table_of k u)

  abbrev door : Checked
  door = first_refusal (door_checks n (tables_sized k l u) true (table_of k l) (table_of k u))

  sized : SizedBlock s.block
  sized = block_sized sizes

  starts_as : applied (starts l u) s ≡ started s.block l u
  unfolding applied
  starts_as = ap (λ (m : Moved). m.bus) (start-answers s l u sizes idle)

  -- refused
  module _ (r : Refusal) (e : door ≡ Err r) where
    refused-judgement : judgement s l u ≡ refused r
    unfolding judging entered
    refused-judgement = sym (after-refused refused r _ e)

    refused-start : started s.block l u ≡ refused_start s.block r
    unfolding started entered
    refused-start = sym (after-refused (refused_start s.block) r _ e)

    start-refused : applied (starts l u) s ≡ refused_start s.block r
    start-refused = starts_as ∙ refused-start

  -- let through
  module _ (e : door ≡ Ok tt) where
    passed-judgement : judgement s l u ≡ judged k (low_bounds k (table_of k l)) (high_bounds k (table_of k u))
    unfolding judging entered
    passed-judgement = sym (after-passed refused _ e)

    passed_start : started s.block l u ≡ begun_start s.block k l u
    unfolding started entered
    passed_start = sym (after-passed (refused_start s.block) _ e)

    tables : Tables k low high
    tables =
        let b = behind n (tables_sized k l u) true (table_of k l) (table_of k u) e in
        let p = length-numbers_of w64 l (k * k) in
        let q = length-numbers_of w64 u (k * k) in
        let p' : k * k ≤ length (table_of k l) = omega (arith, p) in
        let q' : k * k ≤ length (table_of k u) = omega (arith, q) in
        record {
          order = order_small n;
          some = order-positive n b.ordered;
          low = mended-length max_ℤ k (table_of k l) p' ∙ p;
          high = mended-length min_ℤ k (table_of k u) q' ∙ q;
          low-mended = mended_twice max_ℤ k greater_pairing (table_of k l) p';
          high-mended = mended_twice min_ℤ k smaller_pairing (table_of k u) q';
          checked = mended-passed k (table_of k l) (table_of k u) p' q' b.tables;
        }

    running : Running k low high tables 0 (applied (starts l u) s)
    unfolding begun_start
    running =
        rw (starts_as, passed_start) (record {
          sized = started-sized sized;
          shows = started-shows sized (area_bytes (begun_area k low high));
          area = begun_area k low high;
          run = refl;
          phase = begun k low high tables;
        })

  answered : (Acts.write s.block s.run (pos command) start_command l u).answer ≡ Ok tt
  answered = ap (λ (m : Moved). m.answer) (start-answers s l u sizes idle)

  pub start-means : StartMeaning s l u
  unfolding after refused_start begun_start
  start-means = go door refl
    where
      go : (c : Checked) → door ≡ c → StartMeaning s l u
      go (Err r) e =
          let q = refused-judgement r e in
          let only : (i : Refusal) → judgement s l u ≡ refused i → r ≡ i = λ i f. let same : refused r ≡ refused i = sym q ∙ f in cc in
          let shown : Shows (applied (starts l u) s) Registers.refused (refusal_number r) 0 =
          rw (start-refused r e) (refused-shows sized (refusal_number r) blank_bytes) in
          record {
            answers = answered;
            refuses = λ i f. rw (← only i f) shown;
            flagged-refused = λ i f. rw (start-refused r e) (refused-flagged sized (refusal_number r) s.run blank_bytes);
            stays-refused = λ i f ps g. rw (← only i f) (stay_on (refused_bytes r) refl ps g (sizes-kept (starts l u) s sizes) shown);
            flagged-start = λ f. absurd (f r q);
            runs = λ f. absurd (f r q);
            busy-start = λ f. absurd (f r q);
            settles = λ f. absurd (f r q);
            flagged = λ f. absurd (f r q);
            stays = λ f. absurd (f r q);
            soon = λ f. absurd (f r q);
          }
      go (Ok tt) e =
          let a = tables e in
          let on : (os : List Operation) → any_reset os ≡ false → ticks os < last_tick k low high →
          Running k low high a (ticks os) (after os (applied (starts l u) s)) =
          λ os g h. run_on k low high a os g (ticks os) (running e) (omega arith) h in
          let b = applied (starts l u) s in
          let none : (i : Refusal) → judgement s l u ≡ refused i → ⊥ = λ i f. judged-given k _ _ i (sym (passed-judgement e) ∙ f) in
          record {
            answers = answered;
            refuses = λ i f. absurd (none i f);
            flagged-refused = λ i f. absurd (none i f);
            stays-refused = λ i f. absurd (none i f);
            flagged-start = λ f. rw (starts_as, passed_start e) (started-flagged sized s.run (area_bytes (begun_area k low high)));
            runs = λ f os g h. (on os g h).shows;
            busy-start = λ f os g h x y.
                busy-answers _ x y (running-sized k low high a (on os g h)) (shows-busy (on os g h).sized (on os g h).shows);
            settles = λ f os g h.
                rw (after-append os (tick ∷ []) b, passed-judgement e) (last-shows k low high a (on os g (omega arith)) h);
            flagged = λ f os g h. rw (after-append os (tick ∷ []) b) (last-flagged k low high a (on os g (omega arith)) h);
            stays = λ f os g h ps p.
                let r = on os g (omega arith) in
                rw (after-append os (tick ∷ ps) b, passed-judgement e)
                (stay_on (done_bytes _) refl ps p (sizes-kept tick (after os b) (running-sized k low high a r))
                (last-shows k low high a r h));
            soon = λ f. last-soon k low high a;
          }
