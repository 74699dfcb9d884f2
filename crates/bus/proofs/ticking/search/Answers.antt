use mathlib.Core.Path.{◌≡◌, refl, sym, ap, ◌∙◌}
use mathlib.Core.Bool.{Bool, true, false, ◌&&◌}
use mathlib.Core.List.{List, ◌++◌}
use Prim.Native.Nat.{ℕ, ◌+◌, ◌*◌, ◌<◌}
use native.Mathlib.Omega.{arith}
use lib.IntN.{ℤ, pos}
use lib.ListN.{take, drop}
use Rattle.tables.specs.Ranges.{greatest_order}
use Rattle.tables.specs.Matrix.{at, nth}
use Rattle.tables.specs.Checks.{first_refusal, table_checks}
use Rattle.tables.specs.Entering.{Over, low_bounds, high_bounds}
use Rattle.tables.specs.Checks.{Checked}
use Rattle.std.specs.Prelude.{Option, Ok, Err, is_err}
use Rattle.tables.proofs.Checks.{and_first_false}
use Rattle.cholesky.specs.Store.{stride}
use Rattle.vectors.specs.Least.{shows}
use Rattle.tried.specs.Tried.{tried, first, listed}
use Rattle.solved.specs.Solved.{solved}
use Rattle.solved.specs.Stopped.{stopped_at}
use Rattle.bus.specs.Area.{low_at, high_at, columns_at, area_of, table_at, columns_to}
use Rattle.bus.specs.Running.{nothing, search as searching, passes, stop_safe, search_safe, search_work}
use Rattle.bus.specs.Running.{settled, search_verdict, listed_shows, worked}
use Rattle.bus.specs.Required.{TablesLoaded}
use Rattle.bus.proofs.Loaded.{loaded-columns, stop_padded, stopped-padded}
use Rattle.bus.proofs.Worked.{safe_stopped, worked-yes, worked-no}
use Rattle.bus.proofs.ticking.search.Goals as goal
use Rattle.bus.proofs.ticking.search.Goals.{After-first_listed}

-- what the code reads of the checks
not_passed : (k : Checked) → is_err k ≡ true → passes k ≡ false
unfolding passes
not_passed (Ok _) e = cc
not_passed (Err r) e = refl

passed : (k : Checked) → is_err k ≡ false → k ≡ Ok tt
passed (Ok _) e = refl
passed (Err r) e = cc

-- the columns that are loaded, and what the test found of them
module _ (s : List ℕ) (n j m : ℕ) {t : List ℤ} (h : j < greatest_order)
    (q : Over (stride * (j + 1)) (take (stride * (j + 1)) (drop columns_at (area_of s))) t) {r : Bool} (e : r ≡ stop_safe t j m) where
  abbrev low : List ℤ
  low = table_at n (area_of s) low_at

  abbrev high : List ℤ
  high = table_at n (area_of s) high_at

  abbrev columns : List ℤ
  columns = columns_to (area_of s) j

  safe : r ≡ stop_safe columns j m
  safe = e ∙ stop_padded (loaded-columns s {j = j} h q) j m

  module _ (b : List ℕ) where
    -- the tables are not asked for
    unsafe : r ≡ false → record { block = b; run = s } ≡ worked b s (search_work (area_of s) n j m)
    unfolding search_work search_safe worked
    unsafe f = worked-no b s (searching n j m) nothing (and_first_false _ (sym safe ∙ f))

    module _ (f : r ≡ true) {l u : List ℤ} {k : Checked} (w : TablesLoaded n low high k l u) where
      asked : search_safe n low high columns j m ≡ passes k
      unfolding search_safe
      asked =
          ap (λ (x : Bool). x && passes (first_refusal (table_checks n low high))) (sym safe ∙ f) ∙ ap passes (sym w.answered)

      -- they are refused
      barred : is_err k ≡ true → record { block = b; run = s } ≡ worked b s (search_work (area_of s) n j m)
      unfolding search_work worked passes
      barred g = worked-no b s (searching n j m) nothing (asked ∙ not_passed k g)

      -- the verdict that is given
      settles : k ≡ Ok tt → (a : Option (List ℤ)) →
          listed n a ≡ first (λ v. shows n (at n l) (at n u) (nth v))
          (tried n ++ (solved n (stopped_at t j m) (pos 1) ++ solved n (stopped_at t j m) (pos 64))) →
          settled (search_verdict (listed n a)) b ≡ worked b s (search_work (area_of s) n j m)
      unfolding search_work worked passes listed_shows
      settles g a y =
          let o = w.held g in
          let i : listed n a ≡ listed_shows n (low_bounds n low) (high_bounds n high) columns j m =
          rw (o.low, o.high, stopped-padded (loaded-columns s {j = j} h q) j m) at y in
          ap (λ x. settled (search_verdict x) b) i ∙ worked-yes b s (searching n j m) nothing (asked ∙ ap passes g)

pub returns-then-not-stop_safe : goal.returns-then-not-stop_safe
returns-then-not-stop_safe c =
    let a = c.args in
    unsafe a.run.now a.n a.j a.m (omega (arith, c.requires.2, c.requires.3)) c.load_part.ensures c.stop_safe.ensures a.block.now
    c.if-not-stop_safe.true

pub returns-then-is_err : goal.returns-then-is_err
returns-then-is_err c =
    let a = c.args in
    barred a.run.now a.n a.j a.m (omega (arith, c.requires.2, c.requires.3)) c.load_part.ensures c.stop_safe.ensures a.block.now
    c.if-not-stop_safe.false c.load_tables.ensures (sym c.is_err.ensures.value ∙ c.if-is_err.true)

pub slice_bounds-bounds-end : goal.slice_bounds-bounds-end
slice_bounds-bounds-end c = sym c.load_tables.ensures.rooms.low-size

pub slice_bounds-bounds-end-2 : goal.slice_bounds-bounds-end-2
slice_bounds-bounds-end-2 c = sym c.load_tables.ensures.rooms.high-size

pub invariant_of-bounds : goal.invariant_of-bounds
invariant_of-bounds c =
    record { checked = (c.load_tables.ensures.held (passed _ (sym c.is_err.ensures.value ∙ c.if-is_err.false))).tables }

pub first_listed-requires : goal.first_listed-requires
first_listed-requires c =
    safe_stopped _ c.args.j c.args.m c.requires.2 c.requires.3 c.requires.4 (sym c.stop_safe.ensures ∙ c.if-not-stop_safe.false)

-- what is settled, by what was found
verdict : (c : After-first_listed) → let a = c.args in
    settled (search_verdict (listed a.n c.first_listed.result)) a.block.now
    ≡ worked a.block.now a.run.now (search_work (area_of a.run.now) a.n a.j a.m)
verdict c =
    let a = c.args in
    settles a.run.now a.n a.j a.m (omega (arith, c.requires.2, c.requires.3)) c.load_part.ensures c.stop_safe.ensures a.block.now
    c.if-not-stop_safe.false c.load_tables.ensures (passed _ (sym c.is_err.ensures.value ∙ c.if-is_err.false)) _ c.first_listed.ensures

pub returns-in-Some : goal.returns-in-Some
unfolding listed search_verdict
returns-in-Some c = c.settle.ensures ∙ (rw c.in-Some.is at (verdict (goal.at.returns-in-Some c).After-first_listed))

pub returns-in-None : goal.returns-in-None
unfolding listed search_verdict
returns-in-None c = c.settle-in-None.ensures ∙ (rw c.in-None.is at (verdict (goal.at.returns-in-None c).After-first_listed))
