-- R28.9 and R28.10 of docs/RULES.md: what stands in the run area of a run on mended tables before each tick, that the tick does what is
-- next, and what it leaves.
use mathlib.Core.Path.{◌≡◌, refl, sym, ap, ap₂, ◌∙◌, subst}
use mathlib.Core.Bool.{Bool, true, false, ◌&&◌}
use mathlib.Core.Logic.{◌≢◌, by_cases}
use mathlib.Core.List.{List, [], ◌∷◌, ◌++◌}
use mathlib.Core.Option.{Option, none, some}
use Prim.Native.Nat.{ℕ, zero, suc, ◌*◌, ◌-◌, ◌≤◌, ◌<◌}
use native.Mathlib.Omega.{arith}
use native.Mathlib.Decide.{ℕ_discrete}
use borrow.Author.Tests.{eq-eqb, ne_eqb, lt-ltb, le-leb}
use lib.IntN.{ℤ, pos}
use lib.Signed.{◌≤ℤ◌, le_z, lt_z}
use lib.ListN.{length, take, set}
use lib.Seq.{get_or-append_seam}
use mir.Syntax.{w64}
use mir.Val.{SFits}
use Rattle.integers.specs.Numbers.{Within}
use Rattle.integers.proofs.Parts.{le_z_true}
use Rattle.integers.proofs.Machine.{fits_within}
use Rattle.words.proofs.Laws.{AllFit}
use Rattle.tables.specs.Ranges.{greatest_order, table_room}
use Rattle.tables.specs.Matrix.{Matrix, at, nth}
use Rattle.tables.specs.Bounds.{Bounds}
use Rattle.tables.specs.Checks.{order_ok, order_of}
use Rattle.tables.proofs.Checks.{of_true, and_of, all_of, within_true}
use Rattle.tables.proofs.Admission.{order-known}
use Rattle.cholesky.specs.Scale.{scaled}
use Rattle.cholesky.specs.Factoring.{Column, Factoring, next_column, columns_from, factored}
use Rattle.cholesky.specs.Store.{stride, upper, column_of, columns_of}
use Rattle.cholesky.specs.Rows.{product_range}
use Rattle.cholesky.proofs.Lists.{length_snoc}
use Rattle.cholesky.proofs.Loops.{columns_by, columns_on, columns_stop}
use Rattle.cholesky.proofs.Columns.{Done, column_step}
use Rattle.cholesky.proofs.Extensional.{column_ext}
use Rattle.cholesky.proofs.Filling.{bounds_off, bounds_top}
use Rattle.cholesky.proofs.Store.{length-column_of, length-columns_of, columns_of_suc, columns_of_ext, entries-columns_of, nth-column_of}
use Rattle.vectors.specs.Least.{shows}
use Rattle.tried.specs.Tried.{tried, first}
use Rattle.solved.specs.Stopped.{stopped_at, stop_range}
use Rattle.solved.specs.Solved.{solved}
use Rattle.solved.proofs.Stops.{Stop, bounds_stop, done-small}
use Rattle.verdict.specs.Judge.{shown_by, judged, listed}
use Rattle.verdict.proofs.Decisions.{judged-ends, judged_stops}
use Rattle.bus.specs.Area.{column_at, stop_at, low_at, high_at, table_at, area_of, area_bytes, columns_to, laid_over, laid_column}
use Rattle.bus.specs.Running.{Bus, column, search, work_of, work_at, column_work, search_work, factor_columns, column_safe, passes}
use Rattle.bus.specs.Running.{stop_safe, search_safe}
use Rattle.bus.specs.Running.{settled, search_verdict, column_taken, listed_shows, worked}
use Rattle.bus.proofs.Areas.{laid_fit}
use Rattle.bus_runs.specs.Runs.{verdict_number, settling_tick}
use Rattle.bus_runs.proofs.RunArea.{Tables, tables-bounds, fits_list, area, front, area-low, area-high, area-columns, area-laid, area-kept}
use Rattle.bus_runs.proofs.RunArea.{column_is, upper-front, upper-laid, upper-kept, table-laid}

-- a block, and the bytes of an area
abbrev bus_of : List ℕ → List ℤ → Bus
bus_of b r = record { block = b; run = area_bytes r }

-- a choice that is made
chosen : {A : Type 0} {b : Bool} (x y : A) → b ≡ true → elim b as (λ z. A) [ true ↦ x | false ↦ y ] ≡ x
chosen x y e = rw e refl

-- ---- what the safety tests of R28.10 ask
safe_columns : {H : Matrix} (t : List ℤ) (j : ℕ) → Done H (columns_of t j) → factor_columns t j ≡ true
unfolding factor_columns
safe_columns t j d =
    all_of _ j (λ l h.
    and_of (all_of _ (suc l) (λ k p. within_true (done-small t j d k l (omega arith) h)))
    (le_z_true
    (subst (λ (z : ℤ). pos 1 ≤ℤ z) (entries-columns_of t j l l (omega arith) h) (d.on l (omega (arith, length-columns_of t j))).one)))

-- factoring goes on from the columns that are done
columns_grow : (H : Matrix) (k : ℕ) (cs : List (List ℤ)) → length cs ≤ length (columns_from H k cs).columns
unfolding columns_from
columns_grow H zero cs = omega arith
columns_grow H (suc k) cs =
    columns_by H k cs (λ f. length cs ≤ length f.columns)
    (λ g. let c = (next_column H cs).column in omega (arith, length_snoc cs c, columns_grow H k (cs ++ (c ∷ [])))) (λ g. omega arith)

-- the number of what a search finds
shown-number : (o : Option (List ℤ)) → verdict_number (shown_by o) ≡ search_verdict o
unfolding verdict_number search_verdict
shown-number (some x) = refl
shown-number none = refl

-- the tick in which a problem is settled
module _ (n : ℕ) (L U : Matrix) where
  ends-tick : (factored n L U).ends ≡ true → settling_tick n L U ≡ n
  unfolding settling_tick
  ends-tick e = rw (settling_tick, e)

  stops_tick : (factored n L U).ends ≡ false → settling_tick n L U ≡ suc (suc (length (factored n L U).columns))
  unfolding settling_tick
  stops_tick e = rw (settling_tick, e)

-- ---- a run of order n on the mended tables l and u
module _ (n : ℕ) (l u : List ℤ) where
  abbrev L : Matrix
  L = at n l

  abbrev U : Matrix
  U = at n u

  abbrev H : Matrix
  H = scaled n L U

  abbrev pub last_tick : ℕ
  last_tick = settling_tick n L U

  abbrev pub verdict : ℕ
  verdict = verdict_number (judged n L U)

  -- before column i: the columns before it are done, and the others are H's
  pub record Before (i : ℕ) (t : List ℤ) : Type 0 where
    pub inside : i < n
    pub size : length t ≡ table_room
    pub fits : AllFit w64 t
    pub done : Done H (columns_of t i)
    pub left : (k j : ℕ) → k ≤ j → i ≤ j → j < n → upper t k j ≡ H k j
    pub so_far : factored n L U ≡ columns_from H (n - i) (columns_of t i)

  -- after a stop in column j, with m rows
  pub record Halted (j m : ℕ) (t : List ℤ) : Type 0 where
    pub size : length t ≡ table_room
    pub fits : AllFit w64 t
    pub stopped : factored n L U ≡ stopped_at (take (stride * suc j) t) j m

  -- the area after k ticks
  pub data Phase (k : ℕ) (r : List ℤ) : Type 0 where
    next : (t : List ℤ) → Before k t → r ≡ area n l u k 0 t → Phase k r
    halted : (j m : ℕ) (t : List ℤ) → Halted j m t → k ≡ suc j → r ≡ area n l u j (suc m) t → Phase k r

  -- what the next tick leaves: it settles, or another phase
  pub data Next (b : List ℕ) (k : ℕ) (s : Bus) : Type 0 where
    goes : (r : List ℤ) → Phase (suc k) r → s ≡ bus_of b r → Next b k s
    settles : suc k ≡ last_tick → s ≡ settled verdict b → Next b k s

  module _ (a : Tables n l u) where
    bounds : Bounds n L U
    bounds = tables-bounds a

    order_is : order_of (pos n) ≡ n
    unfolding order_ok
    order_is = order-known (pos n) (and_of (le-leb 1 n a.some) (le-leb n greatest_order a.order))

    -- the work of its area is that at its column
    work-is : (j p : ℕ) (t : List ℤ) → j < n → work_of (area n l u j p t) ≡ work_at (area n l u j p t) n j (pos p)
    unfolding work_of area front
    work-is j p t h =
        let inside : (le_z (pos 0) (pos j) && lt_z (pos j) (pos (order_of (pos n)))) ≡ true =
        rw order_is (and_of (le-leb 0 j (omega arith)) (lt-ltb j n h)) in
        chosen _ _ inside ∙ rw order_is refl

    -- ---- a column is next
    module _ {i : ℕ} {t : List ℤ} (p : Before i t) where
      abbrev cs : List (List ℤ)
      cs = columns_of t i

      abbrev c : Column
      c = next_column H cs

      abbrev part : List ℤ
      part = take (stride * suc i) t

      abbrev r : List ℤ
      r = area n l u i 0 t

      small : i < greatest_order
      small = omega (arith, p.inside, a.order)

      part-columns : columns_of part i ≡ cs
      part-columns = columns_of_ext part t i (λ k j h q. upper-front t i k j (omega (arith, small)) (omega arith))

      part-next : (k : ℕ) → k ≤ i → upper part k i ≡ H k i
      part-next k h = upper-front t i k i (omega (arith, small)) (omega arith) ∙ p.left k i h (omega arith) p.inside

      column-safe : column_safe part i ≡ true
      unfolding column_safe
      column-safe =
          and_of (safe_columns {H = H} part i (rw part-columns p.done))
          (and_of (all_of _ i (λ k h. within_true (rw (part-next k (omega arith)) (bounds_off bounds a.order k i h p.inside))))
          (le_z_true {x = upper part i i} {y = pos product_range} (rw (part-next i (omega arith)) (bounds_top bounds a.order i p.inside))))

      column-at : work_at r n i (pos 0) ≡ column n i
      unfolding work_at column_work
      column-at =
          let safe : column_safe (columns_to r i) i ≡ true = rw (area-columns n l u a i 0 t i) column-safe in
          chosen _ _ safe

      -- the column that the tick works out is the definition's
      column-made : next_column (upper part) (columns_of part i) ≡ c
      column-made =
          let e = length-columns_of t i in
          rw part-columns (column_ext (upper part) H cs (λ k h. rw e (part-next k (omega arith))))

      column-kept : area_of (area_bytes r) ≡ r
      column-kept = area-kept n l u a i 0 t (omega (arith, small)) (omega arith) p.size p.fits

      column-tick : (b : List ℕ) → worked b (area_bytes r) (work_of (area_of (area_bytes r))) ≡ column_taken b r n i c
      unfolding worked
      column-tick b =
          rw (column-kept, work-is i 0 t p.inside ∙ column-at) (rw (column-kept, area-columns n l u a i 0 t i, column-made) refl)

      from-here : factored n L U ≡ columns_from H (suc (n - suc i)) cs
      from-here = let m : n - i ≡ suc (n - suc i) = omega (arith, p.inside) in rw m at p.so_far

      -- ---- with the column laid over the table
      module _ (short : length c.column ≤ suc i) where
        abbrev t' : List ℤ
        t' = laid_over t (stride * i) c.column

        few : length c.column ≤ greatest_order
        few = omega (arith, small)

        new : (k : ℕ) → k < length c.column → upper t' k i ≡ nth c.column k
        new = upper-laid t i c.column p.size small few

        kept : (k j : ℕ) → k < greatest_order → j ≢ i → upper t' k j ≡ upper t k j
        kept = upper-kept t i c.column p.size small few

        laid-size : length t' ≡ table_room
        laid-size = table-laid t i c.column p.size small few

        laid-fits : ((k : ℕ) → k < length c.column → SFits w64 (nth c.column k)) → AllFit w64 t'
        laid-fits f = laid_fit t (stride * i) c.column p.fits (fits_list f)

        old-columns : columns_of t' i ≡ cs
        old-columns = columns_of_ext t' t i (λ k j h q. kept k j (omega (arith, small)) (omega arith))

        new-column : column_of t' i (length c.column) ≡ c.column
        new-column = column_is t' c.column i new

        laid_on : set (laid_column r i c.column) column_at (pos (suc i)) ≡ area n l u (suc i) 0 t'
        unfolding area front
        laid_on = ap (λ (x : List ℤ). set x column_at (pos (suc i))) (area-laid n l u a i 0 t i c.column)

        laid-halted : (m : ℕ) → set (laid_column r i c.column) stop_at (pos m) ≡ area n l u i m t'
        unfolding area front
        laid-halted m = ap (λ (x : List ℤ). set x stop_at (pos m)) (area-laid n l u a i 0 t i c.column)

      -- ---- the column is done: another one is next, or it was the last
      module _ (e : c.done ≡ true) where
        columns-done : Done H (cs ++ (c.column ∷ []))
        columns-done = column_step H cs p.done (rw (length-columns_of t i) (bounds_top bounds a.order i p.inside)) (of_true e)

        column-length : length c.column ≡ suc i
        column-length =
            sym (ap length (get_or-append_seam cs c.column [] []))
            ∙ columns-done.lengths (length cs) (omega (arith, length_snoc cs c.column)) ∙ ap suc (length-columns_of t i)

        short : length c.column ≤ suc i
        short = omega (arith, column-length)

        more-columns : columns_of (t' short) (suc i) ≡ cs ++ (c.column ∷ [])
        more-columns =
            columns_of_suc (t' short) i
            ∙ ap₂ (λ (xs : List (List ℤ)) (x : List ℤ). xs ++ (x ∷ [])) (old-columns short) (rw column-length at (new-column short))

        more-so-far : factored n L U ≡ columns_from H (n - suc i) (cs ++ (c.column ∷ []))
        more-so-far = from-here ∙ columns_on H (n - suc i) cs e

        before-next : suc i < n → Before (suc i) (t' short)
        before-next h =
            let d : Done H (columns_of (t' short) (suc i)) = rw more-columns columns-done in
            record {
              inside = h;
              size = laid-size short;
              fits = laid-fits short (λ k q. subst (SFits w64) (new short k q)
                  (fits_within (done-small (t' short) (suc i) d k i (omega (arith, column-length)) (omega arith)) (omega arith)));
              done = d;
              left = λ k j q o m. kept short k j (omega (arith, a.order)) (omega arith) ∙ p.left k j q (omega arith) m;
              so_far = rw more-columns more-so-far;
            }

        last-ends : suc i ≡ n → (factored n L U).ends ≡ true
        unfolding columns_from
        last-ends h =
            let z : n - suc i ≡ 0 = omega arith in
            ap (λ (f : Factoring). f.ends) (rw z at more-so-far)

      -- ---- it stopped
      module _ (e : c.done ≡ false) where
        stops_so : factored n L U ≡ record { ends = false; columns = cs; stopped = c.column }
        stops_so = from-here ∙ columns_stop H (n - suc i) cs e

        stop : Stop n H (record { ends = false; columns = cs; stopped = c.column })
        stop = rw stops_so at (bounds_stop bounds a.order (ap (λ (f : Factoring). f.ends) stops_so))

        cut : length c.column ≤ suc i
        cut = omega (arith, stop.cut.rows, length-columns_of t i)

        halted-next : Halted i (length c.column) (t' cut)
        unfolding stopped_at
        halted-next =
            let s = take (stride * suc i) (t' cut) in
            let old : columns_of s i ≡ cs =
            columns_of_ext s t i
            (λ k j h q. upper-front (t' cut) i k j (omega (arith, small)) (omega arith)
            ∙ kept cut k j (omega (arith, small)) (omega arith)) in
            let new : column_of s i (length c.column) ≡ c.column =
            column_is s c.column i (λ k h. upper-front (t' cut) i k i (omega (arith, few cut)) (omega arith) ∙ new cut k h) in
            record {
              size = laid-size cut;
              fits = laid-fits cut (λ k q. fits_within (stop.cut.near.each k q) (omega arith));
              stopped = stops_so ∙ rw (old, new) refl;
            }

      -- ---- what the tick leaves
      column-next : (b : List ℕ) → Next b i (column_taken b r n i c)
      unfolding column_taken verdict_number
      column-next b = go c.done refl
        where
          go : (d : Bool) → c.done ≡ d → Next b i (column_taken b r n i c)
          go true e =
              by_cases (ℕ_discrete (suc i) n)
              (λ h.
              settles (h ∙ sym (ends-tick n L U (last-ends e h)))
              (rw (column_taken, e, eq-eqb (suc i) n h, judged-ends n L U (last-ends e h)) refl))
              (λ h.
              goes _ (next _ (before-next e (omega (arith, p.inside))) refl)
              (rw (column_taken, e, ne_eqb (suc i) n h) (ap (λ (x : List ℤ). bus_of b x) (laid_on (short e)))))
          go false e =
              goes _ (halted i _ _ (halted-next e) refl refl)
              (rw (column_taken, e) (ap (λ (x : List ℤ). bus_of b x) (laid-halted (cut e) (suc (length c.column)))))

    -- ---- the search is next
    module _ {j m : ℕ} {t : List ℤ} (p : Halted j m t) where
      abbrev made : List ℤ
      made = take (stride * suc j) t

      abbrev q : List ℤ
      q = area n l u j (suc m) t

      search-ends : (factored n L U).ends ≡ false
      unfolding stopped_at
      search-ends = ap (λ (f : Factoring). f.ends) p.stopped

      search-stop : Stop n H (stopped_at made j m)
      search-stop = rw p.stopped at (bounds_stop bounds a.order search-ends)

      search-inside : j < n
      unfolding stopped_at
      search-inside = omega (arith, search-stop.inside, length-columns_of made j)

      search-rows : m ≤ j
      unfolding stopped_at
      search-rows = omega (arith, search-stop.cut.rows, length-columns_of made j, length-column_of made j m)

      search-safe : search_safe n l u made j m ≡ true
      unfolding search_safe stop_safe passes stopped_at
      search-safe =
          let near : (k : ℕ) → k < m → Within stop_range (upper made k j) =
          λ k h. subst (Within stop_range) (nth-column_of made j m k h)
          (search-stop.cut.near.each k (omega (arith, length-column_of made j m))) in
          and_of (and_of (safe_columns {H = H} made j search-stop.done) (all_of _ m (λ k h. within_true (near k h)))) (rw a.checked refl)

      search-at : work_at q n j (pos (suc m)) ≡ search n j m
      unfolding work_at search_work
      search-at =
          let rows : suc m - 1 ≡ m = omega arith in
          let safe : search_safe n (table_at n q low_at) (table_at n q high_at) (columns_to q j) j m ≡ true =
          rw (area-low n l u a j (suc m) t, area-high n l u a j (suc m) t, area-columns n l u a j (suc m) t j) search-safe in
          chosen _ _ (le-leb 1 (suc m) (omega arith)) ∙ chosen _ _ (le-leb (suc m) (suc j) (omega (arith, search-rows)))
          ∙ rw rows (chosen _ _ safe)

      search-kept : area_of (area_bytes q) ≡ q
      search-kept =
          area-kept n l u a j (suc m) t (omega (arith, search-inside, a.order))
          (omega (arith, search-rows, search-inside, a.order)) p.size p.fits

      -- it gives the judge's verdict
      verdict_is : verdict ≡ search_verdict (listed_shows n L U made j m)
      unfolding listed listed_shows
      verdict_is =
          ap verdict_number (judged_stops n L U search-ends) ∙ shown-number _
          ∙ ap (λ (f : Factoring). search_verdict
          (first (λ x. shows n L U (nth x)) (tried n ++ (solved n f (pos 1) ++ solved n f (pos 64))))) p.stopped

      search-tick : (b : List ℕ) → worked b (area_bytes q) (work_of (area_of (area_bytes q))) ≡ settled verdict b
      unfolding worked
      search-tick b =
          rw (search-kept, work-is j (suc m) t search-inside ∙ search-at)
          (rw (
            search-kept,
            area-low n l u a j (suc m) t,
            area-high n l u a j (suc m) t,
            area-columns n l u a j (suc m) t j,
            a.low-mended,
            a.high-mended,
            ← verdict_is,
          ) refl)

      search-last : suc (suc j) ≡ last_tick
      unfolding stopped_at
      search-last =
          sym (stops_tick n L U search-ends ∙ ap (λ (f : Factoring). suc (suc (length f.columns))) p.stopped
          ∙ ap (λ (x : ℕ). suc (suc x)) (length-columns_of made j))

    -- ---- a tick, in any phase
    pub phase_next : (b : List ℕ) {k : ℕ} {r : List ℤ} → Phase k r → Next b k (worked b (area_bytes r) (work_of (area_of (area_bytes r))))
    phase_next b (next t p e) = rw (e, column-tick p b) (column-next p b)
    phase_next b (halted j m t p k e) = settles (ap suc k ∙ search-last p) (rw e (search-tick p b))

    -- no phase is as late as the last tick, which is no later than tick n + 1
    pub phase_early : {k : ℕ} {r : List ℤ} → Phase k r → k < last_tick
    phase_early {k} (next t p e) = go (factored n L U).ends refl
      where
        grown : k ≤ length (factored n L U).columns
        grown = rw p.so_far (omega (arith, columns_grow H (n - k) (columns_of t k), length-columns_of t k))

        go : (b : Bool) → (factored n L U).ends ≡ b → k < last_tick
        go true q = omega (arith, ends-tick n L U q, p.inside)
        go false q = omega (arith, stops_tick n L U q, grown)
    phase_early (halted j m t p k e) = omega (arith, search-last p)

    pub last-soon : last_tick ≤ suc n
    last-soon = go (factored n L U).ends refl
      where
        go : (b : Bool) → (factored n L U).ends ≡ b → last_tick ≤ suc n
        go true q = omega (arith, ends-tick n L U q)
        go false q = omega (arith, stops_tick n L U q, (bounds_stop bounds a.order q).inside)
