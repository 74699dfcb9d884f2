-- The search for the least bound: where it starts, what one number that is asked for leaves, and that it ends at the least bound.
use mathlib.Core.Path.{◌≡◌, refl, sym, ap, ap₂, ◌∙◌}
use mathlib.Core.Logic.{◌⊎◌, inl, inr, ⊎_elim}
use mathlib.Core.List.{List, [], ◌∷◌}
use mathlib.Core.Option.{Option, none, some}
use Prim.Native.Nat.{ℕ, ◌+◌, ◌*◌, ◌≤◌, ◌<◌}
use native.Mathlib.Nat.{mul-le-mul_right}
use native.Mathlib.Omega.{arith}
use lib.IntN.{ℤ, pos, negsuc, neg_ℤ, nat_abs, ◌+ℤ◌, ◌-ℤ◌, ◌*ℤ◌}
use lib.Signed.{◌≤ℤ◌, ◌<ℤ◌, ≤ℤ_refl, clash_ℤ}
use lib.ListN.{length}
use Rattle.std.specs.Prelude.{Some, None}
use Rattle.integers.specs.Numbers.{Within}
use Rattle.integers.specs.Division.{ceil_div}
use Rattle.integers.proofs.Parts.{<_out, ≤ℤ_trans, ≤ℤ_or_<ℤ}
use Rattle.integers.proofs.Order.{<-≤}
use Rattle.integers.proofs.Solver.{◌&◌, none as none-given, order, solver}
use Rattle.integers.proofs.Sums.{sum_ext}
use Rattle.integers.proofs.Machine.{within_more, within_in, within_low, within-high, within-neg}
use Rattle.tables.specs.Ranges.{greatest_order, entry_range}
use Rattle.tables.specs.Matrix.{Matrix, at, nth, norm_squared, tabulate}
use Rattle.tables.specs.Members.{Nonzero}
use Rattle.tables.specs.Bounds.{Bounds, CheckedTables}
use Rattle.tables.proofs.Buffers.{Small}
use Rattle.tables.proofs.Matrix.{nth-tabulate}
use Rattle.arithmetic.specs.Required.{bound_range}
use Rattle.vectors.specs.Least.{least_value}
use Rattle.vectors.proofs.Showing.{least_value_within, least_ext}
use Rattle.lookahead.specs.Pairs.{under_range}
use Rattle.tried.specs.Tried.{tried, listed}
use Rattle.tried.proofs.TriedVectors.{every_at, tried-sized}
use Rattle.stiffness.specs.Bracket.{quotient, first_under}
use Rattle.stiffness.specs.Descent.{TriedEntries, Inside, Narrowed, Least}
use Rattle.stiffness.proofs.Quotients.{under-parts, quotient-under, quotient-low, first_found, none_found, first_again, some_under}
use Rattle.stiffness.proofs.Quotients.{bound_is}

-- ---- numbers
-- a measure falls
falls : {x y : ℤ} → pos 0 ≤ℤ x → x <ℤ y → nat_abs x < nat_abs y
falls {x = pos a} {y = pos b} h k = omega (arith, <_out k)
falls {x = pos a} {y = negsuc b} h k = omega (arith, <_out k)
falls {x = negsuc a} h k = absurd h.le

-- no quotient is less than the least of them
low-most : {n : ℕ} → n ≤ greatest_order → neg_ℤ (pos (greatest_order * entry_range)) ≤ℤ neg_ℤ (pos (n * entry_range))
low-most {n} o = within_low (within-neg {x = pos (n * entry_range)} (record { size = mul-le-mul_right entry_range o }))

-- the least value of a vector of such entries can be divided
pub least-small : {n : ℕ} {l u x : List ℤ} → CheckedTables n l u → TriedEntries n x →
    Within bound_range (least_value n (at n l) (at n u) (nth x))
least-small {n} {l} {u} {x} g e = within_more (omega arith) (least_value_within g.bounds (nth x) g.order 1 e.small)

-- ---- what was searched
module _ (n : ℕ) (L U : Matrix) where
  quotient_ext : (x y : ℕ → ℤ) → ((i : ℕ) → i < n → x i ≡ y i) → quotient n L U x ≡ quotient n L U y
  unfolding quotient norm_squared
  quotient_ext x y h = ap₂ ceil_div (least_ext n L U x y h) (sum_ext n _ _ (λ i k. ap (λ (z : ℤ). z *ℤ z) (h i k)))

  -- the vector that a search found
  module _ (w : ℤ) (x : List ℤ) (s : listed n (Some x) ≡ first_under n L U w) where
    abbrev vector : List ℤ
    vector = tabulate n (nth x)

    is_first : first_under n L U w ≡ some vector
    unfolding listed
    is_first = sym s

    same : (i : ℕ) → i < n → nth vector i ≡ nth x i
    same i h = nth-tabulate n (nth x) i h

    pub found-entries : n ≤ length x → TriedEntries n x
    found-entries o =
        let t = every_at (Small n 1) (tried n) (tried-sized 1 (omega arith) n) vector (first_found n L U w vector is_first).0 in
        record { room = o; small = λ i h. rw (same i h) at (t.small i) }

    pub found-nonzero : Nonzero n (nth x)
    found-nonzero =
        let z = (under-parts n L U (nth vector) w (first_found n L U w vector is_first).1).0 in
        record { index = z.index; inside = z.inside; differs = rw (same z.index z.inside) at z.differs }

  -- ---- one search further: what is left between the two numbers, and that it is less than before
  pub record Further (below v below' v' : ℤ) (x : List ℤ) : Type 0 where
    pub narrowed : Narrowed n L U below' v' x
    pub less : nat_abs (v' -ℤ below') < nat_abs (v -ℤ below)

  module _ {below v w : ℤ} {x₀ : List ℤ} (s : Narrowed n L U below v x₀) (i : Inside below v w) where
    -- the first vector that is under w: no tried vector is under `below`, so its quotient is not that low
    module _ (x : List ℤ) (size : length x ≡ greatest_order) (found : listed n (Some x) ≡ first_under n L U w) where
      pub after-hit : {v' : ℤ} → v' ≡ quotient n L U (nth x) → Further below v below v' x
      after-hit {v'} h =
          let y = tabulate n (nth x) in
          let first = is_first w x found in
          let f = first_found n L U w y first in
          let p = under-parts n L U (nth y) w f.1 in
          let q : quotient n L U (nth y) ≡ v' = quotient_ext _ _ (λ i k. nth-tabulate n (nth x) i k) ∙ sym h in
          let most : v' ≤ℤ w = rw q at p.1 in
          let fell : v' <ℤ v = order (v ∷ w ∷ v' ∷ []) (most & i.high) (search solver depth 40 fits 20000) (omega arith) in
          let low : v' ≤ℤ below → below <ℤ v' =
          λ k. absurd (none_found n L U below s.nothing y f.0 (quotient-under n L U (nth y) below p.0 (rw q k))) in
          let above : below <ℤ v' = ⊎_elim low (λ k. k) (≤ℤ_or_<ℤ v' below) in
          record {
            narrowed = record {
              low = s.low;
              high = ≤ℤ_trans (<-≤ fell) s.high;
              apart = above;
              nothing = s.nothing;
              vector = λ k. rw q at (first_again n L U w y first);
              size = size;
            };
            less = falls {x = v' -ℤ below} {y = v -ℤ below}
                (order (below ∷ v' ∷ []) above (search solver depth 40 fits 20000) (omega arith))
                (order (below ∷ v ∷ v' ∷ []) fell (search solver depth 40 fits 20000) (omega arith));
          }

    -- no vector is under w
    pub after-miss : listed n None ≡ first_under n L U w → Further below v w v x₀
    unfolding listed
    after-miss nothing = record {
      narrowed = record {
        low = ≤ℤ_trans s.low (<-≤ i.low);
        high = s.high;
        apart = i.high;
        nothing = sym nothing;
        vector = s.vector;
        size = s.size;
      };
      less = falls {x = v -ℤ w} {y = v -ℤ below} (order (w ∷ v ∷ []) i.high (search solver depth 40 fits 20000) (omega arith))
          (order (below ∷ w ∷ v ∷ []) i.low (search solver depth 40 fits 20000) (omega arith));
    }

  -- how large both numbers are
  module _ (b : Bounds n L U) (p : 0 < n) {below v : ℤ} {x : List ℤ} (s : Narrowed n L U below v x) where
    pub upper-most : v ≤ℤ pos (entry_range + 1)
    upper-most =
        let w : Within entry_range (L 0 0) = record { size = b.low_range 0 0 p p } in
        order (v ∷ L 0 0 ∷ []) (s.high & within-high w) (search solver depth 40 fits 20000) (omega arith)

    pub lower_within : Within under_range below
    lower_within = within_in s.low (order (below ∷ v ∷ []) (s.apart & upper-most) (search solver depth 40 fits 20000) (omega arith))

    pub upper-within : Within (under_range + 1) v
    upper-within =
        within_in (order (below ∷ v ∷ []) (s.low & s.apart) (search solver depth 40 fits 20000) (omega arith))
        (order (v ∷ []) upper-most (search solver depth 40 fits 20000) (omega arith))

  -- where it starts: no vector is under the least number
  pub started : Bounds n L U → n ≤ greatest_order → 0 < n → {x : List ℤ} → length x ≡ greatest_order →
      Narrowed n L U (neg_ℤ (pos under_range)) (L 0 0 +ℤ pos 1) x
  started b o p k =
      let w : Within entry_range (L 0 0) = record { size = b.low_range 0 0 p p } in
      record {
        low = ≤ℤ_refl _;
        high = ≤ℤ_refl _;
        apart = order (L 0 0 ∷ []) (within_low w) (search solver depth 40 fits 20000) (omega arith);
        nothing = go (first_under n L U (neg_ℤ (pos under_range))) refl;
        vector = λ h. absurd (clash_ℤ (order (L 0 0 ∷ []) none-given (search solver depth 40 fits 20000) (omega arith)) h);
        size = k;
      }
    where
      go : (q : Option (List ℤ)) → first_under n L U (neg_ℤ (pos under_range)) ≡ q → first_under n L U (neg_ℤ (pos under_range)) ≡ none
      go none e = e
      go (some y) e =
          let q = under-parts n L U (nth y) (neg_ℤ (pos under_range)) (first_found n L U (neg_ℤ (pos under_range)) y e).1 in
          absurd (≤ℤ_trans (≤ℤ_trans (low-most o) (quotient-low n L U (nth y) b q.0)) q.1).le

  -- no number is left between: it is the least
  pub arrived : 0 < n → {below v : ℤ} {x : List ℤ} → Narrowed n L U below v x → v ≤ℤ (below +ℤ pos 1) → Least n L U v x
  arrived p {below} {v} {x} s k = go (≤ℤ_or_<ℤ v (L 0 0))
    where
      last : v -ℤ pos 1 ≡ below
      last = order (below ∷ v ∷ []) (k & s.apart) (search solver depth 40 fits 20000) (omega arith)

      go : (v ≤ℤ L 0 0) ⊎ (L 0 0 <ℤ v) → Least n L U v x
      go (inl h) = record { bound = bound_is n L U p v _ (s.vector h) (rw last s.nothing); vector = s.vector h; size = s.size }
      go (inr h) =
          let e : below ≡ L 0 0 =
          order (below ∷ v ∷ L 0 0 ∷ []) (k & s.apart & h & s.high) (search solver depth 40 fits 20000) (omega arith) in
          absurd (some_under n L U p (rw e at s.nothing))
