-- R23.1 of docs/RULES.md: calls of hb_gather, one after the other on the same buffers, spell the sums of their samples.
use mathlib.Core.Path.{◌≡◌, refl, sym, ap, subst, ◌∙◌}
use mathlib.Core.Bool.{Bool, true}
use mathlib.Core.List.{List, [], ◌∷◌}
use Prim.Native.Nat.{ℕ, ◌*◌}
use lib.IntN.{ℤ, pos, ◌*ℤ◌}
use lib.Signed.{◌≤ℤ◌}
use lib.ListN.{replicate}
use mir.Syntax.{w64}
use mir.Val.{bytes}
use Rattle.words.specs.Numbers.{numbers_of, signed_at, unsigned_at, from_le_bytes}
use Rattle.words.proofs.Laws.{length-bytes_of, length-to_le_bytes}
use Rattle.tables.specs.Checks.{order_ok, order_of, sizes_ok}
use Rattle.tables.specs.Matrix.{table, tabulate}
use Rattle.tables.specs.Problem.{constraint_sized, mended_constraint}
use Rattle.tables.specs.declared.problem.Constraint.{Constraint}
use Rattle.enclosure.specs.Points.{Allowed}
use Rattle.floats.specs.Brackets.{sixteenth}
use Rattle.std.specs.Prelude.{Ok}
use Rattle.sums.specs.Sums.{Outcome, allowing}
use Rattle.sums.specs.Lent.{Lent}
use Rattle.samples.specs.declared.sample.Sample.{Sample}
use Rattle.samples.specs.Samples.{factor_count}
use Rattle.samples.specs.Gains.{gains_of}
use Rattle.samples.specs.Gathering.{sums_sized, gathering}
use Rattle.rides.specs.Rides.{no_sums, gathered, sums_after, gathered_all, squares}
use Rattle.rides.proofs.Wanted.{by_outcome, gathered_allows}
use Rattle.sums_buffers.specs.SumsBuffers.{spelled_sums, sums_buffers, stored_sums}
use Rattle.hankboulder.specs.Entries.{gather_stored, gather_entry}
use Rattle.rides.proofs.Stored.{fitted-whole}
use Rattle.hankboulder.proofs.SumsGathered.{back}

-- the buffers as calls leave them, one for each sample, with the samples' order
abbrev pub called : List Sample → Lent (List ℕ) → Lent (List ℕ)
called [] b = b
called (s ∷ ss) b = called ss (gather_entry s (pos factor_count) b).sums

-- buffers of bytes of 0
abbrev pub zeros : Lent (List ℕ)
zeros =
    let t : List ℕ = replicate (factor_count * factor_count * bytes w64) 0 in
    let x : List ℕ = replicate (factor_count * bytes w64) 0 in
    record { low = t; high = t; from = x; to = x; limit = replicate (bytes w64) 0 }

-- they have their sizes, and spell the sums of no sample
zeros-sized : sums_buffers factor_count zeros ≡ true
unfolding sums_sized constraint_sized sizes_ok
zeros-sized = refl

pub zeros-spelled : spelled_sums factor_count zeros ≡ no_sums
unfolding no_sums numbers_of signed_at unsigned_at from_le_bytes table tabulate
zeros-spelled = refl

-- ---- one call, on buffers of their sizes
module _ (s : Sample) (b : Lent (List ℕ)) (z : sums_buffers factor_count b ≡ true) where
  abbrev c : Constraint
  c = spelled_sums factor_count b

  -- what is left is what the outcome over the sums stores
  left : (gather_entry s (pos factor_count) b).sums ≡ (stored_sums factor_count (gathered s c) b).sums
  unfolding gather_entry gather_stored order_of order_ok
  left = ap (λ (y : Bool). (stored_sums factor_count (gathering s (pos factor_count) y c) b).sums) z

  -- the buffers keep their sizes
  written-sized : (d : Constraint) → sums_buffers factor_count (stored_sums factor_count (Ok d) b).sums ≡ true
  unfolding sums_sized constraint_sized sizes_ok
  written-sized d = simp (length-bytes_of, length-to_le_bytes)

  stored-sized : sums_buffers factor_count (stored_sums factor_count (gathered s c) b).sums ≡ true
  stored-sized =
      by_outcome s (pos factor_count) true c (λ (o : Outcome). sums_buffers factor_count (stored_sums factor_count o b).sums ≡ true) (λ q d e. written-sized d) (λ r. z)

  call_sized : sums_buffers factor_count (gather_entry s (pos factor_count) b).sums ≡ true
  call_sized = ap (sums_buffers factor_count) left ∙ stored-sized

  -- and spell the sums that the sample leaves
  pub call_spells : spelled_sums factor_count (gather_entry s (pos factor_count) b).sums ≡ sums_after c (gathered s c)
  unfolding sums_after
  call_spells =
      ap (spelled_sums factor_count) left
      ∙ by_outcome s (pos factor_count) true c (λ (o : Outcome). spelled_sums factor_count (stored_sums factor_count o b).sums ≡ sums_after c o) (λ q d e. back factor_count d b (fitted-whole (gains_of s) (mended_constraint c) e)) (λ r. refl)

-- ---- calls one after the other
calls_spell : (ss : List Sample) (b : Lent (List ℕ)) → sums_buffers factor_count b ≡ true →
    spelled_sums factor_count (called ss b) ≡ gathered_all ss (spelled_sums factor_count b)
unfolding gathered_all
calls_spell [] b z = refl
calls_spell (s ∷ ss) b z =
    calls_spell ss (gather_entry s (pos factor_count) b).sums (call_sized s b z)
    ∙ ap (gathered_all ss) (call_spells s b z)

-- begun with bytes of 0, the buffers spell the sums of all samples
pub calls_from-zeros : (ss : List Sample) → spelled_sums factor_count (called ss zeros) ≡ gathered_all ss no_sums
calls_from-zeros ss = calls_spell ss zeros zeros-sized ∙ ap (gathered_all ss) zeros-spelled

-- so a point whose squares are at most K is allowed by the sums that they spell, with the allowance K
pub calls_allow : (X : ℕ → ℤ) (p : ℤ) → pos 1 ≤ℤ p → (ss : List Sample) (K : ℤ) → squares ss no_sums X p ≤ℤ (K *ℤ (p *ℤ p *ℤ (sixteenth *ℤ sixteenth))) →
    Allowed (allowing K (spelled_sums factor_count (called ss zeros))) X p
calls_allow X p w ss K h = subst (λ (d : Constraint). Allowed (allowing K d) X p) (sym (calls_from-zeros ss)) (gathered_allows X p w ss K h)
