-- What the pool of the numbers that buffers spell is, and what hb_pool's number means.
use mathlib.Core.Path.{◌≡◌, refl, subst}
use mathlib.Core.List.{List}
use Prim.Native.Nat.{ℕ, ◌*◌}
use lib.IntN.{ℤ}
use mir.Syntax.{w64}
use mir.Val.{bytes}
use Rattle.words.specs.Numbers.{numbers_of, bytes_of}
use Rattle.tables.specs.Elements.{bytes_whole}
use Rattle.tables.specs.Matrix.{tabulate}
use Rattle.tables.specs.Checks.{Checked, order_of}
use Rattle.sums.specs.Lent.{Lent, Left, sums_of, gathered_code}
use Rattle.pool.specs.Pool.{Problems, problem_at, problems_of}
use Rattle.pool.specs.Act.{lent_of, pool_act, Meaning}
use Rattle.pool.proofs.Meanings.{pool-means}
use Rattle.hankboulder.specs.PoolBuffers.{pool_count, spelled_pool}
use Rattle.hankboulder.specs.Entries.{pool_stored, pool_entry}
use Rattle.hankboulder.specs.Meanings.{PoolMeaning}
use Rattle.hankboulder.proofs.SumsGathered.{code_zero}

module _ (n : ℤ) (orders : List ℕ) (q : Problems (List ℕ)) (b : Lent (List ℕ)) where
  pub pool-spelled : pool_act (λ k. k * bytes w64) (numbers_of w64) (bytes_of w64) n orders q b ≡ pool_stored n orders q b
  unfolding pool_act pool_stored spelled_pool numbers_of bytes_of tabulate
  pool-spelled = refl

  abbrev k : ℕ
  k = order_of n

  abbrev m : ℕ
  m = pool_count orders

  abbrev Means : Checked → Lent (List ℕ) → Type 0
  Means r d =
      Meaning r (problem_at k (problems_of (numbers_of w64) k m q)) m (sums_of k (lent_of (numbers_of w64) k b))
      (sums_of k (lent_of (numbers_of w64) k d))

  -- what the number means, of what the act's answer means; and so what the entry's means
  pub pooled-number : (d : Lent (List ℕ)) (r : Checked) → Means r d → PoolMeaning n orders q b d (gathered_code r)
  unfolding numbers_of
  pooled-number d r w = record { explains = λ e. w.explains (code_zero r e); allows = λ e. w.allows (code_zero r e) }

  pub pooled-means : (let j = pool_entry n orders q b in PoolMeaning n orders q b j.sums j.number)
  unfolding pool_entry
  pooled-means =
      let j = pool_stored n orders q b in
      pooled-number j.sums j.answer
      (subst (λ (j : Left (List ℕ)). Means j.answer j.sums) pool-spelled (pool-means bytes_whole n orders q b))
