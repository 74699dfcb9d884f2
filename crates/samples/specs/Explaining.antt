-- R23.3 of docs/RULES.md: how far a sample is from a point.
use Rattle.std.specs.Prelude.{ℕ, ℤ, ◌-ℤ◌, ◌*ℤ◌}
use Rattle.integers.specs.Sum.{sum}
use Rattle.samples.specs.declared.sample.Sample.{Sample}
use Rattle.samples.specs.Samples.{factor_count, factor_units, draw_units}

-- how far a sample is from X over p: 16·draw − 16·factors·x, over `sixteenth` and p
unfoldable pub misfit : Sample → (ℕ → ℤ) → ℤ → ℤ
misfit s X p = p *ℤ draw_units s -ℤ sum factor_count (λ i. factor_units s i *ℤ X i)
