use mathlib.Core.Path.{ap, ◌∙◌}
use Rattle.integers.proofs.Machine.{clean, clean_element}
use Rattle.tables.specs.Answers.{yes_or_no_code, answer_code}
use Rattle.hankboulder_bench.proofs.hb_bench_factor.Goals as goal

pub returns : goal.returns
returns c =
    clean_element c.answer_code.result c.answer_code.type_inv ∙ c.answer_code.ensures ∙
    ap (answer_code yes_or_no_code) (rw (clean c.ranges.n) at c.factor.ensures)
