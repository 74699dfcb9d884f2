use mathlib.Core.Path.{◌≡◌, ap, ◌∙◌}
use native.Mathlib.Omega.{arith}
use lib.ListN.{length, get_or}
use Rattle.std.proofs.Common.{rules, tests}
use Rattle.std.specs.Prelude.{None, is_some}
use Rattle.std.proofs.lemmas.Iterator.{YieldsList-from_slice}
use Rattle.std.proofs.lemmas.Iterator.Search.{all_from_yields_List}
use Rattle.tables.specs.Checks.{all}
use Rattle.fields.specs.Fields.{kind_count}
use Rattle.summary.specs.Problems.{all_present}
use Rattle.summary.proofs.Tests.{all-list_all}
use Rattle.summary.proofs.problem.all_present.Goals as goal

pub returns : goal.returns
unfolding all_present
returns c =
    let parts = c.args.layout.parts in
    let r =
    all_from_yields_List is_some _ _ c.all.result c.all.ensures.ran (YieldsList-from_slice parts cc)
    (λ x b q k. search (rules, tests)) in
    let l : length parts ≡ kind_count = omega arith in
    r ∙ all-list_all None is_some parts ∙ ap (λ n. all n (λ k. is_some (get_or parts k None))) l
