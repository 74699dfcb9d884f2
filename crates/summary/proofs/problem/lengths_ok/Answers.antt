use Rattle.std.proofs.Common.{◌≡◌, ◌∙◌, ap, ℕ, map, length, get_or, eqb, arith}
use Rattle.std.specs.Prelude.{None}
use Rattle.std.proofs.Math.ListN.{length-map, get_or-map}
use Rattle.fields.specs.Fields.{kind_count}
use Rattle.fields.specs.Layouts.{length_in}
use Rattle.tables.specs.Checks.{all}
use Rattle.tables.proofs.Checks.{all_ext}
use Rattle.summary.specs.Problems.{lengths_for, lengths_ok}
use Rattle.summary.proofs.Tests.{all-pointwise}
use Rattle.summary.proofs.problem.lengths_ok.Goals as goal

pub returns : goal.returns
unfolding lengths_ok
returns c =
    let parts = c.args.layout.parts in
    let lengths = map length_in parts in
    let called = lengths_for c.args.n in
    let long : length lengths ≡ kind_count = omega (arith, length-map parts length_in) in
    rw (c.lengths.ensures, c.lengths_for.ensures) at c.eq.ensures ∙ all-pointwise lengths called long
    ∙ ap (λ (m : ℕ). all m (λ k. eqb (get_or lengths k 0) (get_or called k 0))) long
    ∙ all_ext kind_count _ _ (λ k h. ap (λ (n : ℕ). eqb n (get_or called k 0)) (get_or-map length_in parts k None))
