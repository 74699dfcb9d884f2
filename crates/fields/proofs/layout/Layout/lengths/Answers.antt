use Rattle.std.proofs.Common.{◌≡◌, ℕ, ◌<◌, length, map, get_or, sym, ◌∙◌, rules, arith}
use Rattle.std.specs.Prelude.{None}
use Rattle.std.proofs.Math.ListN.{length-map, get_or-map}
use Rattle.std.proofs.lemmas.List.{ext_get_or}
use Rattle.fields.specs.Fields.{kind_count}
use Rattle.fields.specs.Layouts.{length_in}
use Rattle.fields.proofs.layout.Layout.lengths.Goals as goal
use Rattle.fields.proofs.layout.Layout.lengths.Goals.{After-map}

-- each length is that of its part
each : (c : After-map) → (i : ℕ) → i < kind_count → get_or c.map.result i 0 ≡ length_in (get_or c.args.self.now.parts i None)
each c i h = let k = c.map.ensures.items.at i None 0 h in search rules

pub returns : goal.returns
returns c =
    let parts = c.args.self.now.parts in
    let long : length c.map.result ≡ kind_count = c.map.ensures.items.long in
    ext_get_or 0 c.map.result (map length_in parts) (omega (arith, length-map parts length_in))
    (λ i h. each c i (omega arith) ∙ sym (get_or-map length_in parts i None))
