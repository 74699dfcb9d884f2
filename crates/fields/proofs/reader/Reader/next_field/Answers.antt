-- Where a field was found its content is the part that it names, and elsewhere the empty part.
use mathlib.Core.Path.{◌≡◌, sym, ap, ◌∙◌}
use native.Mathlib.Omega.{arith}
use Rattle.std.specs.Prelude.{Some, None, Ok, Err}
use Rattle.std.specs.Result.{result_unwrap_or}
use Rattle.fields.specs.declared.field.Field.{Field}
use Rattle.fields.specs.Fields.{Found}
use Rattle.fields.proofs.Finding.{found_inside}
use Rattle.fields.proofs.reader.Reader.next_field.Goals as goal

field_found : (r : Found) {f : Field} → result_unwrap_or r None ≡ Some f → r ≡ Ok (Some f)
field_found (Ok o) e = ap Ok e
field_found (Err k) e = cc e

pub bytes_in-content-requires : goal.bytes_in-content-requires
bytes_in-content-requires c =
    let h = found_inside _ _ c.in-Some.field (sym c.field_at-found.ensures ∙ field_found _ (sym c.unwrap_or.ensures ∙ c.in-Some.is)) in
    omega (arith, h.ends, h.inside)
