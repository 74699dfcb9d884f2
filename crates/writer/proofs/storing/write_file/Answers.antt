-- All fields, in the order of their tags; they fill the buffer.
use Rattle.std.proofs.Common.{sym, ◌∙◌, arith}
use Rattle.fields.specs.Entries.{whole_file}
use Rattle.summary.specs.Problems.{file_of}
use Rattle.summary.proofs.OneFile.{file-length}
use Rattle.writer.specs.Required.{bounds_entries, terms_entries}
use Rattle.writer.proofs.Fields.{entries-put, put_whole}
use Rattle.writer.proofs.storing.write_file.Goals as goal

pub returns : goal.returns
unfolding file_of whole_file
returns c =
    let p = c.args.problem.now in
    put_whole (file_of p) (file-length p ∙ sym c.requires.1)
    (entries-put (bounds_entries p) (terms_entries p) (omega arith) c.put_bounds-at.ensures c.put_terms.ensures)
