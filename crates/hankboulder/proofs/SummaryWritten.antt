-- What hb_write_summary's number means: the file that it stores is read as the mended problem of what was handed in.
use mathlib.Core.Path.{◌≡◌, ap, ◌∙◌}
use mathlib.Core.Bool.{true}
use mathlib.Core.List.{List}
use Prim.Native.Nat.{ℕ}
use lib.IntN.{ℤ, pos}
use Rattle.words.proofs.Laws.{AllBytes}
use Rattle.tables.specs.Checks.{order_of}
use Rattle.tables.specs.Problem.{mended_problem}
use Rattle.std.specs.Prelude.{Ok}
use Rattle.tables.proofs.Answers.{exactly, code_passed}
use Rattle.summary.specs.Problems.{reading}
use Rattle.writer.specs.Writing.{Written}
use Rattle.file_buffers.specs.Parts.{Parts, Handed, parts_roomy, spelled}
use Rattle.file_buffers.specs.Filing.{write_summary, laid_out}
use Rattle.file_buffers.proofs.Handing.{handing_read}
use Rattle.file_buffers.proofs.Filed.{written_read, written-laid}
use Rattle.hankboulder.specs.Entries.{checked_code, ReadSummaryResult, read_summary_entry, WriteSummaryResult, write_summary_entry}
use Rattle.hankboulder.specs.Meanings.{WriteSummaryMeaning}

-- the buffers of the linear terms and of the centre have bytes
pub record Bytes (a b c : List ℕ) : Type 0 where
  pub from : AllBytes a
  pub to : AllBytes b
  pub centre : AllBytes c

-- an answer's number, and the buffers
abbrev numbered : Handed → ReadSummaryResult
numbered j = record { number = checked_code j.answer; parts = j.parts }

module _ (n : ℤ) (l u a b : List ℕ) (α : ℤ) (c s : List ℕ) (v : Bytes a b c) where
  module _ (e : checked_code (write_summary n l u a b α c s).answer ≡ pos 0) where
    back : reading (write_summary n l u a b α c s).file ≡ Ok (mended_problem (spelled (order_of n) l u a b α c))
    back = written_read n l u a b α c s (code_passed _ e)

    again : (d : Parts) → parts_roomy d ≡ true → read_summary_entry (write_summary n l u a b α c s).file d ≡ record { number = pos 0; parts = laid_out n l u a b α c }
    unfolding read_summary_entry
    again d z =
        ap numbered (handing_read _ d z (mended_problem (spelled (order_of n) l u a b α c)) back)
        ∙ ap (λ (p : Parts). record { number = pos 0; parts = p }) (written-laid n l u a b α c s (code_passed _ e) v.from v.to v.centre)

  write_summary_means : (let j = write_summary_entry n l u a b α c s in WriteSummaryMeaning n l u a b α c j.number j.file)
  unfolding write_summary_entry
  write_summary_means = record { back = back; again = again }

  -- so does that of an answer that is the definition's
  pub write_summary_exactly : {h : Written} → h ≡ write_summary n l u a b α c s →
      record { exact : ◌≡◌ {A = WriteSummaryResult} (record { number = checked_code h.answer; file = h.file }) (write_summary_entry n l u a b α c s); meaning : WriteSummaryMeaning n l u a b α c (checked_code h.answer) h.file }
  unfolding write_summary_entry
  write_summary_exactly {h} e =
      exactly (λ (j : WriteSummaryResult). WriteSummaryMeaning n l u a b α c j.number j.file) write_summary_means (record { number = checked_code h.answer; file = h.file })
      (ap (λ (j : Written). record { number = checked_code j.answer; file = j.file }) e)
