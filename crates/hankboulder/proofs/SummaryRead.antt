-- What hb_read_summary's number means: the problem that it stores is read back from the buffers as they are left.
use mathlib.Core.Path.{◌≡◌, sym, ap, subst, ◌∙◌}
use mathlib.Core.List.{List}
use Prim.Native.Nat.{ℕ, ◌*◌}
use lib.IntN.{pos}
use lib.ListN.{length}
use Rattle.words.proofs.Laws.{AllBytes}
use Rattle.std.specs.Prelude.{Ok}
use Rattle.tables.specs.declared.problem.Problem.{Problem}
use Rattle.tables.proofs.Answers.{exactly, code_passed}
use Rattle.summary.specs.Problems.{file_of, reading, LetThrough}
use Rattle.summary.proofs.OneFile.{accepted-size}
use Rattle.summary.proofs.RoundTrip.{reading-means}
use Rattle.writer.specs.Writing.{Written}
use Rattle.buffers.specs.Buffers.{number_of}
use Rattle.file_buffers.specs.Parts.{Parts, Handed, parts_of, order_in, problem_in, read_summary}
use Rattle.file_buffers.specs.Filing.{front}
use Rattle.file_buffers.proofs.Handing.{Stored, handing_stored}
use Rattle.file_buffers.proofs.Back.{problem-back}
use Rattle.file_buffers.proofs.Rewritten.{rewritten}
use Rattle.hankboulder.specs.Entries.{checked_code, ReadSummaryResult, read_summary_entry, WriteSummaryResult, write_summary_entry}
use Rattle.hankboulder.specs.Meanings.{ReadSummaryMeaning}

-- an answer's number, and the buffer
abbrev numbered : Written → WriteSummaryResult
numbered j = record { number = checked_code j.answer; file = j.file }

module _ (s : List ℕ) (b : Parts) (v : AllBytes s) where
  -- what the fronts of the buffers d are written as
  abbrev Again : Parts → List ℕ → Type 0
  Again d t =
      let k = order_in d in
      write_summary_entry (number_of d.order) (front (k * k) d.low) (front (k * k) d.high) (front k d.from) (front k d.to) (number_of d.limit) (front k d.centre) t
      ≡ record { number = pos 0; file = file_of (problem_in d) }

  abbrev left : Parts
  left = (read_summary s b).parts

  module _ (e : checked_code (read_summary s b).answer ≡ pos 0) where
    handed : Stored s left
    handed = handing_stored s b (code_passed _ e)

    abbrev given : Problem
    given = handed.problem

    through : LetThrough given
    through = (reading-means s v).through handed.read

    back : problem_in (parts_of given) ≡ given
    back = problem-back given through

    spelled : problem_in left ≡ given
    spelled = ap problem_in handed.stored ∙ back

    read : reading s ≡ Ok (problem_in left)
    read = handed.read ∙ ap Ok (sym spelled)

    written-again : (t : List ℕ) → length t ≡ length s → Again left t
    unfolding write_summary_entry
    written-again t h =
        subst (λ (d : Parts). Again d t) (sym handed.stored)
        (ap numbered (rewritten given through t (h ∙ accepted-size s handed.read v))
        ∙ ap (λ (p : Problem). record { number = pos 0; file = file_of p }) (sym back))

  read_summary_means : (let j = read_summary_entry s b in ReadSummaryMeaning s j.parts j.number)
  unfolding read_summary_entry
  read_summary_means =
      let means = reading-means s v in
      record {
        problem = read;
        through = λ e. subst LetThrough (sym (spelled e)) (through e);
        file = λ e h. ap file_of (spelled e) ∙ means.back (handed e).read h;
        only = λ e f. means.only (handed e).read (sym (ap file_of (spelled e)) ∙ f);
        again = written-again;
      }

  -- so does that of an answer that is the definition's
  pub read_summary_exactly : {h : Handed} → h ≡ read_summary s b →
      record { exact : ◌≡◌ {A = ReadSummaryResult} (record { number = checked_code h.answer; parts = h.parts }) (read_summary_entry s b); meaning : ReadSummaryMeaning s h.parts (checked_code h.answer) }
  unfolding read_summary_entry
  read_summary_exactly {h} e =
      exactly (λ (j : ReadSummaryResult). ReadSummaryMeaning s j.parts j.number) read_summary_means (record { number = checked_code h.answer; parts = h.parts })
      (ap (λ (j : Handed). record { number = checked_code j.answer; parts = j.parts }) e)
