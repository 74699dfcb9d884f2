use mathlib.Core.Path.{◌≡◌, sym, ap, ◌∙◌}
use mathlib.Core.List.{List}
use Prim.Native.Nat.{ℕ}
use lib.IntN.{ℤ}
use Rattle.std.specs.Prelude.{Result}
use Rattle.integers.proofs.Machine.{clean, clean_element}
use Rattle.tables.specs.Checks.{order_of}
use Rattle.tables.specs.Problem.{constraint_of}
use Rattle.tables.specs.declared.Refusal.{Refusal}
use Rattle.enclosure.specs.Act.{Enclosed, box_act, box_code, Meaning}
use Rattle.enclosure.specs.declared.enclose.BoxAnswer.{BoxAnswer}
use Rattle.enclosure.proofs.BoxCodes.{code_sides, code_empty}
use Rattle.buffers.specs.Buffers.{table_of, vector_of, sides_of}
use Rattle.hankboulder.specs.Entries.{BoxResult, box_stored, box_entry}
use Rattle.hankboulder.specs.Meanings.{BoxMeaning}
use Rattle.hankboulder.proofs.hb_box.Goals as goal

-- an answer's number, and the buffer
abbrev numbered : Enclosed (List ℕ) → BoxResult
numbered j = record { number = box_code j.answer; sides = j.sides }

-- what the number means is what the answer does
number-means : (n : ℤ) (l u a b : List ℕ) (α r : ℤ) (s : List ℕ) (w : Result BoxAnswer Refusal) → r ≡ box_code w →
    (let k = order_of n in
    Meaning w (constraint_of k (table_of k l) (table_of k u) (vector_of k a) (vector_of k b) α) (sides_of k s)) →
    BoxMeaning n l u a b α r s
number-means n l u a b α r s w q m = record {
  holds = λ e. m.holds (code_sides w (sym q ∙ e));
  none = λ e. m.none (code_empty w (sym q ∙ e));
}

pub returns : goal.returns
unfolding box_entry box_stored box_act
returns c =
    let a = c.args in
    let q = c.answer_code.ensures in
    rw (clean_element c.answer_code.result c.answer_code.type_inv) (record {
      exact = rw q (ap numbered (rw (clean c.ranges.n, clean c.ranges.limit) at c.enclose.ensures.exact));
      meaning = number-means a.n a.low.now a.high.now a.linear_low.now a.linear_high.now a.limit _ _ _ q
          (rw (clean c.ranges.n, clean c.ranges.limit) at c.enclose.ensures.meaning);
    })
