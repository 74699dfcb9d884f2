-- By the answer.
use mathlib.Core.Path.{refl, sym, ◌∙◌}
use native.Mathlib.Omega.{arith}
use Rattle.integers.proofs.Machine.{clean_element}
use Rattle.buffers.proofs.Stores.{number-stored}
use Rattle.stiffness_buffers.proofs.bracketing.store_ends.Goals as goal
use Rattle.stiffness_buffers.proofs.bracketing.store_ends.Goals.{in-Between, in-AtMost}

pub returns : goal.returns
returns c =
    let a = c.args in
    let stored = number-stored a.bound.now c.requires.1 c.match-found.v-is c.store_signed-2.ensures in
    elim c.match-found.branch [
      | in-Between w ↦
          let t = w.in-Between.t in
          let step = w.step-is ∙ number-stored a.step.now c.requires.0 (clean_element t (omega arith)) w.store_signed.ensures in
          let v = sym c.match-found.v-is ∙ w.v-is ∙ clean_element w.in-Between.v (omega arith) in
          rw (w.in-Between.is, stored, step, v) refl
      | in-AtMost w ↦
          let v = sym c.match-found.v-is ∙ w.v-is ∙ clean_element w.in-AtMost.v (omega arith) in
          rw (w.in-AtMost.is, stored, w.step-is, v) refl
    ]
