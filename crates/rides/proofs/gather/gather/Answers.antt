use mathlib.Core.Path.{◌≡◌, refl, sym, ap, ◌∙◌}
use mathlib.Core.List.{List}
use Rattle.integers.proofs.Machine.{clean}
use Rattle.tables.specs.Checks.{order_of}
use Rattle.tables.specs.declared.Refusal.TheVariants.{Sample}
use Rattle.tables.proofs.Answers.{exactly, handed_on}
use Rattle.sums.specs.Sums.{Outcome}
use Rattle.sums.specs.Lent.{Lent, Left}
use Rattle.samples.specs.Gathering.{gathering}
use Rattle.samples.proofs.Measuring.{Narrow, inside_near, gathering_inside, gathering_outside}
use Rattle.rides.specs.Act.{held_lent, gather_sizes, laid_sample, gather_act, Meaning}
use Rattle.rides.proofs.Meaning.{gather-means}
use Rattle.rides.proofs.gather.gather.Given.{Over}
use Rattle.rides.proofs.gather.gather.Goals as goal
use Rattle.rides.proofs.gather.gather.Goals.{Start}

module _ (g : Over) (c : Start g) where
  -- the numbers of the sample are of 32 bits
  narrow : Narrow c.args.sample
  narrow =
      let w = c.well_formed.0.1.1 in
      record { rolling = w.0.1; climb = w.1.0.1; air = w.1.1.0.1; start = w.1.1.1.0.1; draw = w.1.1.1.1.0.1 }

  abbrev lent : Lent (List g.row.E.Denot)
  lent = let a = c.args in record { low = a.low.now; high = a.high.now; from = a.from.now; to = a.to.now; limit = a.limit.now }

  -- what gathering gives, the buffers with it, and what that means
  abbrev whole : Outcome
  whole = gathering c.args.sample c.args.n (gather_sizes g.E.Element.taken (order_of c.args.n) lent)
      (held_lent g.E.Element.numbers (order_of c.args.n) lent)

  abbrev given : Outcome → Left (List g.row.E.Denot)
  given o = laid_sample g.E.Element.elements o lent

  abbrev means : Left (List g.row.E.Denot) → Type 0
  means j =
      Meaning c.args.sample j.answer (held_lent g.E.Element.numbers (order_of c.args.n) lent)
      (held_lent g.E.Element.numbers (order_of c.args.n) j.sums)

  stated : (o : Outcome) → o ≡ whole → (j : Left (List g.row.E.Denot)) → j ≡ given o →
      record {
        exact : j ≡ gather_act g.E.Element.taken g.E.Element.numbers g.E.Element.elements c.args.sample c.args.n lent;
        meaning : means j;
      }
  unfolding gather_act
  stated o e j q = exactly means (gather-means g.E.Element.laws c.args.sample narrow c.args.n lent) j (q ∙ ap given e)

pub returns-in_err-measures : goal.returns-in_err-measures
returns-in_err-measures g c =
    let s = (goal.at.returns-in_err-measures g c).Start in
    let e = c.in_err-measures.ensures in
    let k : c.in_err-measures.field-0.0 ≡ Sample = (let v = rw e.ok_part at e.value in cc) in
    stated g s _ (gathering_outside _ c.args.n _ _ (sym e.ok_part ∙ c.measure.ensures)) _
    (rw (handed_on c.from_residual.ensures.1, k) refl)

pub gather_measured-requires : goal.gather_measured-requires
gather_measured-requires g c =
    inside_near _ (narrow g (goal.at.gather_measured-requires g c).Start) (sym c.in_ok-measures.ensures.ok_part ∙ c.measure.ensures)

pub returns : goal.returns
returns g c =
    let s = (goal.at.returns g c).Start in
    stated g s _ (gathering_inside _ c.args.n _ _ (sym c.in_ok-measures.ensures.ok_part ∙ c.measure.ensures)) _
    (rw (clean c.ranges.n) at c.gather_measured.ensures)
