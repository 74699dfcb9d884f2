-- The tried, then the solved ones.
use Rattle.verdict.proofs.Listing.{first_hit, first_miss}
use Rattle.verdict.proofs.listed.first_listed.Goals as goal

pub returns-in-Some : goal.returns-in-Some
returns-in-Some c = first_hit _ _ _ _ _ (rw c.in-Some.is at c.first_tried.ensures)

pub returns-in-Some-solved_shows : goal.returns-in-Some-solved_shows
returns-in-Some-solved_shows c =
    first_miss _ _ _ _ _ (rw c.in_default.is at c.first_tried.ensures)
    (first_hit _ _ _ _ _ (rw c.in-Some-solved_shows.is at c.solved_shows.ensures))

pub returns : goal.returns
returns c =
    first_miss _ _ _ _ _ (rw c.in_default.is at c.first_tried.ensures)
    (first_miss _ _ _ _ _ (rw c.in_default-solved_shows.is at c.solved_shows.ensures) c.solved_shows-2.ensures)
