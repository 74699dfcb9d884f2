-- One entry fewer is left at each step.
use Rattle.tried.proofs.+search_half.Given as goal

abbrev pub decreases-search_half : goal.decreases-search_half
decreases-search_half l = l.left
