-- What is left, and which of the three functions calls which.
use Rattle.std.proofs.Common.{◌+◌, ◌*◌}
use Rattle.tried.proofs.+search_search_after_search_with.Given as goal

abbrev pub decreases-search : goal.decreases-search
decreases-search l = 3 * l.left + 2

abbrev pub decreases-search_after : goal.decreases-search_after
decreases-search_after l = 3 * l.left + 3

abbrev pub decreases-search_with : goal.decreases-search_with
decreases-search_with l = 3 * l.left + 1
