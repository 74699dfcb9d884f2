-- Lines, computed: no padding, no plus sign, and the least number of 64 bits.
use mathlib.Core.Path.{◌≡◌, refl}
use mathlib.Core.List.{[], ◌∷◌}
use lib.IntN.{pos, negsuc}
use Rattle.text.specs.Text.{ascii, digits, natural, decimal, numbers, line, lines}

two-lines : lines (ascii "side") (negsuc 0 ∷ pos 5 ∷ pos 0 ∷ negsuc 9223372036854775807 ∷ []) 2 2 ≡
    ascii "side -1 5\nside 0 -9223372036854775808\n"
unfolding lines line numbers decimal natural digits
two-lines = refl
