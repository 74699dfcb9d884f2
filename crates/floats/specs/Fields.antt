-- What private functions promise each other of a float's bits: the digits below the leading one, and the exponent's field.
use Rattle.std.specs.Prelude.{true, false, ℕ, zero, suc, ◌+◌, ◌-◌, ◌^◌, ltb}

-- the digits with the leading one, which a number whose exponent's field is 0 lacks
unfoldable pub significand_of : ℕ → ℕ → ℕ
significand_of zero digits = digits
significand_of (suc exponent) digits = 2 ^ 23 + digits

-- how many of the digits stand behind the point, and 24 where all of them do
unfoldable pub places_of : ℕ → ℕ
places_of exponent = elim (ltb exponent 126) [ true ↦ 24 | false ↦ 150 - exponent ]
