use Rattle.std.proofs.Common.{◌≡◌, ◌<◌, ◌^◌, drop}
use Rattle.std.specs.Option.{option_map}
use Rattle.debug_text.specs.Numbers.{held, number_after}
use Rattle.debug_text.proofs.number.number_of.Given as goal

-- the number so far, and the digits that are left
abbrev pub invariant-digits : goal.invariant-digits
invariant-digits l =
    (l.number < 2 ^ 64)
    × (option_map held (number_after l.base l.number (drop l.byte-index l.digits)) ≡ option_map held (number_after l.base 0 l.digits))
