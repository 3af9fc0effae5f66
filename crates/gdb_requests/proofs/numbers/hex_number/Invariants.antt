use Rattle.std.proofs.Common.{◌≡◌, drop}
use Rattle.gdb_requests.specs.Numbers.{hex_digits_after}
use Rattle.gdb_requests.proofs.numbers.hex_number.Given as goal

-- the number so far, and the digits that are left
abbrev pub invariant-digits : goal.invariant-digits
invariant-digits l = hex_digits_after l.number (drop l.byte-index l.digits) ≡ hex_digits_after 0 l.digits
