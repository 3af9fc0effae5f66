use Rattle.std.proofs.Common.{◌≡◌, drop}
use Rattle.std.specs.List.{find}
use Rattle.debug_text.specs.Addresses.{is_named}
use Rattle.debug_text.proofs.address.first_address.Given as goal

abbrev pub invariant-symbols : goal.invariant-symbols
invariant-symbols g l = find (is_named l.name) (drop l.symbol-index l.symbols) ≡ find (is_named l.name) l.symbols
