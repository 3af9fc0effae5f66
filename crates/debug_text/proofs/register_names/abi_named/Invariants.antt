use Rattle.std.proofs.Common.{◌≡◌, ◌-◌}
use Rattle.debug_text.specs.RegisterNames.{named_from, abi_named}
use Rattle.debug_text.proofs.register_names.abi_named.Given as goal

-- the registers that are left give what all give
abbrev pub invariant-registers : goal.invariant-registers
invariant-registers l = named_from l.name l.number (32 - l.number) ≡ abi_named l.name
