use Rattle.std.proofs.Common.{◌≡◌, None, drop}
use Rattle.std.specs.Option.{option_map}
use Rattle.elf_read.specs.Label.{nearest_label}
use Rattle.elf_read.proofs.label.nearest_label.Given as goal

-- the nearest so far, and the symbols that are left
abbrev pub invariant-symbols : goal.invariant-symbols
invariant-symbols g l = nearest_label (option_map (λ s. s.now) l.best) (drop l.symbol-index l.symbols) l.address
    ≡ nearest_label None l.symbols l.address
