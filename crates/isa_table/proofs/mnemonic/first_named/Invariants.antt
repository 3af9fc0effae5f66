use Rattle.std.proofs.Common.{◌≡◌, drop, map}
use Rattle.isa_table.specs.Names.{first_with_name}
use Rattle.isa_table.proofs.mnemonic.first_named.Given as goal

-- what the rows that are left give is what all give
abbrev pub invariant-rows : goal.invariant-rows
invariant-rows l = first_with_name (map (λ row. row.mnemonic) (drop l.row-index l.rows)) l.name
    ≡ first_with_name (map (λ row. row.mnemonic) l.rows) l.name
