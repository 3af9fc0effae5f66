use Rattle.isa_table.proofs.NameLemmas.{name_found, mnemonics_of}
use Rattle.isa_table.proofs.mnemonic.Mnemonic.of_name.Goals as goal

pub returns : goal.returns
returns c m = rw (c.first_named.ensures, mnemonics_of c.rows.result.now c.rows.ensures) (name_found c.args.name.now m)
