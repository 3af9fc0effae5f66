use Rattle.elf_laws.proofs.ListedLemmas.{given_iff, none_iff, bad_iff}
use Rattle.elf_laws.proofs.listed.symbols_are_the_tables.Goals as goal

-- symbols
pub returns-clause-given : goal.returns-clause-given
returns-clause-given c = given_iff

-- no table
pub returns-clause-none : goal.returns-clause-none
returns-clause-none c = none_iff

-- a bad table
pub returns-clause-bad : goal.returns-clause-bad
returns-clause-bad c = bad_iff
