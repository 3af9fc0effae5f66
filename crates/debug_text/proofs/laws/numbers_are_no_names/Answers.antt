use Rattle.debug_text.proofs.AddressLemmas.{is_number, without_symbols}
use Rattle.debug_text.proofs.laws.numbers_are_no_names.Goals as goal

pub returns-clause-number : goal.returns-clause-number
returns-clause-number g symbols text a number = is_number symbols text a number

pub returns-clause-without : goal.returns-clause-without
returns-clause-without g text = without_symbols text
