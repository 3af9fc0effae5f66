use Rattle.gdb_requests.proofs.NumeralLemmas.{number_of_numeral, numeral_of}
use Rattle.gdb_requests.proofs.laws.numbers_are_numerals.Goals as goal

pub returns : goal.returns
returns c = λ text n. (numeral_of text n, number_of_numeral text n)
