use Rattle.program_open.proofs.HexLaws.{words_are, faults_are}
use Rattle.program_open.proofs.limits.hex_texts_are_decided.Goals as goal

pub returns-clause-words : goal.returns-clause-words
returns-clause-words c = words_are

pub returns-clause-faults : goal.returns-clause-faults
returns-clause-faults c = faults_are
