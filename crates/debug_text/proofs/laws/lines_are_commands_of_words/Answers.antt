use Rattle.debug_text.proofs.LineLemmas.{command_is, has_words}
use Rattle.debug_text.proofs.laws.lines_are_commands_of_words.Goals as goal

pub returns-clause-words : goal.returns-clause-words
returns-clause-words g line = has_words line

pub returns-clause-command : goal.returns-clause-command
returns-clause-command g symbols line = command_is symbols line
