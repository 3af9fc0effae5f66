use Rattle.std.proofs.Common.{subst, []}
use Rattle.gdb_frames.specs.Grammar.{ReadsFrames}
use Rattle.gdb_frames.proofs.GrammarLemmas.{items_read, reads_of}
use Rattle.gdb_frames.proofs.laws.read_as_in_the_grammar.Goals as goal

pub returns : goal.returns
returns c = λ bytes items. (λ e. subst (ReadsFrames bytes) e (reads_of bytes), λ r. items_read r [])
