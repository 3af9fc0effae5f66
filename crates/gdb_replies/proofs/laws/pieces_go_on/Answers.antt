use Rattle.gdb_replies.proofs.PieceLemmas.{goes_on}
use Rattle.gdb_replies.proofs.laws.pieces_go_on.Goals as goal

pub returns : goal.returns
returns c = goes_on
