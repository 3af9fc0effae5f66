use Rattle.gdb_replies.proofs.PieceLemmas.{from_pieces}
use Rattle.gdb_replies.proofs.laws.pieces_make_the_whole.Goals as goal

pub returns : goal.returns
returns c = λ whole text pieces. from_pieces pieces
