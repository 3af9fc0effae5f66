use Rattle.gdb_replies.proofs.PieceLemmas.{fits}
use Rattle.gdb_replies.proofs.laws.pieces_fit.Goals as goal

pub returns : goal.returns
returns c = fits
