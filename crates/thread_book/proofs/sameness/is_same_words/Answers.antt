use Rattle.std.proofs.Common.{rules}
use Rattle.thread_book.proofs.SamenessLemmas.{same_registers}
use Rattle.thread_book.proofs.sameness.is_same_words.Goals as goal

pub returns : goal.returns
returns c = same_registers c.eq.result c.args.ones.now c.args.others.now c.requires (search rules)
