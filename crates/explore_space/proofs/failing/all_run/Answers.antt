use Rattle.std.proofs.Common.{sym, arith}
use Rattle.explore_space.proofs.RunningLemmas.{all_read}
use Rattle.explore_space.proofs.failing.all_run.Goals as goal

pub returns : goal.returns
returns c =
    sym (all_read c.args.harts.now c.args.words.now c.words.word-index (omega (arith, c.words-test.false)) c.words.invariant)
