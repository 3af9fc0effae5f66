use Rattle.std.proofs.Common.{sym}
use Rattle.sched_text.proofs.ItemLemmas.{digit_run}
use Rattle.sched_text.proofs.choice_text.read_run.Goals as goal

pub returns-in-Some : goal.returns-in-Some
returns-in-Some c =
    let digit = c.in-Some.ensures.digit in
    sym (digit_run c.args.harts c.args.at c.in-Some.hart c.args.item.now digit.0 digit.1 c.in-Some.ensures.there c.ranges.harts.fits)
