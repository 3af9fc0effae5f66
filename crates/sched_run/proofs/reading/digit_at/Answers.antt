use Rattle.std.proofs.Common.{◌+◌, ◌-◌, ◌%◌, sym, ◌∙◌, arith}
use Rattle.sched_run.proofs.LeftLemmas.{digit_first}
use Rattle.sched_run.proofs.reading.digit_at.Goals as goal

pub returns-then-is_blank-clause-first : goal.returns-then-is_blank-clause-first
returns-then-is_blank-clause-first c =
    let hart = (c.from.result + (4294967296 - c.from-2.result)) % 4294967296 in
    digit_first c.args.harts c.args.from hart c.args.text.now c.ranges.harts.fits
    (omega (arith, c.if-after-text.false))
    (omega (arith, c.from.ensures, c.from-2.ensures, c.if-hart-min.true, c.min.ensures))
    (omega (arith, c.if-hart-min.true, c.min.ensures))
    (omega (arith, c.if-hart-min.true, c.min.ensures))
    (sym c.is_blank.ensures ∙ c.if-is_blank.true)
