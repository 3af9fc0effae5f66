use Rattle.std.proofs.Common.{◌+◌, ap, ◌∙◌, length, arith}
use Rattle.std.proofs.lemmas.List.{take_all}
use Rattle.machine.specs.Start.{first_harts}
use Rattle.machine.proofs.WorldLemmas.{harts_pushed}
use Rattle.machine.proofs.start.start_harts.Goals as goal

pub loop-number-preserved : goal.loop-number-preserved
loop-number-preserved g c = record {
  items = harts_pushed _ _ _ _ _ _ _ _ c.loop-number-test.true c.in_ok-push.ensures.items c.start_hart.ensures c.loop-number.invariant.items;
  len = c.in_ok-push.ensures.len ∙ ap (λ n. n + 1) c.loop-number.invariant.len;
}

pub returns-clause-items : goal.returns-clause-items
returns-clause-items g c =
    c.loop-number.invariant.items
    ∙ ap (first_harts c.args.entry (length c.args.inputs.now) 0) (take_all c.loop-number.number c.args.inputs.now c.loop-number-test.false)

pub returns-clause-len : goal.returns-clause-len
returns-clause-len g c = omega (arith, c.loop-number.invariant.len, c.loop-number.auto.number-end, c.loop-number-test.false)
