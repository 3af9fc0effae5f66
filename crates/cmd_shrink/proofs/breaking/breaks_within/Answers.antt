use Rattle.std.proofs.Common.{◌≡◌, rules, arith, true, false, drop, ◌∙◌}
use Rattle.machine.specs.State.{state}
use Rattle.property_judge.specs.Property.{holds_in}
use Rattle.cmd_shrink.proofs.BreakLemmas.{broken_at_end, broken_at_once, broken_next}
use Rattle.cmd_shrink.proofs.breaking.breaks_within.Goals as goal

pub returns-then-not-holds_in : goal.returns-then-not-holds_in
returns-then-not-holds_in g c =
    let fails : holds_in c.args.property (state c.choices.machine) ≡ false = search rules in
    broken_at_once c.args.property (state c.choices.machine) (drop c.choices.choice-index c.args.choices.now) fails ∙ c.choices.invariant

pub choices-preserved : goal.choices-preserved
choices-preserved g c =
    let holds : holds_in c.args.property (state c.choices.machine) ≡ true = search rules in
    broken_next c.args.property (state c.choices.machine) (state c.take_step.new.machine) c.args.choices.now c.choices.choice-index
    (record { hart = 0; refuse = false }) (omega arith) (search rules) holds ∙ c.choices.invariant

pub returns : goal.returns
returns g c =
    broken_at_end c.args.property (state c.choices.machine) c.args.choices.now c.choices.choice-index _
    (omega (arith, c.choices-test.false, c.choices.auto.choice-index-end)) c.holds_in-2.ensures ∙ c.choices.invariant
