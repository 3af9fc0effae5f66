use Rattle.std.proofs.Common.{◌≡◌, cond, List, [], ◌++◌, ap, sym, ◌∙◌, subst}
use Rattle.std.proofs.lemmas.List.{append-nil}
use Rattle.std.specs.Prelude.{OnOk}
use Rattle.hart_local.specs.LocalRuns.{plain_choices}
use Rattle.machine.specs.State.{state}
use Rattle.machine.specs.declared.choice.Choice.{Choice}
use Rattle.explore_space.specs.Begun.{first_steps, hart_begun}
use Rattle.explore_space.proofs.expanding.take_if_chosen.Goals as goal

pub returns-then-not-choose-clause-world : goal.returns-then-not-choose-clause-world
returns-then-not-choose-clause-world g c =
    let w = state c.args.machine.now in
    ap (λ b. cond b (hart_begun c.args.code.now.section w c.args.number) w) (sym c.if-not-choose.true ∙ c.choose.ensures)

pub returns-then-not-choose-clause-choices : goal.returns-then-not-choose-clause-choices
returns-then-not-choose-clause-choices g c =
    let more : List Choice = plain_choices c.args.number (first_steps c.args.code.now.section (state c.args.machine.now) c.args.number) in
    sym (append-nil c.args.choices.now.items)
    ∙ ap (λ b. c.args.choices.now.items ++ cond b more []) (sym c.if-not-choose.true ∙ c.choose.ensures)

pub returns-clause-world : goal.returns-clause-world
returns-clause-world g c =
    let w = state c.args.machine.now in
    subst (λ b. OnOk c.take_first.result (state c.take_first.new.machine ≡ cond b (hart_begun c.args.code.now.section w c.args.number) w))
    (sym c.if-not-choose.false ∙ c.choose.ensures) c.take_first.ensures.world

pub returns-clause-choices : goal.returns-clause-choices
returns-clause-choices g c =
    let more : List Choice = plain_choices c.args.number (first_steps c.args.code.now.section (state c.args.machine.now) c.args.number) in
    subst (λ b. OnOk c.take_first.result (c.take_first.new.choices.items ≡ c.args.choices.now.items ++ cond b more []))
    (sym c.if-not-choose.false ∙ c.choose.ensures) c.take_first.ensures.choices
