use Rattle.std.proofs.Common.{refl, ap, length, subst, ◌∙◌, arith}
use Rattle.explore_space.specs.Bounds.{TellsBounds}
use Rattle.explore_space.specs.Every.{CountsPlaces, HoldsOfEvery, TellsEnds, TellsExits}
use Rattle.cmd_explore.proofs.ExploreLemmas.{harts_below, tells_failing, tells_hanging, tells_holding}
use Rattle.cmd_explore.proofs.engine.explored.Goals as goal

pub returns-in_ok-holding_text-in-Holds-clause-told : goal.returns-in_ok-holding_text-in-Holds-clause-told
returns-in_ok-holding_text-in-Holds-clause-told g c =
    let question = c.args.question in
    let image = c.args.image.now in
    let inputs = c.args.inputs.now in
    let found = c.in_ok-held.ensures in
    tells_holding c.args.form question image inputs _ c.in-Holds.held
    (subst (λ a. HoldsOfEvery question.expect.rule question.always question.never_both question.refusals image inputs a) c.in-Holds.is found.holds)
    (subst (λ a. CountsPlaces question.never_both question.refusals image inputs question.most a) c.in-Holds.is found.places)
    (subst (λ a. TellsEnds question.expect.rule question.refusals image inputs a) c.in-Holds.is found.ends)
    (subst (λ a. TellsExits question.never_both question.expect.exit question.refusals image inputs a) c.in-Holds.is found.exits)
    (subst (λ a. TellsBounds question.bounds question.refusals image inputs a) c.in-Holds.is found.bounds)
    c.in_ok-holding_text-in-Holds.ensures refl refl refl refl

pub failing_found-requires : goal.failing_found-requires
failing_found-requires g c =
    let fails = subst (λ a. HoldsOfEvery c.args.question.expect.rule c.args.question.always c.args.question.never_both c.args.question.refusals c.args.image.now
    c.args.inputs.now a) c.in-Fails.is c.in_ok-held.ensures.holds in
    harts_below c.args.question.refusals (length c.args.inputs.now) c.in-Fails.failing.choices.items fails.meant_ones

pub returns-in_ok-failing_found-in-Fails-clause-told : goal.returns-in_ok-failing_found-in-Fails-clause-told
returns-in_ok-failing_found-in-Fails-clause-told g c =
    let few = c.requires.1 in
    tells_failing c.args.form c.args.question c.args.image.now c.args.inputs.now _ (omega (arith, few)) c.in-Fails.failing
    (subst (λ a. HoldsOfEvery c.args.question.expect.rule c.args.question.always c.args.question.never_both c.args.question.refusals c.args.image.now c.args.inputs.now a) c.in-Fails.is
    c.in_ok-held.ensures.holds)
    (subst (λ a. TellsExits c.args.question.never_both c.args.question.expect.exit c.args.question.refusals c.args.image.now c.args.inputs.now a) c.in-Fails.is
    c.in_ok-held.ensures.exits)
    c.in_ok-failing_found-in-Fails.ensures.text c.in_ok-failing_found-in-Fails.ensures.status
    c.in_ok-failing_found-in-Fails.ensures.broken c.in_ok-failing_found-in-Fails.ensures.both c.in_ok-failing_found-in-Fails.ensures.finding

pub returns-in_ok-list_text-in-Hangs-clause-told : goal.returns-in_ok-list_text-in-Hangs-clause-told
returns-in_ok-list_text-in-Hangs-clause-told g c =
    let few = c.requires.1 in
    tells_hanging c.args.form c.args.question c.args.image.now c.args.inputs.now _ (omega (arith, few)) c.in-Hangs.hanging
    (subst (λ a. HoldsOfEvery c.args.question.expect.rule c.args.question.always c.args.question.never_both c.args.question.refusals c.args.image.now c.args.inputs.now a) c.in-Hangs.is
    c.in_ok-held.ensures.holds)
    (subst (λ a. TellsExits c.args.question.never_both c.args.question.expect.exit c.args.question.refusals c.args.image.now c.args.inputs.now a) c.in-Hangs.is
    c.in_ok-held.ensures.exits)
    c.in_ok-list_text-in-Hangs.ensures refl refl refl refl
