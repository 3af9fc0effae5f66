use Rattle.std.proofs.Common.{string_bytes, sym, ◌∙◌, arith}
use Rattle.cmd_shrink.proofs.FailureLemmas.{fails_so}
use Rattle.cmd_shrink.proofs.ShrunkLemmas.{is_shrunk}
use Rattle.cmd_shrink.proofs.shortening.shortened.Goals as goal

pub shrink_choices-requires : goal.shrink_choices-requires
shrink_choices-requires g c =
    fails_so c.args.expect c.args.properties.now c.args.image.now c.args.inputs.now c.args.given.now c.in-Some.failure
    (sym c.in_ok-failure.ensures ∙ c.in-Some.is)

pub returns-clause-shrunk : goal.returns-clause-shrunk
returns-clause-shrunk g c =
    let most = c.requires.takes.1 in
    is_shrunk c.args.expect c.args.properties.now c.args.image.now c.args.inputs.now c.args.given.now c.in_ok-choices.choices.items c.deref.result.now
    (string_bytes c.in_ok-text.text) c.in-Some.failure (omega (arith, most)) c.requires.within
    (sym c.in_ok-failure.ensures ∙ c.in-Some.is) c.in_ok-choices.ensures.less c.in_ok-choices.ensures.fails
    c.in_ok-choices.ensures.minimal c.in_ok-choices.ensures.few c.deref.ensures.value c.in_ok-text.ensures.text
