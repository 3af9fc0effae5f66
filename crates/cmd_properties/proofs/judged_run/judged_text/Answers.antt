use Rattle.std.proofs.Common.{sym, ◌∙◌}
use Rattle.run_hangs.proofs.StepLemmas.{harts_stay}
use Rattle.cmd_properties.proofs.judged_run.judged_text.Goals as goal

pub hangs_if-requires-clause-there : goal.hangs_if-requires-clause-there
hangs_if-requires-clause-there g c =
    harts_stay _ _ _ _ c.in-Ok.ensures.ran c.in_ok-machine.ensures.harts ∙ sym c.harts.ensures.harts
