use Rattle.std.proofs.Common.{refl}
use Rattle.cmd_run.proofs.InfoLemmas.{names_none}
use Rattle.cmd_run.proofs.info.library_of.Goals as goal

pub returns : goal.returns
returns g c =
    names_none c.args.image.now (c.if-certify.ensures.other refl) (c.if-certify-2.ensures.other refl)
    (c.if-certify-3.ensures.other refl) (c.if-certify-4.ensures.other refl) (c.if-certify-5.ensures.other refl)
