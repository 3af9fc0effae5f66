use Rattle.cmd_threads.proofs.ExitLemmas.{exits_kept}
use Rattle.cmd_threads.proofs.laws.objects_on_threads_exit.Goals as goal

pub returns : goal.returns
returns c = λ program inputs rule object budget plan b words outcome often.
    exits_kept object.kind object.image inputs budget plan b object.same object.meant words outcome often
