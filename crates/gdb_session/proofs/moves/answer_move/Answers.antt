use Rattle.gdb_session.proofs.BeginLemmas.{begins_anyhow}
use Rattle.gdb_session.proofs.moves.answer_move.Goals as goal

pub returns-then-is_err-clause-kept : goal.returns-then-is_err-clause-kept
returns-then-is_err-clause-kept g c =
    begins_anyhow c.push_stop.result c.args.out.now.items c.push_stop.new.out.items _
    c.push_stop.ensures.ok c.push_stop.ensures.kept
