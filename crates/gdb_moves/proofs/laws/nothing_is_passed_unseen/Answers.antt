use Rattle.gdb_moves.proofs.AfterLemmas.{seen_ahead, seen_back}
use Rattle.gdb_moves.proofs.laws.nothing_is_passed_unseen.Goals as goal

pub returns-clause-ahead : goal.returns-clause-ahead
returns-clause-ahead c = λ passed reason from to k i stop least low high out.
    seen_ahead passed reason from to k i stop least low high out

pub returns-clause-back : goal.returns-clause-back
returns-clause-back c = λ passed reason to k i stop greatest low high out.
    seen_back passed reason to k i stop greatest low high out
