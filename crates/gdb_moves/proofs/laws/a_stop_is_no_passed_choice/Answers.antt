use Rattle.gdb_moves.proofs.AfterLemmas.{stop_ahead, stop_back}
use Rattle.gdb_moves.proofs.laws.a_stop_is_no_passed_choice.Goals as goal

pub returns-clause-ahead : goal.returns-clause-ahead
returns-clause-ahead c = λ passed reason from to i stop least.
    stop_ahead passed reason from to i stop least

pub returns-clause-back : goal.returns-clause-back
returns-clause-back c = λ passed reason to i stop greatest.
    stop_back passed reason to i stop greatest
