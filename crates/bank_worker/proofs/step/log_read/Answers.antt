use Rattle.bank_worker.proofs.OutsideLemmas.{read_back, read_fits}
use Rattle.bank_worker.proofs.step.log_read.Goals as goal

pub log_access-requires : goal.log_access-requires
log_access-requires g c =
    read_fits c.args.bank.now c.args.segment.now c.args.word c.args.read.bytes c.args.read.mark c.code_access-access.result c.each_bank_is_logged.ensures c.code_access-access.ensures
    c.requires.there c.requires.aligned c.requires.its_bank c.requires.above c.requires.bytes c.requires.mark

pub returns-in-Ok-clause-read : goal.returns-in-Ok-clause-read
returns-in-Ok-clause-read g c =
    read_back c.args.segment.now c.args.word c.args.read.bytes c.args.read.mark c.code_access-access.result c.code_access-access.ensures
