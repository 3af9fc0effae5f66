use Rattle.bank_memory.proofs.EntryLemmas.{entry_aligned}
use Rattle.bank_worker.proofs.AlignedLemmas.{word_aligned}
use Rattle.bank_worker.proofs.step.step_outside_code.Goals as goal

pub step_to_nothing-requires-clause-aligned : goal.step_to_nothing-requires-clause-aligned
step_to_nothing-requires-clause-aligned g c =
    word_aligned c.args.job.now.image.now c.args.log.now c.args.walked.now c.args.word c.requires.next (entry_aligned _ _ c.segments.ensures.sound) c.requires.need

pub step_in_one_bank-requires-clause-aligned : goal.step_in_one_bank-requires-clause-aligned
step_in_one_bank-requires-clause-aligned g c =
    word_aligned c.args.job.now.image.now c.args.log.now c.args.walked.now c.args.word c.requires.next (entry_aligned _ _ c.segments.ensures.sound) c.requires.need

pub step_in_two_banks-requires-clause-aligned : goal.step_in_two_banks-requires-clause-aligned
step_in_two_banks-requires-clause-aligned g c =
    word_aligned c.args.job.now.image.now c.args.log.now c.args.walked.now c.args.word c.requires.next (entry_aligned _ _ c.segments.ensures.sound) c.requires.need
