use Rattle.test_banked.proofs.ProgramLemmas.{of_run}
use Rattle.test_banked.proofs.merging.merged_with.Goals as goal

pub merge-requires : goal.merge-requires
merge-requires g c =
    of_run _ _ _ _ _ _ (c.are_of_harts.ensures c.if-not-are_of_harts.false) (c.are_of_banks.ensures c.if-not-are_of_banks.false)
