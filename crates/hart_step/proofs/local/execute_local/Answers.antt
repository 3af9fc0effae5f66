use Rattle.std.proofs.Common.{refl}
use Rattle.hart_step.proofs.local.execute_local.Goals as goal

pub returns-in-Jal : goal.returns-in-Jal
returns-in-Jal c = λ m r h refuse. rw (c.in-Jal.is) (rw (c.word.ensures.value) at (c.jump.ensures m r))

pub returns-in-Jalr : goal.returns-in-Jalr
returns-in-Jalr c = λ m r h refuse.
    rw (c.in-Jalr.is) (rw (c.get.ensures, c.word-in-Jalr.ensures.value) at (c.jump-in-Jalr.ensures m r))

pub returns-in-Branch : goal.returns-in-Branch
returns-in-Branch c = λ m r h refuse.
    rw (c.in-Branch.is) (rw (c.is_taken-taken.ensures, c.get-in-Branch.ensures, c.get-in-Branch-2.ensures, c.word-in-Branch.ensures.value)
    at (c.branch-hart.ensures m r))

pub returns-in-Fence : goal.returns-in-Fence
returns-in-Fence c = λ m r h refuse. rw (c.in-Fence.is, c.advance.ensures) refl
