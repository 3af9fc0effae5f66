use Rattle.std.proofs.Common.{◌≡◌, true, take}
use Rattle.std.specs.List.{list_all}
use Rattle.hart_step.specs.Hart.{hart_of}
use Rattle.object_library.specs.Judging.{agrees}
use Rattle.object_library.proofs.judging.all_agree.Given as goal

abbrev pub invariant-others : goal.invariant-others
invariant-others l = list_all (λ k. agrees (hart_of l.hart) (hart_of k)) (take l.other-index l.harts) ≡ true
