use Rattle.std.proofs.Common.{◌≡◌, true, not, ◌&&◌, take, map}
use Rattle.std.specs.List.{list_all}
use Rattle.hart_step.specs.Hart.{hart_of}
use Rattle.object_library.specs.Rules.{is_faulted}
use Rattle.object_library.specs.Judging.{decides}
use Rattle.object_library.proofs.judging.is_consensus.Given as goal

abbrev pub invariant-harts : goal.invariant-harts
invariant-harts l =
    list_all (λ h. not (is_faulted (hart_of h).state) && decides l.inputs l.choices (map hart_of l.harts) (hart_of h)) (take l.hart-index l.harts) ≡ true
