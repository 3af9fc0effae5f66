use Rattle.std.proofs.Common.{◌≡◌, length}
use Rattle.gdb_requests.specs.Features.{has_feature}
use Rattle.gdb_requests.proofs.features.has_feature.Given as goal

abbrev pub invariant-parts : goal.invariant-parts
invariant-parts l = has_feature l.feature l.rest ≡ has_feature l.feature l.list

abbrev pub decreases-parts : goal.decreases-parts
decreases-parts l = length l.rest
