use Rattle.std.proofs.Common.{◌≡◌, take, filter}
use Rattle.hart_local.specs.CodeMemory.{is_code_segment}
use Rattle.hart_local.proofs.image_code.code_copies.Given as goal

abbrev pub invariant-each : goal.invariant-each
invariant-each g l = l.copies.items ≡ filter is_code_segment (take l.segment-index l.segments)
