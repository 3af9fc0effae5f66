use Rattle.std.proofs.Common.{◌≡◌, ◌≤◌, ◌^◌, take, sum_by}
use Rattle.image.proofs.space.is_too_large.Given as goal

abbrev pub invariant-spans : goal.invariant-spans
invariant-spans l = (l.total ≡ sum_by (λ s. s.size) (take l.span-index l.spans)) × (l.total ≤ 2 ^ 24)
