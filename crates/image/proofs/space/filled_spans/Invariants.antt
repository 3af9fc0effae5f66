use Rattle.std.proofs.Common.{◌≡◌, filter, ◌++◌, drop}
use Rattle.image.specs.Spans.{is_filled}
use Rattle.image.proofs.space.filled_spans.Given as goal

abbrev pub invariant-spans : goal.invariant-spans
invariant-spans g l = l.filled.items ++ filter is_filled (drop l.span-index l.spans) ≡ filter is_filled l.spans
