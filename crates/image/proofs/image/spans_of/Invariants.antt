use Rattle.std.proofs.Common.{◌≡◌, take, map}
use Rattle.image.specs.Image.{span_of}
use Rattle.image.proofs.image.spans_of.Given as goal

abbrev pub invariant-segments : goal.invariant-segments
invariant-segments g l = l.spans.items ≡ map span_of (take l.segment-index l.segments)
