use Rattle.std.proofs.Common.{◌≡◌, drop}
use Rattle.image.specs.Spans.{stands_in_row}
use Rattle.image.proofs.space.stands_in_row.Given as goal

abbrev pub invariant-spans : goal.invariant-spans
invariant-spans l = stands_in_row l.end (drop l.span-index l.spans) ≡ stands_in_row 0 l.spans
