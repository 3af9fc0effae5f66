use Rattle.std.proofs.Common.{◌≡◌, ◌++◌, drop}
use Rattle.bank_laws.specs.Merged.{segment_choices}
use Rattle.bank_order.specs.Logs.{borrowed_segments}
use Rattle.bank_order.proofs.choices.choices_of.Given as goal

-- the choices so far, and those of the segments that are left
abbrev pub invariant-segments : goal.invariant-segments
invariant-segments g l = l.choices.items ++ segment_choices (borrowed_segments (drop l.segment-index l.segments)) ≡ segment_choices (borrowed_segments l.segments)
