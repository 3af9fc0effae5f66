use Rattle.std.proofs.Common.{◌≡◌}
use Rattle.cmd_debug.proofs.LineLemmas.{IsTaking}
use Rattle.cmd_debug.proofs.line.read_line.Given as goal

abbrev pub invariant-bytes : goal.invariant-bytes
invariant-bytes g l =
    IsTaking (g.S.Source.left l.initial.source) (g.S.Source.left l.source) (g.S.Source.room l.initial.source) (g.S.Source.room l.source) l.line.items
    × (g.S.Source.failures l.source ≡ g.S.Source.failures l.initial.source)

abbrev pub decreases-bytes : goal.decreases-bytes
decreases-bytes g l = g.S.Source.room l.source
