use Rattle.std.proofs.Common.{◌≡◌, ◌≤◌, None}
use Rattle.cmd_gdb.proofs.PacketLemmas.{ReadsOnto}
use Rattle.cmd_gdb.proofs.packets.next_found.Given as goal

abbrev pub invariant-bytes : goal.invariant-bytes
invariant-bytes g l =
    ReadsOnto (g.S.Source.left l.initial.source) (g.S.Source.left l.source) l.initial.reader
    l.reader None
    × (g.S.Source.room l.source ≤ g.S.Source.room l.initial.source)
    × (g.S.Source.failures l.source ≡ g.S.Source.failures l.initial.source)

abbrev pub decreases-bytes : goal.decreases-bytes
decreases-bytes g l = g.S.Source.room l.source
