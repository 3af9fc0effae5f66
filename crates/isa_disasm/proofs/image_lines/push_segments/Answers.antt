use Rattle.isa_disasm.proofs.SegmentLemmas.{room_at}
use Rattle.isa_disasm.proofs.image_lines.push_segments.Goals as goal

pub push_segment-requires : goal.push_segment-requires
push_segment-requires g c = room_at c.args.segments.now c.segments.segment-index c.segment-item.result c.requires c.segments-test.true c.segment-item.is
