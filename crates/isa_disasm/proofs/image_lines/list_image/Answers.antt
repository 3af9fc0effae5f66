use Rattle.std.proofs.Common.{◌≡◌, rules, map, string_bytes}
use Rattle.std.proofs.lemmas.List.Sorted.{IsNonDecreasingBy-from_sort_by_key}
use Rattle.std.specs.List.{flat_map}
use Rattle.std.specs.Borrow.{Bor}
use Rattle.image.specs.Segment.{SegmentValue}
use Rattle.isa_disasm.specs.Segments.{segment_text, now_of}
use Rattle.isa_disasm.proofs.SegmentLemmas.{all_have_room, lists_segments}
use Rattle.isa_disasm.proofs.image_lines.list_image.Goals as goal

pub push_segments-requires : goal.push_segments-requires
push_segments-requires g c =
    rw c.deref.ensures.value (
    all_have_room c.args.image.now.entry c.args.image.now.segments c.in_ok-order.order.items c.sort_by_key.new.self.items
    c.segments.ensures.sound
    (rw c.segments.ensures.value at c.in_ok-order.ensures)
    c.in_ok-sort_by_key.ensures.permutation)

pub returns : goal.returns
returns g c =
    let lines : string_bytes c.push_segments.new.text ≡ flat_map segment_text (map now_of c.sort_by_key.new.self.items) = search rules in
    lists_segments c.args.image.now.segments c.in_ok-order.order.items c.sort_by_key.new.self.items _
    (rw c.segments.ensures.value at c.in_ok-order.ensures)
    c.in_ok-sort_by_key.ensures.permutation
    (IsNonDecreasingBy-from_sort_by_key (λ (r : Bor SegmentValue). r.now.base) _ c.in_ok-sort_by_key.ensures.sorted (λ a r q k. search rules))
    lines
