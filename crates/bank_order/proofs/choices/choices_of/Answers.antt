use Rattle.std.proofs.Common.{rules, ◌≡◌, ◌+◌, ◌<◌, length, drop, slice_index_or, ap}
use Rattle.bank_laws.specs.Merged.{segment_choices}
use Rattle.bank_order.specs.Logs.{borrowed_segments}
use Rattle.bank_order.proofs.ChoiceLemmas.{drop_is, segments_more}
use Rattle.bank_order.proofs.choices.choices_of.Goals as goal

pub segments-preserved : goal.segments-preserved
segments-preserved g c =
    let es = c.args.segments.now in
    let i = c.segments.segment-index in
    let e = c.segment-item.result in
    let low : i < length es = search rules in
    let is : e ≡ slice_index_or es i e = search rules in
    segments_more c.segments.choices.items c.push_choices.new.choices.items (borrowed_segments (drop i es)) (borrowed_segments (drop (i + 1) es)) e.now (segment_choices (borrowed_segments es)) (ap borrowed_segments (drop_is es i e low is)) c.segments.invariant c.in_ok-push_choices.ensures
