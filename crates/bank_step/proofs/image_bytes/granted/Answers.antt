use Rattle.std.proofs.Common.{sym, ap, ◌∙◌, ◌+◌, Some}
use Rattle.image.specs.Segment.{SegmentValue}
use Rattle.mem_store.specs.Memory.{grants}
use Rattle.mem_store.specs.Image.{segments_memory}
use Rattle.mem_flat.proofs.ReadLemmas.{all_below_fails}
use Rattle.bank_step.proofs.ImageLemmas.{granted_in_one}
use Rattle.bank_step.proofs.image_bytes.granted.Goals as goal

pub returns-then-not-grants : goal.returns-then-not-grants
returns-then-not-grants g c =
    sym (all_below_fails c.args.count c.bytes.k (λ k. grants c.args.wanted.0 ((segments_memory c.args.segments.now).rights (c.args.address + k))) c.bytes-test.true
    (rw (c.from.ensures, c.from-in-bytes.ensures) at (sym c.grants-in-bytes.ensures ∙ c.if-not-grants.true)))

pub returns-else-count-eq0 : goal.returns-else-count-eq0
returns-else-count-eq0 g c =
    c.grants.ensures ∙ ap (λ (s : SegmentValue). grants c.args.wanted.0 (Some s.rights)) c.segment.view_is
    ∙ sym (granted_in_one c.args.segments.now c.args.wanted.0 c.args.address c.args.count c.in-Some.segment.now c.if-count-eq0.false c.in-Some.ensures.all)
