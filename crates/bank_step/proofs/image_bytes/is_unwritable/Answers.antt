use Rattle.std.proofs.Common.{arith, sym, ap, ◌∙◌, not, Some}
use Rattle.image.specs.Segment.{SegmentValue}
use Rattle.mem_store.specs.Memory.{grants, to_write}
use Rattle.bank_step.proofs.ImageLemmas.{unwritable_in_one}
use Rattle.bank_step.proofs.image_bytes.is_unwritable.Goals as goal

pub returns-in-Some : goal.returns-in-Some
returns-in-Some g c =
    ap not (c.grants.ensures ∙ ap (λ (s : SegmentValue). grants to_write (Some s.rights)) c.segment.view_is)
    ∙ sym (unwritable_in_one c.args.segments.now c.args.address c.in-Some.segment.now (omega arith) c.in-Some.ensures.all)
