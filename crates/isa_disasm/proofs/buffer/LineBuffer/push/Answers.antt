use Rattle.std.proofs.Common.{arith, sym, ◌∙◌}
use Rattle.isa_disasm.proofs.BufferLemmas.{has_room, stays_text}
use Rattle.isa_disasm.proofs.buffer.LineBuffer.push.Goals as goal

pub invariant_of-self : goal.invariant_of-self
invariant_of-self c =
    let same = c.copy_from_slice.ensures.after ∙ c.as_bytes.ensures.value in (
      has_room c.self.inside.bytes _ c.self.inside.length _ c.self.invariant.0 (omega arith) (sym c.self.view_is) c.requires.room,
      stays_text c.self.inside.bytes c.args.text.now c.copy_from_slice.new.self c.self.inside.length _ c.self.invariant.0 (omega arith) same c.self.invariant.1 c.utf8.text,
    )
