use Rattle.std.proofs.Common.{◌≡◌, ◌+◌, ◌-◌, ◌≤◌, ◌++◌, length, take, arith, sym, ap, subst, ◌∙◌}
use Rattle.std.specs.Str.{IsUtf8}
use Rattle.std.proofs.lemmas.Slice.{between_to_end}
use Rattle.std.proofs.lemmas.Str.{IsUtf8-append}
use Rattle.isa_disasm.proofs.BufferLemmas.{has_room, ends_join}
use Rattle.isa_disasm.proofs.buffer.LineBuffer.push_short.Goals as goal

pub invariant_of-self : goal.invariant_of-self
invariant_of-self c =
    let text = c.as_bytes-bytes.result.now in
    let same : text ≡ c.args.text.now = c.as_bytes-bytes.ensures.value in
    let at = c.self.inside.length in
    let fits : at + 4 ≤ 64 = has_room c.self.inside.bytes _ at 4 c.self.invariant.0 (omega arith) (sym c.self.view_is) c.requires.room in
    let last = c.copy_from_slice-2.ensures.after ∙ between_to_end text (length text - 2) (length text) (omega arith) in
    let joined = ends_join c.self.inside.bytes text c.copy_from_slice.new.self c.copy_from_slice-2.new.self at _ _ fits (omega arith)
    (omega (arith, ap length same)) (omega (arith, ap length same)) c.copy_from_slice.ensures.after last in
    (omega (arith, ap length same), subst IsUtf8 (sym joined) (IsUtf8-append (take at c.self.inside.bytes) text c.self.invariant.1 (subst IsUtf8 (sym same) c.utf8.text)))

pub returns : goal.returns
returns c =
    let text = c.as_bytes-bytes.result.now in
    let same : text ≡ c.args.text.now = c.as_bytes-bytes.ensures.value in
    let at = c.self.inside.length in
    let fits : at + 4 ≤ 64 = has_room c.self.inside.bytes _ at 4 c.self.invariant.0 (omega arith) (sym c.self.view_is) c.requires.room in
    let last = c.copy_from_slice-2.ensures.after ∙ between_to_end text (length text - 2) (length text) (omega arith) in
    ends_join c.self.inside.bytes text c.copy_from_slice.new.self c.copy_from_slice-2.new.self at _ _ fits (omega arith)
    (omega (arith, ap length same)) (omega (arith, ap length same)) c.copy_from_slice.ensures.after last
    ∙ ap (λ l. l ++ text) c.self.view_is ∙ ap (λ l. c.args.self.now ++ l) same
