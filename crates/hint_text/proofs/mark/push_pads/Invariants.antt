use Rattle.std.proofs.Common.{◌≡◌, ◌++◌, string_bytes, drop}
use Rattle.std.specs.List.{flat_map}
use Rattle.hint_text.specs.Mark.{pad}
use Rattle.hint_text.proofs.mark.push_pads.Given as goal

-- the text so far, and then the room that is left
abbrev pub invariant-bytes : goal.invariant-bytes
invariant-bytes g l = string_bytes l.text ++ flat_map pad (drop l.byte-index l.bytes)
    ≡ string_bytes l.initial.text ++ flat_map pad l.bytes
