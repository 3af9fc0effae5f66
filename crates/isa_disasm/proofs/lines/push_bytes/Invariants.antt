use Rattle.std.proofs.Common.{◌≡◌, ◌++◌, ◌+◌, [], string_bytes, drop}
use Rattle.isa_disasm.specs.Listing.{byte_lines}
use Rattle.isa_disasm.proofs.lines.push_bytes.Given as goal

-- the text so far, and then the lines of the bytes that are left
abbrev pub invariant-bytes : goal.invariant-bytes
invariant-bytes g l = string_bytes l.text ++ byte_lines (l.base + l.index) (drop l.index l.bytes) []
    ≡ string_bytes l.initial.text ++ byte_lines l.base l.bytes []
