use Rattle.std.proofs.Common.{◌≡◌, ◌++◌, ◌+◌, ◌*◌, string_bytes, drop}
use Rattle.isa_disasm.specs.Listing.{listing}
use Rattle.isa_disasm.proofs.lines.push_words.Given as goal

-- the text so far, and then the listing of what is left
abbrev pub invariant-words : goal.invariant-words
invariant-words g l = string_bytes l.text ++ listing (l.base + 4 * l.index) (drop (4 * l.index) l.bytes)
    ≡ string_bytes l.initial.text ++ listing l.base l.bytes
