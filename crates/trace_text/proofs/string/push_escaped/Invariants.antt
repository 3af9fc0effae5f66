use Rattle.std.proofs.Common.{◌≡◌, ◌++◌, drop}
use Rattle.json.specs.Print.{escape}
use Rattle.trace_text.proofs.string.push_escaped.Given as goal

-- the text so far, and then the escapes of the bytes that are left
abbrev pub invariant-bytes : goal.invariant-bytes
invariant-bytes g l = l.out.items ++ escape (drop l.byte-index l.bytes) ≡ l.initial.out.items ++ escape l.bytes
