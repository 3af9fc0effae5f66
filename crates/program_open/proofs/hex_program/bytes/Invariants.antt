use Rattle.std.proofs.Common.{◌≡◌, ◌++◌, drop}
use Rattle.program_open.specs.HexImage.{hex_bytes}
use Rattle.program_open.proofs.hex_program.bytes.Given as goal

-- the bytes so far, and then those of the words that are left
abbrev pub invariant-loop-word : goal.invariant-loop-word
invariant-loop-word g l = l.bytes.items ++ hex_bytes (drop l.word-index l.words) ≡ hex_bytes l.words
