use Rattle.std.proofs.Common.{◌≡◌, ◌^◌, ◌<◌, drop}
use Rattle.program_open.specs.HexText.{hex_after}
use Rattle.program_open.proofs.hex.read_word.Given as goal

abbrev pub invariant-loop-byte : goal.invariant-loop-byte
invariant-loop-byte l =
    (l.word < 16 ^ l.byte-index) × (hex_after 0 l.item ≡ hex_after l.word (drop l.byte-index l.item))
