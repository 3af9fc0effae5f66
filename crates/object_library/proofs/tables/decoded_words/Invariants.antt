use Rattle.std.proofs.Common.{◌≡◌, map, Some, take}
use Rattle.isa_table.specs.Decoded.{decoded}
use Rattle.object_library.proofs.tables.decoded_words.Given as goal

abbrev pub invariant-words : goal.invariant-words
invariant-words g l = map (λ i. Some i) l.table.items ≡ map decoded (take l.word-index l.words)
