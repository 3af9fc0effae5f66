use Rattle.std.proofs.Common.{◌≡◌, take}
use Rattle.object_library.specs.Images.{bytes_of}
use Rattle.object_library.proofs.images.bytes.Given as goal

abbrev pub invariant-words : goal.invariant-words
invariant-words g l = l.bytes.items ≡ bytes_of (take l.word-index l.words)
