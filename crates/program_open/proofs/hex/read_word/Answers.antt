use Rattle.std.proofs.Common.{◌<◌, ◌^◌, arith}
use Rattle.program_open.proofs.HexLemmas.{short_word}
use Rattle.program_open.proofs.hex.read_word.Goals as goal

pub overflow_mul-word : goal.overflow_mul-word
overflow_mul-word c =
    let small : c.loop-byte.word < 2 ^ 28 = short_word c.loop-byte.byte-index c.loop-byte.word (omega arith) c.loop-byte.invariant.0 in
    omega arith

pub overflow_add-word : goal.overflow_add-word
overflow_add-word c =
    let small : c.loop-byte.word < 2 ^ 28 = short_word c.loop-byte.byte-index c.loop-byte.word (omega arith) c.loop-byte.invariant.0 in
    omega (arith, c.in-Some.ensures.small)
