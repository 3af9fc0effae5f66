use Rattle.std.proofs.Common.{arith, ◌-◌, ◌+◌}
use Rattle.std.specs.Fmt.{decimal}
use Rattle.isa_disasm.proofs.BufferLemmas.{short_after}
use Rattle.isa_disasm.proofs.DigitLemmas.{is_high, low_short, high_short}
use Rattle.isa_disasm.proofs.buffer.LineBuffer.push_immediate.Goals as goal

pub push_decimal-requires : goal.push_decimal-requires
push_decimal-requires c = record { room = omega (arith, low_short c.word-word.result c.if-word-lt2048.true) }

pub push_decimal-requires-else-word-lt2048 : goal.push_decimal-requires-else-word-lt2048
push_decimal-requires-else-word-lt2048 c =
    let high = is_high c.word-word.result c.args.immediate c.word-word.ensures.value c.word-word.ensures.range c.if-word-lt2048.false in
    record { room = omega (arith, high_short c.word-word.result high.0 high.1) }

pub returns-then-word-lt2048-clause-short : goal.returns-then-word-lt2048-clause-short
returns-then-word-lt2048-clause-short c =
    omega (
      arith,
      short_after c.args.self.now (decimal c.word-word.result) c.push_decimal.new.self 4 c.push_decimal.ensures.value
          (low_short c.word-word.result c.if-word-lt2048.true),
    )

pub returns-else-word-lt2048-clause-short : goal.returns-else-word-lt2048-clause-short
returns-else-word-lt2048-clause-short c =
    let high = is_high c.word-word.result c.args.immediate c.word-word.ensures.value c.word-word.ensures.range c.if-word-lt2048.false in
    omega (
      arith,
      c.push.ensures.grown,
      short_after c.push.new.self (decimal (4294967295 - c.word-word.result + 1)) c.push_decimal-else-word-lt2048.new.self 4
          c.push_decimal-else-word-lt2048.ensures.value (high_short c.word-word.result high.0 high.1),
    )
