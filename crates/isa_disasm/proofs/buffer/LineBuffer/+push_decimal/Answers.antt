use Rattle.std.proofs.Common.{arith, ◌/◌}
use Rattle.std.specs.Fmt.{decimal}
use Rattle.isa_disasm.proofs.BufferLemmas.{room_for_digit, digit_joins}
use Rattle.isa_disasm.proofs.DigitLemmas.{decimal_more, length_decimal_more}
use Rattle.isa_disasm.proofs.buffer.LineBuffer.+push_decimal.Goals as goal

pub push_digit-requires-else-number-lt10-clause-room :
    goal.push_digit-requires-else-number-lt10-clause-room
push_digit-requires-else-number-lt10-clause-room t c =
    let n = c.args.number in
    room_for_digit c.args.self.now (decimal (n / 10)) c.push_decimal.new.self (decimal n) c.push_decimal.ensures.value
    (length_decimal_more n c.if-number-lt10.false (omega arith)) c.requires.room

pub returns-else-number-lt10 : goal.returns-else-number-lt10
returns-else-number-lt10 t c =
    let n = c.args.number in
    record {
      value = digit_joins c.args.self.now (decimal (n / 10)) c.push_decimal.new.self (decimal n) _ c.push_digit-else-number-lt10.new.self
          c.push_decimal.ensures.value c.push_digit-else-number-lt10.ensures.value (decimal_more n c.if-number-lt10.false (omega arith));
    }
