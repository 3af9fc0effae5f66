use Rattle.std.proofs.Common.{arith, ◌/◌, false}
use Rattle.std.specs.Fmt.{digits}
use Rattle.isa_disasm.proofs.BufferLemmas.{room_for_digit, digit_joins}
use Rattle.isa_disasm.proofs.DigitLemmas.{hex_more, length_hex_more}
use Rattle.isa_disasm.proofs.buffer.LineBuffer.+push_hexadecimal.Goals as goal

pub push_digit-requires-else-number-lt16-clause-room :
    goal.push_digit-requires-else-number-lt16-clause-room
push_digit-requires-else-number-lt16-clause-room t c =
    let n = c.args.number in
    room_for_digit c.args.self.now (digits 16 false (n / 16)) c.push_hexadecimal.new.self (digits 16 false n) c.push_hexadecimal.ensures.value
    (length_hex_more n c.if-number-lt16.false (omega arith)) c.requires.room

pub returns-else-number-lt16 : goal.returns-else-number-lt16
returns-else-number-lt16 t c =
    let n = c.args.number in
    record {
      value = digit_joins c.args.self.now (digits 16 false (n / 16)) c.push_hexadecimal.new.self (digits 16 false n) _ c.push_digit-else-number-lt16.new.self
          c.push_hexadecimal.ensures.value c.push_digit-else-number-lt16.ensures.value (hex_more n c.if-number-lt16.false (omega arith));
    }
