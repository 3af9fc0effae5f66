use Rattle.std.proofs.Common.{◌≡◌, ◌<◌, drop}
use Rattle.asm_lex.specs.Numbers.{number_in}
use Rattle.asm_lex.proofs.Scanned.{scanned}
use Rattle.asm_lex.proofs.number.number_in.Given as goal

abbrev pub invariant-loop-byte : goal.invariant-loop-byte
invariant-loop-byte l = record {
  same : scanned l.base l.value (drop l.byte-index l.digits) ≡ number_in l.base l.digits;
  fits : l.value < 4294967296;
}
