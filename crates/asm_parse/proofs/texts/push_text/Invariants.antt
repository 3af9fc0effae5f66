use Rattle.std.proofs.Common.{◌≡◌, ◌≤◌, ◌-◌, length, drop}
use Rattle.asm_statement.specs.Texts.{said_from}
use Rattle.asm_parse.proofs.texts.push_text.Given as goal

abbrev pub invariant-bytes : goal.invariant-bytes
invariant-bytes g l = record {
  within : l.at ≤ length l.inner;
  same : said_from 0 l.bytes.items (drop l.at l.inner) ≡ said_from 0 l.initial.bytes.items l.inner;
}

abbrev pub decreases-bytes : goal.decreases-bytes
decreases-bytes g l = length l.inner - l.at
