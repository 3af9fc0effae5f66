use Rattle.std.proofs.Common.{◌≡◌, ◌≤◌, ◌-◌, length, drop}
use Rattle.std.specs.Prelude.{All}
use Rattle.asm_lex.specs.Reading.{reading, IsPieceOf}
use Rattle.asm_lex.proofs.Steps.{with_front}
use Rattle.asm_lex.proofs.read.scan_text.Given as goal

abbrev pub invariant-pieces : goal.invariant-pieces
invariant-pieces g l = record {
  within : l.at ≤ length l.bytes;
  pieces : All (IsPieceOf l.text) l.tokens.items;
  same : with_front l.tokens.items (reading 0 l.at (drop l.at l.bytes)) ≡ reading 0 0 l.text;
}

abbrev pub decreases-pieces : goal.decreases-pieces
decreases-pieces g l = length l.bytes - l.at
