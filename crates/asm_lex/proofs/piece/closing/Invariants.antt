use Rattle.std.proofs.Common.{◌≡◌, ◌+◌, false, drop}
use Rattle.std.specs.Option.{option_map}
use Rattle.asm_lex.specs.Pieces.{closing}
use Rattle.asm_lex.proofs.piece.closing.Given as goal

abbrev pub invariant-loop-i : goal.invariant-loop-i
invariant-loop-i l = option_map (λ n. n + l.i) (closing l.escaped (drop l.i l.text)) ≡ closing false l.text
