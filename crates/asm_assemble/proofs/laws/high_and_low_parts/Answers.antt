use Rattle.asm_assemble.proofs.PlacedParts.{parts_make, parts_reach}
use Rattle.asm_assemble.proofs.laws.high_and_low_parts.Goals as goal

pub returns-clause-make : goal.returns-clause-make
returns-clause-make c = parts_make

pub returns-clause-reach : goal.returns-clause-reach
returns-clause-reach c = parts_reach
