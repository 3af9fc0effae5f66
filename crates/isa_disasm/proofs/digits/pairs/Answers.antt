use Rattle.std.proofs.Common.{refl}
use Rattle.isa_names.specs.Digits.{byte_text}
use Rattle.isa_disasm.specs.Pairs.{pairs_from}
use Rattle.isa_disasm.proofs.digits.pairs.Goals as goal

pub returns : goal.returns
unfolding pairs_from byte_text
returns c = refl
