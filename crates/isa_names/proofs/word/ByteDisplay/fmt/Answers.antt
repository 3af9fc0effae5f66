use Rattle.std.proofs.Common.{◌<◌, ◌^◌, rules}
use Rattle.std.proofs.Output.{has_written_of_eq}
use Rattle.isa_names.proofs.WordLemmas.{padded_byte}
use Rattle.isa_names.proofs.word.ByteDisplay.fmt.Goals as goal

pub returns-clause-writes : goal.returns-clause-writes
returns-clause-writes g c = λ plain done.
    let small : c.args.self.now.0 < 2 ^ 8 = search rules in
    has_written_of_eq _ _ _ _ _ (padded_byte c.args.self.now.0 small) (search rules)
