use Rattle.std.proofs.Common.{subst}
use Rattle.std.specs.Fmt.{HasWritten}
use Rattle.history.proofs.TextLemmas.{plain_text, refused_text}
use Rattle.history.proofs.plain_text.ChoiceItemDisplay.fmt.Goals as goal

pub returns-then-self-clause-writes : goal.returns-then-self-clause-writes
returns-then-self-clause-writes g c = λ plain ok.
    subst (λ text. HasWritten {W = g.row.W.Denot} g.W.Write.write_str_gives c.args.f.now text c.write.new.self) (refused_text c.args.self.now.0 c.if-self.true) (c.write.ensures.writes plain ok)

pub returns-else-self-clause-writes : goal.returns-else-self-clause-writes
returns-else-self-clause-writes g c = λ plain ok.
    subst (λ text. HasWritten {W = g.row.W.Denot} g.W.Write.write_str_gives c.args.f.now text c.write-else-self.new.self) (plain_text c.args.self.now.0 c.if-self.false) (c.write-else-self.ensures.writes plain ok)
