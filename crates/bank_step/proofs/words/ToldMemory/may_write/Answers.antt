use Rattle.std.proofs.Common.{◌∙◌, sym}
use Rattle.mem_store.specs.Image.{image_memory}
use Rattle.bank_step.proofs.RightsLemmas.{write_same, write_outside}
use Rattle.bank_step.proofs.words.ToldMemory.may_write.Goals as goal

pub returns-then-has_all : goal.returns-then-has_all
returns-then-has_all g c =
    rw (c.in-Some.is, c.granted.ensures, c.segments.ensures.value)
    (write_same (image_memory c.args.self.now.image.now) c.args.self.now.code c.args.self.now.touched c.in-Some.word c.args.count c.args.address (sym c.has_all.ensures ∙ c.if-has_all.true))

pub returns-else-has_all : goal.returns-else-has_all
returns-else-has_all g c =
    rw (c.in-Some.is)
    (c.if-has_all.false ∙ sym (write_outside (image_memory c.args.self.now.image.now) c.args.self.now.code c.args.self.now.touched c.in-Some.word c.args.count c.args.address c.requires (sym c.has_all.ensures ∙ c.if-has_all.false)))
