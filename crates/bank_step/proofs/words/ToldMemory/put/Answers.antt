use Rattle.std.proofs.Common.{◌∙◌, sym, refl}
use Rattle.mem_store.specs.Image.{image_memory}
use Rattle.bank_step.proofs.BytesLemmas.{puts_inside, puts_refused, puts_outside}
use Rattle.bank_step.proofs.words.ToldMemory.put.Goals as goal

pub returns-then-not-has_all : goal.returns-then-not-has_all
returns-then-not-has_all g c =
    rw (c.in-Some.is) (puts_outside (image_memory c.args.self.now.image.now) c.args.self.now.code c.args.self.now.touched c.in-Some.word c.args.count c.args.address c.args.value c.requires.0 (sym c.has_all.ensures ∙ c.if-not-has_all.true))

pub returns-then-not-granted : goal.returns-then-not-granted
returns-then-not-granted g c =
    rw (c.in-Some.is) (puts_refused (image_memory c.args.self.now.image.now) c.args.self.now.code c.args.self.now.touched c.in-Some.word c.args.count c.args.address c.args.value (sym c.has_all.ensures ∙ c.if-not-has_all.false)
    (rw (c.segments.ensures.value) at (sym c.granted.ensures ∙ c.if-not-granted.true)))

pub returns : goal.returns
returns g c =
    rw (c.in-Some.is) (puts_inside (image_memory c.args.self.now.image.now) c.args.self.now.code c.args.self.now.touched c.in-Some.word (record { address = c.in-Some.word.address; bytes = c.spelled.result }) c.args.count c.args.address c.args.value (sym c.has_all.ensures ∙ c.if-not-has_all.false) c.spelled.ensures.long
    refl c.spelled.ensures.value
    (rw (c.segments.ensures.value) at (sym c.granted.ensures ∙ c.if-not-granted.false)))
