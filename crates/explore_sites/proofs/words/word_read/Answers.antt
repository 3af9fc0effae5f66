use Rattle.std.proofs.Common.{◌∙◌, sym}
use Rattle.mem_store.specs.Image.{image_memory}
use Rattle.explore_sites.proofs.ReadLemmas.{misaligned_word, some_word}
use Rattle.explore_sites.proofs.words.word_read.Goals as goal

pub returns-then-address-ne0 : goal.returns-then-address-ne0
returns-then-address-ne0 g c = λ m rights shows. sym (misaligned_word m c.args.address c.if-address-ne0.true)

pub returns : goal.returns
returns g c = λ m rights shows.
    c.number_of.ensures m.bytes c.args.address (c.word_at.ensures ∙ shows c.args.address c.if-address-ne0.false)
    ∙ sym (some_word m (image_memory c.args.image.now) c.args.address rights c.if-address-ne0.false
    (sym c.is_word_loadable.ensures ∙ c.if-not-is_word_loadable.false))
