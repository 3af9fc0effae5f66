use Rattle.std.proofs.Common.{ap, ◌∙◌}
use Rattle.mem_store.specs.Image.{segments_memory}
use Rattle.bank_laws.specs.Words.{bytes_at}
use Rattle.explore_sites.proofs.words.own_word.Goals as goal

pub returns : goal.returns
returns g c = c.bytes_at.ensures ∙ ap (λ segments. bytes_at (segments_memory segments).bytes c.args.address) c.segments.ensures.value
