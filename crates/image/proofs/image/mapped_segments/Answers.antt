use Rattle.std.proofs.Common.{rules}
use Rattle.std.proofs.lemmas.List.Elements.{filter_from_retain}
use Rattle.image.specs.Image.{is_mapped}
use Rattle.image.proofs.image.mapped_segments.Goals as goal

pub returns : goal.returns
returns g c = filter_from_retain _ is_mapped (λ p x b q r. search rules) _ _ _ c.retain.ensures.filtered
