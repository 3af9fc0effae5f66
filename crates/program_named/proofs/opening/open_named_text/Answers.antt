use Rattle.program_named.proofs.OpeningLemmas.{text_opens}
use Rattle.program_named.proofs.opening.open_named_text.Goals as goal

pub returns-in-Ok-clause-opened : goal.returns-in-Ok-clause-opened
returns-in-Ok-clause-opened g c =
    text_opens _ _ _ _ _ _ _ c.in_ok-program.ensures.image c.in_ok-inputs.ensures.same.1.0 c.in_ok-inputs.ensures.same.1.1
    c.in-Ok.ensures.bytes c.in-Ok.ensures.end
