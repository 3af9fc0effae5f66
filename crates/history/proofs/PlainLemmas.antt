-- Entries of one choice each stand for the choices.
use Rattle.std.proofs.Common.{◌≡◌, List, [], ◌∷◌, map, refl, ap, ◌∙◌}
use Rattle.machine.specs.declared.choice.Choice.{Choice}
use Rattle.history.specs.declared.entry.Entry.{Entry}
use Rattle.history.specs.History.{expanded}
use Rattle.history.specs.Plain.{plain_entry}

pub plain_expands : (choices : List Choice) → expanded (map plain_entry choices) ≡ choices
unfolding expanded
plain_expands [] = refl
plain_expands (c ∷ choices) = ap (λ (cs : List Choice). c ∷ cs) (plain_expands choices)

pub expands : (entries : List Entry) (choices : List Choice) → entries ≡ map plain_entry choices → expanded entries ≡ choices
expands entries choices are = ap expanded are ∙ plain_expands choices
