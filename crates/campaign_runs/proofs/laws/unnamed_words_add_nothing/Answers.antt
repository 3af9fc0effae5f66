use Rattle.campaign_runs.proofs.WordLemmas.{others_none, unnamed_none}
use Rattle.campaign_runs.proofs.laws.unnamed_words_add_nothing.Goals as goal

pub returns-clause-unnamed : goal.returns-clause-unnamed
returns-clause-unnamed c = λ form report world ending. unnamed_none form report world ending

pub returns-clause-others : goal.returns-clause-others
returns-clause-others c = λ form report words world ending other. others_none form report words world ending other
