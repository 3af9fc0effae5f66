use Rattle.object_library.proofs.CellLemmas.{same_if_matches, matches_if_same}
use Rattle.object_library.proofs.certifying.certify.Goals as goal

pub returns-clause-same : goal.returns-clause-same
returns-clause-same g c is =
    same_if_matches c.args.kind c.args.image.now c.words.result.now c.zeros.result c.words.ensures c.zeros.ensures (c.matches_object.ensures.yes is)

pub returns-clause-other : goal.returns-clause-other
returns-clause-other g c is same =
    c.matches_object.ensures.no is
    (matches_if_same c.args.kind c.args.image.now c.words.result.now c.zeros.result c.words.ensures c.zeros.ensures same)
