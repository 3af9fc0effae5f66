use Rattle.std.proofs.Common.{rules}
use Rattle.gdb_requests.proofs.ListLemmas.{feature_found, feature_last, feature_more}
use Rattle.gdb_requests.proofs.features.has_feature.Goals as goal

pub returns-then-is_word : goal.returns-then-is_word
returns-then-is_word c = feature_found c.args.feature.now c.parts.rest.now _ (search rules) c.parts.invariant

pub returns-then-is_empty : goal.returns-then-is_empty
returns-then-is_empty c = feature_last c.args.feature.now c.parts.rest.now _ (search rules) (search rules) c.parts.invariant

pub parts-preserved : goal.parts-preserved
parts-preserved c =
    feature_more c.args.feature.now c.parts.rest.now c.behind_first-rest.result.now _ (search rules) (search rules)
    (search rules) c.parts.invariant
