-- Places without a way out, where each hart must exit.
use Rattle.std.specs.Prelude.{◌≡◌, List, Option, None, Vec}
use Rattle.machine.specs.declared.choice.Choice.{Choice}
use Rattle.outcome.specs.declared.expect.Exit.{Exit}
use Rattle.outcome.specs.declared.expect.Exit.TheVariants.{May, Must}
use Rattle.explore_laws.specs.Places.{Place}
use Rattle.explore_search.specs.Marked.{AnswersStuck}
use Rattle.explore_search.specs.declared.edges.Edges.{Edges}
use Rattle.explore_search.specs.declared.edges.Edges.TheVariants.{Kept, NotKept}
use Rattle.explore_space.specs.Failing.{ends_there}
use Rattle.explore_space.specs.declared.own_bounds.OwnBounds.{OwnBounds}
use Rattle.explore_space.specs.declared.own_bounds.OwnBounds.TheVariants.{Asked, NotAsked}

-- a search for a place without a way out is right, or none was asked for
abbrev pub AnswersExit : {Z : Type 0} → Exit → List Choice → Place → Option (Vec Choice Z) → Type 0
AnswersExit May meant first found = found ≡ None
AnswersExit Must meant first found = AnswersStuck meant first ends_there found

-- edges are kept where ways out or bounds are asked for
abbrev pub edges_for : Exit → OwnBounds → Edges
edges_for May NotAsked = NotKept
edges_for May Asked = Kept
edges_for Must bounds = Kept
