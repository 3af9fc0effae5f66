use Rattle.std.proofs.Common.{arith}
use Rattle.explore_search.proofs.MarkLemmas.{leads_nowhere}
use Rattle.explore_search.proofs.marking.leads_to_marked.Goals as goal

pub returns : goal.returns
returns c =
    leads_nowhere c.args.row.now c.args.marks.now c.edges.to-index (let end = c.edges-test.false in omega (arith, end))
    c.edges.invariant
