use Rattle.std.proofs.Common.{rules}
use Rattle.std.proofs.lemmas.Grind.{common_steps}
use Rattle.explore_space.proofs.EndLemmas.{ends_put}
use Rattle.explore_space.proofs.run_end.Ends.add.Goals as goal

pub returns : goal.returns
returns g c =
    ends_put _ c.args.end c.args.self.now.kept.keys c.insert.new.self.keys c.in_ok-insert.ensures.keys (λ k. search (rules, common_steps))
