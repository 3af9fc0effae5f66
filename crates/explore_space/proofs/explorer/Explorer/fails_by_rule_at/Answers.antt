use Rattle.std.proofs.Common.{◌≡◌, ℕ, List, length, map, take, subst}
use Rattle.std.specs.Prelude.{IfOk}
use Rattle.hart_step.specs.declared.hart.Hart.{Hart}
use Rattle.outcome.specs.Expect.{fails, judged}
use Rattle.outcome.specs.declared.expect.Exit.TheVariants.{May}
use Rattle.explore_space.specs.Places.{chosen_by_key, hart_worded}
use Rattle.explore_space.specs.Failing.{one_each}
use Rattle.explore_space.proofs.explorer.Explorer.fails_by_rule_at.Goals as goal

pub returns : goal.returns
returns g c =
    subst (λ (hs : List Hart). IfOk c.fails_at.result (λ answer. answer ≡ fails May (judged c.args.self.now.rule c.args.self.now.inputs.now
    (one_each (length c.args.self.now.inputs.now) (chosen_by_key (length c.args.self.now.inputs.now) c.args.key.now))
    (map (hart_worded hs) (take (length c.args.self.now.inputs.now) c.args.key.now))))) c.deref.ensures.value
    (subst (λ (inputs : List ℕ). IfOk c.fails_at.result (λ answer. answer ≡ fails May (judged c.args.self.now.rule inputs
    (one_each (length inputs) (chosen_by_key (length inputs) c.args.key.now))
    (map (hart_worded c.deref.result.now) (take (length inputs) c.args.key.now))))) c.words.ensures.same c.fails_at.ensures)
