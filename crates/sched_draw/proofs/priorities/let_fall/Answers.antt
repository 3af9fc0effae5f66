use Rattle.std.proofs.Common.{rules, ap, ◌∙◌, ◌++◌, ◌∷◌, []}
use Rattle.std.proofs.lemmas.Fn.{filter_same}
use Rattle.sched_draw.proofs.priorities.let_fall.Goals as goal

pub returns : goal.returns
returns g c =
    c.in_ok-push.ensures.items
    ∙ ap (λ xs. xs ++ c.args.hart ∷ []) (filter_same _ _ _ (λ x b f' k. search rules) _ _ c.retain.ensures.filtered)
