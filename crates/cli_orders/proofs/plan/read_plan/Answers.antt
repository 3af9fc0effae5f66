use Rattle.std.proofs.Common.{◌≡◌, ◌∷◌, ◌++◌, ◌||◌, ◌&&◌, ◌==◌, [], Some, None, take, arith, ap, sym, ◌∙◌}
use Rattle.std.specs.List.{slice_split}
use Rattle.cli_args.specs.Inputs.{ends_part}
use Rattle.cli_orders.specs.Plan.{pair_of, pairs_of_parts, pairs_then}
use Rattle.cli_orders.proofs.PlanLemmas.{bad_pair, last_pair, goes_on, has_pair-more}
use Rattle.cli_orders.proofs.plan.read_plan.Goals as goal

pub returns-in_default-clause-err : goal.returns-in_default-clause-err
returns-in_default-clause-err g c =
    let end = c.part_len-end.result in
    let part : pair_of (take end c.parts.rest.now) ≡ None
    = ap pair_of (sym c.split_at.ensures.front) ∙ sym c.in_default.ensures in
    bad_pair c.args.text.now c.parts.rest.now end c.parts.invariant.0 c.part_len-end.ensures.count c.parts.invariant.1 part c.part_len-end.ensures.within

pub returns-then-end-rest-clause-ok : goal.returns-then-end-rest-clause-ok
returns-then-end-rest-clause-ok g c =
    let end = c.part_len-end.result in
    let pair = c.in-Some.pair in
    let old = c.parts.invariant.0 in
    let part : pair_of (take end c.parts.rest.now) ≡ Some pair
    = ap pair_of (sym c.split_at.ensures.front) ∙ sym c.in-Some.ensures in (
      old ++ pair ∷ [],
      last_pair c.args.text.now c.parts.rest.now end old c.part_len-end.ensures.count c.parts.invariant.1 pair part (omega arith),
      λ h n. c.in-Ok.ensures h n ∙ ap (λ b. b || (pair.0 == h && pair.1 == n)) (c.parts.invariant.2 h n) ∙ sym (has_pair-more old pair h n),
    )

pub parts-preserved : goal.parts-preserved
parts-preserved g c =
    let rest = c.parts.rest.now in
    let end = c.part_len-end.result in
    let pair = c.in-Some.pair in
    let old = c.parts.invariant.0 in
    let part : pair_of (take end rest) ≡ Some pair
    = ap pair_of (sym c.split_at.ensures.front) ∙ sym c.in-Some.ensures in (
      old ++ pair ∷ [],
      goes_on c.args.text.now rest end old c.part_len-end.ensures.count c.parts.invariant.1 pair part (omega (arith, c.part_len-end.ensures.within))
          ∙ ap (λ xs. pairs_then (old ++ pair ∷ []) (pairs_of_parts (slice_split ends_part xs))) (sym c.split_at-in-parts.ensures.back),
      λ h n. c.in-Ok.ensures h n ∙ ap (λ b. b || (pair.0 == h && pair.1 == n)) (c.parts.invariant.2 h n) ∙ sym (has_pair-more old pair h n),
    )
