use Rattle.std.proofs.Common.{rules, ◌≡◌, rules, filter, IsPermutation}
use Rattle.std.proofs.lemmas.List.Sorted.{IsNonDecreasingBy-from_sort_by_key}
use Rattle.std.specs.List.Sorted.{IsNonDecreasingBy}
use Rattle.image.specs.declared.span.Span.{Span}
use Rattle.image.specs.Spans.{is_filled}
use Rattle.image.proofs.Overlap.{row_decides}
use Rattle.image.proofs.space.any_overlap.Goals as goal

pub returns : goal.returns
returns g c =
    let made : c.in_ok-row.row.items ≡ filter is_filled c.args.spans.now = search rules in
    let moved : IsPermutation c.in_ok-row.row.items c.sort_by_key.new.self.items = c.in_ok-sort_by_key.ensures.permutation in
    let up : IsNonDecreasingBy (λ (t : Span). t.base) c.sort_by_key.new.self.items = IsNonDecreasingBy-from_sort_by_key (λ (t : Span). t.base) _ c.in_ok-sort_by_key.ensures.sorted (λ a r q k. search rules) in
    let e = row_decides c.args.spans.now c.sort_by_key.new.self.items (rw (← made) moved) up in
    cc
