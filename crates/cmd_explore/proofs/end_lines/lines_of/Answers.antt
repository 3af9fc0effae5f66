use Rattle.std.proofs.Common.{◌≡◌, ℕ, ◌+◌, List, [], ◌∷◌, ◌++◌, drop, map, string_bytes, append_assoc, ap, sym, ◌∙◌}
use Rattle.std.proofs.lemmas.List.{drop_more, map-append}
use Rattle.explore_space.specs.Ends.{end_of}
use Rattle.cmd_explore.specs.EndLines.{ends_line}
use Rattle.cmd_explore.proofs.end_lines.lines_of.Goals as goal

pub ends-preserved : goal.ends-preserved
ends-preserved g c =
    let i = c.ends.end-index in
    let ends = c.args.ends.now in
    let end = c.end-item.result in
    let old = c.ends.lines.items in
    let line = c.in_ok-end_line.field-0 in
    let left = map ends_line (map end_of (drop (i + 1) ends)) in
    let next : drop i ends ≡ end ∷ drop (i + 1) ends
    = drop_more ends i end c.ends-test.true ∙ ap (λ e. e ∷ drop (i + 1) ends) (sym c.end-item.is) in
    ap (λ ls. map string_bytes ls ++ left) c.in_ok-push.ensures.items
    ∙ ap (λ xs. xs ++ left) (map-append string_bytes old (line ∷ []))
    ∙ append_assoc (map string_bytes old) (string_bytes line ∷ []) left
    ∙ ap (λ (b : List ℕ). map string_bytes old ++ b ∷ left) c.in_ok-end_line.ensures
    ∙ ap (λ es. map string_bytes old ++ map ends_line (map end_of es)) (sym next)
    ∙ c.ends.invariant
