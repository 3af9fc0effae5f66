use Rattle.std.proofs.Common.{◌≡◌, ℕ, ◌<◌, Bool, true, false, List, length, Some, ap, subst, sym, ◌∙◌}
use Rattle.std.specs.List.{slice_get}
use Rattle.explore_search.specs.Marked.{AllBelow, HaveMarkedWaysOut, MarksStay}
use Rattle.explore_search.proofs.EdgeLemmas.{edges_below}
use Rattle.explore_search.proofs.MarkLemmas.{all_have_ways, all_written, ended_ways, is_stuck}
use Rattle.explore_search.proofs.marking.nearest_stuck.Goals as goal

pub returns-in-Some : goal.returns-in-Some
returns-in-Some g c =
    let place = g.S.Space.place c.args.space.now in
    let keys = c.args.seen.now.keys in
    let ended = g.S.Space.ended c.args.space.now in
    let marks = c.in_ok-marks.marks.items in
    let all = c.mark_all.new.marks in
    let begin = c.deref_mut.ensures.value in
    let even : length all ≡ length marks = c.mark_all.ensures.even ∙ ap length begin in
    let whole = c.deref.ensures.value ∙ all_written all marks c.in_ok-marks.marks.len c.in_ok-marks.marks.ok.0 even in
    is_stuck (g.S.Space.is_key c.args.space.now) place (g.S.Space.first c.args.space.now) c.args.choices.now keys c.args.seen.now.links.items
    c.requires.seen ended marks all c.args.seen.now.rows c.requires.edges c.in_ok-marks.ensures.ended
    (subst (λ ms. MarksStay ms all) begin c.mark_all.ensures.marks_stay)
    (c.mark_all.ensures.ways c.args.choices.now ended place keys c.requires.edges (subst (HaveMarkedWaysOut c.args.choices.now ended place keys) (sym begin)
    (ended_ways c.args.choices.now ended place keys marks c.in_ok-marks.ensures.ended)))
    c.mark_all.ensures.shut c.in-Some.number c.in_ok-path_to-in-Some.field-0.items
    (subst (λ ms. slice_get ms c.in-Some.number ≡ Some false) whole c.in-Some.ensures.first.0)
    (even ∙ c.in_ok-marks.ensures.even)
    (subst (λ ms. (k : ℕ) → k < c.in-Some.number → slice_get ms k ≡ Some true) whole c.in-Some.ensures.first.1)
    c.in_ok-path_to-in-Some.ensures.meant c.in_ok-path_to-in-Some.ensures.steps
    c.in_ok-path_to-in-Some.ensures.leads

pub returns : goal.returns
returns g c =
    let place = g.S.Space.place c.args.space.now in
    let keys = c.args.seen.now.keys in
    let ended = g.S.Space.ended c.args.space.now in
    let marks = c.in_ok-marks.marks.items in
    let all = c.mark_all.new.marks in
    let begin = c.deref_mut.ensures.value in
    let even : length all ≡ length marks = c.mark_all.ensures.even ∙ ap length begin in
    let whole = c.deref.ensures.value ∙ all_written all marks c.in_ok-marks.marks.len c.in_ok-marks.marks.ok.0 even in
    all_have_ways (g.S.Space.is_key c.args.space.now) place (g.S.Space.first c.args.space.now) c.args.choices.now keys
    c.args.seen.now.links.items c.requires.seen ended marks all c.args.seen.now.rows c.requires.edges c.in_ok-marks.ensures.ended
    (subst (λ ms. MarksStay ms all) begin c.mark_all.ensures.marks_stay)
    (c.mark_all.ensures.ways c.args.choices.now ended place keys c.requires.edges (subst (HaveMarkedWaysOut c.args.choices.now ended place keys) (sym begin)
    (ended_ways c.args.choices.now ended place keys marks c.in_ok-marks.ensures.ended)))
    (subst (λ ms. (k : ℕ) → k < length ms → slice_get ms k ≡ Some true) whole c.in-None.ensures.none)
    (even ∙ c.in_ok-marks.ensures.even)

pub mark_all-requires-clause-below : goal.mark_all-requires-clause-below
mark_all-requires-clause-below g c =
    subst (λ n. AllBelow n c.args.seen.now.rows)
    (sym c.in_ok-marks.ensures.even ∙ sym (ap (λ (ms : List Bool). length ms) c.deref_mut.ensures.value))
    (edges_below (g.S.Space.place c.args.space.now) c.args.choices.now c.args.seen.now.keys c.args.seen.now.rows c.requires.edges)

pub mark_all-requires-clause-even : goal.mark_all-requires-clause-even
mark_all-requires-clause-even g c =
    ap (λ (ms : List Bool). length ms) c.deref_mut.ensures.value ∙ c.in_ok-marks.ensures.even ∙ sym c.requires.edges.count
