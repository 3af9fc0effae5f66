use Rattle.std.proofs.Common.{◌≡◌, ℕ, ◌+◌, ◌*◌, ◌<◌, ◌%◌, length, map, ap, sym, ◌∙◌, subst}
use Rattle.std.proofs.Math.Path.{fun_ext}
use Rattle.std.specs.List.{slice_index}
use Rattle.std.specs.Result.{is_ok}
use Rattle.hart_step.specs.Hart.{hart_of}
use Rattle.hart_reservations.specs.Limit.{most_harts}
use Rattle.hart_reservations.proofs.NobodyLemmas.{no_mark}
use Rattle.explore_space.proofs.SameLemmas.{pushed_first}
use Rattle.explore_space.proofs.FirstLemmas.{first_is_key}
use Rattle.explore_space.proofs.first.first_parts.Goals as goal

pub returns : goal.returns
returns g c =
    let count = c.harts.ensures.harts in
    let row = c.in_ok-row.row.items in
    first_is_key c.args.image.now c.args.inputs.now c.in_ok-harts.field-0.parts.items c.push_shared.new.shareds.parts.items _ row
    (ap (λ e. e % 4) (sym c.entry.ensures) ∙ c.if-entry-ne0.false)
    (pushed_first _ _ _ _ (ap is_ok c.in_ok-push_shared.was) c.in_ok-shareds.ensures c.push_shared.ensures.pushed)
    (ap (map hart_of) (c.in_ok-harts.ensures ∙ c.deref.ensures.value) ∙ c.in_ok-begin.ensures) (fun_ext (λ k. no_mark most_harts k))
    c.new-2.ensures.items
    (subst (λ n. length row ≡ n + 1) count c.in_ok-row.ensures.len)
    (subst (λ n. (k : ℕ) → k < n → slice_index row k ≡ 2 * k) count c.in_ok-row.ensures.harts)
    (subst (λ n. slice_index row n ≡ 0) count c.in_ok-row.ensures.shared)
