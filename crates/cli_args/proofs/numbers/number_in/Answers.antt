use Rattle.std.proofs.Common.{◌≡◌, ◌+◌, ◌-◌, ◌*◌, ◌^◌, ◌∷◌, min, drop, get_or, arith, rules, ap, ◌∙◌}
use Rattle.std.proofs.lemmas.List.{drop_more}
use Rattle.std.specs.Str.{all_ascii_digits}
use Rattle.text_items.specs.Numbers.{value_after}
use Rattle.cli_args.proofs.NumberLemmas.{capped_below}
use Rattle.cli_args.proofs.numbers.number_in.Goals as goal

pub digits-preserved : goal.digits-preserved
digits-preserved c =
    let ds = c.args.digits.now in
    let i = c.digits.digit-index in
    let value = c.digits.value in
    let rest = drop (i + 1) ds in
    let here : drop i ds ≡ get_or ds i 0 ∷ rest = drop_more ds i 0 (omega arith) in
    let kept = c.digits.invariant in
    let same : min (2 ^ 64) (10 * value + (get_or ds i 0 - 48)) ≡ min (2 ^ 64) c.min-value.result = omega arith in (
      omega arith,
      kept.1 ∙ ap all_ascii_digits here ∙ search rules,
      kept.2 ∙ ap (λ xs. min (2 ^ 64) (value_after value xs)) here ∙ capped_below (2 ^ 64) (10 * value + (get_or ds i 0 - 48)) c.min-value.result rest same,
    )
