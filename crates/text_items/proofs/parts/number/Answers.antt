use Rattle.std.proofs.Common.{◌≡◌, ◌+◌, ◌-◌, ◌*◌, ◌^◌, ◌∷◌, min, drop, get_or, arith, rules, ap, ◌∙◌}
use Rattle.std.proofs.lemmas.List.{drop_more}
use Rattle.std.specs.Str.{all_ascii_digits}
use Rattle.text_items.specs.Numbers.{value_after}
use Rattle.text_items.proofs.NumberLemmas.{capped}
use Rattle.text_items.proofs.parts.number.Goals as goal

pub loop-digit-preserved : goal.loop-digit-preserved
loop-digit-preserved c =
    let ds = c.args.digits.now in
    let i = c.loop-digit.digit-index in
    let value = c.loop-digit.value in
    let rest = drop (i + 1) ds in
    let here : drop i ds ≡ get_or ds i 0 ∷ rest = drop_more ds i 0 (omega arith) in
    let kept = c.loop-digit.invariant in
    let same : min (2 ^ 32) (10 * value + (get_or ds i 0 - 48)) ≡ min (2 ^ 32) c.min-value.result = omega arith in (
      omega arith,
      kept.1 ∙ ap all_ascii_digits here ∙ search rules,
      kept.2 ∙ ap (λ xs. min (2 ^ 32) (value_after value xs)) here ∙ capped (10 * value + (get_or ds i 0 - 48)) c.min-value.result rest same,
    )
