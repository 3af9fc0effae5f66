use Rattle.std.proofs.Common.{◌≡◌, ◌^◌, ◌≤◌, min, drop}
use Rattle.std.specs.Str.{all_ascii_digits}
use Rattle.text_items.specs.Numbers.{value_after}
use Rattle.text_items.proofs.parts.number.Given as goal

abbrev pub invariant-loop-digit : goal.invariant-loop-digit
invariant-loop-digit l =
    (l.value ≤ 2 ^ 32)
    × (all_ascii_digits l.digits ≡ all_ascii_digits (drop l.digit-index l.digits))
    × (min (2 ^ 32) (value_after 0 l.digits) ≡ min (2 ^ 32) (value_after l.value (drop l.digit-index l.digits)))
