use Rattle.std.proofs.Common.{◌≡◌, ◌^◌, ◌≤◌, min, drop}
use Rattle.std.specs.Str.{all_ascii_digits}
use Rattle.text_items.specs.Numbers.{value_after}
use Rattle.cli_args.proofs.numbers.number_in.Given as goal

abbrev pub invariant-digits : goal.invariant-digits
invariant-digits l =
    (l.value ≤ 2 ^ 64)
    × (all_ascii_digits l.digits ≡ all_ascii_digits (drop l.digit-index l.digits))
    × (min (2 ^ 64) (value_after 0 l.digits) ≡ min (2 ^ 64) (value_after l.value (drop l.digit-index l.digits)))
