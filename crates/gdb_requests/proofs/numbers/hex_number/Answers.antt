use Rattle.std.proofs.Common.{rules, ◌≡◌, ◌+◌, ◌*◌, ◌^◌, ◌<◌, get_or, drop, Some, None, refl, ap, sym, ◌∙◌, arith}
use Rattle.gdb_frames.specs.Digits.{hex_value}
use Rattle.gdb_requests.specs.Numbers.{hex_digits_after}
use Rattle.gdb_requests.proofs.NumberLemmas.{digit_more, digits_end, fits_32, no_digit, of_digits, too_large}
use Rattle.gdb_requests.proofs.numbers.hex_number.Goals as goal

pub returns-in_default : goal.returns-in_default
returns-in_default c =
    let bs = c.args.digits.now in
    let bad : hex_value (get_or bs c.digits.byte-index 0) ≡ None = search rules in
    of_digits bs None None (search rules)
    (sym (no_digit c.digits.number c.digits.byte-index bs c.digits-test.true bad) ∙ c.digits.invariant) refl

pub returns-then-number-gt-MOST : goal.returns-then-number-gt-MOST
returns-then-number-gt-MOST c =
    let bs = c.args.digits.now in
    let is : hex_value (get_or bs c.digits.byte-index 0) ≡ Some c.in-Some.digit = search rules in
    of_digits bs (hex_digits_after c.digits.number (drop c.digits.byte-index bs)) None (search rules) c.digits.invariant
    (too_large c.digits.number c.digits.byte-index c.in-Some.digit bs c.digits-test.true is (omega (arith, c.if-number-gt-MOST.true)))

pub digits-preserved : goal.digits-preserved
digits-preserved c =
    let bs = c.args.digits.now in
    let is : hex_value (get_or bs c.digits.byte-index 0) ≡ Some c.in-Some.digit = search rules in
    let same : c.from.result ≡ c.in-Some.digit = search rules in
    ap (λ k. hex_digits_after (16 * c.digits.number + k) (drop (c.digits.byte-index + 1) bs)) same
    ∙ sym (digit_more c.digits.number c.digits.byte-index c.in-Some.digit bs c.digits-test.true is)
    ∙ c.digits.invariant

pub returns : goal.returns
returns c =
    let bs = c.args.digits.now in
    let small : c.digits.number < 2 ^ 32 = search rules in
    of_digits bs (Some c.digits.number) (Some c.digits.number) (search rules)
    (sym (digits_end c.digits.number c.digits.byte-index bs (search rules)) ∙ c.digits.invariant) (fits_32 c.digits.number small)
