use Rattle.std.proofs.Common.{rules, ◌∙◌}
use Rattle.debug_text.proofs.NumberLemmas.{all_digits, next_digit}
use Rattle.debug_text.proofs.number.number_of.Goals as goal

pub digits-preserved : goal.digits-preserved
digits-preserved c =
    let more = next_digit c.args.base c.digits.number c.digits.byte-index _ c.in-Some.digit c.args.digits.now (search rules) (search rules) (search rules) (search rules) (search rules) in
    (search rules, more ∙ c.digits.invariant.1)

pub returns : goal.returns
returns c = all_digits c.args.base c.digits.number c.digits.byte-index c.args.digits.now c.digits.invariant.0 (search rules) (search rules) c.digits.invariant.1
