use Rattle.std.proofs.Common.{◌≡◌, ◌∷◌, ◌++◌, [], Some, None, take, arith, ap, sym, ◌∙◌}
use Rattle.std.specs.List.{slice_split}
use Rattle.cli_args.specs.Inputs.{ends_part, input_of, inputs_of_parts, inputs_then}
use Rattle.cli_args.proofs.InputLemmas.{bad_input, last_input, goes_on}
use Rattle.cli_args.proofs.inputs.read_inputs.Goals as goal

pub returns-in_default-clause-err : goal.returns-in_default-clause-err
returns-in_default-clause-err g c =
    let end = c.part_len-end.result in
    let part : input_of (take end c.parts.rest.now) ≡ None
    = ap input_of (sym c.split_at.ensures.front) ∙ sym c.in_default.ensures in
    bad_input c.args.text.now c.parts.rest.now end c.parts.inputs.items c.part_len-end.ensures.count c.parts.invariant part c.part_len-end.ensures.within

pub returns-then-end-rest-clause-ok : goal.returns-then-end-rest-clause-ok
returns-then-end-rest-clause-ok g c =
    let end = c.part_len-end.result in
    let part : input_of (take end c.parts.rest.now) ≡ Some c.in-Some.input
    = ap input_of (sym c.split_at.ensures.front) ∙ sym c.in-Some.ensures in
    last_input c.args.text.now c.parts.rest.now end c.parts.inputs.items c.part_len-end.ensures.count c.parts.invariant c.in-Some.input part (omega arith)
    ∙ ap Some (sym c.in-Ok.ensures.items)

pub parts-preserved : goal.parts-preserved
parts-preserved g c =
    let rest = c.parts.rest.now in
    let end = c.part_len-end.result in
    let part : input_of (take end rest) ≡ Some c.in-Some.input
    = ap input_of (sym c.split_at.ensures.front) ∙ sym c.in-Some.ensures in
    goes_on c.args.text.now rest end c.parts.inputs.items c.part_len-end.ensures.count c.parts.invariant c.in-Some.input part (omega (arith, c.part_len-end.ensures.within))
    ∙ ap (λ xs. inputs_then (c.parts.inputs.items ++ c.in-Some.input ∷ []) (inputs_of_parts (slice_split ends_part xs))) (sym c.split_at-in-parts.ensures.back)
    ∙ ap (λ xs. inputs_then xs (inputs_of_parts (slice_split ends_part c.split_at-in-parts.result.1.now))) (sym c.in-Ok.ensures.items)
