use Rattle.std.proofs.Common.{arith, rules, subst, ap, ◌∙◌, ◌≡◌, ℕ, List, [], ◌∷◌}
use Rattle.image.specs.Image.{ImageValue}
use Rattle.bank_hart_log.specs.HartLog.{HartLogValue}
use Rattle.test_banked.proofs.ProgramLemmas.{by_hand, Banks}
use Rattle.test_banked.proofs.merging.by_hand.Goals as goal

pub returns : goal.returns
returns g c =
    let log = c.add-2.new.self in
    let image_of : HartLogValue → ImageValue = λ l. l.image in
    let inputs_of : HartLogValue → List ℕ = λ l. l.inputs in
    let hart_of : HartLogValue → ℕ = λ l. l.hart in
    let one : c.push.new.self.items ≡ log ∷ [] = grind (rules) in
    by_hand c.args.image.now c.args.inputs.now log c.push.new.self.items c.in_ok-banks.banks.items (omega arith)
    (record {
      same_image = ap image_of c.in_ok-add-2.ensures.ok.1 ∙ ap image_of c.in_ok-add.ensures.ok.1 ∙ ap image_of c.new-log.ensures;
      same_inputs = ap inputs_of c.in_ok-add-2.ensures.ok.1 ∙ ap inputs_of c.in_ok-add.ensures.ok.1 ∙ ap inputs_of c.new-log.ensures;
      number = ap hart_of c.in_ok-add-2.ensures.ok.1 ∙ ap hart_of c.in_ok-add.ensures.ok.1 ∙ ap hart_of c.new-log.ensures;
    })
    one
    (subst (Banks c.args.image.now c.args.inputs.now) c.deref.ensures.value (c.are_of_banks.ensures c.if-not-are_of_banks.false))
