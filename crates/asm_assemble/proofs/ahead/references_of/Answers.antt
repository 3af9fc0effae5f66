use Rattle.std.proofs.Common.{◌≡◌, ℕ, ◌+◌, ◌-◌, ◌<◌, List, length, get_or, drop, refl, subst, ap, ◌∙◌, arith}
use Rattle.std.specs.Prelude.{reverse}
use Rattle.asm_assemble.specs.Program.{symbol_list}
use Rattle.asm_assemble.specs.Operands.{found}
use Rattle.asm_assemble.specs.Ahead.{ahead_in, references}
use Rattle.asm_assemble.proofs.AheadLemmas.{no_labels, no_references, more_labels, more_references}
use Rattle.asm_assemble.proofs.ahead.references_of.Goals as goal

pub statements-preserved : goal.statements-preserved
statements-preserved g c =
    let ats = c.args.addresses.now in
    let ss = c.args.statements.now in
    let old = symbol_list c.statements.after.entries in
    let new = symbol_list c.note.new.before.entries in
    let items = c.statements.all.items in
    let i : ℕ = length ss - 1 - c.statements.done in
    let e : i ≡ length ss - (c.statements.done + 1) = omega arith in
    let f : length ss - c.statements.done ≡ i + 1 = omega arith in
    let labels = subst (λ (k : ℕ). (q : List ℕ) → found old q ≡ ahead_in (drop k ats) (drop k ss) q) f c.statements.invariant.labels in
    let made = subst (λ (k : ℕ). reverse items ≡ references (drop k ats) (drop k ss)) f c.statements.invariant.made in
    let in_ats : i < length ats = omega (arith, c.requires) in
    let in_ss : i < length ss = omega arith in
    record {
      labels = subst (λ (k : ℕ). (q : List ℕ) → found new q ≡ ahead_in (drop k ats) (drop k ss) q) e
          (more_labels ats ss i (get_or ats i 0) 0 c.index-statements-i.result c.from.result old new in_ats in_ss refl c.index-statements-i.is
          c.from.ensures c.in_ok-note.ensures labels);
      made = subst (λ (k : ℕ). reverse c.push.new.self.items ≡ references (drop k ats) (drop k ss)) e
          (more_references ats ss i (get_or ats i 0) 0 c.index-statements-i.result old items c.push.new.self.items c.reference.result in_ats in_ss refl c.index-statements-i.is
          c.in_ok-push.ensures.items c.reference.ensures labels made);
    }

pub statements-init : goal.statements-init
statements-init g c = record {
  labels = no_labels c.args.addresses.now c.args.statements.now (length c.args.statements.now - 0) (symbol_list c.empty-after.result.entries) c.requires (omega arith) c.empty-after.ensures;
  made = no_references c.args.addresses.now c.args.statements.now (length c.args.statements.now - 0) c.new-all.result.items c.requires (omega arith) c.new-all.ensures.items;
}

pub returns : goal.returns
returns g c =
    let e : length c.args.statements.now - c.statements.done ≡ 0 = omega arith in
    c.statements.invariant.made ∙ ap (λ n. references (drop n c.args.addresses.now) (drop n c.args.statements.now)) e
