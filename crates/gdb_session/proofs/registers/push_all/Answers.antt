use Rattle.std.proofs.Common.{rules, ◌≡◌, ◌++◌, ◌∙◌, ap, length}
use Rattle.gdb_replies.specs.Digits.{registers_text}
use Rattle.gdb_session.proofs.RegisterLemmas.{by_numbers}
use Rattle.gdb_session.proofs.registers.push_all.Goals as goal

pub returns-clause-ok : goal.returns-clause-ok
returns-clause-ok g c =
    let hart = c.args.hart.now in
    let out = c.args.out.now.items in
    let pushed : c.push_registers.new.out.items ≡ out ++ registers_text hart.registers hart.pc
    = search rules in
    let long : length hart.registers ≡ 32 = search rules in
    pushed ∙ ap (λ words. out ++ registers_text words hart.pc) (by_numbers hart.registers 32 long)
