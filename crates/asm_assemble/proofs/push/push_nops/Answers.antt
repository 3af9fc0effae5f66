use Rattle.std.proofs.Common.{◌≡◌, ℕ, suc, ◌+◌, ◌-◌, ◌++◌, sym, ap, ◌∙◌, arith}
use Rattle.std.proofs.lemmas.List.{append-nil}
use Rattle.asm_assemble.specs.Valuing.{nops}
use Rattle.asm_assemble.proofs.Pushed.{one_nop}
use Rattle.asm_assemble.proofs.push.push_nops.Goals as goal

pub nops-preserved : goal.nops-preserved
nops-preserved g c =
    let left : ℕ = c.args.count - (c.nops.counter + 1) in
    let e : c.args.count - c.nops.counter ≡ suc left = omega arith in
    ap (λ out. out ++ nops left) c.in_ok-extend_from_slice.ensures.items
    ∙ (one_nop c.nops.out.items left ∙ (ap (λ n. c.nops.out.items ++ nops n) (sym e) ∙ c.nops.invariant))

pub returns : goal.returns
unfolding nops
returns g c =
    let e : c.args.count - c.nops.counter ≡ 0 = omega arith in
    sym (append-nil c.nops.out.items) ∙ (ap (λ n. c.nops.out.items ++ nops n) (sym e) ∙ c.nops.invariant)
