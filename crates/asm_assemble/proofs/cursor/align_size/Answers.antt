use Rattle.std.proofs.Common.{◌^◌, ◌≤◌, arith}
use Rattle.std.proofs.Math.Nat.{pow-le-pow_right}
use Rattle.asm_assemble.proofs.cursor.align_size.Goals as goal

pub returns-clause-small : goal.returns-clause-small
returns-clause-small c =
    let p : 2 ^ c.args.n ≤ 2 ^ 12 = pow-le-pow_right {n = 2} (omega arith) {i = c.args.n} {j = 12} (omega arith) in
    omega (arith, c.round_up.ensures.near)
