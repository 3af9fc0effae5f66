use Rattle.std.proofs.Common.{rules, subst, sym}
use Rattle.cmd_debug.proofs.LineLemmas.{IsTaking, line_ends, one_is_kept}
use Rattle.cmd_debug.proofs.line.read_line.Goals as goal

pub returns-then-piece-eq10-clause-line : goal.returns-then-piece-eq10-clause-line
returns-then-piece-eq10-clause-line g c =
    line_ends _ _ _ _ _ _ _ _ _ c.bytes.invariant.0 (search rules) (search rules) c.in-Ok.ensures.bytes.0 c.in-Ok.ensures.shrinks (search rules) _ c.strip.ensures

pub bytes-preserved : goal.bytes-preserved
bytes-preserved g c =
    let took = one_is_kept _ _ _ _ _ _ _ _ _ c.bytes.invariant.0 (search rules) (search rules) c.in-Ok.ensures.bytes.0 c.in-Ok.ensures.shrinks c.if-piece-eq10.false in
    (subst (IsTaking _ _ _ _) (sym c.in-Ok-push.ensures.items) took, search rules)
