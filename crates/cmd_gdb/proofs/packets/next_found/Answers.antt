use Rattle.std.proofs.Common.{rules, arith, Some, None, sym, ◌∙◌}
use Rattle.cmd_gdb.proofs.PacketLemmas.{finds, one_read}
use Rattle.cmd_gdb.proofs.packets.next_found.Goals as goal

pub bytes-preserved : goal.bytes-preserved
bytes-preserved g c = (
  one_read _ _ _ _ _ _ _ _ None c.bytes.invariant.0 (search rules) (search rules)
      c.in-Ok.ensures.bytes.0 (sym c.in-Ok-None.field-0-is ∙ c.in-Ok-None.ensures.found)
      c.in-Ok-None.ensures.next,
  omega (arith, c.in-Ok.ensures.shrinks, c.bytes.invariant.1),
  search rules,
)

pub returns-in-Ok-Some-clause-found : goal.returns-in-Ok-Some-clause-found
returns-in-Ok-Some-clause-found g c =
    finds _ _ _ _ c.in-Ok-Some.found
    (one_read _ _ _ _ _ _ _ _ (Some c.in-Ok-Some.found) c.bytes.invariant.0 (search rules)
    (search rules) c.in-Ok.ensures.bytes.0
    (sym c.in-Ok-Some.field-0-is ∙ c.in-Ok-Some.ensures.found) c.in-Ok-Some.ensures.next)
