use Rattle.std.proofs.Common.{ap, get_or}
use Rattle.mem_flat.proofs.WriteLemmas.{put_four}
use Rattle.mem_flat.proofs.writing.scatter32.Goals as goal

pub returns-clause-puts : goal.returns-clause-puts
returns-clause-puts g c =
    let e = c.to_le_bytes.ensures in
    put_four _ _ _ _ _ _ c.args.value _ _ _ _ _ _ _ _ _ c.may_write.ensures c.if-not-may_write.false (ap (λ l. get_or l 0 0) e) (ap (λ l. get_or l 1 0) e) (ap (λ l. get_or l 2 0) e) (ap (λ l. get_or l 3 0) e)
    c.put8.ensures.puts c.put8-2.ensures.puts c.put8-3.ensures.puts c.put8-4.ensures.puts
