use Rattle.std.proofs.Common.{ap, get_or}
use Rattle.mem_flat.proofs.WriteLemmas.{put_two}
use Rattle.mem_flat.proofs.writing.scatter16.Goals as goal

pub returns-clause-puts : goal.returns-clause-puts
returns-clause-puts g c =
    let e = c.to_le_bytes.ensures in
    put_two _ _ _ _ c.args.value _ _ _ _ _ c.may_write.ensures c.if-not-may_write.false (ap (λ l. get_or l 0 0) e) (ap (λ l. get_or l 1 0) e)
    c.put8.ensures.puts c.put8-2.ensures.puts
