use Rattle.std.proofs.Common.{sym, ◌+◌}
use Rattle.mem_store.specs.Memory.{grants}
use Rattle.mem_store.specs.Image.{segments_memory}
use Rattle.mem_flat.proofs.ReadLemmas.{all_below_fails, missing_one}
use Rattle.mem_flat.proofs.reading.may_write.Goals as goal

pub returns-then-is_none : goal.returns-then-is_none
returns-then-is_none g c =
    sym (all_below_fails c.args.count c.bytes.k (λ k. grants 2 ((segments_memory c.args.blocks.now).rights (c.args.address + k))) c.bytes-test.true
    (missing_one _ c.read8.result c.read8.ensures c.if-is_none.ensures))
