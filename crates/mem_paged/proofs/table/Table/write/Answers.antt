use Rattle.std.proofs.Common.{◌/◌, arith}
use Rattle.mem_paged.specs.Number.{width_of, stored_value}
use Rattle.mem_paged.proofs.TableLemmas.{chunk_written, chunk_kept}
use Rattle.mem_paged.proofs.table.Table.write.Goals as goal

pub returns-in-Ok-clause-writes : goal.returns-in-Ok-clause-writes
returns-in-Ok-clause-writes g c =
    chunk_written c.args.self.now.chunks.items _ (width_of c.args.number) c.args.place c.args.at (stored_value c.args.number) _ _ c.args.self.now.chunks.ok.0 c.requires.inside
    c.index_mut.ensures.value c.in-Ok.ensures

pub returns-in-Err-clause-writes : goal.returns-in-Err-clause-writes
returns-in-Err-clause-writes g c =
    chunk_kept c.args.self.now.chunks.items _ (c.args.place / 64) _ _ c.args.self.now.chunks.ok.0 (omega (arith, c.requires.inside)) c.index_mut.ensures.value c.in-Err.ensures
