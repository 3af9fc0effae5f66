use Rattle.std.proofs.Common.{arith}
use Rattle.mem_paged.specs.Number.{width_of, stored_value}
use Rattle.mem_paged.proofs.TableLemmas.{page_written, page_kept}
use Rattle.mem_paged.proofs.chunk.Chunk.write.Goals as goal

pub returns-in-Ok : goal.returns-in-Ok
returns-in-Ok g c =
    page_written c.args.self.now.pages.items _ (width_of c.args.number) c.args.index c.args.at (stored_value c.args.number) _ _ c.args.self.now.pages.ok.0
    (omega (arith, c.requires.index, c.args.self.now.whole)) c.index_mut.ensures.value c.in-Ok.ensures.whole c.in-Ok.ensures.ok

pub returns-in-Err : goal.returns-in-Err
returns-in-Err g c = page_kept c.args.self.now.pages.items c.args.index _ _ c.index_mut.ensures.value c.in-Err.ensures.err
