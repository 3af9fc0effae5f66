use Rattle.mem_paged.proofs.TableLemmas.{same_chunks}
use Rattle.mem_paged.proofs.table.Table.copy.Goals as goal

pub returns-clause-pages : goal.returns-clause-pages
returns-clause-pages g c = same_chunks c.in_ok-chunks.chunks.items c.args.self.now.chunks.items _ c.in_ok-chunks.ensures.values c.deref.ensures.value
