use Rattle.mem_paged.proofs.TableLemmas.{page_read}
use Rattle.mem_paged.proofs.table.Table.page.Goals as goal

pub returns : goal.returns
returns g c =
    page_read c.args.self.now.chunks.items _ c.args.place _ _ _ c.args.self.now.chunks.ok.0 c.requires c.index.ensures c.deref.ensures c.index-2.ensures
