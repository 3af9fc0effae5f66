use Rattle.mem_paged.proofs.TableLemmas.{table_begins}
use Rattle.mem_paged.proofs.wrapping.table_of.Goals as goal

pub returns-clause-begins : goal.returns-clause-begins
returns-clause-begins g c =
    table_begins c.args.pages.now c.in_ok-shared.shared.items _ c.in_ok-all.all.items _ c.in_ok-chunks.chunks.items c.in_ok-shared.ensures.values c.deref.ensures.value
    c.in_ok-all.ensures.begins c.deref-2.ensures.value c.in_ok-chunks.ensures.pages
