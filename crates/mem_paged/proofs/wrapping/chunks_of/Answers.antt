use Rattle.std.proofs.Common.{rules, arith, ◌*◌}
use Rattle.mem_paged.proofs.TableLemmas.{no_chunks, chunk_more, all_chunks}
use Rattle.mem_paged.proofs.wrapping.chunks_of.Goals as goal

pub parts-init : goal.parts-init
parts-init g c = record {
  pages = no_chunks c.in_ok-chunks.chunks.items c.args.pages.now c.in_ok-chunks.ensures.items;
  count = c.in_ok-chunks.ensures.len;
}

pub parts-preserved : goal.parts-preserved
parts-preserved g c = record {
  pages = chunk_more c.parts.chunks.items _ _ _ c.args.pages.now _ _ c.parts.i c.parts.invariant.pages c.split_at.ensures.back c.split_at-in-parts.ensures.front
      c.in_ok-chunk.ensures c.in_ok-new.ensures.ok c.in_ok-push.ensures.items;
  count = (search rules);
}

pub returns-clause-pages : goal.returns-clause-pages
returns-clause-pages g c = all_chunks c.parts.chunks.items c.args.pages.now (c.parts.i * 64) c.parts.invariant.pages (omega (arith, c.parts-test.false, c.requires))
