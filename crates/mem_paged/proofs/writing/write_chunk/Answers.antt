use Rattle.std.proofs.Common.{◌∙◌, ap}
use Rattle.mem_paged.specs.Number.{width_of, stored_value}
use Rattle.mem_paged.specs.Table.{pages_in}
use Rattle.mem_paged.proofs.TableLemmas.{written_in_copy}
use Rattle.mem_paged.proofs.writing.write_chunk.Goals as goal

pub returns : goal.returns
returns g c =
    written_in_copy (width_of c.args.number) c.args.index c.args.at (stored_value c.args.number) (pages_in c.args.chunk.now.value) _ _ _
    (c.in_ok-copy.ensures ∙ ap (λ k. pages_in k) c.deref.ensures) (ap (λ k. pages_in k) c.in_ok-chunk.ensures.ok) c.in_ok-write.ensures
