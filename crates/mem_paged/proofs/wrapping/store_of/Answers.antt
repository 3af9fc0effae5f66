use Rattle.std.proofs.Common.{arith}
use Rattle.mem_paged.proofs.StoreLemmas.{filled_memory}
use Rattle.mem_paged.proofs.wrapping.store_of.Goals as goal

pub returns : goal.returns
returns g c =
    filled_memory _ _ c.args.building.pages.items _ _ _ c.in_ok-layout.ensures.ok c.requires.even.pages c.args.building.pages.ok.0 c.deref.ensures.value c.in_ok-table.ensures.begins

pub invariant_of-result : goal.invariant_of-result
invariant_of-result g c =
    let memory = filled_memory _ _ c.args.building.pages.items _ _ _ c.in_ok-layout.ensures.ok c.requires.even.pages c.args.building.pages.ok.0 c.deref.ensures.value c.in_ok-table.ensures.begins in
    record {
      covered = rw c.in_ok-layout.ensures.ok (omega (arith, c.in_ok-table.ensures.room, c.requires.even.pages, c.deref.ensures.len));
      code_is = rw (memory, c.in_ok-code.ensures.ok) c.requires.code_is;
    }
