use Rattle.hart_step.proofs.StoreLemmas.{store_byte, store_half}
use Rattle.hart_step.proofs.access.store_bytes.Goals as goal

pub returns-in-Sb : goal.returns-in-Sb
returns-in-Sb g c =
    rw c.in-Sb.is (store_byte g.S.Store.grows c.args.address c.args.value (g.S.Store.memory c.args.store.now) (g.S.Store.memory c.store8.new.self) c.store8.result c.store8.ensures)

pub returns-in-Sh : goal.returns-in-Sh
returns-in-Sh g c =
    rw c.in-Sh.is (store_half g.S.Store.grows c.args.address c.args.value (g.S.Store.memory c.args.store.now) (g.S.Store.memory c.store16.new.self) c.store16.result c.store16.ensures)
