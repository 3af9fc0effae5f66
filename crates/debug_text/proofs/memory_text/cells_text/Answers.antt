use Rattle.std.proofs.Common.{rules, arith, ◌+◌, ◌-◌, ◌%◌, ◌^◌, string_bytes}
use Rattle.debug_text.proofs.TextLemmas.{cells_more, cells_end, lines_more, lines_end}
use Rattle.debug_text.proofs.memory_text.cells_text.Goals as goal

pub cells-preserved : goal.cells-preserved
cells-preserved g c =
    let m = g.S.Store.memory c.args.store.now in
    record {
      aligned = omega (arith, c.cells.invariant.aligned);
      left = lines_more (string_bytes c.cells.text) (string_bytes c.push_cell.new.text) _ _ _ _ c.in_ok-push_cell.ensures
          (cells_more m c.cells.place c.cells.counter c.args.count c.cells-test.true) c.cells.invariant.left;
    }

pub returns : goal.returns
returns g c =
    lines_end (string_bytes c.cells.text) _ _
    (cells_end (g.S.Store.memory c.args.store.now) c.cells.place c.cells.counter c.args.count (omega (arith, c.cells-test.false))) c.cells.invariant.left
