use Rattle.std.proofs.Common.{◌+◌, ◌^◌, length, ap, arith}
use Rattle.asm_assemble.specs.Program.{symbol_list}
use Rattle.asm_assemble.specs.Cursors.{cursor_address}
use Rattle.asm_assemble.specs.Placing.{is_at, placing}
use Rattle.asm_assemble.proofs.New.{is_new}
use Rattle.asm_assemble.proofs.Within.{within_count, within_next}
use Rattle.asm_assemble.proofs.PlacingLemmas.{goes_on_at, placed_all, stops_at}
use Rattle.asm_assemble.proofs.placing.place.Goals as goal

pub statements-init : goal.statements-init
statements-init g c = record {
  small = c.requires;
  same = ap (λ seen. placing (symbol_list c.args.globals.now.entries) seen c.args.heavy 0 c.args.start c.args.statements.now) c.empty-symbols.ensures;
}

pub define-requires : goal.define-requires
define-requires g c =
    is_new (symbol_list c.statements.symbols.entries) (is_at c.args.heavy c.statements.i) (cursor_address c.statements.cursor) c.index-statements-i.result.body (cc)

pub step-cursor-requires : goal.step-cursor-requires
step-cursor-requires g c =
    within_count c.statements.i (length c.args.statements.now) c.statements.cursor c.statements.invariant.small (omega arith) (omega arith)

pub returns-in-Some : goal.returns-in-Some
returns-in-Some g c =
    stops_at (symbol_list c.args.globals.now.entries) (symbol_list c.statements.symbols.entries) c.args.heavy c.statements.i c.statements.cursor
    c.index-statements-i.result c.args.statements.now _ c.in-Some.kind c.at_statement.result (omega arith) c.index-statements-i.is (cc)
    c.at_statement.ensures c.statements.invariant.same

pub statements-preserved : goal.statements-preserved
statements-preserved g c = record {
  small = within_next (2 ^ 63) c.statements.i c.step-cursor.result (c.step-cursor.ensures.small (2 ^ 63 + c.statements.i) c.statements.invariant.small);
  same =
      let s = c.index-statements-i.result in
      goes_on_at (symbol_list c.args.globals.now.entries) (symbol_list c.statements.symbols.entries) (symbol_list c.define.new.symbols.entries)
      c.args.heavy c.statements.i c.statements.cursor c.step-cursor.result s c.args.statements.now _
      (omega arith) c.index-statements-i.is (cc) c.in_ok-define.ensures c.step-cursor.ensures.value c.statements.invariant.same;
}

pub returns : goal.returns
returns g c =
    placed_all (symbol_list c.args.globals.now.entries) (symbol_list c.statements.symbols.entries) c.args.heavy c.statements.i c.statements.cursor
    c.args.statements.now _ (omega arith) c.statements.invariant.same
