use Rattle.std.proofs.Common.{◌+◌, ◌^◌, length, drop, refl, sym, ◌∙◌, arith}
use Rattle.std.specs.Prelude.{reverse}
use Rattle.std.proofs.lemmas.List.{at_drop_all}
use Rattle.asm_assemble.specs.Program.{symbol_list}
use Rattle.asm_assemble.specs.Valuing.{Pushes, valuing}
use Rattle.asm_assemble.proofs.Within.{within_far, within_next, within_more}
use Rattle.asm_assemble.proofs.LocalLemmas.{goes_on_at, ends_at}
use Rattle.asm_assemble.proofs.AheadLemmas.{local_here}
use Rattle.asm_assemble.proofs.valuing.value_all.Goals as goal

pub aheads_of-requires : goal.aheads_of-requires
aheads_of-requires g c = within_more (2 ^ 62 + 2 ^ 60) (2 ^ 63) c.args.start c.requires (omega arith)

pub step-next-requires : goal.step-next-requires
step-next-requires g c =
    within_far c.statements.statement-index (length c.args.statements.now) c.statements.cursor c.statements.invariant.small (omega arith) (omega arith)

pub push-requires : goal.push-requires
push-requires g c =
    within_far c.statements.statement-index (length c.args.statements.now) c.statements.cursor c.statements.invariant.small (omega arith) (omega arith)

pub returns-in-Err-Kind : goal.returns-in-Err-Kind
unfolding Pushes
returns-in-Err-Kind g c =
    let s = c.statement-item.result in
    let ss = c.args.statements.now in
    let puts = rw c.in-Err-Kind.field-0-is at c.in-Err-Kind.ensures in
    let here = local_here (symbol_list c.statements.before.entries) c.statements.cursor c.step-next.result ss c.statements.statement-index s
    (reverse c.statements.aheads.items) (reverse c.take_last-ahead.new.references.items) c.take_last-ahead.result c.local_of-local.result
    (omega arith) c.statement-item.is c.step-next.ensures.value c.statements.invariant.left c.take_last-ahead.ensures c.local_of-local.ensures in
    ends_at (symbol_list c.args.symbols.now.entries) (symbol_list c.statements.before.entries) c.statements.sections c.statements.cursor
    c.step-next.result c.statements.statement-index s ss (drop (c.statements.statement-index + 1) ss) c.local_of-local.result _ c.in-Err-Kind.kind
    c.at_statement.result (omega arith) c.statement-item.is refl c.step-next.ensures.value here.0
    puts (cc) c.statements.invariant.same

pub statements-preserved : goal.statements-preserved
unfolding Pushes
statements-preserved g c =
    let s = c.statement-item.result in
    let ss = c.args.statements.now in
    let here = local_here (symbol_list c.statements.before.entries) c.statements.cursor c.step-next.result ss c.statements.statement-index s
    (reverse c.statements.aheads.items) (reverse c.take_last-ahead.new.references.items) c.take_last-ahead.result c.local_of-local.result
    (omega arith) c.statement-item.is c.step-next.ensures.value c.statements.invariant.left c.take_last-ahead.ensures c.local_of-local.ensures in
    record {
      small = within_next (2 ^ 62 + 2 ^ 60) c.statements.statement-index c.step-next.result
          (c.step-next.ensures.small (2 ^ 62 + 2 ^ 60 + c.statements.statement-index) c.statements.invariant.small);
      left = here.1;
      same = goes_on_at (symbol_list c.args.symbols.now.entries) (symbol_list c.statements.before.entries) (symbol_list c.note.new.before.entries)
          c.statements.sections c.push.new.self c.statements.cursor c.step-next.result c.statements.statement-index s ss
          (drop (c.statements.statement-index + 1) ss) c.address.result c.local_of-local.result _ (omega arith) c.statement-item.is refl
          c.step-next.ensures.value c.address.ensures.value here.0 c.in-Ok.ensures c.in_ok-note.ensures c.statements.invariant.same;
    }

pub returns : goal.returns
unfolding valuing
returns g c =
    sym c.statements.invariant.same
    ∙ at_drop_all (valuing (symbol_list c.args.symbols.now.entries) (symbol_list c.statements.before.entries) c.statements.sections c.statements.cursor) c.args.statements.now c.statements.statement-index (omega arith)
