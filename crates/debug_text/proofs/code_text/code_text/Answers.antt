use Rattle.std.proofs.Common.{rules, arith, ◌+◌, ◌-◌, ◌%◌, ◌^◌, string_bytes}
use Rattle.hart_step.specs.Hart.{hart_of}
use Rattle.debug_text.proofs.TextLemmas.{code_more, code_end, lines_more, lines_end}
use Rattle.debug_text.proofs.code_text.code_text.Goals as goal

pub words-preserved : goal.words-preserved
words-preserved g c =
    lines_more (string_bytes c.words.text) (string_bytes c.push_line.new.text) _ _ _ _ c.in_ok-push_line.ensures
    (code_more c.args.symbols.now (g.S.Store.memory c.args.store.now) (hart_of c.args.hart.now).pc c.words.place c.words.counter 11 c.words-test.true) c.words.invariant

pub returns : goal.returns
returns g c =
    lines_end (string_bytes c.words.text) _ _
    (code_end c.args.symbols.now (g.S.Store.memory c.args.store.now) (hart_of c.args.hart.now).pc c.words.place c.words.counter 11 (omega (arith, c.words-test.false))) c.words.invariant
