use Rattle.std.proofs.Common.{rules, ap, sym, ◌∙◌}
use Rattle.debug_session.specs.Session.{session}
use Rattle.debug_text.specs.Reply.{reply_to}
use Rattle.cmd_debug.proofs.OutcomeLemmas.{no_utf8, obeyed, refused}
use Rattle.cmd_debug.proofs.conversation.answer_line.Goals as goal

pub returns-in_default : goal.returns-in_default
returns-in_default g c = no_utf8 _ _ c.args.line.now _ c.in_default.ensures.cases.0 c.in_ok-fault_text.ensures

pub returns-in-Ok-command : goal.returns-in-Ok-command
returns-in-Ok-command g c =
    obeyed _ _ c.args.line.now _ c.in-Ok.ensures.cases.1
    (ap (reply_to c.args.symbols.now (session c.args.debugger.now)) (sym c.in-Ok.ensures.cases.0) ∙ c.in-Ok-command.ensures.ok)

pub returns-in_ok-fault_text-in-Err : goal.returns-in_ok-fault_text-in-Err
returns-in_ok-fault_text-in-Err g c =
    refused _ _ _ c.args.line.now _ c.in-Err.fault c.in-Ok.ensures.cases.1
    (ap (reply_to c.args.symbols.now (session c.args.debugger.now)) (sym c.in-Ok.ensures.cases.0) ∙ c.in-Err.ensures.fault (search rules))
    c.in_ok-fault_text-in-Err.ensures c.in-Err.ensures.unchanged
