use Rattle.std.proofs.Common.{◌<◌}
use Rattle.cmd_campaign.proofs.AnswerLemmas.{begun_known, done_known, first_known, halted_known, refused_known, unread_known, unread_still}
use Rattle.cmd_campaign.proofs.KeptLemmas.{certified_known}
use Rattle.cmd_campaign.proofs.engine.campaign_engine.Goals as goal

pub returns-in-Err-clause-refused : goal.returns-in-Err-clause-refused
returns-in-Err-clause-refused g c = λ refusal.
    unread_known c.args.campaign c.args.inputs.now _ _ (c.in-Err.ensures.refused refusal)

pub returns-clause-done : goal.returns-clause-done
returns-clause-done g c =
    done_known c.args.campaign c.args.inputs.now _ _ c.in-Ok.ensures.ok _ _ _ c.write_campaign.ensures.done

pub returns-clause-first : goal.returns-clause-first
returns-clause-first g c =
    first_known c.args.campaign c.args.inputs.now _ _ c.in-Ok.ensures.ok _ c.write_campaign.ensures.finished

pub returns-clause-refused : goal.returns-clause-refused
returns-clause-refused g c =
    refused_known c.args.campaign c.args.inputs.now _ _ c.in-Ok.ensures.ok _ c.write_campaign.ensures.refused

pub returns-clause-read : goal.returns-clause-read
returns-clause-read g c =
    unread_still c.before.before.write_campaign.result
    (g.P.Source.failures c.args.program.now < g.P.Source.failures c.read_image.new.program)
    (g.K.Sink.failures c.args.sink.now < g.K.Sink.failures c.write_campaign.new.sink) c.write_campaign.ensures.read

pub returns-clause-begun : goal.returns-clause-begun
returns-clause-begun g c = λ e.
    begun_known c.args.campaign c.args.inputs.now _ _ c.in-Ok.ensures.ok _ _ _ (c.write_campaign.ensures.begun e)

pub returns-clause-halted : goal.returns-clause-halted
returns-clause-halted g c = λ e.
    halted_known c.args.campaign c.args.inputs.now _ _ c.in-Ok.ensures.ok _ _ _ _ (c.write_campaign.ensures.halted e)

pub returns-clause-certified : goal.returns-clause-certified
returns-clause-certified g c =
    certified_known c.args.campaign c.args.inputs.now _ _ _ c.in-Ok.ensures.ok c.write_campaign.ensures.words
    c.write_campaign.ensures.takes c.write_campaign.ensures.finished
