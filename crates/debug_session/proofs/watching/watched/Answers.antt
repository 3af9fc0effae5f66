use Rattle.std.proofs.Common.{rules, ◌∙◌, sym}
use Rattle.debug_session.proofs.StopLemmas.{watched_there, watched_not}
use Rattle.debug_session.proofs.watching.watched.Goals as goal

pub returns-then-contains-clause-word : goal.returns-then-contains-clause-word
returns-then-contains-clause-word g c =
    watched_there c.args.words.now.keys _ c.in_ok-access.access (search rules) (sym c.contains.ensures ∙ c.if-contains.true)

pub returns-else-contains-clause-word : goal.returns-else-contains-clause-word
returns-else-contains-clause-word g c =
    watched_not c.args.words.now.keys _ c.in_ok-access.access (search rules) (sym c.contains.ensures ∙ c.if-contains.false)
