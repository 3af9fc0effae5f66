use Rattle.std.proofs.Common.{List, length, sym, ◌∙◌, subst}
use Rattle.machine.specs.Start.{started}
use Rattle.machine.specs.declared.choice.Choice.{Choice}
use Rattle.explore_search.specs.Answers.{AreAllReached, LeadsToBad, SearchAnswers, SearchCounts, SearchReaches}
use Rattle.explore_search.specs.Counted.{HasMorePlaces}
use Rattle.explore_sites.specs.Own.{Owners}
use Rattle.explore_search.specs.Marked.{AreAllSeen, SearchSees}
use Rattle.explore_space.specs.Every.{meant_choices}
use Rattle.explore_space.specs.Begun.{turns_start}
use Rattle.explore_space.specs.Failing.{ends_search}
use Rattle.explore_space.specs.Places.{IsKey, place_of_key}
use Rattle.explore_space.proofs.EveryLemmas.{moved}
use Rattle.explore_space.proofs.ExitLemmas.{leads_asked, leads_where}
use Rattle.explore_space.proofs.exploring.searched_answer.Goals as goal
use Rattle.explore_space.specs.Habits.{habits_of, habits_with, owners_in}

pub safe_answer-requires-clause-first : goal.safe_answer-requires-clause-first
safe_answer-requires-clause-first g c =
    c.in_ok-seen.ensures.first ∙ (λ i. turns_start (habits_of (c.requires.code i)) (started (c.requires.image i) (c.requires.inputs i)))

pub safe_answer-requires-clause-safe : goal.safe_answer-requires-clause-safe
safe_answer-requires-clause-safe g c =
    moved (λ m i n r a k f. SearchAnswers m (turns_start (habits_of k) (started i n)) (ends_search r a k.section k.words.items n) f)
    (λ i. c.args.meant.now) c.requires.image
    c.requires.inputs c.requires.rule c.requires.always c.requires.code c.in-Safe.is c.in_ok-seen.ensures.answers

pub safe_answer-requires-clause-counts : goal.safe_answer-requires-clause-counts
safe_answer-requires-clause-counts g c =
    moved (λ m i n r a k f. SearchCounts m (turns_start (habits_of k) (started i n)) c.args.question.most f)
    (λ i. c.args.meant.now) c.requires.image
    c.requires.inputs c.requires.rule c.requires.always c.requires.code c.in-Safe.is c.in_ok-seen.ensures.counts

pub bad_answer-requires-clause-bad : goal.bad_answer-requires-clause-bad
bad_answer-requires-clause-bad g c =
    subst (LeadsToBad c.args.meant.now (turns_start (habits_of c.args.code.now) (started c.args.image.now c.args.inputs.now))
    (ends_search c.args.question.expect.rule c.args.question.always c.args.code.now.section c.args.code.now.words.items c.args.inputs.now))
    (sym c.deref.ensures.value)
    (moved (λ m i n r a k f. SearchAnswers m (turns_start (habits_of k) (started i n)) (ends_search r a k.section k.words.items n) f)
    (λ i. c.args.meant.now) c.requires.image
    c.requires.inputs c.requires.rule c.requires.always c.requires.code c.in-Bad.is c.in_ok-seen.ensures.answers)

pub returns-in-Undecided-clause-places : goal.returns-in-Undecided-clause-places
returns-in-Undecided-clause-places g c =
    let code = c.args.code.now in
    subst (λ s. (owners : Owners) × HasMorePlaces (meant_choices c.args.question.refusals (length c.args.inputs.now))
    (turns_start (habits_with s owners) (started c.args.image.now c.args.inputs.now)) c.args.question.most) c.requires.section (
      owners_in code.words.items,
      moved (λ m i n r a k f. SearchCounts m (turns_start (habits_of k) (started i n)) c.args.question.most f)
          c.requires.meant c.requires.image
          c.requires.inputs c.requires.rule c.requires.always c.requires.code c.in-Undecided.is c.in_ok-seen.ensures.counts,
    )

pub safe_answer-requires-clause-seen : goal.safe_answer-requires-clause-seen
safe_answer-requires-clause-seen g c =
    let space = c.search.new.space in
    let n = length space.inputs.now in
    let keys = IsKey space.known.image.now n space.known.harts.parts.items space.known.shareds.parts.items in
    let place = place_of_key (habits_of space.known.code.now) space.known.image.now n space.known.harts.parts.items space.known.shareds.parts.items in
    subst (λ (ms : List Choice). AreAllSeen keys place (turns_start (habits_of space.known.code.now) (started space.known.image.now space.inputs.now)) ms c.in-Safe.seen.keys
    c.in-Safe.seen.links.items) (λ i. c.args.meant.now)
    (subst (λ p. AreAllSeen keys place p c.args.meant.now c.in-Safe.seen.keys c.in-Safe.seen.links.items) (sym c.in_ok-seen.ensures.first)
    (subst (λ f. SearchSees keys place c.args.meant.now
    (turns_start (habits_of c.args.explorer.now.known.code.now) (started c.args.explorer.now.known.image.now c.args.explorer.now.inputs.now)) f) c.in-Safe.is
    c.in_ok-seen.ensures.sees))

pub safe_answer-requires-clause-reaches : goal.safe_answer-requires-clause-reaches
safe_answer-requires-clause-reaches g c =
    let space = c.search.new.space in
    let n = length space.inputs.now in
    let keys = IsKey space.known.image.now n space.known.harts.parts.items space.known.shareds.parts.items in
    let place = place_of_key (habits_of space.known.code.now) space.known.image.now n space.known.harts.parts.items space.known.shareds.parts.items in
    subst (λ (ms : List Choice). AreAllReached keys place ms (turns_start (habits_of space.known.code.now) (started space.known.image.now space.inputs.now)) c.in-Safe.seen.keys)
    (λ i. c.args.meant.now)
    (subst (λ p. AreAllReached keys place c.args.meant.now p c.in-Safe.seen.keys) (sym c.in_ok-seen.ensures.first)
    (subst (λ f. SearchReaches keys place c.args.meant.now
    (turns_start (habits_of c.args.explorer.now.known.code.now) (started c.args.explorer.now.known.image.now c.args.explorer.now.inputs.now)) f) c.in-Safe.is
    c.in_ok-seen.ensures.reaches))

pub safe_answer-requires-clause-exit_edges : goal.safe_answer-requires-clause-exit_edges
safe_answer-requires-clause-exit_edges g c =
    let space = c.search.new.space in
    let n = length space.inputs.now in
    let place = place_of_key (habits_of space.known.code.now) space.known.image.now n space.known.harts.parts.items space.known.shareds.parts.items in
    leads_where place c.args.question.expect.exit c.args.question.bounds c.edges_for-edges.ensures c.in-Safe.is
    (λ i. c.args.meant.now) c.in_ok-seen.ensures.leads

pub safe_answer-requires-clause-bound_edges : goal.safe_answer-requires-clause-bound_edges
safe_answer-requires-clause-bound_edges g c =
    let space = c.search.new.space in
    let n = length space.inputs.now in
    let place = place_of_key (habits_of space.known.code.now) space.known.image.now n space.known.harts.parts.items space.known.shareds.parts.items in
    leads_asked place c.args.question.expect.exit c.args.question.bounds c.edges_for-edges.ensures c.in-Safe.is
    (λ i. c.args.meant.now) c.in_ok-seen.ensures.leads
