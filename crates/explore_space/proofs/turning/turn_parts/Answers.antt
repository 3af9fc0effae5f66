use Rattle.std.proofs.Common.{length, ap, sym, ◌∙◌, subst, refl}
use Rattle.std.proofs.lemmas.Option.{slice_get_read}
use Rattle.hart_reservations.specs.Marks.{mark_at}
use Rattle.explore_sites.specs.Cells.{AreCanonical, words_shown}
use Rattle.explore_space.specs.Habits.{habits_of}
use Rattle.explore_space.specs.Places.{hart_in, cells_in, marks_in}
use Rattle.explore_space.proofs.KeptLemmas.{once_kept}
use Rattle.explore_space.proofs.MemoLemmas.{turns_moved}
use Rattle.explore_space.proofs.turning.turn_parts.Goals as goal

pub returns-clause-turns : goal.returns-clause-turns
returns-clause-turns g c =
    let hart_there = slice_get_read c.args.harts.now.parts.items (length c.args.harts.now.parts.items) c.args.hart_id c.index.result.now refl
    c.requires.hart c.index.ensures in
    let shared_there = slice_get_read c.args.shareds.now.parts.items (length c.args.shareds.now.parts.items) c.args.shared_id c.index-2.result.now refl
    c.requires.shared c.index-2.ensures in
    turns_moved (habits_of c.args.code.now) c.args.image.now c.args.turn _ _ _ _ _ _ _ _ _ _ _ _ _ c.in_ok-steps.ensures.turns
    (ap hart_in hart_there) c.in_ok-new_hart.ensures.is
    (ap (words_shown c.args.image.now) (ap cells_in shared_there ∙ sym c.in_ok-shared.ensures.cells)) (c.in_ok-new_shared.ensures.words c.args.image.now)
    (ap marks_in shared_there ∙ ap mark_at (sym c.in_ok-shared.ensures.marks)) c.in_ok-new_shared.ensures.marks

pub returns-in_err-new_shared-clause-once : goal.returns-in_err-new_shared-clause-once
returns-in_err-new_shared-clause-once g c =
    once_kept c.args.image.now c.args.harts.now.parts.items c.keep_hart.new.harts.parts.items c.args.shareds.now.parts.items
    c.keep_shared.new.shareds.parts.items c.index-2.result.now c.turn_site.new.shared c.args.shared_id
    (slice_get_read c.args.shareds.now.parts.items (length c.args.shareds.now.parts.items) c.args.shared_id c.index-2.result.now refl
    c.requires.shared c.index-2.ensures)
    (λ is. c.in_ok-steps.ensures.canonical (subst (AreCanonical c.args.image.now) (sym c.in_ok-shared.ensures.cells) is))
    c.keep_hart.ensures.once (c.keep_shared.ensures.once c.args.image.now)

pub returns-then-new_hart-gt4294967295-clause-once : goal.returns-then-new_hart-gt4294967295-clause-once
returns-then-new_hart-gt4294967295-clause-once g c =
    once_kept c.args.image.now c.args.harts.now.parts.items c.keep_hart.new.harts.parts.items c.args.shareds.now.parts.items
    c.keep_shared.new.shareds.parts.items c.index-2.result.now c.turn_site.new.shared c.args.shared_id
    (slice_get_read c.args.shareds.now.parts.items (length c.args.shareds.now.parts.items) c.args.shared_id c.index-2.result.now refl
    c.requires.shared c.index-2.ensures)
    (λ is. c.in_ok-steps.ensures.canonical (subst (AreCanonical c.args.image.now) (sym c.in_ok-shared.ensures.cells) is))
    c.keep_hart.ensures.once (c.keep_shared.ensures.once c.args.image.now)

pub returns-clause-once : goal.returns-clause-once
returns-clause-once g c =
    once_kept c.args.image.now c.args.harts.now.parts.items c.keep_hart.new.harts.parts.items c.args.shareds.now.parts.items
    c.keep_shared.new.shareds.parts.items c.index-2.result.now c.turn_site.new.shared c.args.shared_id
    (slice_get_read c.args.shareds.now.parts.items (length c.args.shareds.now.parts.items) c.args.shared_id c.index-2.result.now refl
    c.requires.shared c.index-2.ensures)
    (λ is. c.in_ok-steps.ensures.canonical (subst (AreCanonical c.args.image.now) (sym c.in_ok-shared.ensures.cells) is))
    c.keep_hart.ensures.once (c.keep_shared.ensures.once c.args.image.now)
