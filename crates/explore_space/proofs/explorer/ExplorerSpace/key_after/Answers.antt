use Rattle.std.proofs.Common.{ℕ, length, sym, subst}
use Rattle.std.specs.Prelude.{OnOk}
use Rattle.image.specs.Image.{ImageValue}
use Rattle.explore_laws.specs.Places.{place_after}
use Rattle.explore_space.specs.Habits.{habits_of}
use Rattle.explore_space.specs.Places.{IsKeyOf, place_of_key}
use Rattle.explore_space.proofs.DifferLemmas.{keys_differ}
use Rattle.explore_space.proofs.explorer.ExplorerSpace.key_after.Goals as goal

pub returns-clause-differ : goal.returns-clause-differ
returns-clause-differ g c = keys_differ _ _ _ _ _

pub returns-clause-key : goal.returns-clause-key
returns-clause-key g c =
    let known = c.args.self.now.known in
    let more = c.key_after.new.self in
    let harts = more.harts.parts.items in
    let shareds = more.shareds.parts.items in
    let key = c.key_after.new.next.items in
    subst (λ (image : ImageValue). OnOk c.key_after.result (IsKeyOf (habits_of more.code.now) image (length c.args.self.now.inputs.now) harts shareds key
    (place_after (place_of_key (habits_of known.code.now) known.image.now (length c.args.self.now.inputs.now) known.harts.parts.items
    known.shareds.parts.items c.args.key.now) c.args.choice))) (sym c.key_after.ensures.image)
    (subst (λ code. OnOk c.key_after.result (IsKeyOf (habits_of code) known.image.now (length c.args.self.now.inputs.now) harts shareds key
    (place_after (place_of_key (habits_of known.code.now) known.image.now (length c.args.self.now.inputs.now) known.harts.parts.items
    known.shareds.parts.items c.args.key.now) c.args.choice))) (sym c.key_after.ensures.code)
    (subst (λ (n : ℕ). OnOk c.key_after.result (IsKeyOf (habits_of known.code.now) known.image.now n harts shareds key
    (place_after (place_of_key (habits_of known.code.now) known.image.now n known.harts.parts.items
    known.shareds.parts.items c.args.key.now) c.args.choice))) c.harts-count.ensures.harts c.key_after.ensures.key))
