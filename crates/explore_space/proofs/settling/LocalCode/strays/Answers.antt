use Rattle.std.proofs.Common.{None, Some, ap, ◌∙◌}
use Rattle.mem_store.specs.Image.{image_memory}
use Rattle.hart_step.specs.Hart.{hart_of}
use Rattle.bank_step.specs.Told.{as_touch}
use Rattle.explore_space.specs.Habits.{owners_in}
use Rattle.explore_space.proofs.TouchLemmas.{strays_by_owner, strays_nowhere, strays_unknown}
use Rattle.explore_space.proofs.settling.LocalCode.strays.Goals as goal

pub returns-in-Unknown : goal.returns-in-Unknown
returns-in-Unknown g c = λ w there keeps.
    strays_unknown (owners_in c.args.self.now.words.items) (image_memory c.args.image.now) w c.args.number (hart_of c.args.hart.now) there keeps
    c.in-Unknown.ensures

pub returns-in-Nothing : goal.returns-in-Nothing
returns-in-Nothing g c = λ w there keeps.
    strays_nowhere (owners_in c.args.self.now.words.items) (image_memory c.args.image.now) w c.args.number (hart_of c.args.hart.now) there keeps
    c.in-Nothing.ensures.0 c.in-Nothing.ensures.1

pub returns-in-Some : goal.returns-in-Some
returns-in-Some g c = λ w there keeps.
    let t = as_touch c.in-Word.touch in
    strays_by_owner (owners_in c.args.self.now.words.items) (image_memory c.args.image.now) w c.args.number (hart_of c.args.hart.now) there keeps
    t (Some c.in-Some.owner) c.in-Word.ensures.0 c.in-Word.ensures.1
    (c.in-Some.ensures ∙ ap (λ ws. owners_in ws t.word) c.deref.ensures.value)

pub returns-in-None : goal.returns-in-None
returns-in-None g c = λ w there keeps.
    let t = as_touch c.in-Word.touch in
    strays_by_owner (owners_in c.args.self.now.words.items) (image_memory c.args.image.now) w c.args.number (hart_of c.args.hart.now) there keeps
    t None c.in-Word.ensures.0 c.in-Word.ensures.1
    (c.in-None.ensures ∙ ap (λ ws. owners_in ws t.word) c.deref.ensures.value)
