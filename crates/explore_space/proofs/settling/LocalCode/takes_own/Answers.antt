use Rattle.std.proofs.Common.{ap, sym, ◌∙◌, subst, inl, inr}
use Rattle.mem_store.specs.Image.{image_memory}
use Rattle.hart_step.specs.Hart.{hart_of}
use Rattle.bank_step.specs.Told.{as_touch}
use Rattle.explore_sites.specs.Touches.{TellsTouch}
use Rattle.explore_sites.specs.declared.touch.NextTouch.TheVariants.{Nothing}
use Rattle.explore_space.specs.Habits.{habits_of, owners_in}
use Rattle.explore_space.proofs.TouchLemmas.{own_nowhere, own_stands, own_touch, own_unknown}
use Rattle.explore_space.proofs.settling.LocalCode.takes_own.Goals as goal

pub returns-then-not-runs_outside : goal.returns-then-not-runs_outside
returns-then-not-runs_outside g c = λ w there keeps.
    own_stands (habits_of c.args.self.now) (image_memory c.args.image.now) w c.args.number (hart_of c.args.hart.now) there keeps
    (sym c.runs_outside.ensures ∙ c.if-not-runs_outside.true)

pub returns-in-Unknown : goal.returns-in-Unknown
returns-in-Unknown g c = λ w there keeps.
    let m = image_memory c.args.image.now in
    let v = hart_of c.args.hart.now in
    elim c.in-Unknown.is [
      | inl unknown ↦
          own_unknown (habits_of c.args.self.now) m w c.args.number v there keeps (subst (TellsTouch m v) unknown c.next_touch.ensures)
      | inr nothing ↦
          let told : TellsTouch m v Nothing = subst (TellsTouch m v) nothing c.next_touch.ensures in
          own_nowhere (habits_of c.args.self.now) m w c.args.number v there keeps told.1
    ]

pub returns-in-Word : goal.returns-in-Word
returns-in-Word g c = λ w there keeps.
    let t = as_touch c.in-Word.touch in
    let goes = sym c.runs_outside.ensures ∙ c.if-not-runs_outside.false in
    c.is_own.ensures (habits_of c.args.self.now).owners (c.owner_of-owner.ensures ∙ ap (λ ws. owners_in ws t.word) c.deref.ensures.value)
    ∙ own_touch (habits_of c.args.self.now) (image_memory c.args.image.now) w c.args.number (hart_of c.args.hart.now) there keeps t goes
    c.in-Word.ensures.0 c.in-Word.ensures.1
