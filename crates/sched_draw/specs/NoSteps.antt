-- No choice is drawn for 0 steps.
use Rattle.std.specs.Prelude.{◌≡◌, ℕ, [], refl}
use Rattle.rand_core.specs.Steps.{first_words}
use Rattle.rand_pcg.specs.Lcg.{Lcg}
use Rattle.machine.specs.World.{World}
use Rattle.sched_draw.specs.Bursts as bursts
use Rattle.sched_draw.specs.Priorities as priorities
use Rattle.sched_draw.specs.Refusing as refusing
use Rattle.sched_draw.specs.Seeds as seeds
use Rattle.sched_draw.specs.declared.refusals.Refusals.{Refusals}

pub no_usual : (harts : ℕ) (g : Lcg) → seeds.usual_choices_drawn harts 0 g ≡ []
unfolding seeds.usual_choices_drawn first_words
no_usual harts g = refl

pub no_even : (refusals : Refusals) (harts : ℕ) (g : Lcg) → refusing.even_choices_drawn refusals harts 0 g ≡ []
unfolding refusing.even_choices_drawn first_words
no_even refusals harts g = refl

pub no_bursts : (d : bursts.BurstDrawing) → bursts.burst_choices_drawn 0 d ≡ []
unfolding bursts.burst_choices_drawn
no_bursts d = refl

pub no_priorities : (refusals : Refusals) (place : ℕ) (d : priorities.WatchedDrawing) (w : World)
    → priorities.priority_choices_drawn refusals place 0 d w ≡ []
unfolding priorities.priority_choices_drawn
no_priorities refusals place d w = refl
