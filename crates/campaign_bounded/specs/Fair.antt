-- The fair tail of a schedule.
use Rattle.std.specs.Prelude.{ℕ, List, [], ◌∷◌, ◌++◌, if◌then◌else◌}
use Rattle.machine.specs.World.{step, run}
use Rattle.machine.specs.declared.choice.Choice.{Choice}
use Rattle.outcome.specs.Outcome.{some_run}
use Rattle.sched_draw.specs.Turns.{turns}
use Rattle.campaign_bounded.specs.Walk.{Led}

-- one choice more
abbrev pub led_by_turn : Led → Choice → Led
led_by_turn led choice =
    record { choices = led.choices ++ choice ∷ []; world = step led.world choice }

-- n steps more, of so many harts in turn
abbrev pub led_by_turns : ℕ → ℕ → Led → Led
led_by_turns harts steps led = record {
  choices = led.choices ++ turns harts steps;
  world = run led.world (turns harts steps);
}

-- a schedule that leaves a hart running goes on fairly
abbrev pub fair_end : ℕ → ℕ → Led → Led
fair_end harts steps led = if some_run led.world.harts then led_by_turns harts steps led else led
