-- A run that is followed: its worlds, and when reservations ended.
use Rattle.std.specs.Prelude.{ℕ, ◌+◌, List, [], ◌∷◌, length}
use Rattle.machine.specs.World.{World, step}
use Rattle.machine.specs.declared.choice.Choice.{Choice}
use Rattle.trace_steps.specs.Ends.{Ends, ends_after}
use Rattle.trace_steps.specs.Failures.{told_failure}
use Rattle.trace_steps.specs.Told.{told_choice}
use Rattle.trace_steps.specs.declared.ending.Ending.{Ending}
use Rattle.trace_steps.specs.declared.explaining.Explained.{Explained}

-- a world, and the step that ended each hart's last reservation
pub record Followed : Type 0 where
  pub world : World
  pub ends : Ends

-- a world with these ends
abbrev pub followed : World → Ends → Followed
followed w ends = record { world = w; ends = ends }

-- choice k of a run, as the step that ends reservations
abbrev pub ending_by : ℕ → Choice → Ending
ending_by k c = record { hart = c.hart; choice = k }

-- after choice k
abbrev pub follow : Followed → ℕ → Choice → Followed
follow f k c = record {
  world = step f.world c;
  ends = ends_after (length f.world.harts) f.world.reserved (step f.world c).reserved (ending_by k c) f.ends;
}

-- after choices that are numbered from k on
unfoldable pub followed_run : Followed → ℕ → List Choice → Followed
followed_run f k [] = f
followed_run f k (c ∷ choices) = followed_run (follow f k c) (k + 1) choices

-- what a choice does, and why its store-conditional fails
abbrev pub explained : Followed → Choice → Explained
explained f c =
    let told = told_choice f.world c in
    record { told = told; failure = told_failure told (f.world.reserved c.hart) (f.ends c.hart) }

-- what each choice does, numbered from k on, where those before it lead
unfoldable pub explains : Followed → ℕ → List Choice → List Explained
explains f k [] = []
explains f k (c ∷ choices) = explained f c ∷ explains (follow f k c) (k + 1) choices
