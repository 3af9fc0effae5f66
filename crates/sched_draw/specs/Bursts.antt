-- Schedules in bursts: a hart is drawn, then the number of its choices in a row.
use Rattle.std.specs.Prelude.{ℕ, zero, suc, ◌+◌, ◌-◌, ◌*◌, ◌%◌, ◌==◌, List, [], ◌∷◌, if◌then◌else◌}
use Rattle.rand_pcg.specs.Lcg.{Lcg}
use Rattle.rand_pcg.specs.Pcg.{pcg32}
use Rattle.machine.specs.declared.choice.Choice.{Choice}
use Rattle.sched_draw.specs.Seeds.{generator_of}
use Rattle.sched_draw.specs.Refusing.{is_refused}
use Rattle.sched_draw.specs.declared.refusals.Refusals.{Refusals}

-- the state of drawing: the number of harts, the mean length of bursts and the refusals; the hart
-- of the burst, the number of its choices left, and the generator of the next words
pub record BurstDrawing : Type 0 where
  pub harts : ℕ
  pub mean : ℕ
  pub refusals : Refusals
  pub hart : ℕ
  pub left : ℕ
  pub generator : Lcg

-- the state at a seed: no burst has begun
unfoldable pub burst_drawing : ℕ → ℕ → Refusals → ℕ → BurstDrawing
burst_drawing harts mean refusals seed =
    record { harts = harts; mean = mean; refusals = refusals; hart = 0; left = 0; generator = generator_of seed }

-- a new burst: its hart is a word's remainder by the number of harts; its length, 1 to 2 * mean -
-- 1, is 1 more than the next word's remainder by the greatest length
unfoldable pub burst_drawn : BurstDrawing → BurstDrawing
burst_drawn d = record d {
  hart = (pcg32 d.generator).0 % d.harts;
  left = (pcg32 (pcg32 d.generator).1).0 % (2 * d.mean - 1) + 1;
  generator = (pcg32 (pcg32 d.generator).1).1;
}

-- the burst of the next choice: a new one if none is left
unfoldable pub in_burst : BurstDrawing → BurstDrawing
in_burst d = if d.left == 0 then burst_drawn d else d

-- the next choice is of the burst's hart, and refused if a word is one that refuses
unfoldable pub next_burst_choice : BurstDrawing → Choice
next_burst_choice d =
    record { hart = (in_burst d).hart; refuse = is_refused d.refusals (pcg32 (in_burst d).generator).0 }

-- the state after it
unfoldable pub after_burst_choice : BurstDrawing → BurstDrawing
after_burst_choice d =
    record (in_burst d) { left = (in_burst d).left - 1; generator = (pcg32 (in_burst d).generator).1 }

-- the next n choices
unfoldable pub burst_choices_drawn : ℕ → BurstDrawing → List Choice
burst_choices_drawn zero d = []
burst_choices_drawn (suc steps) d = next_burst_choice d ∷ burst_choices_drawn steps (after_burst_choice d)

-- the choices of n steps in bursts that a seed draws: the last burst ends with them
abbrev pub burst_choices : Refusals → ℕ → ℕ → ℕ → ℕ → List Choice
burst_choices refusals harts mean steps seed = burst_choices_drawn steps (burst_drawing harts mean refusals seed)
