-- The choices that a plain seed draws.
use Rattle.std.specs.Prelude.{ℕ, ◌/◌, ◌%◌, ◌==◌, List, map}
use Rattle.rand_core.specs.Pcg32Seed.{pcg32_seed}
use Rattle.rand_core.specs.Steps.{first_words}
use Rattle.rand_pcg.specs.Lcg.{Lcg}
use Rattle.rand_pcg.specs.Pcg.{pcg32, pcg32_of_seed}
use Rattle.machine.specs.declared.choice.Choice.{Choice}

-- the choice of a drawn word: its hart is the word's remainder by the number of harts, and its SC
-- is refused if the lowest four bits of the word's upper half are 0
unfoldable pub usual_choice_of_word : ℕ → ℕ → Choice
usual_choice_of_word harts word = record { hart = word % harts; refuse = word / 65536 % 16 == 0 }

-- the choices of the next words of a generator
unfoldable pub usual_choices_drawn : ℕ → ℕ → Lcg → List Choice
usual_choices_drawn harts steps generator = map (usual_choice_of_word harts) (first_words pcg32 steps generator)

-- the generator at a seed
unfoldable pub generator_of : ℕ → Lcg
generator_of seed = pcg32_of_seed (pcg32_seed 16 seed)

-- the choices of n steps that the generator of a seed draws, one word each
abbrev pub seeded_choices : ℕ → ℕ → ℕ → List Choice
seeded_choices harts steps seed = usual_choices_drawn harts steps (generator_of seed)
