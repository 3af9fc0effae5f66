-- Which choices of a drawn schedule refuse an SC, and even schedules with such refusals.
use Rattle.std.specs.Prelude.{◌≡◌, ℕ, ◌/◌, ◌%◌, ◌==◌, Bool, false, List, map}
use Rattle.rand_core.specs.Steps.{first_words}
use Rattle.rand_pcg.specs.Lcg.{Lcg}
use Rattle.rand_pcg.specs.Pcg.{pcg32}
use Rattle.machine.specs.declared.choice.Choice.{Choice}
use Rattle.sched_draw.specs.Seeds.{generator_of}
use Rattle.sched_draw.specs.declared.refusals.Refusals.{Refusals}
use Rattle.sched_draw.specs.declared.refusals.Refusals.TheVariants.{Never, OneIn}

-- whether a drawn word refuses an SC: its upper half is a multiple of n, for one in n
unfoldable pub is_refused : Refusals → ℕ → Bool
is_refused Never word = false
is_refused (OneIn chance) word = word / 65536 % chance.one_in == 0

-- refusals with a chance of one in n
abbrev pub IsOneIn : ℕ → Refusals → Type 0
IsOneIn n Never = ⊥
IsOneIn n (OneIn chance) = chance.one_in ≡ n

-- the choice of a drawn word: its hart is the word's remainder by the number of harts
unfoldable pub choice_of_word : Refusals → ℕ → ℕ → Choice
choice_of_word refusals harts word = record { hart = word % harts; refuse = is_refused refusals word }

-- the choices of the next words of a generator
unfoldable pub even_choices_drawn : Refusals → ℕ → ℕ → Lcg → List Choice
even_choices_drawn refusals harts steps generator = map (choice_of_word refusals harts) (first_words pcg32 steps generator)

-- the choices of n steps that the generator of a seed draws, one word each
abbrev pub even_choices : Refusals → ℕ → ℕ → ℕ → List Choice
even_choices refusals harts steps seed = even_choices_drawn refusals harts steps (generator_of seed)
