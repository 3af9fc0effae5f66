-- Whether the run that leads to a place has failed.
use Rattle.std.specs.Prelude.{◌≡◌, ℕ, zero, suc, Bool, false, not, ◌||◌, if◌then◌else◌, List, [], ◌∷◌, length, slice_get, Option, Some, None}
use Rattle.std.specs.Option.{is_some}
use Rattle.mem_store.specs.Memory.{Memory}
use Rattle.hart_step.specs.Hart.{HartValue}
use Rattle.bank_laws.specs.Runs.{Touch}
use Rattle.explore_sites.specs.Own.{Owners, code_ahead, is_anothers, touch_ahead}
use Rattle.machine.specs.World.{World}
use Rattle.machine.specs.declared.choice.Choice.{Choice}
use Rattle.object_library.specs.declared.kind.Kind.{Kind}
use Rattle.outcome.specs.Expect.{fails, judged}
use Rattle.outcome.specs.Outcome.{some_run}
use Rattle.outcome.specs.declared.expect.Exit.TheVariants.{May}
use Rattle.property_judge.specs.Broken.{fails_in}
use Rattle.property_judge.specs.declared.property.Property.TheVariants as property
use Rattle.explore_laws.specs.Places.{Place}
use Rattle.explore_space.specs.Habits.{owners_in}
use Rattle.explore_space.specs.declared.own_words.OwnWord.{OwnWord}
use Rattle.explore_space.specs.declared.section.Section.{Section}
use Rattle.explore_space.specs.declared.question.Always.{Always}

-- a plain choice of each hart below n that was chosen; a verdict asks no more of a run's choices
unfoldable pub one_each : ℕ → (ℕ → Bool) → List Choice
one_each zero chosen = []
one_each (suc n) chosen =
    if chosen n then record { hart = n; refuse = false } ∷ one_each n chosen else one_each n chosen

-- whether a word of memory isn't what it must be in a world, if that is asked
abbrev pub breaks_word : Option Always → World → Bool
breaks_word None w = false
breaks_word (Some always) w = fails_in (property.Always always.word always.comparison always.number) w

-- whether two harts, or more, stand in a section at once in a world, if that is asked
abbrev pub breaks_section : Option Section → World → Bool
breaks_section None w = false
breaks_section (Some section) w = fails_in (property.NeverBoth section.from section.to) w

-- whether one of these is so
abbrev pub breaks_asked : Option Always → Option Section → World → Bool
breaks_asked always section w = breaks_word always w || breaks_section section w

-- whether the run to a place has failed: a word isn't what it must be, or two harts stand in the
-- section, or its rule is broken, or without a rule a hart has faulted
abbrev pub fails_there : Option Kind → Option Always → Option Section → List ℕ → Place → Bool
fails_there rule always section inputs p =
    breaks_asked always section p.world || fails May (judged rule inputs (one_each (length inputs) p.chosen) p.world.harts)

-- whether no hart runs in a place
abbrev pub ends_there : Place → Bool
ends_there p = not (some_run p.world.harts)

-- the word that is judged, if one is, belongs to no hart
abbrev pub IsUnowned : Option Always → Owners → Type 0
IsUnowned None owners = Unit {0}
IsUnowned (Some always) owners = owners always.word ≡ None

-- whether a touch is of another hart's word
abbrev pub touches_anothers : Owners → ℕ → Option Touch → Bool
touches_anothers owners h None = false
touches_anothers owners h (Some t) = is_anothers owners h t.word

-- whether hart h may stray into another's words in its next step: the step touches one, or the
-- instruction stands in a word that may be written
abbrev pub strays : Owners → Memory → ℕ → HartValue → Bool
strays owners m h v = is_some (code_ahead m v) || touches_anothers owners h (touch_ahead m v)

abbrev pub strays_by : Owners → World → ℕ → Option HartValue → Bool
strays_by owners w h None = false
strays_by owners w h (Some v) = strays owners w.memory h v

-- whether one of the first n harts may
unfoldable pub one_strays : Owners → World → ℕ → Bool
one_strays owners w zero = false
one_strays owners w (suc n) = one_strays owners w n || strays_by owners w n (slice_get w.harts n)

-- the same where a list says whose words are; where it is empty nobody strays
abbrev pub strays_from : List OwnWord → World → ℕ → Bool
strays_from [] w n = false
strays_from (own ∷ words) w n = one_strays (owners_in (own ∷ words)) w n

-- whether a search ends at a place: the run to it has failed, or a hart may stray
abbrev pub ends_search : Option Kind → Option Always → Option Section → List OwnWord → List ℕ → Place → Bool
ends_search rule always section words inputs p =
    fails_there rule always section inputs p || strays_from words p.world (length inputs)
