-- Harts that take their local steps at once, but for those in a section.
use Rattle.std.specs.Prelude.{ℕ, zero, suc, Bool, true, false, not, ◌&&◌, if◌then◌else◌, Option, Some, None, slice_get}
use Rattle.mem_store.specs.Memory.{Memory}
use Rattle.hart_step.specs.Hart.{HartValue}
use Rattle.hart_local.specs.CodeMemory.{code_in}
use Rattle.hart_local.specs.LocalStep.{is_local_next, step_alone}
use Rattle.machine.specs.World.{World}
use Rattle.property_judge.specs.Property.{is_within}
use Rattle.explore_laws.specs.Quiet.{OfNextStep}
use Rattle.explore_laws.specs.Settling.{Stride}
use Rattle.explore_space.specs.declared.section.Section.{Section}

-- whether a hart stands in a section, if there is one, and runs
abbrev pub rests_in : Option Section → HartValue → Bool
rests_in None v = false
rests_in (Some section) v = is_within section.from section.to v

-- whether a hart takes a local step at once: it has one, and doesn't stand in the section
abbrev pub may_walk : Option Section → Memory → HartValue → Bool
may_walk section code v = is_local_next code v && not (rests_in section v)

-- a hart after its next local steps, n of them at most, and none of them in the section
unfoldable pub rested : Option Section → Memory → ℕ → HartValue → HartValue
rested section code zero v = v
rested section code (suc n) v = if may_walk section code v then rested section code n (step_alone code v) else v

-- how many these are
unfoldable pub rest_steps : Option Section → Memory → ℕ → HartValue → ℕ
rest_steps section code zero v = 0
rest_steps section code (suc n) v = if may_walk section code v then suc (rest_steps section code n (step_alone code v)) else 0

-- how many local steps are taken at once at most
abbrev pub at_once : ℕ
at_once = 1024

-- how many local steps a hart with a number, if there is one, takes at once
abbrev pub resting_steps : Option Section → World → Option HartValue → ℕ
resting_steps section w None = 0
resting_steps section w (Some v) = rest_steps section (code_in w.memory) at_once v

-- the steps that harts take at once: their local ones
abbrev pub stride_of : Option Section → Stride
stride_of section w h = resting_steps section w (slice_get w.harts h)

-- whether a hart with a number, if there is one, takes a local step at once
abbrev pub is_quiet_by : Option Section → World → Option HartValue → Bool
is_quiet_by section w None = false
is_quiet_by section w (Some v) = may_walk section (code_in w.memory) v

-- such steps are quiet, and every hart's step is clear of them
abbrev pub is_quiet : Option Section → OfNextStep
is_quiet section w h = is_quiet_by section w (slice_get w.harts h)

abbrev pub all_clear : OfNextStep
all_clear w h = true
