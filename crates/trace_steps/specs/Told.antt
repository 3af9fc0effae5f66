-- What one choice did, by the world before it and the world after it.
use Rattle.std.specs.Prelude.{ℕ, Option, None, slice_index_or, option_map, option_and_then}
use Rattle.mem_store.specs.Memory.{Memory}
use Rattle.mem_store.specs.Access.{fetched}
use Rattle.isa_table.specs.Decoded.{decoded}
use Rattle.isa_table.specs.declared.instr.Instr.{Instr}
use Rattle.hart_step.specs.Hart.{HartValue}
use Rattle.hart_step.specs.Locality.{access_if}
use Rattle.hart_step.specs.declared.data_access.Access.{Access}
use Rattle.hart_step.specs.declared.hart.HartState.{HartState}
use Rattle.hart_step.specs.declared.hart.HartState.TheVariants.{Running, Exited, Faulted}
use Rattle.machine.specs.World.{World, step}
use Rattle.machine.specs.declared.choice.Choice.{Choice}
use Rattle.trace_steps.specs.Destination.{destination}
use Rattle.trace_steps.specs.Bytes.{number_there}
use Rattle.trace_steps.specs.declared.told.Told.{Told}
use Rattle.trace_steps.specs.declared.told.ToldAccess.{ToldAccess}
use Rattle.trace_steps.specs.declared.told.Written.{Written}

-- the hart of a number past the last: it does nothing, as one that has stopped
abbrev pub nobody : HartValue
nobody = record { registers = λ r. 0; pc = 0; state = Exited 0 }

-- the hart of a number
abbrev pub hart_at : World → ℕ → HartValue
hart_at w h = slice_index_or w.harts h nobody

-- the word that a hart in this state fetches at an address, if it runs and may
abbrev pub word_met : HartState → Memory → ℕ → Option ℕ
word_met Running m pc = fetched m pc
word_met (Exited status) m pc = None
word_met (Faulted cause) m pc = None

-- an access, with the number that its bytes spell before and after
abbrev pub told_access : Memory → Memory → Access → ToldAccess
told_access before after a = record {
  kind = a.kind;
  address = a.address;
  size = a.size;
  before = number_there before a.size a.address;
  after = number_there after a.size a.address;
}

-- the register that an instruction wrote of a hart that is in this state after it; a hart that has
-- faulted wrote none
abbrev pub written_in : HartState → Option Instr → Option ℕ
written_in Running instr = option_and_then destination instr
written_in (Exited status) instr = option_and_then destination instr
written_in (Faulted cause) instr = None

-- a register, with the value that a hart has in it
abbrev pub written_of : HartValue → ℕ → Written
written_of h register = record { register = register; value = h.registers register }

-- what choice c did to its hart, which was `old` before and is `new` after, of worlds before and
-- after
abbrev pub told_of : Choice → HartValue → HartValue → World → World → Told
told_of c old new before after =
    let word = word_met old.state before.memory old.pc in
    let instr = option_and_then decoded word in
    record {
      choice = c;
      pc = old.pc;
      word = word;
      instr = instr;
      access = option_map (told_access before.memory after.memory) (access_if instr old.registers);
      written = option_map (written_of new) (written_in new.state instr);
      reserved = after.reserved c.hart;
      next = new.pc;
      state = new.state;
    }

-- what a choice does in a world
unfoldable pub told_choice : World → Choice → Told
told_choice w c = told_of c (hart_at w c.hart) (hart_at (step w c) c.hart) w (step w c)
