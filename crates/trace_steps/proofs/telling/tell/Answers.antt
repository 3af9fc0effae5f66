use Rattle.std.proofs.Common.{◌∙◌, ap, sym, subst}
use Rattle.std.specs.Option.{option_map}
use Rattle.mem_store.specs.Memory.{Memory}
use Rattle.hart_reservations.specs.Marks.{Marks}
use Rattle.hart_step.specs.Hart.{hart_of}
use Rattle.machine.specs.Machine.{world}
use Rattle.trace_steps.specs.Known.{Knows}
use Rattle.trace_steps.specs.Latest.{latest_words}
use Rattle.trace_steps.specs.Told.{told_access}
use Rattle.trace_steps.proofs.StepLemmas.{hart_there, told_of_parts}
use Rattle.trace_steps.proofs.telling.tell.Goals as goal

pub reserved-requires-clause-known : goal.reserved-requires-clause-known
reserved-requires-clause-known g c = subst (λ (r : Marks). Knows (latest_words c.args.latest.now) r) (sym c.reserve.ensures) c.requires.known

pub returns : goal.returns
returns g c old before is =
    told_of_parts c.args.met c.args.choice old (hart_of c.hart-hart.result.now) before (world g.S.Store.memory c.args.machine.now) c.told_access.result
    c.written.result c.reserved.result is
    (c.told_access.ensures before.memory is.before ∙ ap (λ (m : Memory). option_map (told_access before.memory m) c.args.met.access) c.store.ensures)
    c.written.ensures (c.reserved.ensures ∙ ap (λ (r : Marks). r c.args.choice.hart) c.reserve.ensures)
    (hart_there (world g.S.Store.memory c.args.machine.now) c.args.choice.hart (hart_of c.hart-hart.result.now) c.hart-hart.ensures)
