-- a log by equations walks
use Rattle.std.proofs.Common.{ℕ, zero, suc, List, [], ◌∷◌, refl, false}
use Rattle.bank_laws.specs.Runs.{StepTable}
use Rattle.bank_laws.specs.Segments.{LoggedSegment, HartSlot, TouchNothing, Walks}
use Rattle.bank_laws.specs.HartLogs.{first, data_answer, local_hart, AreLocal, local_slot, segment_slot, slot_after_log, IsStepwise}

locals_are : {H : Type 0} (T : StepTable H) (n : ℕ) (h : H) → AreLocal T n h → TouchNothing T n h (local_hart T n h)
locals_are T zero h l = refl
locals_are T (suc n) h l = (l.0, l.1, locals_are T n (T.after h [] [] false) l.2)

pub stepwise_walks : {H : Type 0} (T : StepTable H) (s : HartSlot H) (es : List LoggedSegment) → IsStepwise T s es → Walks T s es (slot_after_log T s es)
stepwise_walks T s [] w = refl
stepwise_walks T s (e ∷ es) w =
    let t = local_slot T e.local s in (
      segment_slot T e s,
      record {
        reached = local_hart T e.local s.hart;
        locals = locals_are T e.local s.hart w.0;
        steps = record { code = (first e.accesses).value; code_mark = (first e.accesses).mark; value = (data_answer T e t).value; mark = (data_answer T e t).mark; logs = w.1; slot = refl };
      },
      stepwise_walks T (segment_slot T e s) es w.2,
    )
