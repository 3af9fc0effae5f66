use Rattle.std.proofs.Common.{◌≡◌, ◌⊎◌, ◌+◌, ◌≤◌, ◌<◌, true, false, length, ap, sym, ◌∙◌, arith, rules, ◌||◌, ◌==◌}
use Rattle.std.specs.Prelude.{if◌then◌else◌, slice_index, unwrap_or, nat_lt}
use Rattle.mem_store.specs.Image.{segments_memory}
use Rattle.hart_step.specs.Hart.{hart_of}
use Rattle.hart_step.specs.declared.hart.Hart.{Hart}
use Rattle.hart_local.specs.LocalStep.{class_of}
use Rattle.hart_local.specs.declared.stepping.Class.TheVariants.{Shared}
use Rattle.thread_gate.specs.Stopped.{is_stopped}
use Rattle.thread_gate.specs.Plan.{is_planned}
use Rattle.thread_run.specs.Seat.{with_refusal}
use Rattle.thread_run.specs.Total.{all_choices, IsUsedUp}
use Rattle.thread_run.proofs.WholeLemmas.{ends_whole}
use Rattle.thread_run.proofs.RunningLemmas.{run_on, run_used_up, planned_as, done_as, well_as}
use Rattle.thread_run.proofs.running.Running.commit.Goals as goal

pub invariant_of-self : goal.invariant_of-self
invariant_of-self g c =
    let r = c.self.inside in
    let kept = c.self.invariant in
    let some : 0 < c.args.left = omega (arith, c.requires.within) in (
      run_used_up _ _ _ _ _ r.book r.owned.items r.room r.tickets.total c.sub.new.self.total c.args.left kept.0 some
          (sym c.room_for-room.ensures ∙ c.if-room-eq0.true),
      kept.1,
      kept.2,
    )

pub invariant_of-self-2 : goal.invariant_of-self-2
invariant_of-self-2 g c =
    let r = c.self.inside in
    let kept = c.self.invariant in
    let seg = c.args.seat.now in
    let s = with_refusal seg c.is_planned-refuse.result in
    let t = c.present_to.new.self in
    let made = c.owned_by-made.result in
    let hart : c.hart-hart.result ≡ seg.hart = c.hart-hart.ensures in
    let local : c.local-local.result ≡ seg.local = c.local-local.ensures in
    let here : seg.hart < length r.owned.items = search rules in
    let same_made : made ≡ slice_index r.owned.items seg.hart = c.owned_by-made.ensures ∙ ap (slice_index r.owned.items) hart in
    let flag : c.is_planned-refuse.result ≡ is_planned g.T.Terms.plan seg.hart (made + seg.local) =
    planned_as c.is_planned-refuse.result r.plan.keys g.T.Terms.plan c.hart-hart.result seg.hart made c.local-local.result seg.local c.is_planned-refuse.ensures kept.1 hart local in
    let running : is_stopped seg.slot.state ≡ false =
    ap (λ (x : Hart). is_stopped x.state) (sym c.slot.ensures) ∙ sym c.is_stopped.ensures ∙ c.if-is_stopped.false in
    let some : made < r.budget = omega arith in
    let holds : c.ends_well.result ≡ true = search rules in
    let well : (nat_lt (s.local + 1) c.args.limit || s.local + 1 == c.args.left || s.local + 1 == unwrap_or r.room c.args.left) ≡ true =
    well_as c.ends_well.result c.local-local.result s.local c.args.limit c.args.left c.room_for-room.result (unwrap_or r.room c.args.left) c.ends_well.ensures holds local c.room_for-room.ensures in
    let ends : (class_of (segments_memory s.code) (hart_of s.reached) ≡ Shared) ⊎ (made + s.local + 1 ≡ g.T.Terms.budget) ⊎ IsUsedUp g.T.Terms.total (all_choices r.book + s.local + 1) =
    ends_whole (class_of (segments_memory s.code) (hart_of s.reached) ≡ Shared) g.T.Terms.total r.room (all_choices r.book) c.args.left c.args.limit s.local made g.T.Terms.budget
    c.requires.whole (omega (arith, kept.2)) (omega (arith, kept.2, some)) kept.0.left well in
    let roomy : s.local + 1 ≤ unwrap_or r.room c.args.left = omega (arith, c.room_for-room.ensures, local) in
    let fits : made + seg.local + 1 ≤ g.T.Terms.budget = omega (arith, kept.2) in
    let done : c.is_done-done.result ≡ (is_stopped t.slot.state || (made + seg.local + 1 == g.T.Terms.budget)) =
    done_as c.is_done-done.result c.slot-2.result.now t.slot made c.local-local.result seg.local r.budget g.T.Terms.budget c.is_done-done.ensures c.slot-2.ensures local kept.2 in
    let spent : c.sub-2.new.self.total + (if c.is_done-done.result then 1 else 0) ≡ r.tickets.total = ap (λ n. c.sub-2.new.self.total + n) (sym c.spent_by.ensures) ∙ c.sub-2.ensures.total in
    rw (c.room_after-self-inside.ensures, c.hart-hart.ensures, c.local-local.ensures) (
      run_on g.T.Terms.image g.T.Terms.inputs g.T.Terms.budget g.T.Terms.total g.T.Terms.plan r.book c.present_to.new.book s t r.owned.items r.room made r.tickets.total c.sub-2.new.self.total c.args.left c.is_done-done.result
          kept.0 here same_made c.present_to.ensures.sound c.in-Ok.ensures.presented ends roomy flag running fits done spent,
      kept.1,
      kept.2,
    )
