-- What a hart's thread keeps true of its log.
use Rattle.std.proofs.Common.{◌≡◌, ℕ, ◌+◌, ◌-◌, ◌<◌, ◌≤◌, true, List, [], ◌∷◌, ◌++◌, length, inl, inr, refl, ap, sym, ◌∙◌, subst, arith, Ok, Err}
use Rattle.std.specs.List.{AllByRecursion}
use Rattle.std.specs.Prelude.{Result, OnOk}
use Rattle.image.specs.Image.{ImageValue}
use Rattle.thread_gate.specs.Plan.{is_planned}
use Rattle.thread_gate.specs.Stopped.{is_stopped}
use Rattle.bank_laws.specs.Segments.{LoggedSegment}
use Rattle.bank_laws.specs.Order.{Rises, Earlier}
use Rattle.bank_memory.proofs.StampLemmas.{below_last}
use Rattle.bank_order.specs.Merged.{choices_in}
use Rattle.bank_hart_log.specs.HartLog.{HartLogValue, last_segment_stamp, logged_slot, segment_stamp, with_segment}
use Rattle.bank_worker.specs.declared.step.NextSegment.{NextSegment}
use Rattle.bank_worker.specs.Worked.{AddsSegment, AddsStep, IsOfWalk, IsWorking, LogHasEnded, LogIsFlagged}

-- ---- one segment more
choices_more : (es : List LoggedSegment) (e : LoggedSegment) → choices_in (es ++ e ∷ []) ≡ choices_in es + (e.local + 1)
choices_more [] e = omega arith
choices_more (x ∷ es) e = let more = choices_more es e in omega (arith, more)

flagged_more : (plan : List (ℕ × ℕ)) (h made : ℕ) (es : List LoggedSegment) (e : LoggedSegment) → LogIsFlagged plan h made es
    → e.refuse ≡ is_planned plan h (made + choices_in es + e.local) → LogIsFlagged plan h made (es ++ e ∷ [])
flagged_more plan h made [] e flagged flag =
    let same : made + 0 + e.local ≡ made + e.local = omega arith in
    (flag ∙ ap (is_planned plan h) same, tt)
flagged_more plan h made (x ∷ es) e flagged flag =
    let same : made + (x.local + 1 + choices_in es) + e.local ≡ made + (x.local + 1) + choices_in es + e.local = omega arith in
    (flagged.0, flagged_more plan h (made + (x.local + 1)) es e flagged.1 (flag ∙ ap (is_planned plan h) same))

rises_above : (es : List LoggedSegment) (stamp : ℕ) (e : LoggedSegment) → AllByRecursion (λ x. x.stamp ≤ stamp) es → stamp < e.stamp
    → Rises Earlier es → Rises Earlier (es ++ e ∷ [])
rises_above [] stamp e below above rises = (tt, tt)
rises_above (x ∷ es) stamp e below above rises = (
  all_more es rises.0,
  rises_above es stamp e below.1 above rises.1,
)
  where
    all_more : (xs : List LoggedSegment) → AllByRecursion (Earlier x) xs → AllByRecursion (Earlier x) (xs ++ e ∷ [])
    all_more [] all = (let low = below.0 in omega (arith, low, above), tt)
    all_more (y ∷ xs) all = (all.0, all_more xs all.1)

rises_more : (es : List LoggedSegment) (e : LoggedSegment) → Rises Earlier es → last_segment_stamp es < e.stamp → Rises Earlier (es ++ e ∷ [])
rises_more [] e rises above = (tt, tt)
rises_more (x ∷ es) e rises above =
    rises_above (x ∷ es) (last_segment_stamp (x ∷ es)) e
    (below_last Earlier (λ (f : LoggedSegment). f.stamp) segment_stamp (λ a c l. omega (arith, l)) (λ f. refl) (x ∷ es) (length (x ∷ es) - 1) (last_segment_stamp (x ∷ es)) rises (omega arith) refl)
    above rises

-- ---- one step of the thread
pub works_on : (image : ImageValue) (h budget : ℕ) (plan : List (ℕ × ℕ)) (l after : HartLogValue) (w : NextSegment) (made more : ℕ)
    → IsWorking image h budget plan l made → AddsStep l after w → w.refuse ≡ is_planned plan h (made + w.local)
    → w.last_stamp ≡ last_segment_stamp l.log → more ≡ made + (w.local + 1) → more ≤ budget → IsWorking image h budget plan after more
works_on image h budget plan l after w made more works step flag stamp sum room =
    let e = step.segment in
    let of = step.walked in
    let next : IsWorking image h budget plan (with_segment l e) more = record {
      same_image = works.same_image;
      number = works.number;
      count = (let total = choices_more l.log e in let count = works.count in let local = of.local in omega (arith, total, count, local, sum));
      room = room;
      flagged = flagged_more plan h 0 l.log e works.flagged (of.refuse ∙ flag ∙ ap (is_planned plan h) (let count = works.count in let local = of.local in omega (arith, count, local)));
      rising = rises_more l.log e works.rising (let above = of.above in omega (arith, above, stamp));
    } in
    subst (λ (x : HartLogValue). IsWorking image h budget plan x more) (sym step.adds) next

pub adds_step : (old new : HartLogValue) (e : LoggedSegment) (w : NextSegment) → AddsSegment old new e → IsOfWalk w e → AddsStep old new w
adds_step old new e w added of = record {
  segment = record e { accesses = added.accesses };
  adds = added.adds;
  walked = record { hart = of.hart; local = of.local; refuse = of.refuse; above = of.above };
}

pub adds_step_ok : {T E : Type 0} (r : Result T E) (old new : HartLogValue) (e : LoggedSegment) (w : NextSegment) → OnOk r (AddsSegment old new e) → IsOfWalk w e → OnOk r (AddsStep old new w)
adds_step_ok (Ok x) old new e w added of = adds_step old new e w added of
adds_step_ok (Err fault) old new e w added of = tt

pub steps_on : (old new : HartLogValue) (e : LoggedSegment) (w : NextSegment) → new ≡ with_segment old e → IsOfWalk w e → AddsStep old new w
steps_on old new e w adds of = record { segment = e; adds = adds; walked = of }

pub steps_on_ok : {T E : Type 0} (r : Result T E) (old new : HartLogValue) (e : LoggedSegment) (w : NextSegment) → IsOfWalk w e → OnOk r (new ≡ with_segment old e) → OnOk r (AddsStep old new w)
steps_on_ok (Ok x) old new e w of adds = steps_on old new e w adds of
steps_on_ok (Err fault) old new e w of adds = tt

-- ---- before the first step, and after the last
pub works_first : (image : ImageValue) (inputs : List ℕ) (h budget : ℕ) (plan : List (ℕ × ℕ))
    → IsWorking image h budget plan (record { image = image; inputs = inputs; hart = h; log = [] }) 0
works_first image inputs h budget plan = record {
  same_image = refl;
  number = refl;
  count = refl;
  room = omega arith;
  flagged = tt;
  rising = tt;
}

pub ended_stopped : (image : ImageValue) (h budget : ℕ) (plan : List (ℕ × ℕ)) (l : HartLogValue) (made : ℕ) → IsWorking image h budget plan l made
    → is_stopped (logged_slot l).hart.state ≡ true → LogHasEnded budget l
ended_stopped image h budget plan l made works stopped =
    let count = works.count in
    let room = works.room in
    (omega (arith, count, room), inl stopped)

pub ended_full : (image : ImageValue) (h budget : ℕ) (plan : List (ℕ × ℕ)) (l : HartLogValue) (made : ℕ) → IsWorking image h budget plan l made
    → budget ≤ made → LogHasEnded budget l
ended_full image h budget plan l made works full =
    let count = works.count in
    let room = works.room in
    (omega (arith, count, room), inr (omega (arith, count, room, full)))
