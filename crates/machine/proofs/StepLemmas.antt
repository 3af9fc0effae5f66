-- A step of one hart, placed back into its world.
use Rattle.std.proofs.Common.{◌≡◌, ℕ, ◌<◌, List, Some, map, length, take, subst, get_or, set, ◌∙◌, ap, sym, refl, Result, Ok, Err, OnOk, OnErr}
use Rattle.std.proofs.lemmas.List.{map-set}
use Rattle.std.proofs.Math.Seq.{map-set_same}
use Rattle.std.proofs.lemmas.Option.{slice_get-map, slice_get_read}
use Rattle.std.specs.List.{slice_get}
use Rattle.std.specs.Option.{option_map}
use Rattle.mem_store.specs.Memory.{Memory}
use Rattle.hart_reservations.specs.Marks.{Marks}
use Rattle.hart_step.specs.Hart.{HartValue, hart_of}
use Rattle.hart_step.specs.Effect.{Site, site}
use Rattle.hart_step.specs.Step.{stepped}
use Rattle.hart_step.specs.declared.hart.Hart.{Hart}
use Rattle.machine.specs.World.{World, placed, step, run}
use Rattle.machine.specs.Wanting.{ChoiceStores, NextStores}
use Rattle.hart_step.specs.Wanting.{StepStores}
use Rattle.machine.specs.declared.choice.Choice.{Choice}

-- the world of these harts
abbrev pub world_with : List Hart → Memory → Marks → World
world_with harts m r = record { harts = map hart_of harts; memory = m; reserved = r }

step_there : (w : World) (c : Choice) (h : HartValue) → slice_get w.harts c.hart ≡ Some h
    → step w c ≡ placed w c.hart (stepped c.hart c.refuse (site h w.memory w.reserved))
unfolding step
step_there w c h there = rw there refl

-- the chosen hart has taken its step
pub step-placed : (harts : List Hart) (c : Choice) (old new : Hart) (m m' : Memory) (r r' : Marks)
    → c.hart < length harts → old ≡ get_or harts c.hart old
    → site (hart_of new) m' r' ≡ stepped c.hart c.refuse (site (hart_of old) m r)
    → world_with (set harts c.hart new) m' r' ≡ step (world_with harts m r) c
step-placed harts c old new m m' r r' inside is taken =
    let there : slice_get (map hart_of harts) c.hart ≡ Some (hart_of old) =
    slice_get-map hart_of harts c.hart ∙ ap (λ o. option_map hart_of o) (slice_get_read harts (length harts) c.hart old refl inside is) in
    let after = step_there (world_with harts m r) c (hart_of old) there in
    sym (after ∙ ap (placed (world_with harts m r) c.hart) (sym taken) ∙ ap (λ hs. record { harts = hs; memory = m'; reserved = r' }) (sym (map-set hart_of harts c.hart new)))

-- the chosen hart's step stores
pub step-stores : (harts : List Hart) (c : Choice) (old : Hart) (m : Memory) (r : Marks) → c.hart < length harts → old ≡ get_or harts c.hart old
    → StepStores c.hart c.refuse (site (hart_of old) m r) → ChoiceStores (world_with harts m r) c
step-stores harts c old m r inside is stored = record {
  hart = hart_of old;
  there = slice_get-map hart_of harts c.hart ∙ ap (λ o. option_map hart_of o) (slice_get_read harts (length harts) c.hart old refl inside is);
  stores = stored;
}

-- the choice that is not done stores
pub next_stores : (w v : World) (choices : List Choice) (n : ℕ) (c : Choice) → n < length choices → c ≡ get_or choices n c
    → v ≡ run w (take n choices) → ChoiceStores v c → NextStores w choices n
next_stores w v choices n c inside is reached stored = record {
  choice = c;
  next = slice_get_read choices (length choices) n c refl inside is;
  stores = subst (λ u. ChoiceStores u c) reached stored;
}

-- nothing has changed
pub world-unchanged : (harts : List Hart) (h : ℕ) (old new : Hart) (m m' : Memory) (r r' : Marks)
    → old ≡ get_or harts h old → site (hart_of new) m' r' ≡ site (hart_of old) m r
    → world_with (set harts h new) m' r' ≡ world_with harts m r
world-unchanged harts h old new m m' r r' is same =
    let kept : hart_of new ≡ hart_of (get_or harts h old) = ap (λ (s : Site). s.hart) same ∙ ap hart_of is in
    ap (λ hs. world_of hs m' r') (map-set_same hart_of harts h new old kept)
    ∙ ap (λ (s : Site). world_of (map hart_of harts) s.memory s.reserved) same
  where
    world_of : List HartValue → Memory → Marks → World
    world_of hs m r = record { harts = hs; memory = m; reserved = r }

-- what follows from a fact under Ok
pub on-ok : {T E : Type 0} (r : Result T E) (P Q : Type 0) → (P → Q) → OnOk r P → OnOk r Q
on-ok (Ok x) P Q f p = f p
on-ok (Err e) P Q f p = p

-- what follows from a fact under Err
pub on-err : {T E : Type 0} (r : Result T E) (P Q : Type 0) → (P → Q) → OnErr r P → OnErr r Q
on-err (Ok x) P Q f p = p
on-err (Err e) P Q f p = f p
