-- A run is the run of the image's table.
use Rattle.std.proofs.Common.{◌≡◌, ℕ, ◌<◌, Bool, List, [], ◌∷◌, length, get_or, set, map, Option, Some, None, refl, ap, sym, subst, ◌∙◌, ⊎_elim}
use Rattle.std.specs.List.{All, AllByRecursion, slice_get}
use Rattle.std.proofs.lemmas.Bool.{ne_eqb, cases_eq}
use Rattle.std.proofs.lemmas.List.{length-set, get_or-set_same, get_or-set_other}
use Rattle.std.proofs.lemmas.Option.{slice_get_within, get_or_from_slice_get, slice_get-get_or}
use Rattle.mem_store.specs.Memory.{Memory, grants, to_write}
use Rattle.hart_step.specs.Hart.{HartValue}
use Rattle.hart_step.specs.Effect.{Site, site}
use Rattle.hart_step.specs.Step.{stepped}
use Rattle.hart_step.specs.Laws.{Keeps, IsAligned}
use Rattle.hart_step.proofs.HartLemmas.{stepped-aligned}
use Rattle.machine.specs.World.{World, placed, step_of, step, run}
use Rattle.machine.specs.declared.choice.Choice.{Choice}
use Rattle.machine.proofs.RunLaws.{run-keeps, all-run, run_length}
use Rattle.bank_laws.specs.Banks.{WordBytes}
use Rattle.bank_laws.specs.Runs.{Touch, StepTable, TableWorld, Turn, done, word_found, table_step, table_run}
use Rattle.bank_laws.specs.Table.{table}
use Rattle.bank_laws.specs.Shown.{ShowsSite}
use Rattle.bank_laws.proofs.StepLemmas.{step_shows}
use Rattle.bank_laws.specs.Worlds.{ShowsWorld, choice_of_turn}

-- ---- what one step keeps
run_one : (w : World) (c : Choice) → run w (c ∷ []) ≡ step w c
unfolding run
run_one w c = refl

run_more : (w : World) (c : Choice) (more : List Choice) → run w (c ∷ more) ≡ run (step w c) more
unfolding run
run_more w c more = refl

run_none : (w : World) → run w [] ≡ w
unfolding run
run_none w = refl

step_keeps : (w : World) (c : Choice) → Keeps w.memory (step w c).memory
step_keeps w c = subst (λ (u : World). Keeps w.memory u.memory) (run_one w c) (run-keeps w (c ∷ []))

step_aligned : (w : World) (c : Choice) → All IsAligned w.harts → All IsAligned (step w c).harts
step_aligned w c all = subst (λ (u : World). All IsAligned u.harts) (run_one w c) (all-run IsAligned stepped-aligned w (c ∷ []) all)

step_length : (w : World) (c : Choice) → length (step w c).harts ≡ length w.harts
step_length w c = ap (λ (u : World). length u.harts) (sym (run_one w c)) ∙ run_length w (c ∷ [])

keeps_then : (a b c : Memory) → Keeps a b → Keeps b c → Keeps a c
keeps_then a b c f g = record {
  rights = g.rights ∙ f.rights;
  bytes = λ x shut. g.bytes x (ap (λ (r : ℕ → Option ℕ). grants to_write (r x)) f.rights ∙ shut) ∙ f.bytes x shut;
}

-- ---- one step
done_elsewhere : (T : StepTable HartValue) (t : TableWorld HartValue) (k : ℕ) (refuse : Bool) (s : HartValue) (c : WordBytes) (p : Option Touch) (j : ℕ)
    → (j ≡ k → ⊥) → (done T t k refuse s c p).harts j ≡ t.harts j
done_elsewhere T t k refuse s c None j ne = rw (ne_eqb j k ne) refl
done_elsewhere T t k refuse s c (Some w) j ne = rw (ne_eqb j k ne) refl

step_elsewhere : (m : Memory) (t : TableWorld HartValue) (k : ℕ) (refuse : Bool) (j : ℕ) → (j ≡ k → ⊥) → (table_step (table m) t k refuse).harts j ≡ t.harts j
step_elsewhere m t k refuse j ne =
    let T = table m in
    let s = t.harts k in
    let c = word_found (T.need s) t.shared.values in
    done_elsewhere T t k refuse s c (T.plan s c) j ne

same_value : {a b : HartValue} → ◌≡◌ {A = Option HartValue} (Some a) (Some b) → a ≡ b
same_value e = cc

set_there : (xs : List HartValue) (k : ℕ) (x : HartValue) → k < length xs → slice_get (set xs k x) k ≡ Some x
set_there xs k x inside =
    slice_get-get_or (set xs k x) k x (rw (length-set xs k x) inside) ∙ ap Some (get_or-set_same xs k x x inside)

set_elsewhere : (xs : List HartValue) (k j : ℕ) (x h : HartValue) → (j ≡ k → ⊥) → slice_get (set xs k x) j ≡ Some h → slice_get xs j ≡ Some h
set_elsewhere xs k j x h ne e =
    let inside : j < length (set xs k x) = slice_get_within (set xs k x) j h e in
    slice_get-get_or xs j h (rw (sym (length-set xs k x)) inside)
    ∙ ap Some (sym (get_or-set_other xs k j x h ne) ∙ get_or_from_slice_get (set xs k x) j h h e)

placed_shows : (m : Memory) (k : ℕ) (refuse : Bool) (w : World) (t : TableWorld HartValue) (e : Site) → k < length w.harts
    → ShowsWorld t w → ShowsSite (table_step (table m) t k refuse) k e → ShowsWorld (table_step (table m) t k refuse) (placed w k e)
placed_shows m k refuse w t e inside shows site_shows = record {
  harts = λ j h there.
      ⊎_elim
      (λ (q : j ≡ k). ap (table_step (table m) t k refuse).harts q ∙ site_shows.hart
      ∙ same_value (sym (set_there w.harts k e.hart inside) ∙ ap (λ (i : ℕ). slice_get (set w.harts k e.hart) i) (sym q) ∙ there))
      (λ (ne : j ≡ k → ⊥). step_elsewhere m t k refuse j ne ∙ shows.harts j h (set_elsewhere w.harts k j e.hart h ne there))
      (cases_eq j k);
  values = site_shows.values;
  marks = site_shows.marks;
}

world_step : (m : Memory) (c : Turn) (w : World) (t : TableWorld HartValue) → Keeps m w.memory → All IsAligned w.harts → c.hart < length w.harts
    → ShowsWorld t w → ShowsWorld (table_step (table m) t c.hart c.refuse) (step w (choice_of_turn c))
unfolding step
world_step m c w t keeps aligned inside shows =
    let h = get_or w.harts c.hart (t.harts c.hart) in
    let there : slice_get w.harts c.hart ≡ Some h = slice_get-get_or w.harts c.hart (t.harts c.hart) inside in
    let s = site h w.memory w.reserved in
    let at_site : ShowsSite t c.hart s = record { hart = shows.harts c.hart h there; values = shows.values; marks = shows.marks } in
    let here : IsAligned h = aligned c.hart (t.harts c.hart) inside in
    let done_site = step_shows m c.hart c.refuse s t keeps here at_site in
    subst (λ (o : Option HartValue). ShowsWorld (table_step (table m) t c.hart c.refuse) (step_of w (choice_of_turn c) o)) (sym there)
    (placed_shows m c.hart c.refuse w t (stepped c.hart c.refuse s) inside shows done_site)

-- ---- a run
there_still : (n k : ℕ) (turns : List Turn) → n ≡ k → AllByRecursion (λ (c : Turn). c.hart < n) turns → AllByRecursion (λ (c : Turn). c.hart < k) turns
there_still n k turns e all = subst (λ (i : ℕ). AllByRecursion (λ (c : Turn). c.hart < i) turns) e all

pub run_shows : (m : Memory) (turns : List Turn) (w : World) (t : TableWorld HartValue) → Keeps m w.memory → All IsAligned w.harts
    → AllByRecursion (λ (c : Turn). c.hart < length w.harts) turns → ShowsWorld t w
    → ShowsWorld (table_run (table m) t turns) (run w (map choice_of_turn turns))
run_shows m [] w t keeps aligned inside shows = subst (λ (u : World). ShowsWorld t u) (sym (run_none w)) shows
run_shows m (c ∷ turns) w t keeps aligned inside shows =
    let u = step w (choice_of_turn c) in
    subst (λ (z : World). ShowsWorld (table_run (table m) t (c ∷ turns)) z) (sym (run_more w (choice_of_turn c) (map choice_of_turn turns)))
    (run_shows m turns u (table_step (table m) t c.hart c.refuse)
    (keeps_then m w.memory u.memory keeps (step_keeps w (choice_of_turn c)))
    (step_aligned w (choice_of_turn c) aligned)
    (there_still (length w.harts) (length u.harts) turns (sym (step_length w (choice_of_turn c))) inside.1)
    (world_step m c w t keeps aligned inside.0 shows))
