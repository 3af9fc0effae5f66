-- Where a hart's turn leads, and how many steps it takes in it.
use Rattle.std.proofs.Common.{◌≡◌, ℕ, zero, suc, ◌+◌, ◌/◌, ◌<◌, ◌≤◌, Bool, true, false, cond, List, None, Some, refl, ap, sym, ◌∙◌, subst, arith, inl, inr, Option}
use Rattle.std.proofs.lemmas.Bool.{cases_Bool}
use Rattle.std.specs.List.{slice_get, slice_index}
use Rattle.image.specs.Image.{ImageValue}
use Rattle.mem_store.specs.Memory.{Memory}
use Rattle.mem_store.specs.Image.{image_memory}
use Rattle.hart_reservations.specs.Marks.{Marks, mark_at}
use Rattle.hart_step.specs.Hart.{HartValue, hart_of}
use Rattle.hart_step.specs.Effect.{Site, site}
use Rattle.hart_step.specs.Step.{stepped}
use Rattle.hart_step.specs.Laws.{Keeps, IsAligned}
use Rattle.hart_step.proofs.HartLemmas.{stepped-aligned}
use Rattle.hart_step.proofs.Kept.{stepped-keeps}
use Rattle.hart_step.specs.declared.hart.Hart.{Hart}
use Rattle.hart_step.specs.declared.hart.HartState.TheVariants.{Running}
use Rattle.hart_local.specs.CodeMemory.{code_in}
use Rattle.hart_local.specs.LocalRuns.{plain_choices}
use Rattle.hart_local.specs.LocalStep.{step_alone}
use Rattle.hart_local.proofs.StepLemmas.{code_kept}
use Rattle.machine.specs.World.{World, run, step}
use Rattle.machine.specs.declared.choice.Choice.{Choice}
use Rattle.bank_laws.specs.Banks.{WordBytes}
use Rattle.bank_laws.specs.Table.{table}
use Rattle.explore_sites.specs.Cells.{words_shown}
use Rattle.explore_sites.specs.Own.{unrefused}
use Rattle.explore_sites.specs.Sites.{StepsTo}
use Rattle.explore_sites.proofs.SiteLemmas.{machine_steps}
use Rattle.explore_laws.specs.Bounds.{not_stopped, runs_in, still_runs}
use Rattle.explore_laws.specs.Settling.{world_settled}
use Rattle.explore_laws.proofs.ListLemmas.{run_more, run_nothing, there_set}
use Rattle.explore_laws.proofs.OwnLemmas.{own_steps, stopped_steps}
use Rattle.explore_laws.proofs.StopLemmas.{step_stopped}
use Rattle.explore_space.specs.Begun.{hart_settled}
use Rattle.explore_space.specs.Habits.{Habits, local_stride, own_at_once, own_stride, stride_by_habit, takes_own_step, world_rested}
use Rattle.explore_space.specs.Places.{hart_in, cells_in, marks_in, world_of_key, IsKey, ShowsThem, Turns}
use Rattle.explore_space.specs.Resting.{at_once, may_walk, rest_steps, rested, resting_steps, stride_of}
use Rattle.explore_space.specs.declared.section.Section.{Section}
use Rattle.explore_space.specs.declared.shared.Shared.{Shared}
use Rattle.explore_space.proofs.KeyLemmas.{key_parts, keeps_then}
use Rattle.explore_space.proofs.RestLemmas.{step_is}
use Rattle.explore_space.proofs.TurnLists.{settles}
use Rattle.explore_space.proofs.WayLemmas.{IsUnderWay, own_stepped, own_walked, settled_walks, under_ends, under_more, under_none, under_stops}

-- ---- a hart that is shown takes its local steps
rest_aligned : (section : Option Section) (code : Memory) (n : ℕ) (v : HartValue) → IsAligned v → IsAligned (rested section code n v)
unfolding rested step_alone
rest_aligned section code zero v aligned = aligned
rest_aligned section code (suc n) v aligned = elim (cases_Bool (may_walk section code v)) [
  | inl walks ↦
      subst (λ b. IsAligned (cond b (rested section code n (step_alone code v)) v)) (sym walks)
      (rest_aligned section code n (step_alone code v) (stepped-aligned 0 false (site v code (λ h. None)) aligned))
  | inr stays ↦ subst (λ b. IsAligned (cond b (rested section code n (step_alone code v)) v)) (sym stays) aligned
]

module _ (section : Option Section) (image : ImageValue) (w : World) (h : ℕ) (v : HartValue) (values : ℕ → WordBytes) (marks : Marks)
    (shows : ShowsThem image w h v values marks) where
  code_is : code_in (image_memory image) ≡ code_in w.memory
  code_is = sym (code_kept (image_memory image) w.memory shows.keeps)

  pub rest_shows : (u : HartValue) → u ≡ rested section (code_in (image_memory image)) at_once v
      → ShowsThem image (hart_settled section w h) h u values marks
  rest_shows u is =
      subst (λ (x : World). ShowsThem image x h u values marks)
      (settles section w h v u shows.there (is ∙ ap (λ (m : Memory). rested section m at_once v) code_is))
      (record {
        there = there_set w.harts h v u shows.there;
        aligned = subst IsAligned (sym is) (rest_aligned section (code_in (image_memory image)) at_once v shows.aligned);
        keeps = shows.keeps;
        words = shows.words;
        reserved = shows.reserved;
      })

  pub rest_count : (n : ℕ) → n ≡ rest_steps section (code_in (image_memory image)) at_once v → n ≡ stride_of section w h
  rest_count n is =
      is ∙ ap (λ (m : Memory). rest_steps section m at_once v) code_is ∙ ap (resting_steps section w) (sym shows.there)

-- ---- a hart that is shown takes a step
pub step_shows : (image : ImageValue) (w : World) (c : Choice) (v u : HartValue) (values new_values : ℕ → WordBytes) (marks new_marks : Marks)
    → ShowsThem image w c.hart v values marks → StepsTo (table (image_memory image)) c.hart c.refuse v u values new_values marks new_marks
    → ShowsThem image (step w c) c.hart u new_values new_marks
step_shows image w c v u values new_values marks new_marks shows steps =
    let here : Site = site v w.memory w.reserved in
    let new : Site = stepped c.hart c.refuse here in
    let after = machine_steps (image_memory image) c.hart c.refuse v u values new_values marks new_marks here shows.keeps shows.aligned
    (record { hart = refl; words = shows.words; marks = shows.reserved }) steps in
    subst (λ (x : World). ShowsThem image x c.hart u new_values new_marks) (sym (step_is w c v shows.there))
    (record {
      there = there_set w.harts c.hart v new.hart shows.there ∙ ap Some (sym after.hart);
      aligned = subst IsAligned (sym after.hart) (stepped-aligned c.hart c.refuse here shows.aligned);
      keeps = keeps_then (image_memory image) w.memory new.memory shows.keeps (stepped-keeps c.hart c.refuse here);
      words = after.words;
      reserved = after.marks;
    })

-- ---- a hart that is shown takes a turn
-- steps of one that has stopped change nothing
plain_stopped : (w : World) (h n : ℕ) → runs_in w h ≡ false → run w (plain_choices h n) ≡ w
plain_stopped w h zero stopped = run_nothing w
plain_stopped w h (suc n) stopped =
    run_more w (unrefused h) (plain_choices h n) ∙ ap (λ (x : World). run x (plain_choices h n)) (step_stopped w (unrefused h) stopped)
    ∙ plain_stopped w h n stopped

-- so it takes no step in a turn
pub no_turn : (habits : Habits) (image : ImageValue) (c : Choice) (v : HartValue) (values : ℕ → WordBytes) (marks : Marks)
    → not_stopped v.state ≡ false → Turns habits image c v v values values marks marks 0
no_turn habits image c v values marks stopped = record {
  leads = λ w shows.
      (let still : runs_in w c.hart ≡ false = ap still_runs shows.there ∙ stopped in
      subst (λ (x : World). ShowsThem image x c.hart v values marks)
      (sym (ap (λ (x : World). world_settled (stride_by_habit habits) x c.hart) (step_stopped w c still)
      ∙ plain_stopped w c.hart (stride_by_habit habits w c.hart) still)) shows);
  counts = λ w shows. sym (stopped_steps (stride_by_habit habits) w c.hart c (ap still_runs shows.there ∙ stopped));
}

-- how many steps a choice's hart takes with it and the local steps behind it
abbrev pub step_count : Habits → World → Choice → ℕ
step_count habits w c = 1 + local_stride habits (step w c) c.hart

-- where a hart has come to behind the choice of its turn, with so many steps on own words, and how
-- many steps these were in all
pub record ComesTo (habits : Habits) (image : ImageValue) (w : World) (c : Choice) (done steps : ℕ) (v : HartValue) (values : ℕ → WordBytes)
    (marks : Marks) : Type 0 where
  pub here : World
  pub shows : ShowsThem image here c.hart v values marks
  pub count : ℕ
  pub way : IsUnderWay habits c.hart own_at_once done count (world_rested habits (step w c) c.hart) here
  pub steps_are : steps ≡ step_count habits w c + count

-- whether a hart that is shown takes a step on its own word next
abbrev pub TellsOwn : Habits → ImageValue → ℕ → HartValue → Bool → Type 0
TellsOwn habits image h v own =
    (w : World) → slice_get w.harts h ≡ Some v → Keeps (image_memory image) w.memory → own ≡ takes_own_step habits w h

module _ (habits : Habits) (image : ImageValue) (c : Choice) where
  pub comes_first : (w : World) (v : HartValue) (values : ℕ → WordBytes) (marks : Marks) (steps : ℕ)
      → ShowsThem image (hart_settled habits.section (step w c) c.hart) c.hart v values marks
      → steps ≡ step_count habits w c → ComesTo habits image w c 0 steps v values marks
  comes_first w v values marks steps shows is = record {
    here = world_rested habits (step w c) c.hart;
    shows = shows;
    count = 0;
    way = under_none habits c.hart own_at_once (world_rested habits (step w c) c.hart);
    steps_are = omega (arith, is);
  }

  module _ (done steps : ℕ) (v : HartValue) (values : ℕ → WordBytes) (marks : Marks) where
    pub comes_more : (w : World) (own : Bool) → TellsOwn habits image c.hart v own → ComesTo habits image w c done steps v values marks
        → (u : HartValue) (new_values : ℕ → WordBytes) (new_marks : Marks) (more : ℕ) → done < own_at_once → own ≡ true
        → ((x : World) → ShowsThem image x c.hart v values marks
        → ShowsThem image (hart_settled habits.section (step x (unrefused c.hart)) c.hart) c.hart u new_values new_marks)
        → ((x : World) → ShowsThem image x c.hart v values marks → more ≡ step_count habits x (unrefused c.hart))
        → ComesTo habits image w c (done + 1) (steps + more) u new_values new_marks
    comes_more w own tells comes u new_values new_marks more less is shows_then counts =
        let own_is = tells comes.here comes.shows.there comes.shows.keeps in
        let before = comes.steps_are in
        let now = counts comes.here comes.shows in
        record {
          here = own_stepped habits comes.here c.hart;
          shows = shows_then comes.here comes.shows;
          count = comes.count + step_count habits comes.here (unrefused c.hart);
          way = under_more habits c.hart own_at_once (world_rested habits (step w c) c.hart) done comes.count comes.here less (sym own_is ∙ is) comes.way;
          steps_are = omega (arith, before, now);
        }

    -- wherever the first hart is shown, it has come here
    module _ (first : HartValue) (first_values : ℕ → WordBytes) (first_marks : Marks) (running : first.state ≡ Running)
        (comes : (w : World) → ShowsThem image w c.hart first first_values first_marks → ComesTo habits image w c done steps v values marks) where
      turn_over : ((w : World) (shows : ShowsThem image w c.hart first first_values first_marks)
          → ((comes w shows).here ≡ own_walked habits own_at_once (world_rested habits (step w c) c.hart) c.hart)
          × ((comes w shows).count ≡ own_stride habits own_at_once (world_rested habits (step w c) c.hart) c.hart))
          → Turns habits image c first v first_values values first_marks marks steps
      turn_over over = record {
        leads = λ w shows.
            subst (λ (x : World). ShowsThem image x c.hart v values marks) ((over w shows).0 ∙ settled_walks habits c.hart (step w c)) (comes w shows).shows;
        counts = λ w shows.
            (let before = (comes w shows).steps_are in
            let all = (over w shows).1 in
            let turn = own_steps (stride_by_habit habits) w c.hart c refl (ap still_runs shows.there ∙ ap not_stopped running) in
            omega (arith, before, all, turn));
      }

      pub turn_stops : (own : Bool) → TellsOwn habits image c.hart v own → own ≡ false
          → Turns habits image c first v first_values values first_marks marks steps
      turn_stops own tells is = turn_over (λ w shows.
          (let here = comes w shows in
          under_stops habits c.hart own_at_once (world_rested habits (step w c) c.hart) done here.count here.here
          (sym (tells here.here here.shows.there here.shows.keeps) ∙ is) here.way))

      pub turn_ends : own_at_once ≤ done → Turns habits image c first v first_values values first_marks marks steps
      turn_ends past = turn_over (λ w shows.
          (let here = comes w shows in
          under_ends habits c.hart own_at_once (world_rested habits (step w c) c.hart) done here.count here.here past here.way))

-- ---- the harts of a key's world
module _ {Z : Type 0} (image : ImageValue) (n : ℕ) (harts : List Hart) (shareds : List (Shared Z)) (key : List ℕ)
    (is : IsKey image n harts shareds key) where
  abbrev w : World
  w = world_of_key image n harts shareds key

  pub key_shows : (number : ℕ) (hart : Hart) (shared : Shared Z) → number < n → slice_get harts (slice_index key number / 2) ≡ Some hart
      → slice_get shareds (slice_index key n) ≡ Some shared
      → ShowsThem image w number (hart_of hart) (words_shown image shared.cells.items) (mark_at shared.marks)
  key_shows number hart shared low hart_there shared_there =
      subst (λ (o : Option (Shared Z)). ShowsThem image w number (hart_of hart) (words_shown image (cells_in o)) (marks_in o)) shared_there
      (subst (λ (o : Option Hart). ShowsThem image w number (hart_in o) (words_shown image (cells_in (slice_get shareds (slice_index key n))))
      (marks_in (slice_get shareds (slice_index key n)))) hart_there (key_parts image n harts shareds key is number low))
