-- Lists of plain choices, of meant ones, and of turns' choices, as they grow.
use Rattle.std.proofs.Common.{◌≡◌, ℕ, zero, suc, ◌+◌, ◌-◌, ◌<◌, ◌≤◌, true, false, List, [], ◌∷◌, ◌++◌, length, take, Option, Some, None, refl, ap, sym, ◌∙◌, subst, arith}
use Rattle.std.specs.Prelude.{replicate}
use Rattle.std.proofs.lemmas.List.{append_assoc, append-nil, take_all}
use Rattle.std.proofs.lemmas.Option.{slice_get_past}
use Rattle.std.specs.List.{slice_get}
use Rattle.hart_step.specs.Hart.{HartValue}
use Rattle.hart_local.specs.CodeMemory.{code_in}
use Rattle.hart_local.specs.LocalRuns.{plain_choices, with_walked_hart}
use Rattle.machine.specs.World.{World, step_of, step, run}
use Rattle.machine.specs.declared.choice.Choice.{Choice}
use Rattle.explore_space.specs.Every.{hart_choices, meant_choices}
use Rattle.explore_space.specs.declared.meant.ScRefusals.{ScRefusals}
use Rattle.explore_space.specs.declared.section.Section.{Section}
use Rattle.explore_laws.proofs.ListLemmas.{run_joined, run_nothing}
use Rattle.explore_laws.proofs.TurnLemmas.{run_of_turn}
use Rattle.explore_laws.specs.Settling.{Stride, turn_choices, turns_choices, world_settled}
use Rattle.hart_step.specs.Laws.{Keeps}
use Rattle.machine.proofs.RunLaws.{run-keeps, run_length}
use Rattle.mem_store.specs.Memory.{Memory}
use Rattle.image.specs.Image.{ImageValue}
use Rattle.machine.specs.Start.{started}
use Rattle.mem_store.specs.Image.{image_memory}
use Rattle.explore_sites.proofs.OrderLemmas.{keeps_itself, step_length}
use Rattle.explore_sites.specs.Own.{unrefused}
use Rattle.explore_space.specs.Habits.{Habits, local_stride, own_at_once, own_stride, stride_by_habit, takes_own_step, world_rested}
use Rattle.explore_space.proofs.HabitLemmas.{plain_joined, step_keeps}
use Rattle.explore_space.proofs.KeyLemmas.{keeps_then}
use Rattle.explore_space.proofs.RestLemmas.{rested_by, settled_is}
use Rattle.explore_space.proofs.WayLemmas.{IsUnderWay, nobody_strides, nothing_walked, own_step_count, own_stepped, own_walked, settled_walks, under_ends, under_more, under_none, under_stops}
use Rattle.explore_space.specs.Resting.{at_once, rested, stride_of}

-- ---- plain choices
plain_replicate : (h n : ℕ) → replicate n (record { hart = h; refuse = false }) ≡ plain_choices h n
plain_replicate h zero = refl
plain_replicate h (suc n) = ap (λ (cs : List Choice). record { hart = h; refuse = false } ∷ cs) (plain_replicate h n)

-- so many plain choices more
pub plain_more : (xs : List Choice) (h n a b : ℕ) → a ≡ length xs → b ≡ length xs
    → take (a + n) xs ++ replicate (a + n - b) (record { hart = h; refuse = false }) ≡ xs ++ plain_choices h n
plain_more xs h n a b a_is b_is =
    let c : Choice = record { hart = h; refuse = false } in
    let count : a + n - b ≡ n = omega (arith, a_is, b_is) in
    ap (λ (ys : List Choice). ys ++ replicate (a + n - b) c) (take_all (a + n) xs (omega (arith, a_is)))
    ∙ ap (λ k. xs ++ replicate k c) count ∙ ap (λ (ys : List Choice). xs ++ ys) (plain_replicate h n)

-- ---- meant choices
pub meant_none : (refusals : ScRefusals) → [] ≡ meant_choices refusals 0
unfolding meant_choices
meant_none refusals = refl

pub meant_more : (refusals : ScRefusals) (n : ℕ) → meant_choices refusals n ++ hart_choices refusals n ≡ meant_choices refusals (n + 1)
unfolding meant_choices
meant_more refusals n = let k : n + 1 ≡ suc n = omega arith in rw k refl

-- ---- a turn of no hart
pub no_step : (w : World) (c : Choice) → slice_get w.harts c.hart ≡ None → step w c ≡ w
unfolding step
no_step w c none = ap (step_of w c) none

pub nobody_runs : (habits : Habits) (w : World) (c : Choice) → length w.harts ≤ c.hart
    → w ≡ run w (turn_choices (stride_by_habit habits) w c)
nobody_runs habits w c past =
    let stride = stride_by_habit habits in
    let none = slice_get_past w.harts c.hart past in
    sym (run_of_turn stride w c ∙ ap (λ (x : World). world_settled stride x c.hart) (no_step w c none)
    ∙ nothing_walked habits c.hart w (stride w c.hart) (nobody_strides habits c.hart w none))

pub nobody_turns : (habits : Habits) (w : World) (c : Choice) → length w.harts ≤ c.hart
    → ◌≡◌ {A = List Choice} (c ∷ []) (turn_choices (stride_by_habit habits) w c)
nobody_turns habits w c past =
    let none = slice_get_past w.harts c.hart past in
    sym (ap (λ (x : World). c ∷ plain_choices c.hart (stride_by_habit habits x c.hart)) (no_step w c none)
    ∙ ap (λ n. c ∷ plain_choices c.hart n) (nobody_strides habits c.hart w none))

-- ---- a turn of a hart
pub settles : (section : Option Section) (w : World) (h : ℕ) (v u : HartValue) → slice_get w.harts h ≡ Some v
    → u ≡ rested section (code_in w.memory) at_once v
    → with_walked_hart w h u ≡ world_settled (stride_of section) w h
settles section w h v u there is =
    ap (with_walked_hart w h) is ∙ ap (rested_by section w h) (sym there) ∙ sym (settled_is section w h)

-- ---- one turn more
pub turns_none : (stride : Stride) (w : World) → [] ≡ turns_choices stride w []
unfolding turns_choices
turns_none stride w = refl

pub turns_last : (stride : Stride) (w : World) (turns : List Choice) (c : Choice)
    → turns_choices stride w (turns ++ c ∷ []) ≡ turns_choices stride w turns ++ turn_choices stride (run w (turns_choices stride w turns)) c
unfolding turns_choices
turns_last stride w [] c = append-nil (turn_choices stride w c) ∙ ap (λ (x : World). turn_choices stride x c) (sym (run_nothing w))
turns_last stride w (d ∷ turns) c =
    let after = world_settled stride (step w d) d.hart in
    let behind = turns_choices stride after turns in
    ap (λ (cs : List Choice). turn_choices stride w d ++ cs) (turns_last stride after turns c)
    ∙ sym (append_assoc (turn_choices stride w d) behind (turn_choices stride (run after behind) c))
    ∙ ap (λ (x : World). (turn_choices stride w d ++ behind) ++ turn_choices stride x c)
    (sym (run_joined w (turn_choices stride w d) behind ∙ ap (λ (x : World). run x behind) (run_of_turn stride w d)))

pub run_last : (stride : Stride) (w : World) (cs : List Choice) (c : Choice)
    → run (run w cs) (turn_choices stride (run w cs) c) ≡ run w (cs ++ turn_choices stride (run w cs) c)
run_last stride w cs c = sym (run_joined w cs (turn_choices stride (run w cs) c))

-- ---- steps on own words on a machine
-- a hart has taken its local steps from a world, and then some steps on its own words; so many in all
pub record IsWorldUnderWay (habits : Habits) (h done : ℕ) (from here : World) (begun choices : List Choice) : Type 0 where
  pub count : ℕ
  pub way : IsUnderWay habits h own_at_once done count (world_rested habits from h) here
  pub choices_are : choices ≡ begun ++ plain_choices h (local_stride habits from h + count)

one_after : (xs : List Choice) (h m n : ℕ) (c : Choice) → c ≡ record { hart = h; refuse = false }
    → ((xs ++ plain_choices h m) ++ c ∷ []) ++ plain_choices h n ≡ xs ++ plain_choices h (m + (1 + n))
one_after xs h m n c is =
    append_assoc (xs ++ plain_choices h m) (c ∷ []) (plain_choices h n)
    ∙ append_assoc xs (plain_choices h m) (c ∷ plain_choices h n)
    ∙ ap (λ (d : Choice). xs ++ (plain_choices h m ++ d ∷ plain_choices h n)) is
    ∙ ap (λ (cs : List Choice). xs ++ (plain_choices h m ++ cs)) (ap (plain_choices h) more)
    ∙ ap (λ (cs : List Choice). xs ++ cs) (sym (plain_joined h m (1 + n)))
  where
    more : suc n ≡ 1 + n
    more = omega arith

module _ (habits : Habits) (h : ℕ) (from : World) (begun : List Choice) where
  pub machine_rests : (here : World) (choices : List Choice) → here ≡ world_rested habits from h
      → choices ≡ begun ++ plain_choices h (local_stride habits from h) → IsWorldUnderWay habits h 0 from here begun choices
  machine_rests here choices is choices_is =
      let none : local_stride habits from h ≡ local_stride habits from h + 0 = omega arith in
      record {
        count = 0;
        way = subst (IsUnderWay habits h own_at_once 0 0 (world_rested habits from h)) (sym is)
            (under_none habits h own_at_once (world_rested habits from h));
        choices_are = choices_is ∙ ap (λ n. begun ++ plain_choices h n) none;
      }

  pub machine_more : (done : ℕ) (here next : World) (choices more : List Choice) (c : Choice) → done < own_at_once
      → takes_own_step habits here h ≡ true → c ≡ unrefused h → next ≡ own_stepped habits here h
      → more ≡ (choices ++ c ∷ []) ++ plain_choices h (local_stride habits (step here (unrefused h)) h)
      → IsWorldUnderWay habits h done from here begun choices → IsWorldUnderWay habits h (done + 1) from next begun more
  machine_more done here next choices more c less own c_is next_is more_is before =
      let loc = local_stride habits from h in
      let k = local_stride habits (step here (unrefused h)) h in
      let sum : (loc + before.count) + (1 + k) ≡ loc + (before.count + own_step_count habits here h) = omega arith in
      record {
        count = before.count + own_step_count habits here h;
        way = subst (IsUnderWay habits h own_at_once (done + 1) (before.count + own_step_count habits here h) (world_rested habits from h)) (sym next_is)
            (under_more habits h own_at_once (world_rested habits from h) done before.count here less own before.way);
        choices_are = more_is ∙ ap (λ (cs : List Choice). (cs ++ c ∷ []) ++ plain_choices h k) before.choices_are
            ∙ one_after begun h (loc + before.count) k c c_is ∙ ap (λ n. begun ++ plain_choices h n) sum;
      }

  walked_all : (done : ℕ) (here : World) (choices : List Choice) (before : IsWorldUnderWay habits h done from here begun choices)
      → (here ≡ own_walked habits own_at_once (world_rested habits from h) h) × (before.count ≡ own_stride habits own_at_once (world_rested habits from h) h)
      → (here ≡ world_settled (stride_by_habit habits) from h) × (choices ≡ begun ++ plain_choices h (stride_by_habit habits from h))
  walked_all done here choices before is = (
    is.0 ∙ settled_walks habits h from,
    before.choices_are ∙ ap (λ n. begun ++ plain_choices h (local_stride habits from h + n)) is.1,
  )

  pub machine_stops : (done : ℕ) (here : World) (choices : List Choice) → takes_own_step habits here h ≡ false
      → IsWorldUnderWay habits h done from here begun choices
      → (here ≡ world_settled (stride_by_habit habits) from h) × (choices ≡ begun ++ plain_choices h (stride_by_habit habits from h))
  machine_stops done here choices stops before =
      walked_all done here choices before
      (under_stops habits h own_at_once (world_rested habits from h) done before.count here stops before.way)

  pub machine_ends : (done : ℕ) (here : World) (choices : List Choice) → own_at_once ≤ done → IsWorldUnderWay habits h done from here begun choices
      → (here ≡ world_settled (stride_by_habit habits) from h) × (choices ≡ begun ++ plain_choices h (stride_by_habit habits from h))
  machine_ends done here choices past before =
      walked_all done here choices before
      (under_ends habits h own_at_once (world_rested habits from h) done before.count here past before.way)

-- ---- what steps leave
pub run_keeps_on : (m : Memory) (w : World) (choices : List Choice) → Keeps m w.memory → Keeps m (run w choices).memory
run_keeps_on m w choices keeps = keeps_then m w.memory (run w choices).memory keeps (run-keeps w choices)

pub step_keeps_on : (m : Memory) (w : World) (c : Choice) → Keeps m w.memory → Keeps m (step w c).memory
step_keeps_on m w c keeps = keeps_then m w.memory (step w c).memory keeps (step_keeps w c)

pub stepped_length : (w : World) (c : Choice) (h : ℕ) → h < length w.harts → h < length (step w c).harts
stepped_length w c h low = let same = step_length w c in omega (arith, same, low)

pub rested_length : (habits : Habits) (w : World) (h k : ℕ) → k < length w.harts → k < length (world_rested habits w h).harts
rested_length habits w h k low = let same = run_length w (plain_choices h (local_stride habits w h)) in omega (arith, same, low)

pub started_keeps : (image : ImageValue) (inputs : List ℕ) → Keeps (image_memory image) (started image inputs).memory
unfolding started
started_keeps image inputs = keeps_itself (image_memory image)
