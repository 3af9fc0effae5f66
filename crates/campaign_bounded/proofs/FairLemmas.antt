-- Steps of the harts in turn, one by one.
use Rattle.std.proofs.Common.{◌≡◌, ℕ, ◌+◌, ◌%◌, ◌≤◌, List, [], ◌∷◌, ◌++◌, length, Option, refl, arith, ap, ap₂, sym, ◌∙◌, subst}
use Rattle.std.proofs.lemmas.List.{append_assoc, append-nil}
use Rattle.std.proofs.lemmas.List.FromFn.{map-range_with_len_more}
use Rattle.std.proofs.lemmas.Option.{slice_get_past}
use Rattle.hart_step.specs.Hart.{HartValue}
use Rattle.machine.proofs.WorldLemmas.{run_append}
use Rattle.machine.specs.World.{World, step_of, step, run}
use Rattle.machine.specs.declared.choice.Choice.{Choice}
use Rattle.sched_draw.specs.Turns.{plain_choice, turns}
use Rattle.campaign_bounded.specs.Walk.{Led}
use Rattle.campaign_bounded.specs.Fair.{led_by_turn, led_by_turns}

run_one : (w : World) (c : Choice) → run w (c ∷ []) ≡ step w c
unfolding run
run_one w c = refl

run_nothing : (w : World) → run w [] ≡ w
unfolding run
run_nothing w = refl

turns_more : (harts steps : ℕ) → turns harts (steps + 1) ≡ turns harts steps ++ plain_choice (steps % harts) ∷ []
turns_more harts steps =
    let here : 0 + steps ≡ steps = omega arith in
    map-range_with_len_more (λ i. plain_choice (i % harts)) 0 steps (0 + steps) refl
    ∙ ap (λ i. turns harts steps ++ plain_choice (i % harts) ∷ []) here

pub no_turns : (harts : ℕ) (led : Led) → led ≡ led_by_turns harts 0 led
no_turns harts led =
    ap₂ {C = Led} (λ (choices : List Choice) (w : World). record { choices = choices; world = w })
    (sym (append-nil led.choices)) (sym (run_nothing led.world))

pub one_turn_more : (harts steps : ℕ) (old now new : Led) → now ≡ led_by_turns harts steps old
    → new ≡ led_by_turn now (plain_choice (steps % harts)) → new ≡ led_by_turns harts (steps + 1) old
one_turn_more harts steps old now new so_far is =
    let c = plain_choice (steps % harts) in
    is ∙ ap (λ (led : Led). led_by_turn led c) so_far
    ∙ ap₂ {C = Led} (λ (choices : List Choice) (w : World). record { choices = choices; world = w })
    (append_assoc old.choices (turns harts steps) (c ∷ []) ∙ ap (λ more. old.choices ++ more) (sym (turns_more harts steps)))
    (sym (run_one (run old.world (turns harts steps)) c) ∙ sym (run_append old.world (turns harts steps) (c ∷ []))
    ∙ ap (run old.world) (sym (turns_more harts steps)))

-- the choice of a hart that doesn't exist changes nothing
pub step_of_nobody : (w : World) (c : Choice) (n : ℕ) → n ≡ length w.harts → n ≤ c.hart → w ≡ step w c
unfolding step
step_of_nobody w c n is past =
    sym (ap (λ (o : Option HartValue). step_of w c o) (slice_get_past w.harts c.hart (subst (λ m. m ≤ c.hart) is past)))
