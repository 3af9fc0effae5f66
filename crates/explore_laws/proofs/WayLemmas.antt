-- Quiet steps lead a world to each one that covers it.
use Rattle.std.proofs.Common.{◌≡◌, ℕ, ◌<◌, Bool, true, false, List, [], ◌∷◌, length, Option, Some, None, refl, ap, sym, ◌∙◌, subst, arith, true≢false}
use Rattle.std.proofs.lemmas.List.Elements.{All-nil, All-cons}
use Rattle.std.proofs.lemmas.Option.{slice_get_within}
use Rattle.std.specs.List.{All, Contains, slice_get}
use Rattle.hart_step.specs.Hart.{HartValue}
use Rattle.machine.specs.World.{World, step, run}
use Rattle.machine.specs.declared.choice.Choice.{Choice}
use Rattle.machine.proofs.RunLaws.{run_length}
use Rattle.explore_laws.specs.Bounds.{still_runs, runs_in}
use Rattle.explore_laws.specs.Covering.{WorldCovers}
use Rattle.explore_laws.specs.Quiet.{OfNextStep, AreQuiet, CanWait}
use Rattle.explore_laws.specs.Settling.{Stride}

-- a hart that runs is there
pub runs_there : (w : World) (h : ℕ) → runs_in w h ≡ true → h < length w.harts
runs_there w h goes = by_hart (slice_get w.harts h) refl
  where
    by_hart : (o : Option HartValue) → slice_get w.harts h ≡ o → h < length w.harts
    by_hart None e = absurd (true≢false (sym goes ∙ ap still_runs e))
    by_hart (Some v) e = slice_get_within w.harts h v e

length_step : (w : World) (c : Choice) → length (step w c).harts ≡ length w.harts
unfolding run
length_step w c = run_length w (c ∷ [])

module _ (quiet clear : OfNextStep) (stride : Stride) (waits : CanWait quiet clear stride)
    (meant : List Choice) (n : ℕ) (plain : (h : ℕ) → h < n → Contains meant (record { hart = h; refuse = false })) where
  quiet_way : (w : World) (choices : List Choice) → length w.harts ≡ n → AreQuiet quiet w choices
      → (others : List Choice) × All (Contains meant) others × (run w others ≡ run w choices)
  unfolding run
  quiet_way w [] count are = ([], All-nil (Contains meant), refl)
  quiet_way w (c ∷ choices) count are =
      let d : Choice = record { hart = c.hart; refuse = false } in
      let low = runs_there w c.hart (waits.runs w c.hart are.0) in
      let is : step w d ≡ step w c = waits.alike w c d are.0 refl in
      let more = quiet_way (step w c) choices (length_step w c ∙ count) are.1 in (
        d ∷ more.0,
        All-cons (Contains meant) d more.0 (plain c.hart (omega (arith, low, count))) more.1,
        ap (λ x. run x more.0) is ∙ more.2,
      )

  -- meant choices lead from a world to one that covers it
  pub walks_there : (s w : World) → length w.harts ≡ n → WorldCovers quiet s w
      → (choices : List Choice) × All (Contains meant) choices × (run w choices ≡ s)
  walks_there s w count covers =
      let way = quiet_way w covers.choices count covers.are_quiet in
      (way.0, way.1, way.2 ∙ covers.leads)
