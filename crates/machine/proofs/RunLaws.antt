-- What each step keeps, every run keeps.
use Rattle.std.proofs.Common.{◌≡◌, ℕ, suc, ◌+◌, ◌%◌, ◌<◌, Bool, List, [], ◌∷◌, Option, Some, None, map, length, refl, ap, ◌∙◌, subst}
use Rattle.std.specs.List.{All, slice_get}
use Rattle.std.proofs.lemmas.List.{length-set}
use Rattle.std.proofs.lemmas.List.Elements.{All-set, All-nil, All-cons}
use Rattle.std.proofs.lemmas.Option.{slice_get_within, get_or_from_slice_get}
use Rattle.image.specs.Image.{ImageValue}
use Rattle.mem_store.specs.Memory.{Memory, grants, to_write}
use Rattle.hart_step.specs.Hart.{HartValue, hart_of}
use Rattle.hart_step.specs.declared.hart.Hart.{Hart}
use Rattle.hart_step.specs.Effect.{Site, site}
use Rattle.hart_step.specs.Step.{stepped}
use Rattle.hart_step.specs.Laws.{Keeps, IsAligned, HasZero}
use Rattle.hart_step.proofs.Kept.{keeps-same, stepped-keeps}
use Rattle.hart_step.proofs.HartLemmas.{stepped-zero, stepped-aligned}
use Rattle.machine.specs.World.{World, step_of, step, run}
use Rattle.machine.specs.Start.{first_hart, first_harts, started}
use Rattle.machine.specs.declared.choice.Choice.{Choice}

-- ---- memory
keeps-then : (a b c : Memory) → Keeps a b → Keeps b c → Keeps a c
keeps-then a b c f g = record {
  rights = g.rights ∙ f.rights;
  bytes = λ x shut. g.bytes x (ap (λ (r : ℕ → Option ℕ). grants to_write (r x)) f.rights ∙ shut) ∙ f.bytes x shut;
}

keeps-step_of : (w : World) (c : Choice) (o : Option HartValue) → Keeps w.memory (step_of w c o).memory
keeps-step_of w c None = keeps-same w.memory
keeps-step_of w c (Some h) = stepped-keeps c.hart c.refuse (site h w.memory w.reserved)

keeps-step : (w : World) (c : Choice) → Keeps w.memory (step w c).memory
unfolding step
keeps-step w c = keeps-step_of w c (slice_get w.harts c.hart)

pub run-keeps : (w : World) (choices : List Choice) → Keeps w.memory (run w choices).memory
unfolding run
run-keeps w [] = keeps-same w.memory
run-keeps w (c ∷ choices) =
    keeps-then w.memory (step w c).memory (run (step w c) choices).memory (keeps-step w c) (run-keeps (step w c) choices)

-- ---- harts
module _ (P : HartValue → Type 0)
    (stays : (h : ℕ) (refuse : Bool) (s : Site) → P s.hart → P (stepped h refuse s).hart) where
  all-step_of : (w : World) (c : Choice) (o : Option HartValue) → slice_get w.harts c.hart ≡ o → All P w.harts
      → All P (step_of w c o).harts
  all-step_of w c None e all = all
  all-step_of w c (Some h) e all =
      let inside : c.hart < length w.harts = slice_get_within w.harts c.hart h e in
      let here : P h = subst P (get_or_from_slice_get w.harts c.hart h h e) (all c.hart h inside) in
      All-set P w.harts c.hart _ (stays c.hart c.refuse (site h w.memory w.reserved) here) all

  all-step : (w : World) (c : Choice) → All P w.harts → All P (step w c).harts
  unfolding step
  all-step w c all = all-step_of w c (slice_get w.harts c.hart) refl all

  pub all-run : (w : World) (choices : List Choice) → All P w.harts → All P (run w choices).harts
  unfolding run
  all-run w [] all = all
  all-run w (c ∷ choices) all = all-run (step w c) choices (all-step w c all)

all-first : (P : HartValue → Type 0) (entry n h : ℕ) (inputs : List ℕ)
    → ((k input : ℕ) → P (first_hart entry n k input)) → All P (first_harts entry n h inputs)
all-first P entry n h [] each = All-nil P
all-first P entry n h (input ∷ inputs) each =
    All-cons P (first_hart entry n h input) (first_harts entry n (h + 1) inputs) (each h input) (all-first P entry n (h + 1) inputs each)

-- each hart that is made has 0 there
pub made-zero : (harts : List Hart) → All HasZero (map hart_of harts)
made-zero [] = All-nil HasZero
made-zero (h ∷ harts) = All-cons HasZero (hart_of h) (map hart_of harts) h.x0_is_zero (made-zero harts)

pub run-zero : (image : ImageValue) (inputs : List ℕ) (choices : List Choice)
    → All HasZero (run (started image inputs) choices).harts
unfolding started
run-zero image inputs choices =
    all-run HasZero stepped-zero (started image inputs) choices (all-first HasZero image.entry (length inputs) 0 inputs (λ k input. refl))

pub run-aligned : (image : ImageValue) (inputs : List ℕ) (choices : List Choice) → image.entry % 4 ≡ 0
    → All IsAligned (run (started image inputs) choices).harts
unfolding started
run-aligned image inputs choices e =
    all-run IsAligned stepped-aligned (started image inputs) choices (all-first IsAligned image.entry (length inputs) 0 inputs (λ k input. e))

-- ---- how many harts there are
length-first : (entry n h : ℕ) (inputs : List ℕ) → length (first_harts entry n h inputs) ≡ length inputs
length-first entry n h [] = refl
length-first entry n h (input ∷ inputs) = ap suc (length-first entry n (h + 1) inputs)

-- a program begins with a hart for each input
pub length-started : (image : ImageValue) (inputs : List ℕ) → length (started image inputs).harts ≡ length inputs
unfolding started
length-started image inputs = length-first image.entry (length inputs) 0 inputs

length-step_of : (w : World) (c : Choice) (o : Option HartValue) → length (step_of w c o).harts ≡ length w.harts
length-step_of w c None = refl
length-step_of w c (Some h) = length-set w.harts c.hart _

length-step : (w : World) (c : Choice) → length (step w c).harts ≡ length w.harts
unfolding step
length-step w c = length-step_of w c (slice_get w.harts c.hart)

-- no run changes how many there are
pub run_length : (w : World) (choices : List Choice) → length (run w choices).harts ≡ length w.harts
unfolding run
run_length w [] = refl
run_length w (c ∷ choices) = run_length (step w c) choices ∙ length-step w c
