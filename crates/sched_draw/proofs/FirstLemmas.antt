-- By priorities: a hart goes on while it is the first that runs.
use Rattle.std.proofs.Common.{◌≡◌, ◌≢◌, ℕ, zero, suc, ◌==◌, Bool, true, false, List, [], ◌∷◌, Option, Some, None, set, refl, ap, ap₂, sym, subst, ◌∙◌, if◌then◌else◌, true≢false}
use Rattle.std.proofs.lemmas.Bool.{eq-eqb, eqb-true}
use Rattle.std.specs.List.{slice_get}
use Rattle.rand_pcg.specs.Pcg.{pcg32}
use Rattle.hart_step.specs.Hart.{HartValue}
use Rattle.machine.specs.Running.{goes, runs}
use Rattle.machine.specs.World.{World, step_of, step}
use Rattle.machine.specs.declared.choice.Choice.{Choice}
use Rattle.sched_draw.specs.Priorities.{PriorityDrawing, first_running, fallen, is_point, after_priority_choice}

-- ---- a step of a hart changes no other one
set-others : (xs : List HartValue) (i k : ℕ) (x : HartValue) → k ≢ i → slice_get (set xs i x) k ≡ slice_get xs k
set-others [] i k x differs = refl
set-others (y ∷ ys) zero zero x differs = absurd (differs refl)
set-others (y ∷ ys) zero (suc k) x differs = refl
set-others (y ∷ ys) (suc i) zero x differs = refl
set-others (y ∷ ys) (suc i) (suc k) x differs = set-others ys i k x (λ same. differs (ap suc same))

step_of-others : (w : World) (c : Choice) (o : Option HartValue) (k : ℕ) → k ≢ c.hart
    → slice_get (step_of w c o).harts k ≡ slice_get w.harts k
step_of-others w c None k differs = refl
step_of-others w c (Some h) k differs = set-others w.harts c.hart k _ differs

step-others : (w : World) (c : Choice) (k : ℕ) → k ≢ c.hart → slice_get (step w c).harts k ≡ slice_get w.harts k
unfolding step
step-others w c k differs = step_of-others w c (slice_get w.harts c.hart) k differs

-- where it runs as before, each hart does
runs-same : (w : World) (c : Choice) → runs (step w c).harts c.hart ≡ runs w.harts c.hart
    → (k : ℕ) → runs (step w c).harts k ≡ runs w.harts k
runs-same w c same k = either (k == c.hart) refl
  where
    either : (b : Bool) → (k == c.hart) ≡ b → runs (step w c).harts k ≡ runs w.harts k
    either true is = subst (λ h. runs (step w c).harts h ≡ runs w.harts h) (sym (eqb-true k c.hart is)) same
    either false is = ap goes (step-others w c k (λ e. true≢false (sym (eq-eqb k c.hart e) ∙ is)))

first-same : (a b : List HartValue) (order : List ℕ) → ((k : ℕ) → runs a k ≡ runs b k) → first_running a order ≡ first_running b order
first-same a b [] same = refl
first-same a b (number ∷ order) same =
    ap₂ (λ (t : Bool) (h : ℕ). if t then number else h) (same number) (first-same a b order same)

-- so the first that runs stays the first
pub stays_first : (w after : World) (c : Choice) (hart : ℕ) (goes : Bool) (order later : List ℕ) → after ≡ step w c → c.hart ≡ hart
    → hart ≡ first_running w.harts order → goes ≡ runs w.harts hart → runs after.harts hart ≡ goes → later ≡ order
    → hart ≡ first_running after.harts later
stays_first w after c hart goes order later stepped of_hart first went going same =
    let as_before : runs (step w c).harts c.hart ≡ runs w.harts c.hart =
    ap₂ (λ (v : World) h. runs v.harts h) (sym stepped) of_hart ∙ going ∙ went ∙ ap (runs w.harts) (sym of_hart) in
    first
    ∙ sym (first-same (step w c).harts w.harts order (runs-same w c as_before))
    ∙ ap₂ (λ (v : World) xs. first_running v.harts xs) (sym stepped) (sym same)

-- ---- where no change point comes, a choice leaves the order as it is
pub no_point-after : (place : ℕ) (harts : List HartValue) (d : PriorityDrawing) → is_point place d.points ≡ false
    → record { order = d.order; points = d.points; generator = (pcg32 d.generator).1 } ≡ after_priority_choice place harts d
unfolding after_priority_choice
no_point-after place harts d none =
    ap {A = List ℕ} {B = PriorityDrawing} (λ xs. record { order = xs; points = d.points; generator = (pcg32 d.generator).1 })
    (sym (ap (λ (b : Bool). if b then fallen (first_running harts d.order) d.order else d.order) none))
