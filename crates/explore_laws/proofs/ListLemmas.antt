-- Lists of harts, and runs of lists of choices.
use Rattle.std.proofs.Common.{◌≡◌, ◌≢◌, ℕ, zero, suc, ◌<◌, ◌≤◌, List, [], ◌∷◌, ◌++◌, length, get_or, set, Option, Some, refl, ap, ◌∙◌, arith}
use Rattle.std.proofs.lemmas.List.{length-set, get_or-set_same}
use Rattle.std.proofs.lemmas.Option.{slice_get_within, slice_get-get_or}
use Rattle.std.specs.List.{slice_get}
use Rattle.machine.specs.World.{World, step, run}
use Rattle.machine.specs.declared.choice.Choice.{Choice}

pub same_value : {X : Type 0} (x y : X) (o : Option X) → o ≡ Some x → o ≡ Some y → x ≡ y
same_value x y o e f = cc

pub there_set : {X : Type 0} (xs : List X) (i : ℕ) (x y : X) → slice_get xs i ≡ Some x → slice_get (set xs i y) i ≡ Some y
there_set xs i x y there =
    let inside : i < length xs = slice_get_within xs i x there in
    slice_get-get_or (set xs i y) i y (rw (length-set xs i y) inside) ∙ ap Some (get_or-set_same xs i y y inside)

pub get_set_other : {X : Type 0} (xs : List X) (i k : ℕ) (y : X) → k ≢ i → slice_get (set xs i y) k ≡ slice_get xs k
get_set_other [] i k y other = refl
get_set_other (x ∷ xs) zero zero y other = absurd (other refl)
get_set_other (x ∷ xs) zero (suc k) y other = refl
get_set_other (x ∷ xs) (suc i) zero y other = refl
get_set_other (x ∷ xs) (suc i) (suc k) y other = get_set_other xs i k y (λ e. other (ap suc e))

pub there_too : {X : Type 0} (xs ys : List X) (k : ℕ) (x : X) → length ys ≡ length xs → slice_get xs k ≡ Some x
    → (y : X) × (slice_get ys k ≡ Some y)
there_too xs ys k x same e =
    let inside : k < length xs = slice_get_within xs k x e in
    (get_or ys k x, slice_get-get_or ys k x (omega (arith, inside, same)))

-- ---- runs
pub run_nothing : (w : World) → run w [] ≡ w
unfolding run
run_nothing w = refl

pub run_more : (w : World) (c : Choice) (choices : List Choice) → run w (c ∷ choices) ≡ run (step w c) choices
unfolding run
run_more w c choices = refl

pub run_joined : (w : World) (a b : List Choice) → run w (a ++ b) ≡ run (run w a) b
unfolding run
run_joined w [] b = refl
run_joined w (c ∷ a) b = run_joined (step w c) a b
