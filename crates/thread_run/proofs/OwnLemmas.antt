-- How often harts are chosen: in one list after another, in an entry; and that a hart that is not
-- chosen stays.
use Rattle.std.proofs.Common.{◌≡◌, ◌≢◌, ℕ, zero, suc, ◌+◌, ◌==◌, Bool, true, false, true≢false, List, [], ◌∷◌, ◌++◌, length, set, Option, Some, None, refl, ap, sym, ◌∙◌, arith, eq-eqb, ne_eqb}
use Rattle.std.specs.Prelude.{replicate, if◌then◌else◌, slice_get}
use Rattle.std.proofs.lemmas.List.{length-append, length-replicate}
use Rattle.hart_step.specs.Hart.{HartValue}
use Rattle.machine.specs.World.{World, step_of, step, run}
use Rattle.machine.specs.declared.choice.Choice.{Choice}
use Rattle.history.specs.History.{choice, entry, entry_choices, expanded}
use Rattle.machine.specs.Chosen.{own}

-- ---- histories
pub expanded-none : expanded [] ≡ []
unfolding expanded
expanded-none = refl

-- ---- counts
add_first : (b x y z : ℕ) → x ≡ y + z → b + x ≡ b + y + z
add_first b x y z e = omega (arith, e)

pub own-append : (xs ys : List Choice) (h : ℕ) → own (xs ++ ys) h ≡ own xs h + own ys h
own-append [] ys h = omega arith
own-append (c ∷ xs) ys h =
    add_first (if c.hart == h then 1 else 0) (own (xs ++ ys) h) (own xs h) (own ys h) (own-append xs ys h)

pub own-none : (h : ℕ) → own [] h ≡ 0
own-none h = refl

own_one : (h : ℕ) (refuse : Bool) → own (choice h refuse ∷ []) h ≡ 1
own_one h refuse = ap (λ (b : Bool). (if b then 1 else 0) + 0) (eq-eqb h h refl)

own_plain : (n h : ℕ) → own (replicate n (choice h false)) h ≡ n
own_plain zero h = refl
own_plain (suc n) h =
    ap (λ (b : Bool). (if b then 1 else 0) + own (replicate n (choice h false)) h) (eq-eqb h h refl) ∙ omega (arith, own_plain n h)

-- an entry chooses its hart one time more than it has local steps
pub own_same : (n h : ℕ) (refuse : Bool) → own (entry_choices (entry h n refuse)) h ≡ n + 1
own_same n h refuse =
    own-append (replicate n (choice h false)) (choice h refuse ∷ []) h ∙ omega (arith, own_plain n h, own_one h refuse)

differs : (h j : ℕ) → j ≢ h → (h == j) ≡ false
differs h j apart = ne_eqb h j (λ e. apart (sym e))

other_one : (h j : ℕ) (refuse : Bool) → j ≢ h → own (choice h refuse ∷ []) j ≡ 0
other_one h j refuse apart = ap (λ (b : Bool). (if b then 1 else 0) + 0) (differs h j apart)

other_plain : (n h j : ℕ) → j ≢ h → own (replicate n (choice h false)) j ≡ 0
other_plain zero h j apart = refl
other_plain (suc n) h j apart =
    ap (λ (b : Bool). (if b then 1 else 0) + own (replicate n (choice h false)) j) (differs h j apart)
    ∙ omega (arith, other_plain n h j apart)

-- and no other
pub own_other : (n h j : ℕ) (refuse : Bool) → j ≢ h → own (entry_choices (entry h n refuse)) j ≡ 0
own_other n h j refuse apart =
    own-append (replicate n (choice h false)) (choice h refuse ∷ []) j
    ∙ omega (arith, other_plain n h j apart, other_one h j refuse apart)

-- an entry has one choice more than it has local steps
pub entry_length : (n h : ℕ) (refuse : Bool) → length (entry_choices (entry h n refuse)) ≡ n + 1
entry_length n h refuse =
    length-append (replicate n (choice h false)) (choice h refuse ∷ []) ∙ ap (λ k. k + 1) (length-replicate n (choice h false))

-- ---- harts that are not chosen
get-set_other : {X : Type 0} (xs : List X) (i j : ℕ) (y : X) → j ≢ i → slice_get (set xs i y) j ≡ slice_get xs j
get-set_other [] i j y apart = refl
get-set_other (x ∷ xs) zero zero y apart = absurd (apart refl)
get-set_other (x ∷ xs) zero (suc j) y apart = refl
get-set_other (x ∷ xs) (suc i) zero y apart = refl
get-set_other (x ∷ xs) (suc i) (suc j) y apart = get-set_other xs i j y (λ e. apart (ap suc e))

other_of : (w : World) (c : Choice) (j : ℕ) → j ≢ c.hart → (o : Option HartValue)
    → slice_get (step_of w c o).harts j ≡ slice_get w.harts j
other_of w c j apart None = refl
other_of w c j apart (Some v) = get-set_other w.harts c.hart j _ apart

other_stays : (w : World) (c : Choice) (j : ℕ) → j ≢ c.hart → slice_get (step w c).harts j ≡ slice_get w.harts j
unfolding step
other_stays w c j apart = other_of w c j apart (slice_get w.harts c.hart)

none_chosen : (b : Bool) (n : ℕ) → (if b then 1 else 0) + n ≡ 0 → (b ≡ false) × (n ≡ 0)
none_chosen true n e = absurd (omega (arith, e))
none_chosen false n e = (refl, omega (arith, e))

-- a hart that a list does not choose is the same after its run
pub others_stay : (choices : List Choice) (w : World) (j : ℕ) → own choices j ≡ 0
    → slice_get (run w choices).harts j ≡ slice_get w.harts j
unfolding run
others_stay [] w j none = refl
others_stay (c ∷ choices) w j none =
    let rest = none_chosen (c.hart == j) (own choices j) none in
    let apart : j ≢ c.hart = λ same. true≢false (sym (eq-eqb c.hart j (sym same)) ∙ rest.0) in
    others_stay choices (step w c) j rest.1 ∙ other_stays w c j apart
