-- The schedules with a bounded number of preemptions are those lists, and no others.
use Rattle.std.proofs.Common.{◌≡◌, ℕ, zero, suc, ◌+◌, ◌-◌, ◌<◌, ◌≤◌, ◌==◌, ◌&&◌, ◌||◌, nat_lt, not, Bool, true, false, List, [], ◌∷◌, ◌++◌, Option, Some, None, map, length, if◌then◌else◌, refl, arith, ap, sym, ◌∙◌, ◌⊎◌, inl, inr, subst, eqb, eq-eqb}
use Rattle.std.proofs.lemmas.Bool.{true≢false}
use Rattle.std.proofs.lemmas.Bool.Decides.{nat_tests}
use Rattle.std.proofs.lemmas.List.Elements.{All-head, All-tail}
use Rattle.std.specs.List.{All, flat_map, range_with_len}
use Rattle.machine.specs.Running.{runs}
use Rattle.machine.specs.World.{World, step, run}
use Rattle.machine.specs.declared.choice.Choice.{Choice}
use Rattle.machine.proofs.RunLaws.{run_length}
use Rattle.machine.proofs.StoppedLemmas.{step-stopped}
use Rattle.sched_draw.specs.Turns.{plain_choice}
use Rattle.campaign_bounded.specs.Bounded.{can_go_on, is_last, preemption, may_take_over, others, itself, nexts, from_hart, from_each, bounded}
use Rattle.campaign_bounded.specs.Preemptions.{preemptions_after, AreOfRunning, NoneRuns, IsToTheEnd, steps_of}
use Rattle.campaign_bounded.proofs.AmongLemmas.{Among, among_append, among_left, among_right, among_filter, filter_among, among_flat_map, flat_map_among, among_map, map_among, among_range}
use Rattle.campaign_bounded.proofs.RunningLemmas.{runs_below}

-- hart g runs, and its step is no preemption too many
abbrev MayStep : ℕ → World → Option ℕ → ℕ → Type 0
MayStep k w last g = (runs w.harts g ≡ true) × (preemption w last g ≤ k)

no_less : (k : ℕ) → nat_lt 0 k ≡ false → k ≡ 0
no_less k h = grind (arith, nat_tests, h)

-- ---- which harts are next
pub take_may : (r l o : Bool) (k : ℕ) → (r && (not l && (nat_lt 0 k || not o))) ≡ true
    → (r ≡ true) × ((if o && not l then 1 else 0) ≤ k)
take_may false l o k h = absurd (true≢false (sym h))
take_may true true o k h = absurd (true≢false (sym h))
take_may true false false k h = (refl, omega arith)
take_may true false true k h = (refl, by (nat_lt 0 k) refl h)
  where
    by : (b : Bool) → nat_lt 0 k ≡ b → (b || false) ≡ true → 1 ≤ k
    by true less h = grind (arith, nat_tests, less)
    by false less h = absurd (true≢false (sym h))

may_take : (r o : Bool) (k : ℕ) → r ≡ true → (if o && true then 1 else 0) ≤ k → (r && (true && (nat_lt 0 k || not o))) ≡ true
may_take false o k runs few = absurd (true≢false (sym runs))
may_take true false k runs few = by (nat_lt 0 k)
  where
    by : (b : Bool) → (b || true) ≡ true
    by true = refl
    by false = refl
may_take true true k runs few = by (nat_lt 0 k) refl
  where
    by : (b : Bool) → nat_lt 0 k ≡ b → (b || false) ≡ true
    by true less = refl
    by false less = let none = no_less k less in absurd (omega (arith, few, none))

-- a hart goes on at no cost
pub itself_free : (w : World) (last : ℕ) → preemption w (Some last) last ≡ 0
itself_free w last = ap {A = Bool} {B = ℕ} (λ b. if runs w.harts last && not b then 1 else 0) (eq-eqb last last refl) ∙ by (runs w.harts last)
  where
    cost : Bool → ℕ
    cost b = if b && false then 1 else 0

    by : (b : Bool) → cost b ≡ 0
    by true = refl
    by false = refl

itself_may : (k : ℕ) (w : World) (last : Option ℕ) (g : ℕ) → Among (itself w last) g → MayStep k w last g
itself_may k w None g h = absurd h
itself_may k w (Some last) g h = by (runs w.harts last) refl h
  where
    by : (b : Bool) → runs w.harts last ≡ b → Among (if b then last ∷ [] else []) g → MayStep k w (Some last) g
    by true here (inl e) =
        subst (MayStep k w (Some last)) e (here, let free = itself_free w last in omega (arith, free))
    by true here (inr h) = absurd h
    by false here h = absurd h

next_may : (harts k : ℕ) (w : World) (last : Option ℕ) (g : ℕ) → Among (nexts harts k w last) g → MayStep k w last g
next_may harts k w last g h = elim (among_append (others harts k w last) (itself w last) g h) [
  | inl other ↦ take_may (runs w.harts g) (is_last last g) (can_go_on w last) k
      (filter_among (may_take_over k w last) (range_with_len 0 harts) g other).1
  | inr own ↦ itself_may k w last g own
]

other_next : (harts k : ℕ) (w : World) (last : Option ℕ) (g : ℕ) → g < harts → is_last last g ≡ false → MayStep k w last g
    → Among (nexts harts k w last) g
other_next harts k w last g within other may =
    among_left (others harts k w last) (itself w last) g
    (among_filter (may_take_over k w last) (range_with_len 0 harts) g (among_range 0 harts g (omega arith) (omega (arith, within)))
    (ap (λ l. runs w.harts g && (not l && (nat_lt 0 k || not (can_go_on w last)))) other
    ∙ may_take (runs w.harts g) (can_go_on w last) k may.0
    (subst (λ l. (if can_go_on w last && not l then 1 else 0) ≤ k) other may.1)))

may_next : (harts k : ℕ) (w : World) (last : Option ℕ) (g : ℕ) → g < harts → MayStep k w last g → Among (nexts harts k w last) g
may_next harts k w None g within may = other_next harts k w None g within refl may
may_next harts k w (Some last) g within may = by (last == g) refl
  where
    by : (b : Bool) → (last == g) ≡ b → Among (nexts harts k w (Some last)) g
    by true same =
        let e : last ≡ g = grind (arith, nat_tests, same) in
        among_right (others harts k w (Some last)) (itself w (Some last)) g
        (subst (λ b. Among (if b then last ∷ [] else []) g) (sym (ap (runs w.harts) e ∙ may.0)) (inl e))
    by false other = other_next harts k w (Some last) g within other may

-- where a hart runs, one may take the next step
someone : (k : ℕ) (w : World) (last : Option ℕ) (g : ℕ) → runs w.harts g ≡ true → (h : ℕ) × MayStep k w last h
someone k w None g goes = (g, (goes, omega arith))
someone k w (Some last) g goes = by (runs w.harts last) refl
  where
    free : runs w.harts last ≡ false → preemption w (Some last) g ≡ 0
    free stops = ap {A = Bool} {B = ℕ} (λ b. if b && not (last == g) then 1 else 0) stops

    by : (b : Bool) → runs w.harts last ≡ b → (h : ℕ) × MayStep k w (Some last) h
    by true here = (last, (here, let e = itself_free w last in omega (arith, e)))
    by false here = (g, (goes, let e = free here in omega (arith, e)))

-- there are enough harts
abbrev Fits : ℕ → World → Type 0
Fits harts w = length w.harts ≤ harts

within : (harts : ℕ) (w : World) (g : ℕ) → Fits harts w → runs w.harts g ≡ true → g < harts
within harts w g fits goes = let below = runs_below w.harts g goes in omega (arith, below, fits)

fits_after : (harts : ℕ) (w : World) (c : Choice) → Fits harts w → Fits harts (step w c)
unfolding run
fits_after harts w c fits = let same = run_length w (c ∷ []) in omega (arith, same, fits)

none_next : (harts k : ℕ) (w : World) (last : Option ℕ) → Fits harts w → nexts harts k w last ≡ [] → NoneRuns w
none_next harts k w last fits none g = by (runs w.harts g) refl
  where
    by : (b : Bool) → runs w.harts g ≡ b → runs w.harts g ≡ false
    by true here =
        let h = someone k w last g here in
        absurd (subst (λ hs. Among hs h.0) none (may_next harts k w last h.0 (within harts w h.0 fits h.1.0) h.1))
    by false here = here

next_none : (harts k : ℕ) (w : World) (last : Option ℕ) → NoneRuns w → nexts harts k w last ≡ []
next_none harts k w last none = by (nexts harts k w last) refl
  where
    by : (hs : List ℕ) → nexts harts k w last ≡ hs → nexts harts k w last ≡ []
    by [] e = e
    by (g ∷ hs) e =
        absurd (true≢false (sym (next_may harts k w last g (subst (λ gs. Among gs g) (sym e) (inl refl))).0 ∙ none g))

-- ---- the tree
-- the schedules after a step of hart g
abbrev pub tails : ℕ → ℕ → ℕ → World → Option ℕ → ℕ → List (List Choice)
tails harts m k w last g = bounded harts m (k - preemption w last g) (step w (plain_choice g)) (Some g)

pub bounded_zero : (harts k : ℕ) (w : World) (last : Option ℕ) → bounded harts zero k w last ≡ [] ∷ []
unfolding bounded
bounded_zero harts k w last = refl

pub bounded_more : (harts m k : ℕ) (w : World) (last : Option ℕ)
    → bounded harts (suc m) k w last ≡ from_each (tails harts m k w last) (nexts harts k w last)
unfolding bounded
bounded_more harts m k w last = refl

each_among : (lists : ℕ → List (List Choice)) (hs : List ℕ) (g : ℕ) (rest : List Choice) → Among hs g → Among (lists g) rest
    → Among (from_each lists hs) (plain_choice g ∷ rest)
each_among lists [] g rest h at = absurd h
each_among lists (x ∷ hs) g rest h at =
    among_flat_map (λ h. from_hart h (lists h)) (x ∷ hs) g (plain_choice g ∷ rest) h
    (among_map (λ list. plain_choice g ∷ list) (lists g) rest at)

among_each : (lists : ℕ → List (List Choice)) (hs : List ℕ) (choices : List Choice) → Among (from_each lists hs) choices
    → ((hs ≡ []) × ([] ≡ choices)) ⊎ ((g : ℕ) × Among hs g × Among (from_hart g (lists g)) choices)
among_each lists [] choices (inl e) = inl (refl, e)
among_each lists [] choices (inr h) = absurd h
among_each lists (x ∷ hs) choices h = inr (flat_map_among (λ h. from_hart h (lists h)) (x ∷ hs) choices h)

-- a schedule after a step of hart g
behind_in : (harts m k : ℕ) (w : World) (last : Option ℕ) (g : ℕ) (rest : List Choice) → Fits harts w → MayStep k w last g
    → Among (tails harts m k w last g) rest → Among (bounded harts (suc m) k w last) (plain_choice g ∷ rest)
behind_in harts m k w last g rest fits may h =
    subst (λ lists. Among lists (plain_choice g ∷ rest)) (sym (bounded_more harts m k w last))
    (each_among (tails harts m k w last) (nexts harts k w last) g rest
    (may_next harts k w last g (within harts w g fits may.0) may) h)

-- the empty schedule, where no hart is next
empty_in : (harts m k : ℕ) (w : World) (last : Option ℕ) → nexts harts k w last ≡ [] → Among (bounded harts (suc m) k w last) []
empty_in harts m k w last none =
    subst (λ lists. Among lists []) (sym (bounded_more harts m k w last ∙ ap (from_each (tails harts m k w last)) none)) (inl refl)

zero_in : (harts k : ℕ) (w : World) (last : Option ℕ) → Among (bounded harts zero k w last) []
zero_in harts k w last = subst (λ lists. Among lists []) (sym (bounded_zero harts k w last)) (inl refl)

-- ---- what the schedules are
pub record BoundedFrom (most k : ℕ) (w : World) (last : Option ℕ) (choices : List Choice) : Type 0 where
  pub steps : AreOfRunning w choices
  pub few : preemptions_after w last choices ≤ k
  pub whole : IsToTheEnd most w choices

none_yet : (most k : ℕ) (w : World) (last : Option ℕ) → IsToTheEnd most w [] → BoundedFrom most k w last []
none_yet most k w last whole = record { steps = tt; few = omega arith; whole = whole }

whole_more : (m : ℕ) (w : World) (c : Choice) (rest : List Choice) → IsToTheEnd m (step w c) rest → IsToTheEnd (suc m) w (c ∷ rest)
unfolding run
whole_more m w c rest (inl e) = inl (omega (arith, e))
whole_more m w c rest (inr h) = inr (let less = h.0 in omega (arith, less), h.1)

whole_less : (m : ℕ) (w : World) (c : Choice) (rest : List Choice) → IsToTheEnd (suc m) w (c ∷ rest) → IsToTheEnd m (step w c) rest
unfolding run
whole_less m w c rest (inl e) = inl (omega (arith, e))
whole_less m w c rest (inr h) = inr (let less = h.0 in omega (arith, less), h.1)

none_whole : (m : ℕ) (w : World) → NoneRuns w → IsToTheEnd (suc m) w []
unfolding run
none_whole m w none = inr (omega arith, none)

whole_none : (m : ℕ) (w : World) → IsToTheEnd (suc m) w [] → NoneRuns w
unfolding run
whole_none m w (inl e) = absurd (omega (arith, e))
whole_none m w (inr h) = h.1

more_bounded : (m k : ℕ) (w : World) (last : Option ℕ) (g : ℕ) (rest : List Choice) → MayStep k w last g
    → BoundedFrom m (k - preemption w last g) (step w (plain_choice g)) (Some g) rest → BoundedFrom (suc m) k w last (plain_choice g ∷ rest)
more_bounded m k w last g rest may h = record {
  steps = (refl, may.0, h.steps);
  few = let few = h.few in let cost = may.1 in omega (arith, few, cost);
  whole = whole_more m w (plain_choice g) rest h.whole;
}

-- those after a step are what they are
abbrev Later : ℕ → ℕ → Type 0
Later harts m = (k : ℕ) (w : World) (last : Option ℕ) (rest : List Choice) → Fits harts w
    → Among (bounded harts m k w last) rest → BoundedFrom m k w last rest

after_one : (harts m k : ℕ) (w : World) (last : Option ℕ) (choices : List Choice) (g : ℕ) → Fits harts w → Later harts m
    → MayStep k w last g → Among (from_hart g (tails harts m k w last g)) choices → BoundedFrom (suc m) k w last choices
after_one harts m k w last choices g fits later may h =
    let rest = map_among (λ list. plain_choice g ∷ list) (tails harts m k w last g) choices h in
    subst (BoundedFrom (suc m) k w last) rest.1
    (more_bounded m k w last g rest.0 may
    (later (k - preemption w last g) (step w (plain_choice g)) (Some g) rest.0 (fits_after harts w (plain_choice g) fits) rest.2))

pub bounded_are : (harts m k : ℕ) (w : World) (last : Option ℕ) (choices : List Choice) → Fits harts w
    → Among (bounded harts m k w last) choices → BoundedFrom m k w last choices
bounded_are harts zero k w last choices fits h = by (subst (λ lists. Among lists choices) (bounded_zero harts k w last) h)
  where
    by : Among ([] ∷ []) choices → BoundedFrom zero k w last choices
    by (inl e) = subst (BoundedFrom zero k w last) e (none_yet zero k w last (inl refl))
    by (inr h) = absurd h
bounded_are harts (suc m) k w last choices fits h =
    by (among_each (tails harts m k w last) (nexts harts k w last) choices
    (subst (λ lists. Among lists choices) (bounded_more harts m k w last) h)) (bounded_are harts m)
  where
    by : ((nexts harts k w last ≡ []) × ([] ≡ choices))
        ⊎ ((g : ℕ) × Among (nexts harts k w last) g × Among (from_hart g (tails harts m k w last g)) choices)
        → Later harts m → BoundedFrom (suc m) k w last choices
    by (inl none) later =
        subst (BoundedFrom (suc m) k w last) none.1
        (none_yet (suc m) k w last (none_whole m w (none_next harts k w last fits none.0)))
    by (inr at) later =
        after_one harts m k w last choices at.0 fits later (next_may harts k w last at.0 at.1) at.2

-- the first choice of a schedule
first_may : (k : ℕ) (w : World) (last : Option ℕ) (c : Choice) (rest : List Choice)
    → AreOfRunning w (c ∷ rest) → preemptions_after w last (c ∷ rest) ≤ k → MayStep k w last c.hart
first_may k w last c rest steps few = (steps.1, omega (arith, few))

-- a choice before a schedule
before_in : (harts m k : ℕ) (w : World) (last : Option ℕ) (c : Choice) (rest : List Choice) → Fits harts w → MayStep k w last c.hart
    → c ≡ plain_choice c.hart → Among (bounded harts m (k - preemption w last c.hart) (step w c) (Some c.hart)) rest
    → Among (bounded harts (suc m) k w last) (c ∷ rest)
before_in harts m k w last c rest fits may plain h =
    subst (λ (first : Choice). Among (bounded harts (suc m) k w last) (first ∷ rest)) (sym plain)
    (behind_in harts m k w last c.hart rest fits may
    (subst (λ v. Among (bounded harts m (k - preemption w last c.hart) v (Some c.hart)) rest) (ap (step w) plain) h))

pub are_bounded : (harts m k : ℕ) (w : World) (last : Option ℕ) (choices : List Choice) → Fits harts w
    → AreOfRunning w choices → preemptions_after w last choices ≤ k → IsToTheEnd m w choices → Among (bounded harts m k w last) choices
are_bounded harts zero k w last [] fits steps few whole = zero_in harts k w last
are_bounded harts zero k w last (c ∷ rest) fits steps few (inl e) = absurd (omega (arith, e))
are_bounded harts zero k w last (c ∷ rest) fits steps few (inr h) = absurd (let less = h.0 in omega (arith, less))
are_bounded harts (suc m) k w last [] fits steps few whole =
    empty_in harts m k w last (next_none harts k w last (whole_none m w whole))
are_bounded harts (suc m) k w last (c ∷ rest) fits steps few whole =
    before_in harts m k w last c rest fits (first_may k w last c rest steps few) steps.0
    (are_bounded harts m (k - preemption w last c.hart) (step w c) (Some c.hart) rest (fits_after harts w c fits) steps.2
    (omega (arith, few)) (whole_less m w c rest whole))

-- ---- each list of steps is the beginning of a schedule
abbrev pub Begins : ℕ → ℕ → ℕ → World → Option ℕ → List Choice → Type 0
Begins harts m k w last choices = (more : List Choice) × Among (bounded harts m k w last) (choices ++ more)

pub begins : (harts m k : ℕ) (w : World) (last : Option ℕ) (choices : List Choice) → Fits harts w
    → AreOfRunning w choices → preemptions_after w last choices ≤ k → length choices ≤ m → Begins harts m k w last choices
begins harts zero k w last [] fits steps few short = ([], zero_in harts k w last)
begins harts zero k w last (c ∷ rest) fits steps few short = absurd (omega (arith, short))
begins harts (suc m) k w last [] fits steps few short =
    by (nexts harts k w last) refl
    (λ n v hart small. begins harts m n v hart [] small tt (omega arith) (omega arith))
  where
    by : (hs : List ℕ) → nexts harts k w last ≡ hs
        → ((n : ℕ) (v : World) (hart : Option ℕ) → Fits harts v → Begins harts m n v hart [])
        → Begins harts (suc m) k w last []
    by [] e later = ([], empty_in harts m k w last e)
    by (g ∷ hs) e later =
        let may = next_may harts k w last g (subst (λ gs. Among gs g) (sym e) (inl refl)) in
        let more = later (k - preemption w last g) (step w (plain_choice g)) (Some g) (fits_after harts w (plain_choice g) fits) in
        (plain_choice g ∷ more.0, behind_in harts m k w last g more.0 fits may more.1)
begins harts (suc m) k w last (c ∷ rest) fits steps few short =
    let more = begins harts m (k - preemption w last c.hart) (step w c) (Some c.hart) rest (fits_after harts w c fits) steps.2
    (omega (arith, few)) (omega (arith, short)) in
    (more.0, before_in harts m k w last c (rest ++ more.0) fits (first_may k w last c rest steps few) steps.0 more.1)

-- ---- choices of harts that don't run
pub run_steps : (w : World) (choices : List Choice) → run w (steps_of w choices) ≡ run w choices
unfolding run
run_steps w [] = refl
run_steps w (c ∷ rest) = by (runs w.harts c.hart) refl (run_steps (step w c) rest) (run_steps w rest)
  where
    by : (b : Bool) → runs w.harts c.hart ≡ b
        → run (step w c) (steps_of (step w c) rest) ≡ run (step w c) rest → run w (steps_of w rest) ≡ run w rest
        → run w (if b then c ∷ steps_of (step w c) rest else steps_of w rest) ≡ run (step w c) rest
    by true here after same = after
    by false here after same = same ∙ ap (λ v. run v rest) (sym (step-stopped w c here))

pub steps_are : (w : World) (choices : List Choice) → All (λ c. c ≡ plain_choice c.hart) choices → AreOfRunning w (steps_of w choices)
steps_are w [] plain = tt
steps_are w (c ∷ rest) plain =
    let others_plain = All-tail (λ (c : Choice). c ≡ plain_choice c.hart) c rest plain in
    by (runs w.harts c.hart) refl (steps_are (step w c) rest others_plain) (steps_are w rest others_plain)
  where
    by : (b : Bool) → runs w.harts c.hart ≡ b → AreOfRunning (step w c) (steps_of (step w c) rest) → AreOfRunning w (steps_of w rest)
        → AreOfRunning w (if b then c ∷ steps_of (step w c) rest else steps_of w rest)
    by true here after same = (All-head (λ (c : Choice). c ≡ plain_choice c.hart) c rest plain, here, after)
    by false here after same = same

pub steps_fewer : (w : World) (choices : List Choice) → length (steps_of w choices) ≤ length choices
steps_fewer w [] = omega arith
steps_fewer w (c ∷ rest) = by (runs w.harts c.hart) (steps_fewer (step w c) rest) (steps_fewer w rest)
  where
    by : (b : Bool) → length (steps_of (step w c) rest) ≤ length rest → length (steps_of w rest) ≤ length rest
        → length (if b then c ∷ steps_of (step w c) rest else steps_of w rest) ≤ suc (length rest)
    by true after same = omega (arith, after)
    by false after same = omega (arith, same)
