-- Harts by index, their steps one at a time, the harts of a start, and counts of choices.
use Rattle.std.proofs.Common.{◌≡◌, ◌≢◌, ℕ, zero, suc, ◌+◌, ◌<◌, Bool, true, false, if◌then◌else◌, ◌==◌, ◌&&◌, List, [], ◌∷◌, length, get_or, set, Option, Some, None, refl, sym, ap, ◌∙◌, ◌⊎◌, inl, inr, arith, eq-eqb, ne_eqb, subst}
use Rattle.std.specs.List.{All}
use Rattle.std.proofs.lemmas.List.{get_or-set_same, get_or-set_other}
use Rattle.std.proofs.lemmas.Option.{slice_get-get_or}
use Rattle.hart_reservations.specs.Marks.{names}
use Rattle.hart_step.specs.Hart.{HartValue}
use Rattle.hart_step.specs.Effect.{site}
use Rattle.hart_step.specs.Step.{by_state, stepped}
use Rattle.hart_step.specs.declared.hart.HartState.TheVariants.{Running}
use Rattle.machine.specs.World.{World, placed, step, step_of}
use Rattle.machine.specs.Start.{first_harts, first_registers}
use Rattle.machine.specs.declared.choice.Choice.{Choice}
use Rattle.machine.specs.Chosen.{own, refusals}
use Rattle.object_library.proofs.Shape.{on}

-- the item past the last hart
abbrev pub nobody : HartValue
nobody = record { registers = λ r. 0; pc = 0; state = Running }

abbrev pub hart_at : List HartValue → ℕ → HartValue
hart_at harts h = get_or harts h nobody

-- a world after a step of hart h, which is `hart`
abbrev pub turn : World → ℕ → Bool → HartValue → World
turn w h refuse hart = placed w h (by_state hart.state (site hart w.memory w.reserved) h refuse)

pub step-turn : (w : World) (c : Choice) → c.hart < length w.harts → step w c ≡ turn w c.hart c.refuse (hart_at w.harts c.hart)
unfolding step stepped
step-turn w c lt = ap (λ (o : Option HartValue). step_of w c o) (slice_get-get_or w.harts c.hart nobody lt)

pub same_or_not : (k h : ℕ) → (k ≡ h) ⊎ (k ≢ h)
same_or_not k h = grind arith

-- after one hart moved: what holds of it, and of each other
pub each_set : (n : ℕ) (P : ℕ → HartValue → Type 0) (harts : List HartValue) (h : ℕ) (hart : HartValue) → length harts ≡ n → h < n → P h hart →
    ((k : ℕ) → k < n → k ≢ h → P k (hart_at harts k)) → (k : ℕ) → k < n → P k (hart_at (set harts h hart) k)
each_set n P harts h hart count lt own others k small = go (same_or_not k h)
  where
    go : (k ≡ h) ⊎ (k ≢ h) → P k (hart_at (set harts h hart) k)
    go (inl e) =
        let inside : h < length harts = omega arith in
        subst (λ (j : ℕ). P j (hart_at (set harts h hart) j)) (sym e) (rw (get_or-set_same harts h hart nobody inside) own)
    go (inr ne) = rw (get_or-set_other harts h k hart nobody ne) (others k small ne)

-- inside a list the default does not matter
pub same_default : (harts : List HartValue) (k : ℕ) (d : HartValue) → k < length harts → hart_at harts k ≡ get_or harts k d
same_default [] k d small = absurd (omega arith)
same_default (x ∷ xs) zero d small = refl
same_default (x ∷ xs) (suc k) d small = same_default xs k d (omega arith)

-- what holds of each hart by its number holds of all
pub all_harts : (P : HartValue → Type 0) (harts : List HartValue) → ((k : ℕ) → k < length harts → P (hart_at harts k)) → All P harts
all_harts P harts each k d small = subst P (same_default harts k d small) (each k small)

-- the harts at the start
pub first_at : (entry n j : ℕ) (inputs : List ℕ) (h : ℕ) → h < length inputs →
    hart_at (first_harts entry n j inputs) h ≡ on (first_registers (j + h) (get_or inputs h 0) n) entry
first_at entry n j [] h lt = absurd (omega arith)
first_at entry n j (x ∷ xs) zero lt = rw (let e : j + 0 ≡ j = omega arith in e)
first_at entry n j (x ∷ xs) (suc h) lt = first_at entry n (j + 1) xs h (omega arith) ∙ ap (λ (m : ℕ). on (first_registers m (get_or xs h 0) n) entry) (omega arith)

pub first_count : (entry n j : ℕ) (inputs : List ℕ) → length (first_harts entry n j inputs) ≡ length inputs
first_count entry n j [] = refl
first_count entry n j (x ∷ xs) = ap suc (first_count entry n (j + 1) xs)

-- counters of the harts' choices
abbrev pub bump : ℕ → (ℕ → ℕ) → ℕ → ℕ
bump h count k = if h == k then count k + 1 else count k

abbrev pub bump_if : Bool → ℕ → (ℕ → ℕ) → ℕ → ℕ
bump_if b h count k = if h == k && b then count k + 1 else count k

pub bump_same : (h : ℕ) (count : ℕ → ℕ) → bump h count h ≡ count h + 1
bump_same h count = rw (eq-eqb h h refl)

pub bump_other : (h k : ℕ) (count : ℕ → ℕ) → k ≢ h → bump h count k ≡ count k
bump_other h k count ne = rw (ne_eqb h k (λ e. ne (sym e)))

pub bump_if_other : (b : Bool) (h k : ℕ) (count : ℕ → ℕ) → k ≢ h → bump_if b h count k ≡ count k
bump_if_other b h k count ne = rw (ne_eqb h k (λ e. ne (sym e)))

abbrev pub spent_after : List Choice → (ℕ → ℕ) → ℕ → ℕ
spent_after [] count = count
spent_after (c ∷ cs) count = spent_after cs (bump c.hart count)

abbrev pub refused_after : List Choice → (ℕ → ℕ) → ℕ → ℕ
refused_after [] count = count
refused_after (c ∷ cs) count = refused_after cs (bump_if c.refuse c.hart count)

pub spent_own : (cs : List Choice) (count : ℕ → ℕ) (k : ℕ) → spent_after cs count k ≡ count k + own cs k
spent_own [] count k = omega arith
spent_own (c ∷ cs) count k = spent_own cs (bump c.hart count) k ∙ by_test (c.hart == k)
  where
    by_test : (b : Bool) → (if b then count k + 1 else count k) + own cs k ≡ count k + ((if b then 1 else 0) + own cs k)
    by_test true = omega arith
    by_test false = omega arith

pub refused_own : (cs : List Choice) (count : ℕ → ℕ) (k : ℕ) → refused_after cs count k ≡ count k + refusals cs k
refused_own [] count k = omega arith
refused_own (c ∷ cs) count k = refused_own cs (bump_if c.refuse c.hart count) k ∙ by_test (c.hart == k && c.refuse)
  where
    by_test : (b : Bool) → (if b then count k + 1 else count k) + refusals cs k ≡ count k + ((if b then 1 else 0) + refusals cs k)
    by_test true = omega arith
    by_test false = omega arith

-- what is left of a reservation when a word is stored to
abbrev pub lost : ℕ → Option ℕ → Option ℕ
lost w r = if names r w then None else r

-- reservations that only ever name one word
pub lost_same : (w : ℕ) (r : Option ℕ) → (r ≡ None) ⊎ (r ≡ Some w) → lost w r ≡ None
lost_same w r (inl e) = rw e
lost_same w r (inr e) = rw (e, eq-eqb w w refl)

pub lost_other : (w v : ℕ) (r : Option ℕ) → (r ≡ None) ⊎ (r ≡ Some w) → w ≢ v → lost v r ≡ r
lost_other w v r (inl e) ne = rw e
lost_other w v r (inr e) ne = rw (e, ne_eqb w v ne)
