-- Bursts, drawn a choice at a time.
use Rattle.std.proofs.Common.{◌≡◌, ◌≢◌, ℕ, zero, suc, ◌+◌, ◌-◌, ◌*◌, ◌%◌, ◌<◌, ◌≤◌, Bool, [], ◌∷◌, refl, arith, ap, ap₂, sym, subst, ◌∙◌, mod-lt, if◌then◌else◌}
use Rattle.std.proofs.lemmas.Bool.{ne_eqb}
use Rattle.std.proofs.lemmas.List.Elements.{All-nil, All-cons}
use Rattle.std.specs.List.{All}
use Rattle.machine.specs.declared.choice.Choice.{Choice}
use Rattle.rand_pcg.specs.Lcg.{Lcg}
use Rattle.rand_pcg.specs.Pcg.{pcg32}
use Rattle.sched_draw.specs.Refusing.{is_refused}
use Rattle.sched_draw.specs.declared.refusals.Refusals.{Refusals}
use Rattle.sched_draw.specs.NoSteps.{no_bursts}
use Rattle.sched_draw.specs.Bursts.{BurstDrawing, burst_drawn, in_burst, next_burst_choice, after_burst_choice, burst_choices_drawn, burst_drawing, burst_choices}

-- a burst ends where none of its choices is left
pub begun : (d : BurstDrawing) → d.left ≡ 0 → in_burst d ≡ burst_drawn d
unfolding in_burst
begun d none = stands d d.left none refl
  where
    stands : (d : BurstDrawing) (n : ℕ) → n ≡ 0 → d.left ≡ n → in_burst d ≡ burst_drawn d
    stands d zero none is = rw is refl
    stands d (suc n) none is = absurd (omega (arith, none))

pub same : (d : BurstDrawing) → d.left ≢ 0 → in_burst d ≡ d
unfolding in_burst
same d some = ap (λ b. if b then burst_drawn d else d) (ne_eqb d.left 0 some)

-- two words draw a burst
pub drawn : (d : BurstDrawing) (hart left : ℕ) (g h : Lcg) → d.left ≡ 0 → (hart, g) ≡ pcg32 d.generator → (left, h) ≡ pcg32 g → 0 < d.mean
    → record { harts = d.harts; mean = d.mean; refusals = d.refusals; hart = hart % d.harts; left = left % (d.mean - 1 + d.mean) + 1; generator = h } ≡ in_burst d
unfolding burst_drawn
drawn d hart left g h none first second some =
    let greatest : d.mean - 1 + d.mean ≡ 2 * d.mean - 1 = omega (arith, some) in
    ap (λ n. record { harts = d.harts; mean = d.mean; refusals = d.refusals; hart = hart % d.harts; left = left % n + 1; generator = h }) greatest
    ∙ ap (λ p. record d { hart = hart % d.harts; left = p.0 % (2 * d.mean - 1) + 1; generator = p.1 }) second
    ∙ ap (λ p. record d { hart = p.0 % d.harts; left = (pcg32 p.1).0 % (2 * d.mean - 1) + 1; generator = (pcg32 p.1).1 }) first
    ∙ sym (begun d none)

-- the refusals stay
in_burst-refusals : (d : BurstDrawing) → (in_burst d).refusals ≡ d.refusals
unfolding burst_drawn
in_burst-refusals d = stands d d.left refl
  where
    stands : (d : BurstDrawing) (n : ℕ) → d.left ≡ n → (in_burst d).refusals ≡ d.refusals
    stands d zero is = ap (λ b. b.refusals) (begun d is)
    stands d (suc n) is = ap (λ b. b.refusals) (same d (λ none. absurd (omega (arith, none, is))))

-- a word more draws the next choice
pub chosen : (d e : BurstDrawing) (word : ℕ) (g : Lcg) → e ≡ in_burst d → (word, g) ≡ pcg32 e.generator
    → (refuse : Bool) → refuse ≡ is_refused e.refusals word → record { hart = e.hart; refuse = refuse } ≡ next_burst_choice d
unfolding next_burst_choice
chosen d e word g is took refuse refused =
    let kept : e.refusals ≡ d.refusals = ap (λ b. b.refusals) is ∙ in_burst-refusals d in
    ap {A = Bool} {B = Choice} (λ r. record { hart = e.hart; refuse = r }) (refused ∙ ap (λ r. is_refused r word) kept)
    ∙ ap {A = ℕ × Lcg} {B = Choice} (λ p. record { hart = e.hart; refuse = is_refused d.refusals p.0 }) took
    ∙ ap {A = BurstDrawing} {B = Choice} (λ b. record { hart = b.hart; refuse = is_refused d.refusals (pcg32 b.generator).0 }) is

pub left_behind : (d e : BurstDrawing) (word : ℕ) (g : Lcg) → e ≡ in_burst d → (word, g) ≡ pcg32 e.generator
    → record { harts = e.harts; mean = e.mean; refusals = e.refusals; hart = e.hart; left = e.left - 1; generator = g } ≡ after_burst_choice d
unfolding after_burst_choice
left_behind d e word g is took =
    ap {A = ℕ × Lcg} (λ p. record e { left = e.left - 1; generator = p.1 }) took
    ∙ ap {A = BurstDrawing} (λ b. record b { left = b.left - 1; generator = (pcg32 b.generator).1 }) is

-- harts stay, and a burst's hart is one of them
pub in_burst-harts : (d : BurstDrawing) → (in_burst d).harts ≡ d.harts
unfolding burst_drawn
in_burst-harts d = stands d d.left refl
  where
    stands : (d : BurstDrawing) (n : ℕ) → d.left ≡ n → (in_burst d).harts ≡ d.harts
    stands d zero is = ap (λ b. b.harts) (begun d is)
    stands d (suc n) is = ap (λ b. b.harts) (same d (λ none. absurd (omega (arith, none, is))))

pub in_burst-there : (d : BurstDrawing) → d.hart < d.harts → (in_burst d).hart < d.harts
unfolding burst_drawn
in_burst-there d there = stands d d.left refl there
  where
    stands : (d : BurstDrawing) (n : ℕ) → d.left ≡ n → d.hart < d.harts → (in_burst d).hart < d.harts
    stands d zero is there = rw (begun d is) (mod-lt (pcg32 d.generator).0 (omega (arith, there)))
    stands d (suc n) is there = rw (same d (λ none. absurd (omega (arith, none, is)))) there

pub after-harts : (d : BurstDrawing) → (after_burst_choice d).harts ≡ d.harts
unfolding after_burst_choice
after-harts d = in_burst-harts d

after-there : (d : BurstDrawing) → d.hart < d.harts → (after_burst_choice d).hart < (after_burst_choice d).harts
unfolding after_burst_choice
after-there d there = rw (in_burst-harts d) (in_burst-there d there)

next-there : (d : BurstDrawing) → d.hart < d.harts → (next_burst_choice d).hart < d.harts
unfolding next_burst_choice
next-there d there = in_burst-there d there

-- each choice that is drawn names a hart that exists
pub drawn_within : (steps : ℕ) (d : BurstDrawing) → d.hart < d.harts → All (λ c. c.hart < d.harts) (burst_choices_drawn steps d)
unfolding burst_choices_drawn
drawn_within zero d there = All-nil (λ (c : Choice). c.hart < d.harts)
drawn_within (suc steps) d there =
    All-cons (λ (c : Choice). c.hart < d.harts) (next_burst_choice d) (burst_choices_drawn steps (after_burst_choice d)) (next-there d there)
    (subst (λ n. All (λ (c : Choice). c.hart < n) (burst_choices_drawn steps (after_burst_choice d))) (after-harts d)
    (drawn_within steps (after_burst_choice d) (after-there d there)))

pub burst_choices-within : (refusals : Refusals) (harts mean steps seed : ℕ) → 0 < harts
    → All (λ c. c.hart < harts) (burst_choices refusals harts mean steps seed)
unfolding burst_drawing
burst_choices-within refusals harts mean steps seed some = drawn_within steps (burst_drawing harts mean refusals seed) some

drawn-suc : (n : ℕ) (d : BurstDrawing) → burst_choices_drawn (suc n) d ≡ next_burst_choice d ∷ burst_choices_drawn n (after_burst_choice d)
unfolding burst_choices_drawn
drawn-suc n d = refl

-- the next choice, and those after it
pub drawn-next : (n : ℕ) (d e : BurstDrawing) (c : Choice) → c ≡ next_burst_choice d → e ≡ after_burst_choice d
    → burst_choices_drawn (n + 1) d ≡ c ∷ burst_choices_drawn n e
drawn-next n d e c choice state =
    let s : n + 1 ≡ suc n = omega arith in
    ap (λ k. burst_choices_drawn k d) s ∙ drawn-suc n d ∙ ap₂ (λ x y. x ∷ burst_choices_drawn n y) (sym choice) (sym state)

-- a burst that has begun is that of the next choice
in_burst-some : (d : BurstDrawing) → 0 < (in_burst d).left
unfolding burst_drawn
in_burst-some d = stands d d.left refl
  where
    stands : (d : BurstDrawing) (n : ℕ) → d.left ≡ n → 0 < (in_burst d).left
    stands d zero is = rw (begun d is) (omega arith)
    stands d (suc n) is = rw (same d (λ none. absurd (omega (arith, none, is)))) (omega (arith, is))

again : (d : BurstDrawing) → in_burst (in_burst d) ≡ in_burst d
again d = let some = in_burst-some d in same (in_burst d) (λ none. absurd (omega (arith, some, none)))

pub next-again : (d : BurstDrawing) → next_burst_choice (in_burst d) ≡ next_burst_choice d
unfolding next_burst_choice
next-again d =
    ap₂ {A = BurstDrawing} {B = Refusals} {C = Choice} (λ b r. record { hart = b.hart; refuse = is_refused r (pcg32 b.generator).0 })
    (again d) (in_burst-refusals d)

pub after-again : (d : BurstDrawing) → after_burst_choice (in_burst d) ≡ after_burst_choice d
unfolding after_burst_choice
after-again d = ap {A = BurstDrawing} (λ b. record b { left = b.left - 1; generator = (pcg32 b.generator).1 }) (again d)

-- the choices are those that are drawn once their burst has begun
pub drawn-again : (n : ℕ) (d : BurstDrawing) → burst_choices_drawn n (in_burst d) ≡ burst_choices_drawn n d
drawn-again zero d = no_bursts (in_burst d) ∙ sym (no_bursts d)
drawn-again (suc n) d =
    drawn-suc n (in_burst d) ∙ ap₂ (λ c b. c ∷ burst_choices_drawn n b) (next-again d) (after-again d) ∙ sym (drawn-suc n d)

after-left : (d : BurstDrawing) → (after_burst_choice d).left ≡ (in_burst d).left - 1
unfolding after_burst_choice
after-left d = refl

after-hart : (d : BurstDrawing) → (after_burst_choice d).hart ≡ (in_burst d).hart
unfolding after_burst_choice
after-hart d = refl

next-hart : (d : BurstDrawing) → (next_burst_choice d).hart ≡ (in_burst d).hart
unfolding next_burst_choice
next-hart d = refl

-- a burst of which more than one choice is left goes on
goes_on : (n : ℕ) (d : BurstDrawing) → suc (suc n) ≤ (in_burst d).left → in_burst (after_burst_choice d) ≡ after_burst_choice d
goes_on n d more = same (after_burst_choice d) (λ none. absurd (omega (arith, more, none, after-left d)))

-- the next n choices of a burst with as many left are of its hart
pub of_one_hart : (n : ℕ) (d : BurstDrawing) → n ≤ (in_burst d).left → All (λ c. c.hart ≡ (in_burst d).hart) (burst_choices_drawn n d)
unfolding burst_choices_drawn
of_one_hart zero d few = All-nil (λ (c : Choice). c.hart ≡ (in_burst d).hart)
of_one_hart (suc zero) d few =
    All-cons (λ (c : Choice). c.hart ≡ (in_burst d).hart) (next_burst_choice d) [] (next-hart d)
    (All-nil (λ (c : Choice). c.hart ≡ (in_burst d).hart))
of_one_hart (suc (suc n)) d few =
    let on = goes_on n d few in
    let hart : (in_burst (after_burst_choice d)).hart ≡ (in_burst d).hart = ap (λ b. b.hart) on ∙ after-hart d in
    let left : (in_burst (after_burst_choice d)).left ≡ (in_burst d).left - 1 = ap (λ b. b.left) on ∙ after-left d in
    All-cons (λ (c : Choice). c.hart ≡ (in_burst d).hart) (next_burst_choice d) (burst_choices_drawn (suc n) (after_burst_choice d)) (next-hart d)
    (subst (λ h. All (λ (c : Choice). c.hart ≡ h) (burst_choices_drawn (suc n) (after_burst_choice d))) hart
    (of_one_hart (suc n) (after_burst_choice d) (omega (arith, few, left))))

pub begins_there : (d : BurstDrawing) → 0 < d.harts → (burst_drawn d).hart < d.harts
unfolding burst_drawn
begins_there d some = mod-lt (pcg32 d.generator).0 some

pub begins_some : (d : BurstDrawing) → 0 < (burst_drawn d).left
unfolding burst_drawn
begins_some d = omega arith

pub begins_most : (d : BurstDrawing) → 0 < d.mean → (burst_drawn d).left ≤ 2 * d.mean - 1
unfolding burst_drawn
begins_most d some =
    let below : (pcg32 (pcg32 d.generator).1).0 % (2 * d.mean - 1) < 2 * d.mean - 1
    = mod-lt (pcg32 (pcg32 d.generator).1).0 (omega (arith, some)) in
    omega (arith, below)
