-- Priorities: how they are drawn, and what is chosen by them.
use Rattle.std.proofs.Common.{◌≡◌, ◌≢◌, ℕ, zero, suc, ◌+◌, ◌-◌, ◌%◌, ◌<◌, ◌≤◌, ◌==◌, Bool, true, false, ◌||◌, not, List, [], ◌∷◌, ◌++◌, Option, Some, None, length, min, max, take, drop, filter, insert, refl, arith, ap, ap₂, sym, subst, ◌∙◌, mod-lt, true≢false, if◌then◌else◌, inl, inr, ◌⊎◌}
use Rattle.std.proofs.lemmas.Bool.{eq-eqb, eqb-true, ne_eqb}
use Rattle.std.proofs.lemmas.List.{take-append-drop, length_push}
use Rattle.std.proofs.lemmas.List.Edits.{length-insert}
use Rattle.std.proofs.lemmas.List.Elements.{All-nil, All-cons, All-head, All-tail, All-append, All-push, All-take, All-drop, All-weaker, All-filter, filter_passes, Contains-append_left, Contains-append_right, Contains-append_cases, Contains-push}
use Rattle.std.proofs.lemmas.Option.{slice_get_within}
use Rattle.std.specs.List.{All, Contains, slice_get}
use Rattle.rand_pcg.specs.Lcg.{Lcg}
use Rattle.rand_pcg.specs.Pcg.{pcg32}
use Rattle.hart_step.specs.Hart.{HartValue}
use Rattle.machine.specs.Running.{goes, runs}
use Rattle.machine.specs.World.{World, step, run}
use Rattle.machine.specs.declared.choice.Choice.{Choice}
use Rattle.machine.proofs.RunLaws.{run_length}
use Rattle.sched_draw.specs.Seeds.{generator_of}
use Rattle.sched_draw.specs.Refusing.{is_refused}
use Rattle.sched_draw.specs.Spinning.{WatchValue, spins, pauses, watch_after}
use Rattle.sched_draw.specs.ChangePoints.{places_of}
use Rattle.sched_draw.specs.declared.change_points.ChangePoints.{ChangePoints}
use Rattle.sched_draw.specs.declared.change_points.ChangePoints.TheVariants.{Anywhere, Within}
use Rattle.sched_draw.specs.declared.steps.Steps.{Steps}
use Rattle.sched_draw.specs.declared.refusals.Refusals.{Refusals}
use Rattle.sched_draw.specs.Priorities.{PriorityDrawing, with_priority_hart, with_harts, with_point, with_points, priority_drawing, first_running, next_priority_choice, fallen, is_point, order_after, after_priority_choice, WatchedDrawing, spins_there, pauses_there, waits_there, watched_there, waiting_fallen, after_choice_of, after_watched_choice, watched_drawing, priority_choices_drawn, priority_choices, NeverWaits, GivesWay}

-- ---- drawing
pub hart_placed : (d : PriorityDrawing) (hart word n : ℕ) (g : Lcg) (order : List ℕ) → (word, g) ≡ pcg32 d.generator → n ≡ length d.order
    → order ≡ insert d.order (word % (n + 1)) hart → record { order = order; points = d.points; generator = g } ≡ with_priority_hart hart d
unfolding with_priority_hart
hart_placed d hart word n g order took long is =
    ap {A = List ℕ} {B = PriorityDrawing} (λ xs. record { order = xs; points = d.points; generator = g })
    (is ∙ ap (λ m. insert d.order (word % (m + 1)) hart) long)
    ∙ ap {A = ℕ × Lcg} {B = PriorityDrawing} (λ p. record { order = insert d.order (p.0 % (length d.order + 1)) hart; points = d.points; generator = p.1 }) took

pub point_placed : (d : PriorityDrawing) (steps word : ℕ) (g : Lcg) (points : List ℕ) → (word, g) ≡ pcg32 d.generator
    → points ≡ d.points ++ word % steps ∷ [] → record { order = d.order; points = points; generator = g } ≡ with_point steps d
unfolding with_point
point_placed d steps word g points took is =
    ap {A = List ℕ} {B = PriorityDrawing} (λ xs. record { order = d.order; points = xs; generator = g }) is
    ∙ ap {A = ℕ × Lcg} {B = PriorityDrawing} (λ p. record { order = d.order; points = d.points ++ p.0 % steps ∷ []; generator = p.1 }) took

pub no_hart : (d : PriorityDrawing) → d ≡ with_harts 0 d
unfolding with_harts
no_hart d = refl

harts-suc : (n : ℕ) (d : PriorityDrawing) → with_harts (suc n) d ≡ with_priority_hart n (with_harts n d)
unfolding with_harts
harts-suc n d = refl

-- a hart more
pub harts-more : (n m : ℕ) (d e f : PriorityDrawing) → m ≡ n + 1 → e ≡ with_harts n d → f ≡ with_priority_hart n e → f ≡ with_harts m d
harts-more n m d e f more so_far is =
    let s : suc n ≡ m = omega (arith, more) in
    is ∙ ap (with_priority_hart n) so_far ∙ sym (harts-suc n d) ∙ ap (λ k. with_harts k d) s

pub no_point : (steps : ℕ) (d : PriorityDrawing) → d ≡ with_points steps 0 d
unfolding with_points
no_point steps d = refl

points-suc : (steps n : ℕ) (d : PriorityDrawing) → with_points steps (suc n) d ≡ with_point steps (with_points steps n d)
unfolding with_points
points-suc steps n d = refl

-- a change point more
pub points-more : (steps n m : ℕ) (d e f : PriorityDrawing) → m ≡ n + 1 → e ≡ with_points steps n d → f ≡ with_point steps e → f ≡ with_points steps m d
points-more steps n m d e f more so_far is =
    let s : suc n ≡ m = omega (arith, more) in
    is ∙ ap (with_point steps) so_far ∙ sym (points-suc steps n d) ∙ ap (λ k. with_points steps k d) s

pub all_drawn : (harts depth steps seed : ℕ) (e f : PriorityDrawing) (g : Lcg) → g ≡ generator_of seed
    → e ≡ with_harts harts (record { order = []; points = []; generator = g }) → f ≡ with_points steps (depth - 1) e
    → f ≡ priority_drawing harts depth steps seed
unfolding priority_drawing
all_drawn harts depth steps seed e f g begun ordered pointed =
    pointed ∙ ap (with_points steps (depth - 1)) (ordered ∙ ap (λ h. with_harts harts (record { order = []; points = []; generator = h })) begun)

-- ---- the next choice
pub chosen : (refusals : Refusals) (harts : List HartValue) (d : PriorityDrawing) (hart word : ℕ) (g : Lcg) → hart ≡ first_running harts d.order
    → (word, g) ≡ pcg32 d.generator → (refuse : Bool) → refuse ≡ is_refused refusals word
    → record { hart = hart; refuse = refuse } ≡ next_priority_choice refusals harts d
unfolding next_priority_choice
chosen refusals harts d hart word g first took refuse refused =
    ap {A = Bool} {B = Choice} (λ r. record { hart = hart; refuse = r }) refused
    ∙ ap {A = ℕ} {B = Choice} (λ h. record { hart = h; refuse = is_refused refusals word }) first
    ∙ ap {A = ℕ × Lcg} {B = Choice} (λ p. record { hart = first_running harts d.order; refuse = is_refused refusals p.0 }) took

pub left_behind : (place : ℕ) (harts : List HartValue) (d e : PriorityDrawing) (hart word : ℕ) (g : Lcg) → hart ≡ first_running harts d.order
    → (word, g) ≡ pcg32 d.generator → e ≡ record { order = order_after place hart d; points = d.points; generator = g }
    → e ≡ after_priority_choice place harts d
unfolding after_priority_choice
left_behind place harts d e hart word g first took is =
    is
    ∙ ap {A = ℕ} {B = PriorityDrawing} (λ h. record { order = order_after place h d; points = d.points; generator = g }) first
    ∙ ap {A = ℕ × Lcg} {B = PriorityDrawing} (λ p. record { order = order_after place (first_running harts d.order) d; points = d.points; generator = p.1 }) took

-- ---- the chosen hart, which may spin
next-hart : (refusals : Refusals) (harts : List HartValue) (d : PriorityDrawing) (c : Choice) → c ≡ next_priority_choice refusals harts d
    → c.hart ≡ first_running harts d.order
unfolding next_priority_choice
next-hart refusals harts d c is = ap (λ (x : Choice). x.hart) is

pub gone_on : (refusals : Refusals) (place : ℕ) (w : World) (d : WatchedDrawing) (c : Choice) (now : HartValue) (e f : PriorityDrawing)
    (does : Bool) (watch : Option WatchValue) → c ≡ next_priority_choice refusals w.harts d.drawing → slice_get w.harts c.hart ≡ Some now
    → e ≡ after_priority_choice place w.harts d.drawing → does ≡ (spins d.watch c.hart now || pauses w.memory now)
    → watch ≡ Some (watch_after d.watch c.hart now)
    → f ≡ waiting_fallen does c.hart e → record { drawing = f; watch = watch } ≡ after_watched_choice place w d
unfolding after_watched_choice
gone_on refusals place w d c now e f does watch choice there after waiting watched is =
    ap₂ {A = PriorityDrawing} {B = Option WatchValue} {C = WatchedDrawing} (λ x y. record { drawing = x; watch = y })
    (is ∙ ap₂ (λ b x. waiting_fallen b c.hart x) (waiting ∙ sym (ap (waits_there d.watch w.memory c.hart) there)) after)
    (watched ∙ sym (ap (watched_there d.watch c.hart) there))
    ∙ ap (λ h. after_choice_of h place w d) (next-hart refusals w.harts d.drawing c choice)

-- ---- the order has each hart
points-order : (steps n : ℕ) (d : PriorityDrawing) → (with_points steps n d).order ≡ d.order
unfolding with_points with_point
points-order steps zero d = refl
points-order steps (suc n) d = points-order steps n d

place_within : (word n : ℕ) → word % (n + 1) ≤ n
place_within word n = let below : word % (n + 1) < n + 1 = mod-lt word (omega arith) in omega (arith, below)

harts-length : (n : ℕ) (d : PriorityDrawing) → d.order ≡ [] → length (with_harts n d).order ≡ n
unfolding with_harts with_priority_hart
harts-length zero d none = ap length none
harts-length (suc n) d none =
    let e = with_harts n d in
    length-insert e.order ((pcg32 e.generator).0 % (length e.order + 1)) n (place_within (pcg32 e.generator).0 (length e.order))
    ∙ ap (λ k. k + 1) (harts-length n d none) ∙ omega arith

inserted-new : (xs : List ℕ) (i x : ℕ) → Contains (insert xs i x) x
inserted-new xs i x =
    Contains-append_right (take i xs) (x ∷ drop i xs) x (Contains-append_left (x ∷ []) (drop i xs) x (Contains-push [] x))

inserted-old : (xs : List ℕ) (i x y : ℕ) → Contains xs y → Contains (insert xs i x) y
inserted-old xs i x y there =
    either (Contains-append_cases (take i xs) (drop i xs) y (subst (λ zs. Contains zs y) (sym (take-append-drop i xs)) there))
  where
    either : Contains (take i xs) y ⊎ Contains (drop i xs) y → Contains (insert xs i x) y
    either (inl front) = Contains-append_left (take i xs) (x ∷ drop i xs) y front
    either (inr back) = Contains-append_right (take i xs) (x ∷ drop i xs) y (Contains-append_right (x ∷ []) (drop i xs) y back)

harts-each : (n : ℕ) (d : PriorityDrawing) (hart : ℕ) → hart < n → Contains (with_harts n d).order hart
unfolding with_harts with_priority_hart
harts-each zero d hart below = absurd (omega (arith, below))
harts-each (suc n) d hart below = either (hart == n) refl (λ lower. harts-each n d hart lower)
  where
    e : PriorityDrawing
    e = with_harts n d

    i : ℕ
    i = (pcg32 e.generator).0 % (length e.order + 1)

    either : (b : Bool) → (hart == n) ≡ b → (hart < n → Contains e.order hart) → Contains (insert e.order i n) hart
    either true same lower =
        subst (λ h. Contains (insert e.order i n) h) (sym (eqb-true hart n same)) (inserted-new e.order i n)
    either false other lower =
        let differs : hart ≢ n = λ same. true≢false (sym (eq-eqb hart n same) ∙ other) in
        inserted-old e.order i n hart (lower (omega (arith, below, differs)))

harts-there : (n : ℕ) (d : PriorityDrawing) → d.order ≡ [] → All (λ h. h < n) (with_harts n d).order
unfolding with_harts with_priority_hart
harts-there zero d none = rw none (All-nil (λ h. h < 0))
harts-there (suc n) d none =
    let e = with_harts n d in
    let i = (pcg32 e.generator).0 % (length e.order + 1) in
    let all : All (λ h. h < suc n) e.order = All-weaker (λ h. h < n) (λ h. h < suc n) (λ h below. omega (arith, below)) e.order (harts-there n d none) in
    All-append (λ h. h < suc n) (take i e.order) (n ∷ drop i e.order) (All-take (λ h. h < suc n) i e.order all)
    (All-cons (λ h. h < suc n) n (drop i e.order) (omega arith) (All-drop (λ h. h < suc n) i e.order all))

pub order-length : (harts depth steps seed : ℕ) → length (priority_drawing harts depth steps seed).order ≡ harts
unfolding priority_drawing
order-length harts depth steps seed = ap length (points-order steps (depth - 1) _) ∙ harts-length harts _ refl

pub order-each : (harts depth steps seed hart : ℕ) → hart < harts → Contains (priority_drawing harts depth steps seed).order hart
unfolding priority_drawing
order-each harts depth steps seed hart below = rw (points-order steps (depth - 1) _) (harts-each harts _ hart below)

pub order-there : (harts depth steps seed : ℕ) → All (λ h. h < harts) (priority_drawing harts depth steps seed).order
unfolding priority_drawing
order-there harts depth steps seed = rw (points-order steps (depth - 1) _) (harts-there harts _ refl)

-- ---- change points
harts-points : (n : ℕ) (d : PriorityDrawing) → (with_harts n d).points ≡ d.points
unfolding with_harts with_priority_hart
harts-points zero d = refl
harts-points (suc n) d = harts-points n d

points-count : (steps n : ℕ) (d : PriorityDrawing) → d.points ≡ [] → length (with_points steps n d).points ≡ n
unfolding with_points with_point
points-count steps zero d none = ap length none
points-count steps (suc n) d none =
    length_push (with_points steps n d).points ((pcg32 (with_points steps n d).generator).0 % steps)
    ∙ ap (λ k. k + 1) (points-count steps n d none) ∙ omega arith

points-within : (steps n : ℕ) (d : PriorityDrawing) → d.points ≡ [] → 0 < steps → All (λ p. p < steps) (with_points steps n d).points
unfolding with_points with_point
points-within steps zero d none some = rw none (All-nil (λ p. p < steps))
points-within steps (suc n) d none some =
    All-push (λ p. p < steps) (with_points steps n d).points _ (points-within steps n d none some) (mod-lt _ some)

pub points-length : (harts depth steps seed : ℕ) → length (priority_drawing harts depth steps seed).points ≡ depth - 1
unfolding priority_drawing
points-length harts depth steps seed = points-count steps (depth - 1) _ (harts-points harts _)

pub points-there : (harts depth steps seed : ℕ) → 0 < steps → All (λ p. p < steps) (priority_drawing harts depth steps seed).points
unfolding priority_drawing
points-there harts depth steps seed some = points-within steps (depth - 1) _ (harts-points harts _) some

-- ---- the first hart that runs
first-head : (harts : List HartValue) (h : ℕ) (order : List ℕ) → runs harts h ≡ true → first_running harts (h ∷ order) ≡ h
first-head harts h order goes = ap (λ b. if b then h else first_running harts order) goes

first-next : (harts : List HartValue) (h : ℕ) (order : List ℕ) → runs harts h ≡ false
    → first_running harts (h ∷ order) ≡ first_running harts order
first-next harts h order stopped = ap (λ b. if b then h else first_running harts order) stopped

-- a hart that runs is after one that doesn't
behind : (harts : List HartValue) (h : ℕ) (order : List ℕ) (k : ℕ) → Contains (h ∷ order) k → runs harts h ≡ false → runs harts k ≡ true
    → Contains order k
behind harts h order k (zero, below, is) stopped going = absurd (true≢false (sym going ∙ ap (runs harts) (sym is) ∙ stopped))
behind harts h order k (suc i, below, is) stopped going = (i, omega (arith, below), is)

first-runs : (harts : List HartValue) (order : List ℕ) (k : ℕ) → Contains order k → runs harts k ≡ true
    → runs harts (first_running harts order) ≡ true
first-runs harts [] k (i, below, is) going = absurd (omega (arith, below))
first-runs harts (h ∷ order) k there going =
    either (runs harts h) refl (λ stopped. first-runs harts order k (behind harts h order k there stopped going) going)
  where
    either : (b : Bool) → runs harts h ≡ b → (runs harts h ≡ false → runs harts (first_running harts order) ≡ true)
        → runs harts (first_running harts (h ∷ order)) ≡ true
    either true going later = rw (first-head harts h order going) going
    either false stopped later = rw (first-next harts h order stopped) (later stopped)

-- the first that runs is among those before others, where one of them runs
first-among : (P : ℕ → Type 0) (harts : List HartValue) (xs ys : List ℕ) (k : ℕ) → All P xs → Contains xs k → runs harts k ≡ true
    → P (first_running harts (xs ++ ys))
first-among P harts [] ys k all (i, below, is) going = absurd (omega (arith, below))
first-among P harts (h ∷ xs) ys k all there going =
    either (runs harts h) refl
    (λ stopped. first-among P harts xs ys k (All-tail P h xs all) (behind harts h xs k there stopped going) going)
  where
    either : (b : Bool) → runs harts h ≡ b → (runs harts h ≡ false → P (first_running harts (xs ++ ys)))
        → P (first_running harts (h ∷ (xs ++ ys)))
    either true going later = rw (first-head harts h (xs ++ ys) going) (All-head P h xs all)
    either false stopped later = rw (first-next harts h (xs ++ ys) stopped) (later stopped)

pub first-below : (n : ℕ) (harts : List HartValue) (order : List ℕ) → 0 < n → All (λ h. h < n) order → first_running harts order < n
first-below n harts [] some all = some
first-below n harts (h ∷ order) some all =
    either (runs harts h) refl (first-below n harts order some (All-tail (λ k. k < n) h order all))
  where
    either : (b : Bool) → runs harts h ≡ b → first_running harts order < n → first_running harts (h ∷ order) < n
    either true going later = rw (first-head harts h order going) (All-head (λ k. k < n) h order all)
    either false stopped later = rw (first-next harts h order stopped) later

pub next-below : (refusals : Refusals) (n : ℕ) (harts : List HartValue) (d : PriorityDrawing) → 0 < n → All (λ h. h < n) d.order
    → (next_priority_choice refusals harts d).hart < n
unfolding next_priority_choice
next-below refusals n harts d some all = first-below n harts d.order some all

pub after-below : (n place : ℕ) (harts : List HartValue) (d : PriorityDrawing) → 0 < n → All (λ h. h < n) d.order
    → All (λ h. h < n) (after_priority_choice place harts d).order
unfolding after_priority_choice
after-below n place harts d some all = either (is_point place d.points) refl
  where
    hart : ℕ
    hart = first_running harts d.order

    either : (b : Bool) → is_point place d.points ≡ b → All (λ h. h < n) (if b then fallen hart d.order else d.order)
    either true there =
        All-push (λ h. h < n) (filter (λ other. not (other == hart)) d.order) hart
        (All-filter (λ other. not (other == hart)) (λ h. h < n) d.order all) (first-below n harts d.order some all)
    either false none = all

-- ---- a hart stays in the order
filter-keeps : (p : ℕ → Bool) (xs : List ℕ) (x : ℕ) → p x ≡ true → Contains xs x → Contains (filter p xs) x
filter-keeps p [] x passes (i, below, is) = absurd (omega (arith, below))
filter-keeps p (y ∷ ys) x passes (zero, below, is) =
    rw (ap (λ b. if b then y ∷ filter p ys else filter p ys) (ap p is ∙ passes))
    (subst (λ z. Contains (z ∷ filter p ys) x) (sym is) (Contains-append_left (x ∷ []) (filter p ys) x (Contains-push [] x)))
filter-keeps p (y ∷ ys) x passes (suc i, below, is) =
    either (p y) refl (filter-keeps p ys x passes (i, omega (arith, below), is))
  where
    either : (b : Bool) → p y ≡ b → Contains (filter p ys) x → Contains (filter p (y ∷ ys)) x
    either true keeps rest = rw keeps (Contains-append_right (y ∷ []) (filter p ys) x rest)
    either false drops rest = rw drops rest

fallen-keeps : (hart : ℕ) (order : List ℕ) (k : ℕ) → Contains order k → Contains (fallen hart order) k
fallen-keeps hart order k there = either (k == hart) refl
  where
    either : (b : Bool) → (k == hart) ≡ b → Contains (fallen hart order) k
    either true same =
        subst (λ h. Contains (fallen hart order) h) (sym (eqb-true k hart same))
        (Contains-push (filter (λ other. not (other == hart)) order) hart)
    either false other =
        Contains-append_left (filter (λ o. not (o == hart)) order) (hart ∷ []) k
        (filter-keeps (λ o. not (o == hart)) order k (ap not other) there)

after-keeps : (place : ℕ) (harts : List HartValue) (d : PriorityDrawing) (k : ℕ) → Contains d.order k → Contains (after_priority_choice place harts d).order k
unfolding after_priority_choice
after-keeps place harts d k there = either (is_point place d.points)
  where
    either : (b : Bool) → Contains (if b then fallen (first_running harts d.order) d.order else d.order) k
    either true = fallen-keeps (first_running harts d.order) d.order k there
    either false = there

-- where the chosen hart may fall once more, since it waits
waiting-keeps : (does : Bool) (hart : ℕ) (d : PriorityDrawing) (k : ℕ) → Contains d.order k → Contains (waiting_fallen does hart d).order k
waiting-keeps true hart d k there = fallen-keeps hart d.order k there
waiting-keeps false hart d k there = there

watched-keeps : (place : ℕ) (w : World) (d : WatchedDrawing) (k : ℕ) → Contains d.drawing.order k
    → Contains (after_watched_choice place w d).drawing.order k
unfolding after_watched_choice
watched-keeps place w d k there =
    let hart = first_running w.harts d.drawing.order in
    waiting-keeps (waits_there d.watch w.memory hart (slice_get w.harts hart)) hart (after_priority_choice place w.harts d.drawing) k
    (after-keeps place w.harts d.drawing k there)

waiting-below : (n : ℕ) (does : Bool) (hart : ℕ) (d : PriorityDrawing) → hart < n → All (λ h. h < n) d.order
    → All (λ h. h < n) (waiting_fallen does hart d).order
waiting-below n true hart d there all =
    All-push (λ h. h < n) (filter (λ other. not (other == hart)) d.order) hart
    (All-filter (λ other. not (other == hart)) (λ h. h < n) d.order all) there
waiting-below n false hart d there all = all

pub watched-below : (n place : ℕ) (w : World) (d : WatchedDrawing) → 0 < n → All (λ h. h < n) d.drawing.order
    → All (λ h. h < n) (after_watched_choice place w d).drawing.order
unfolding after_watched_choice
watched-below n place w d some all =
    let hart = first_running w.harts d.drawing.order in
    waiting-below n (waits_there d.watch w.memory hart (slice_get w.harts hart)) hart (after_priority_choice place w.harts d.drawing)
    (first-below n w.harts d.drawing.order some all) (after-below n place w.harts d.drawing some all)

-- ---- laws
runs-there : (harts : List HartValue) (k : ℕ) → runs harts k ≡ true → k < length harts
runs-there harts k going = either (slice_get harts k) refl
  where
    either : (o : Option HartValue) → slice_get harts k ≡ o → k < length harts
    either None none = absurd (true≢false (sym going ∙ ap goes none))
    either (Some h) there = slice_get_within harts k h there

step_length : (w : World) (c : Choice) → length (step w c).harts ≡ length w.harts
unfolding run
step_length w c = run_length w (c ∷ [])

never : (refusals : Refusals) (steps place : ℕ) (d : WatchedDrawing) (w : World)
    → ((k : ℕ) → k < length w.harts → Contains d.drawing.order k)
    → NeverWaits w (priority_choices_drawn refusals place steps d w)
unfolding priority_choices_drawn next_priority_choice
never refusals zero place d w each = tt
never refusals (suc steps) place d w each = (
  λ k going. first-runs w.harts d.drawing.order k (each k (runs-there w.harts k going)) going,
  never refusals steps (place + 1) (after_watched_choice place w d) (step w (next_priority_choice refusals w.harts d.drawing))
      (λ k below. watched-keeps place w d k
      (each k (subst (λ n. k < n) (step_length w (next_priority_choice refusals w.harts d.drawing)) below))),
)

pub never_waits : (w : World) (refusals : Refusals) (depth places steps seed : ℕ)
    → NeverWaits w (priority_choices w (length w.harts) depth places refusals steps seed)
never_waits w refusals depth places steps seed =
    never refusals steps 0 (watched_drawing (length w.harts) depth places seed) w (λ k below. order-each (length w.harts) depth places seed k below)

-- a hart that has fallen isn't the first that runs, while another one runs
last_waits : (hart other : ℕ) (order : List ℕ) (later : List HartValue) → Contains order other → other ≢ hart → runs later other ≡ true
    → first_running later (fallen hart order) ≢ hart
last_waits hart other order later has differs going same =
    let front = filter (λ o. not (o == hart)) order in
    let among : not (first_running later (front ++ hart ∷ []) == hart) ≡ true =
    first-among (λ h. not (h == hart) ≡ true) later front (hart ∷ []) other (filter_passes (λ o. not (o == hart)) order)
    (filter-keeps (λ o. not (o == hart)) order other (ap not (ne_eqb other hart differs)) has) going in
    true≢false (sym among ∙ ap not (eq-eqb (first_running later (front ++ hart ∷ [])) hart same))

-- where it falls at a change point, or since it waits
pub falls_at_point : (refusals : Refusals) (place other : ℕ) (w : World) (later : List HartValue) (d : WatchedDrawing)
    → is_point place d.drawing.points ≡ true
    → Contains d.drawing.order other → other ≢ (next_priority_choice refusals w.harts d.drawing).hart → runs later other ≡ true
    → (next_priority_choice refusals later (after_watched_choice place w d).drawing).hart
    ≢ (next_priority_choice refusals w.harts d.drawing).hart
unfolding next_priority_choice after_watched_choice after_priority_choice
falls_at_point refusals place other w later d there has differs going =
    either (waits_there d.watch w.memory hart (slice_get w.harts hart))
  where
    hart : ℕ
    hart = first_running w.harts d.drawing.order

    order : List ℕ
    order = order_after place hart d.drawing

    is : order ≡ fallen hart d.drawing.order
    is = ap (λ b. if b then fallen hart d.drawing.order else d.drawing.order) there

    kept : Contains order other
    kept = subst (λ xs. Contains xs other) (sym is) (fallen-keeps hart d.drawing.order other has)

    either : (b : Bool) → first_running later (if b then fallen hart order else order) ≢ hart
    either true = last_waits hart other order later kept differs going
    either false = λ same. last_waits hart other d.drawing.order later has differs going (ap (first_running later) (sym is) ∙ same)

falls_since_it_waits : (refusals : Refusals) (place other : ℕ) (w : World) (later : List HartValue) (d : WatchedDrawing)
    → waits_there d.watch w.memory (next_priority_choice refusals w.harts d.drawing).hart
    (slice_get w.harts (next_priority_choice refusals w.harts d.drawing).hart) ≡ true
    → Contains d.drawing.order other → other ≢ (next_priority_choice refusals w.harts d.drawing).hart → runs later other ≡ true
    → (next_priority_choice refusals later (after_watched_choice place w d).drawing).hart
    ≢ (next_priority_choice refusals w.harts d.drawing).hart
unfolding next_priority_choice after_watched_choice
falls_since_it_waits refusals place other w later d does has differs going =
    let hart = first_running w.harts d.drawing.order in
    let e = after_priority_choice place w.harts d.drawing in
    let is : (waiting_fallen (waits_there d.watch w.memory hart (slice_get w.harts hart)) hart e).order ≡ fallen hart e.order =
    ap (λ b. if b then fallen hart e.order else e.order) does in
    λ same. last_waits hart other e.order later (after-keeps place w.harts d.drawing other has) differs going
    (ap (first_running later) (sym is) ∙ same)

-- it waits since it spins, or since it pauses
waits-left : (b c : Bool) → b ≡ true → (b || c) ≡ true
waits-left b c does = ap (λ x. x || c) does

waits-right : (b c : Bool) → c ≡ true → (b || c) ≡ true
waits-right true c does = refl
waits-right false c does = does

pub falls_since_it_spins : (refusals : Refusals) (place other : ℕ) (w : World) (later : List HartValue) (d : WatchedDrawing)
    → spins_there d.watch (next_priority_choice refusals w.harts d.drawing).hart
    (slice_get w.harts (next_priority_choice refusals w.harts d.drawing).hart) ≡ true
    → Contains d.drawing.order other → other ≢ (next_priority_choice refusals w.harts d.drawing).hart → runs later other ≡ true
    → (next_priority_choice refusals later (after_watched_choice place w d).drawing).hart
    ≢ (next_priority_choice refusals w.harts d.drawing).hart
falls_since_it_spins refusals place other w later d does =
    let hart = (next_priority_choice refusals w.harts d.drawing).hart in
    let there = slice_get w.harts hart in
    falls_since_it_waits refusals place other w later d (waits-left (spins_there d.watch hart there) (pauses_there w.memory there) does)

pub falls_since_it_pauses : (refusals : Refusals) (place other : ℕ) (w : World) (later : List HartValue) (d : WatchedDrawing)
    → pauses_there w.memory (slice_get w.harts (next_priority_choice refusals w.harts d.drawing).hart) ≡ true
    → Contains d.drawing.order other → other ≢ (next_priority_choice refusals w.harts d.drawing).hart → runs later other ≡ true
    → (next_priority_choice refusals later (after_watched_choice place w d).drawing).hart
    ≢ (next_priority_choice refusals w.harts d.drawing).hart
falls_since_it_pauses refusals place other w later d does =
    let hart = (next_priority_choice refusals w.harts d.drawing).hart in
    let there = slice_get w.harts hart in
    falls_since_it_waits refusals place other w later d (waits-right (spins_there d.watch hart there) (pauses_there w.memory there) does)

-- in a run a hart that pauses isn't chosen next, while another one runs
gives : (refusals : Refusals) (steps place : ℕ) (d : WatchedDrawing) (w : World)
    → ((k : ℕ) → k < length w.harts → Contains d.drawing.order k)
    → GivesWay w (priority_choices_drawn refusals place steps d w)
unfolding priority_choices_drawn
gives refusals zero place d w each = tt
gives refusals (suc zero) place d w each = tt
gives refusals (suc (suc steps)) place d w each = (
  λ does other going differs.
      falls_since_it_pauses refusals place other w later.harts d does
      (each other (subst (λ n. other < n) (step_length w c) (runs-there later.harts other going))) differs going,
  gives refusals (suc steps) (place + 1) (after_watched_choice place w d) later
      (λ k below. watched-keeps place w d k (each k (subst (λ n. k < n) (step_length w c) below))),
)
  where
    c : Choice
    c = next_priority_choice refusals w.harts d.drawing

    later : World
    later = step w c

pub gives_way : (w : World) (refusals : Refusals) (depth places steps seed : ℕ)
    → GivesWay w (priority_choices w (length w.harts) depth places refusals steps seed)
gives_way w refusals depth places steps seed =
    gives refusals steps 0 (watched_drawing (length w.harts) depth places seed) w (λ k below. order-each (length w.harts) depth places seed k below)

-- ---- one more choice at a time
drawn-suc : (refusals : Refusals) (place n : ℕ) (d : WatchedDrawing) (w : World)
    → priority_choices_drawn refusals place (suc n) d w
    ≡ next_priority_choice refusals w.harts d.drawing
    ∷ priority_choices_drawn refusals (place + 1) n (after_watched_choice place w d) (step w (next_priority_choice refusals w.harts d.drawing))
unfolding priority_choices_drawn
drawn-suc refusals place n d w = refl

-- the next choice of a run, and those after it
pub drawn-next : (refusals : Refusals) (place n : ℕ) (d e : WatchedDrawing) (w : World) (c : Choice)
    → c ≡ next_priority_choice refusals w.harts d.drawing → e ≡ after_watched_choice place w d
    → priority_choices_drawn refusals place (n + 1) d w ≡ c ∷ priority_choices_drawn refusals (place + 1) n e (step w c)
drawn-next refusals place n d e w c choice state =
    let s : n + 1 ≡ suc n = omega arith in
    ap (λ k. priority_choices_drawn refusals place k d w) s ∙ drawn-suc refusals place n d w
    ∙ ap₂ (λ x f. x ∷ priority_choices_drawn refusals (place + 1) n f (step w x)) (sym choice) (sym state)

-- each choice that is drawn names a hart that exists
pub drawn-within : (refusals : Refusals) (n place steps : ℕ) (d : WatchedDrawing) (w : World) → 0 < n → All (λ h. h < n) d.drawing.order
    → All (λ c. c.hart < n) (priority_choices_drawn refusals place steps d w)
unfolding priority_choices_drawn
drawn-within refusals n place zero d w some all = All-nil (λ (c : Choice). c.hart < n)
drawn-within refusals n place (suc steps) d w some all =
    let c = next_priority_choice refusals w.harts d.drawing in
    let e = after_watched_choice place w d in
    All-cons (λ (c : Choice). c.hart < n) c (priority_choices_drawn refusals (place + 1) steps e (step w c))
    (next-below refusals n w.harts d.drawing some all)
    (drawn-within refusals n (place + 1) steps e (step w c) some (watched-below n place w d some all))

-- ---- where change points lie
pub points-in-run : (points : ChangePoints) (harts depth steps seed : ℕ) → 0 < steps
    → All (λ p. p < steps) (priority_drawing harts depth (places_of points steps) seed).points
points-in-run Anywhere harts depth steps seed some =
    let places : max steps 1 ≡ steps = omega (arith, some) in
    subst (λ n. All (λ p. p < steps) (priority_drawing harts depth n seed).points) (sym places) (points-there harts depth steps seed some)
points-in-run (Within first) harts depth steps seed some =
    let n : ℕ = min first.count (max steps 1) in
    let least : 0 < n = omega (arith, first.some, some) in
    let few : n ≤ steps = omega (arith, some) in
    λ i c below. (let here = points-there harts depth n seed least i c below in omega (arith, here, few))

pub points-within-first : (first : Steps) (harts depth steps seed : ℕ) → 0 < steps
    → All (λ p. p < first.count) (priority_drawing harts depth (places_of (Within first) steps) seed).points
points-within-first first harts depth steps seed some =
    let n : ℕ = min first.count (max steps 1) in
    let least : 0 < n = omega (arith, first.some, some) in
    let few : n ≤ first.count = omega arith in
    λ i c below. (let here = points-there harts depth n seed least i c below in omega (arith, here, few))

-- the choices of fewer steps are the first of those of more
drawn-take : (refusals : Refusals) (place n more : ℕ) (d : WatchedDrawing) (w : World)
    → take n (priority_choices_drawn refusals place (n + more) d w) ≡ priority_choices_drawn refusals place n d w
unfolding priority_choices_drawn
drawn-take refusals place zero more d w = refl
drawn-take refusals place (suc n) more d w =
    let s : suc n + more ≡ suc (n + more) = omega arith in
    let c = next_priority_choice refusals w.harts d.drawing in
    ap (λ k. take (suc n) (priority_choices_drawn refusals place k d w)) s
    ∙ ap (λ cs. c ∷ cs) (drawn-take refusals (place + 1) n more (after_watched_choice place w d) (step w c))

pub more-steps : (first : Steps) (w : World) (refusals : Refusals) (harts depth steps more seed : ℕ) → first.count ≤ steps
    → take steps (priority_choices w harts depth (places_of (Within first) (steps + more)) refusals (steps + more) seed)
    ≡ priority_choices w harts depth (places_of (Within first) steps) refusals steps seed
more-steps first w refusals harts depth steps more seed few =
    let same : min first.count (max (steps + more) 1) ≡ min first.count (max steps 1) = omega (arith, first.some, few) in
    ap (λ p. take steps (priority_choices_drawn refusals 0 (steps + more) (watched_drawing harts depth p seed) w)) same
    ∙ drawn-take refusals 0 steps more (watched_drawing harts depth (min first.count (max steps 1)) seed) w
