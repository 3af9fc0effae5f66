-- What is left of a walk, step by step.
use Rattle.std.proofs.Common.{◌≡◌, ℕ, zero, suc, ◌+◌, ◌-◌, ◌<◌, ◌≤◌, Bool, true, false, List, [], ◌∷◌, ◌++◌, Option, Some, None, map, length, cond, if◌then◌else◌, refl, arith, ap, ap₂, sym, ◌∙◌, subst, inl, inr}
use Rattle.std.proofs.lemmas.Bool.{true≢false}
use Rattle.std.proofs.lemmas.List.{append_assoc, append-nil, map-append}
use Rattle.std.proofs.lemmas.Grind.{flat_map-append}
use Rattle.std.specs.List.{filter, flat_map, range_with_len}
use Rattle.machine.specs.Running.{runs}
use Rattle.machine.specs.World.{World, step, run}
use Rattle.machine.specs.declared.choice.Choice.{Choice}
use Rattle.sched_draw.specs.Turns.{plain_choice}
use Rattle.campaign_bounded.specs.Bounded.{can_go_on, is_last, itself, may_take_over, others, nexts, preemption, from_hart, from_each, bounded}
use Rattle.campaign_bounded.specs.Walk.{Led, Spot, led_behind, spot_of, through, through_all, through_nodes}
use Rattle.campaign_bounded.specs.declared.node.Node.{Node}
use Rattle.mem_store.specs.Memory.{Memory}
use Rattle.campaign_bounded.proofs.AmongLemmas.{Among, filter_among}
use Rattle.campaign_bounded.specs.Spots.{after_step, nexts_at, option_list, takes_over, Branches}
use Rattle.campaign_bounded.proofs.BoundedLemmas.{bounded_zero, bounded_more, tails, take_may, itself_free}

-- lists behind one choice more
led_step : (before : List Choice) (w : World) (c : Choice) (lists : List (List Choice))
    → led_behind (before ++ c ∷ []) (step w c) lists ≡ led_behind before w (map (λ list. c ∷ list) lists)
unfolding run
led_step before w c [] = refl
led_step before w c (list ∷ lists) =
    ap₂ (λ (choices : List Choice) (more : List Led). record { choices = choices; world = run (step w c) list } ∷ more)
    (append_assoc before (c ∷ []) list) (led_step before w c lists)

led_append : (before : List Choice) (w : World) (a b : List (List Choice))
    → led_behind before w (a ++ b) ≡ led_behind before w a ++ led_behind before w b
led_append before w a b = map-append (λ (list : List Choice). record { choices = before ++ list; world = run w list }) a b

led_each : (before : List Choice) (w : World) (lists : ℕ → List (List Choice)) (hs : List ℕ)
    → led_behind before w (flat_map lists hs) ≡ flat_map (λ h. led_behind before w (lists h)) hs
led_each before w lists [] = refl
led_each before w lists (h ∷ hs) =
    led_append before w (lists h) (flat_map lists hs)
    ∙ ap (λ more. led_behind before w (lists h) ++ more) (led_each before w lists hs)

-- the schedules through the place after a step
through_after : (p : Spot) (g m : ℕ) → p.choices ≡ suc m
    → through (after_step p g) ≡ led_behind p.before p.world (from_hart g (tails p.harts m p.preemptions p.world p.last g))
through_after p g m e =
    let less : p.choices - 1 ≡ m = omega (arith, e) in
    led_step p.before p.world (plain_choice g)
    (bounded p.harts (p.choices - 1) (p.preemptions - preemption p.world p.last g) (step p.world (plain_choice g)) (Some g))
    ∙ ap (λ n. led_behind p.before p.world (from_hart g
    (bounded p.harts n (p.preemptions - preemption p.world p.last g) (step p.world (plain_choice g)) (Some g)))) less

-- those through the places after steps of harts
abbrev pub after_each : Spot → List ℕ → List Led
after_each p hs = flat_map (λ h. through (after_step p h)) hs

each_same : (f g : ℕ → List Led) (hs : List ℕ) → ((h : ℕ) → f h ≡ g h) → flat_map f hs ≡ flat_map g hs
each_same f g [] same = refl
each_same f g (h ∷ hs) same = ap₂ (λ a b. a ++ b) (same h) (each_same f g hs same)

some_less : (n : ℕ) → 0 < n → (m : ℕ) × (n ≡ suc m)
some_less zero h = absurd (omega (arith, h))
some_less (suc m) h = (m, refl)

-- a place with choices left, where a hart is next
through_some : (p : Spot) (g : ℕ) (hs : List ℕ) → 0 < p.choices → nexts_at p ≡ g ∷ hs → through p ≡ after_each p (g ∷ hs)
through_some p g hs left is =
    let m = some_less p.choices left in
    let lists = tails p.harts m.0 p.preemptions p.world p.last in
    ap (λ n. led_behind p.before p.world (bounded p.harts n p.preemptions p.world p.last)) m.1
    ∙ ap (led_behind p.before p.world) (bounded_more p.harts m.0 p.preemptions p.world p.last ∙ ap (from_each lists) is)
    ∙ led_each p.before p.world (λ h. from_hart h (lists h)) (g ∷ hs)
    ∙ each_same (λ h. led_behind p.before p.world (from_hart h (lists h))) (λ h. through (after_step p h)) (g ∷ hs)
    (λ h. sym (through_after p h m.0 m.1))

-- the schedule at a place
abbrev pub led_at : Spot → Led
led_at p = record { choices = p.before; world = p.world }

led_one : (before : List Choice) (w : World) → led_behind before w ([] ∷ []) ≡ record { choices = before; world = w } ∷ []
unfolding run
led_one before w = ap (λ (choices : List Choice). record { choices = choices; world = w } ∷ []) (append-nil before)

-- a place without choices left
pub through_last : (p : Spot) → p.choices ≡ 0 → through p ≡ led_at p ∷ []
through_last p none =
    ap (λ n. led_behind p.before p.world (bounded p.harts n p.preemptions p.world p.last)) none
    ∙ ap (led_behind p.before p.world) (bounded_zero p.harts p.preemptions p.world p.last)
    ∙ led_one p.before p.world

-- a place where no hart is next
pub through_none : (p : Spot) → 0 < p.choices → nexts_at p ≡ [] → through p ≡ led_at p ∷ []
through_none p left is =
    let m = some_less p.choices left in
    ap (λ n. led_behind p.before p.world (bounded p.harts n p.preemptions p.world p.last)) m.1
    ∙ ap (led_behind p.before p.world) (bounded_more p.harts m.0 p.preemptions p.world p.last
    ∙ ap (from_each (tails p.harts m.0 p.preemptions p.world p.last)) is)
    ∙ led_one p.before p.world

-- ---- places that are kept
pub through_push : (places : List Spot) (p : Spot) → through_all (places ++ p ∷ []) ≡ through p ++ through_all places
through_push [] p = sym (append-nil (through p))
through_push (q ∷ places) p =
    ap (λ more. more ++ through q) (through_push places p) ∙ append_assoc (through p) (through_all places) (through q)

-- ---- the harts that are next
-- those of a list of one hart more that may take over
pub kept_more : (p : Spot) (from n : ℕ) (rest : List Led)
    → after_each p (takes_over p from) ++ (after_each p (filter (may_take_over p.preemptions p.world p.last) (range_with_len (from + 1) n)) ++ rest)
    ≡ after_each p (filter (may_take_over p.preemptions p.world p.last) (range_with_len from (suc n))) ++ rest
kept_more p from n rest = by (may_take_over p.preemptions p.world p.last from)
  where
    abbrev_more : List ℕ
    abbrev_more = filter (may_take_over p.preemptions p.world p.last) (range_with_len (from + 1) n)

    by : (b : Bool) → after_each p (cond b (from ∷ []) []) ++ (after_each p abbrev_more ++ rest)
        ≡ after_each p (cond b (from ∷ abbrev_more) abbrev_more) ++ rest
    by true =
        ap (λ first. first ++ (after_each p abbrev_more ++ rest)) (append-nil (through (after_step p from)))
        ∙ sym (append_assoc (through (after_step p from)) (after_each p abbrev_more) rest)
    by false = refl

-- the first hart's step is taken, and the places after the others are kept
pub taken_first : (p : Spot) (first : ℕ) (more : List ℕ) (left : List Led) → 0 < p.choices
    → others p.harts p.preemptions p.world p.last ≡ first ∷ more
    → through (after_step p first) ++ (after_each p more ++ (after_each p (itself p.world p.last) ++ left)) ≡ through p ++ left
taken_first p first more left some is =
    let own = itself p.world p.last in
    ap (λ x. through (after_step p first) ++ x) (sym (append_assoc (after_each p more) (after_each p own) left)
    ∙ ap (λ x. x ++ left) (sym (flat_map-append (λ h. through (after_step p h)) more own)))
    ∙ sym (append_assoc (through (after_step p first)) (after_each p (more ++ own)) left)
    ∙ ap (λ x. x ++ left) (sym (through_some p first (more ++ own) some (ap (λ x. x ++ own) is)))

-- the hart that took the last step goes on
pub taken_itself : (p : Spot) (last : ℕ) (left : List Led) → 0 < p.choices
    → others p.harts p.preemptions p.world p.last ≡ [] → itself p.world p.last ≡ last ∷ []
    → through (after_step p last) ++ left ≡ through p ++ left
taken_itself p last left some none is =
    ap (λ x. x ++ left) (sym (append-nil (through (after_step p last)))
    ∙ sym (through_some p last [] some (ap₂ (λ x y. x ++ y) none is)))

-- no hart is next
pub taken_none : (p : Spot) → others p.harts p.preemptions p.world p.last ≡ [] → itself p.world p.last ≡ [] → nexts_at p ≡ []
taken_none p none is = ap₂ (λ x y. x ++ y) none is

-- a hart that goes on runs, at no cost
pub itself_runs : (w : World) (o : Option ℕ) (last : ℕ) → itself w o ≡ last ∷ [] → (runs w.harts last ≡ true) × (preemption w o last ≡ 0)
itself_runs w None last is = absurd (nil≢cons is)
  where
    nil≢cons : [] ≡ last ∷ [] → ⊥
    nil≢cons e = let n = ap length e in omega (arith, n)
itself_runs w (Some h) last is = by (runs w.harts h) refl is
  where
    by : (b : Bool) → runs w.harts h ≡ b → (if b then h ∷ [] else []) ≡ last ∷ []
        → (runs w.harts last ≡ true) × (preemption w (Some h) last ≡ 0)
    by true here e =
        let same : h ≡ last = ap (λ (xs : List ℕ). elim xs [ [] ↦ h | x ∷ more ↦ x ]) e in
        subst (λ g. (runs w.harts g ≡ true) × (preemption w (Some h) g ≡ 0)) same (here, itself_free w h)
    by false here e = absurd (let n = ap length e in omega (arith, n))

-- so does one that takes over, and a preemption is left if it is one
pub taker_runs : (k : ℕ) (w : World) (last : Option ℕ) (g : ℕ) → may_take_over k w last g ≡ true
    → (runs w.harts g ≡ true) × (preemption w last g ≤ k)
taker_runs k w last g h = take_may (runs w.harts g) (is_last last g) (can_go_on w last) k h

-- a hart that is the first of those that may take over
pub first_runs : (harts k : ℕ) (w : World) (last : Option ℕ) (first : ℕ) (more : List ℕ)
    → others harts k w last ≡ first ∷ more → (runs w.harts first ≡ true) × (preemption w last first ≤ k)
first_runs harts k w last first more is =
    taker_runs k w last first
    (filter_among (may_take_over k w last) (range_with_len 0 harts) first (subst (λ hs. Among hs first) (sym is) (inl refl))).1

-- ---- the first of the harts that are left
pub dropped : (test : ℕ → Bool) (xs : List ℕ) (hart harts : ℕ) → hart < harts → test hart ≡ false
    → xs ≡ filter test (range_with_len hart (harts - hart)) → xs ≡ filter test (range_with_len (hart + 1) (harts - (hart + 1)))
dropped test xs hart harts below none is =
    let more : harts - hart ≡ suc (harts - (hart + 1)) = omega (arith, below) in
    is ∙ ap (λ n. filter test (range_with_len hart n)) more
    ∙ ap (λ b. cond b (hart ∷ filter test (range_with_len (hart + 1) (harts - (hart + 1))))
    (filter test (range_with_len (hart + 1) (harts - (hart + 1))))) none

pub found : (test : ℕ → Bool) (xs : List ℕ) (hart harts : ℕ) → hart < harts → test hart ≡ true
    → xs ≡ filter test (range_with_len hart (harts - hart)) → xs ≡ hart ∷ filter test (range_with_len (hart + 1) (harts - (hart + 1)))
found test xs hart harts below some is =
    let more : harts - hart ≡ suc (harts - (hart + 1)) = omega (arith, below) in
    is ∙ ap (λ n. filter test (range_with_len hart n)) more
    ∙ ap (λ b. cond b (hart ∷ filter test (range_with_len (hart + 1) (harts - (hart + 1))))
    (filter test (range_with_len (hart + 1) (harts - (hart + 1))))) some

pub all_dropped : (test : ℕ → Bool) (xs : List ℕ) (hart harts : ℕ) → harts ≤ hart
    → xs ≡ filter test (range_with_len hart (harts - hart)) → xs ≡ []
all_dropped test xs hart harts past is =
    let none : harts - hart ≡ 0 = omega (arith, past) in is ∙ ap (λ n. filter test (range_with_len hart n)) none

-- ---- nodes that are kept
pub kept_node : {S Z : Type 0} (memory : S → Memory) (old new : List (Node S Z)) (node : Node S Z) (q : Spot)
    → new ≡ old ++ node ∷ [] → spot_of memory node ≡ q → through_nodes memory new ≡ through q ++ through_nodes memory old
kept_node memory old new node q is at =
    ap (through_nodes memory) is
    ∙ ap through_all (map-append (spot_of memory) old (node ∷ []))
    ∙ through_push (map (spot_of memory) old) (spot_of memory node)
    ∙ ap (λ (p : Spot). through p ++ through_nodes memory old) at

-- the place after the one hart of a list is kept
pub kept_one : (p : Spot) (hart : ℕ) (hs : List ℕ) (old new : List Led) → hs ≡ hart ∷ []
    → new ≡ through (after_step p hart) ++ old → new ≡ after_each p hs ++ old
kept_one p hart hs old new is kept =
    kept ∙ ap (λ x. x ++ old) (sym (append-nil (through (after_step p hart)))) ∙ ap (λ xs. after_each p xs ++ old) (sym is)

-- where there is none, nothing is kept
pub kept_none : (p : Spot) (hs : List ℕ) (old : List Led) → hs ≡ [] → old ≡ after_each p hs ++ old
kept_none p hs old is = ap (λ xs. after_each p xs ++ old) (sym is)

-- a hart that may take over, or may not
pub takes_one : (p : Spot) (hart : ℕ) → may_take_over p.preemptions p.world p.last hart ≡ true → takes_over p hart ≡ hart ∷ []
takes_one p hart may = ap (λ b. cond b (hart ∷ []) []) may

pub takes_none : (p : Spot) (hart : ℕ) → may_take_over p.preemptions p.world p.last hart ≡ false → takes_over p hart ≡ []
takes_none p hart may = ap (λ b. cond b (hart ∷ []) []) may

-- the harts from one on that may take over
abbrev pub takers : Spot → ℕ → ℕ → List ℕ
takers p from n = filter (may_take_over p.preemptions p.world p.last) (range_with_len from n)

pub kept_next : (p : Spot) (harts back : ℕ) (new now rest : List Led) → back < harts
    → new ≡ after_each p (takes_over p (harts - 1 - back)) ++ now → now ≡ after_each p (takers p (harts - back) back) ++ rest
    → new ≡ after_each p (takers p (harts - (back + 1)) (back + 1)) ++ rest
kept_next p harts back new now rest below kept so_far =
    let first : harts - 1 - back ≡ harts - (back + 1) = omega (arith, below) in
    let second : harts - back ≡ harts - (back + 1) + 1 = omega (arith, below) in
    let one : back + 1 ≡ suc back = omega arith in
    kept ∙ ap₂ (λ (h : ℕ) (more : List Led). after_each p (takes_over p h) ++ more) first
    (so_far ∙ ap (λ h. after_each p (takers p h back) ++ rest) second)
    ∙ kept_more p (harts - (back + 1)) back rest
    ∙ ap (λ n. after_each p (takers p (harts - (back + 1)) n) ++ rest) (sym one)

pub kept_all : (p : Spot) (harts from back : ℕ) (now rest : List Led) → from ≤ harts → back ≡ harts - from
    → now ≡ after_each p (takers p (harts - back) back) ++ rest → now ≡ after_each p (takers p from (harts - from)) ++ rest
kept_all p harts from back now rest within all so_far =
    let first : harts - back ≡ from = omega (arith, within, all) in
    so_far ∙ ap₂ (λ (h n : ℕ). after_each p (takers p h n) ++ rest) first all

-- ---- a branch
pub branched_first : (p q : Spot) (first : ℕ) (more : List ℕ) (old now new : List Led) → 0 < p.choices
    → others p.harts p.preemptions p.world p.last ≡ first ∷ more
    → now ≡ after_each p (itself p.world p.last) ++ old → new ≡ after_each p more ++ now → q ≡ after_step p first
    → Branches true p q old new
branched_first p q first more old now new some is own others_kept at = (
  ap₂ (λ (x : Spot) (y : List Led). through x ++ y) at (others_kept ∙ ap (λ x. after_each p more ++ x) own)
      ∙ taken_first p first more old some is,
  let left = ap (λ (x : Spot). x.choices) at in omega (arith, left, some),
)

pub branched_itself : (p q : Spot) (last : ℕ) (o : Option ℕ) (old : List Led) → 0 < p.choices
    → others p.harts p.preemptions p.world p.last ≡ [] → option_list o ≡ itself p.world p.last → o ≡ Some last → q ≡ after_step p last
    → Branches true p q old old
branched_itself p q last o old some none is own at = (
  ap (λ (x : Spot). through x ++ old) at ∙ taken_itself p last old some none (sym is ∙ ap option_list own),
  let left = ap (λ (x : Spot). x.choices) at in omega (arith, left, some),
)

-- ---- the schedule that is given
pub goes_on_after : (p q : Spot) (b : Bool) (old new all : List Led) → b ≡ true → Branches b p q old new
    → through p ++ old ≡ all → (through q ++ new ≡ all) × (q.choices < p.choices)
goes_on_after p q true old new all is h so_far = (h.0 ∙ so_far, let e = h.1 in omega (arith, e))
goes_on_after p q false old new all isnt h so_far = absurd (true≢false (sym isnt))

pub given_early : (p q : Spot) (b : Bool) (old new all : List Led) → 0 < p.choices → b ≡ false → Branches b p q old new
    → through p ++ old ≡ all → led_at q ∷ new ≡ all
given_early p q true old new all some isnt h so_far = absurd (true≢false isnt)
given_early p q false old new all some is h so_far =
    ap₂ (λ (x : Spot) (y : List Led). led_at x ∷ y) h.1 h.2 ∙ ap (λ x. x ++ old) (sym (through_none p some h.0)) ∙ so_far

pub given_last : (p : Spot) (left all : List Led) → p.choices ≡ 0 → through p ++ left ≡ all → led_at p ∷ left ≡ all
given_last p left all none so_far = ap (λ x. x ++ left) (sym (through_last p none)) ∙ so_far

-- the next schedule of a walk
pub next_given : {S Z : Type 0} (memory : S → Memory) (old rest : List (Node S Z)) (node : Node S Z) (led : Led) (new : List Led)
    → old ≡ rest ++ node ∷ [] → led ∷ new ≡ through (spot_of memory node) ++ through_nodes memory rest
    → through_nodes memory old ≡ led ∷ new
next_given memory old rest node led new is given = kept_node memory rest old node (spot_of memory node) is refl ∙ sym given

nothing : {X : Type 0} (xs : List X) → length xs ≡ 0 → xs ≡ []
nothing [] e = refl
nothing (x ∷ xs) e = absurd (omega (arith, e))

pub none_given : {S Z : Type 0} (memory : S → Memory) (nodes : List (Node S Z)) → length nodes ≡ 0 → through_nodes memory nodes ≡ []
none_given memory nodes e = ap (through_nodes memory) (nothing nodes e)
