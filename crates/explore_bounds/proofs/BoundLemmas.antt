-- Many steps go round, and what bounds follow from numbers.
use Rattle.std.proofs.Common.{◌≡◌, ℕ, zero, suc, ◌+◌, ◌*◌, ◌<◌, ◌≤◌, Bool, true, false, List, [], ◌∷◌, ◌++◌, length, set, Some, refl, ap, sym, ◌∙◌, subst, arith, inl, inr, Option}
use Rattle.std.specs.List.{All, Contains, slice_get}
use Rattle.std.proofs.Math.ListN.{length-set}
use Rattle.std.proofs.Math.Nat.{suc-mul}
use Rattle.std.proofs.lemmas.Bool.{cases_eq, cases_Bool, cases_lt}
use Rattle.std.proofs.lemmas.List.Elements.{All-nil, All-head, All-tail, All-push}
use Rattle.std.proofs.lemmas.Option.{slice_get_within}
use Rattle.explore_table.proofs.ListLemmas.{get_there, at_contains}
use Rattle.machine.specs.World.{World}
use Rattle.machine.specs.declared.choice.Choice.{Choice}
use Rattle.explore_laws.specs.Places.{Place, place_begun, place_after, place_reached}
use Rattle.explore_laws.specs.OwnSteps.{steps_in_turn, steps_in_turns, HasPlainChoices, KeysAreClear, NumbersFall, GoesRound}
use Rattle.explore_laws.specs.Bounds.{HasNoBound}
use Rattle.explore_laws.proofs.BoundLemmas.{numbers_bound_behind}
use Rattle.explore_laws.proofs.PathLemmas.{reached_joined, steps_last}
use Rattle.explore_laws.proofs.RoundLemmas.{path_taken, round_unbounded}
use Rattle.explore_laws.proofs.ListLemmas.{get_set_other}
use Rattle.explore_search.specs.Counted.{IsLedTo}
use Rattle.explore_search.specs.Edges.{HaveEdges, IsNumberOf}
use Rattle.explore_bounds.specs.Steps.{HaveSteps, AreLedTo}
use Rattle.explore_bounds.specs.Rounds.{LeadsBy, GoRound}
use Rattle.explore_bounds.specs.Numbers.{own_in, AllAtMost, HasPathOf, AreTaken, IsLimit, EndsRaising}
use Rattle.explore_bounds.proofs.NumberLemmas.{contains_at, own_is, own_low, settled_fall}
use Rattle.machine.specs.Chosen.{own}
use Rattle.explore_laws.specs.Covering.{WorldCovers}
use Rattle.explore_laws.specs.Quiet.{AreAligned, CanWait, OfNextStep}
use Rattle.explore_laws.specs.Settling.{Stride}
use Rattle.explore_laws.proofs.QuietLemmas.{aligned_run}
use Rattle.explore_bounds.specs.Steps.{TellsBound}
use Rattle.explore_bounds.specs.declared.bound.Bound.TheVariants.{After}

same_at : {X : Type 0} (xs : List X) (k : ℕ) (x y : X) → slice_get xs k ≡ Some x → slice_get xs k ≡ Some y → x ≡ y
same_at xs k x y e f = cc

-- ---- marks of keys from whose places a hart has stepped
-- how many steps are left where it takes u at most from each key that isn't marked
abbrev left : ℕ → List Bool → ℕ
left u [] = 0
left u (true ∷ marks) = left u marks
left u (false ∷ marks) = u + left u marks

left_less : (u : ℕ) (marks : List Bool) (k : ℕ) → slice_get marks k ≡ Some false → u + left u (set marks k true) ≡ left u marks
left_less u [] k e = absurd (cc)
left_less u (true ∷ marks) zero e = absurd (cc)
left_less u (false ∷ marks) zero e = refl
left_less u (true ∷ marks) (suc k) e = left_less u marks k e
left_less u (false ∷ marks) (suc k) e = ap (λ n. u + n) (left_less u marks k e)

abbrev unmarked : ℕ → List Bool
unmarked zero = []
unmarked (suc n) = false ∷ unmarked n

unmarked_count : (n : ℕ) → length (unmarked n) ≡ n
unmarked_count zero = refl
unmarked_count (suc n) = ap suc (unmarked_count n)

unmarked_left : (u n : ℕ) → left u (unmarked n) ≡ n * u
unmarked_left u zero = omega arith
unmarked_left u (suc n) =
    let rest = unmarked_left u n in
    let more = suc-mul n u in
    omega (arith, rest, more)

not_unmarked : (n k : ℕ) → slice_get (unmarked n) k ≡ Some true → ⊥
not_unmarked zero k e = absurd (cc)
not_unmarked (suc n) zero e = absurd (cc)
not_unmarked (suc n) (suc k) e = not_unmarked n k e

-- ---- turns that lead somewhere
pub leads_none : (meant : List Choice) (h : ℕ) (p : Place) → LeadsBy meant h p p 0
unfolding place_reached steps_in_turns
leads_none meant h p = record { turns = []; are_meant = All-nil (Contains meant); leads = refl; many = omega arith }

-- one turn more
leads_more : (meant : List Choice) (h : ℕ) (p q : Place) (c : Choice) (n m : ℕ) → Contains meant c
    → m ≤ n + steps_in_turn q.stride q.world h c → LeadsBy meant h p q n → LeadsBy meant h p (place_after q c) m
unfolding place_reached
leads_more meant h p q c n m is low on =
    let steps = steps_last p h on.turns c in
    let same : steps_in_turn (place_reached p on.turns).stride (place_reached p on.turns).world h c ≡ steps_in_turn q.stride q.world h c
    = ap (λ (x : Place). steps_in_turn x.stride x.world h c) on.leads in
    let many = on.many in
    record {
      turns = on.turns ++ c ∷ [];
      are_meant = All-push (Contains meant) on.turns c on.are_meant is;
      leads = reached_joined p on.turns (c ∷ []) ∙ ap (λ x. place_after x c) on.leads;
      many = omega (arith, steps, same, many, low);
    }

leads_on : (meant : List Choice) (h : ℕ) (p q : Place) (c : Choice) → Contains meant c → LeadsBy meant h p q 1
    → LeadsBy meant h p (place_after q c) 1
leads_on meant h p q c is on = leads_more meant h p q c 1 1 is (omega arith) on

leads_by : (meant : List Choice) (h : ℕ) (p : Place) (c : Choice) → Contains meant c → 0 < steps_in_turn p.stride p.world h c
    → LeadsBy meant h p (place_after p c) 1
leads_by meant h p c is some = leads_more meant h p p c 0 1 is (omega (arith, some)) (leads_none meant h p)

-- ---- turns along rows
-- turns lead from key number k to key number l, wherever the rows are those of keys
abbrev pub LeadsAlong : List Choice → ℕ → List (List ℕ) → List (List ℕ) → ℕ → ℕ → ℕ → Type 0
LeadsAlong turns h rows steps k l n = (place : List ℕ → Place) (keys : List (List ℕ)) (from to : List ℕ)
    → HaveEdges place turns keys rows → HaveSteps place turns keys steps → slice_get keys k ≡ Some from → slice_get keys l ≡ Some to
    → LeadsBy turns h (place from) (place to) n

pub along_none : (turns : List Choice) (h : ℕ) (rows steps : List (List ℕ)) (k : ℕ) → LeadsAlong turns h rows steps k k 0
along_none turns h rows steps k place keys from to have own e f =
    subst (λ x. LeadsBy turns h (place from) (place x) 0) (same_at keys k from to e f) (leads_none turns h (place from))

pub along_more : (turns : List Choice) (h : ℕ) (rows steps : List (List ℕ)) (k l n i s m : ℕ) (c : Choice) (row own : List ℕ)
    (next : ℕ) → slice_get rows l ≡ Some row → slice_get steps l ≡ Some own → slice_get turns i ≡ Some c → slice_get row i ≡ Some next
    → slice_get own i ≡ Some s → m ≤ n + own_in c.hart h s → LeadsAlong turns h rows steps k l n
    → LeadsAlong turns h rows steps k next m
along_more turns h rows steps k l n i s m c row own next row_is own_row c_is next_is s_is low along place keys from to have have_own e f =
    let inside = slice_get_within rows l row row_is in
    let count = have.count in
    let key = get_there keys l (omega (arith, inside, count)) in
    let edges = have.edges l key.0 row key.1 row_is in
    let at = edges.lead i next c next_is c_is in
    let steps_from = have_own.from l key.0 own key.1 own_row in
    let same = own_is (place key.0).stride (place key.0).world h s c (steps_from.are i s c s_is c_is) in
    let to_is : at.key ≡ to = same_at keys next at.key to at.there f in
    subst (λ x. LeadsBy turns h (place from) (place x) m) to_is
    (subst (λ q. LeadsBy turns h (place from) q m) (sym at.is)
    (leads_more turns h (place from) (place key.0) c n m (contains_at turns i c c_is) (omega (arith, low, same))
    (along place keys from key.0 have have_own e key.1)))

pub along_round : (turns : List Choice) (h : ℕ) (rows steps : List (List ℕ)) (k n : ℕ) → k < length rows → 0 < n
    → LeadsAlong turns h rows steps k k n → GoRound turns h rows steps
along_round turns h rows steps k n inside some along place keys have own =
    let count = have.count in
    let key = get_there keys k (omega (arith, inside, count)) in
    let round = along place keys key.0 key.0 have own key.1 key.1 in
    let many = round.many in
    record {
      number = k;
      key = key.0;
      there = key.1;
      round = record { turns = round.turns; are_meant = round.are_meant; leads = round.leads; many = omega (arith, many, some) };
    }

led_on : (meant : List Choice) (first q : Place) (c : Choice) → Contains meant c → IsLedTo meant first q
    → IsLedTo meant first (place_after q c)
unfolding place_reached
led_on meant first q c is led = record {
  list = led.list ++ c ∷ [];
  meant = All-push (Contains meant) led.list c led.meant is;
  leads = reached_joined first led.list (c ∷ []) ∙ ap (λ x. place_after x c) led.leads;
}

module _ (meant : List Choice) (h : ℕ) (first : Place) (place : List ℕ → Place) (keys rows steps : List (List ℕ)) (u : ℕ)
    (have : HaveEdges place meant keys rows) (own : HaveSteps place meant keys steps) (most : AllAtMost u steps) where
  turn_low : (k : ℕ) (key : List ℕ) (c : Choice) → slice_get keys k ≡ Some key → Contains meant c
      → steps_in_turn (place key).stride (place key).world h c ≤ u
  turn_low k key c there meant_c =
      let within = slice_get_within keys k key there in
      let own_count = own.count in
      let i = at_contains meant c meant_c in
      let i_in = slice_get_within meant i.0 c i.1 in
      let row = get_there steps k (omega (arith, within, own_count)) in
      let from = own.from k key row.0 there row.1 in
      let wide = from.count in
      let s = get_there row.0 i.0 (omega (arith, i_in, wide)) in
      let same = own_is (place key).stride (place key).world h s.0 c (from.are i.0 s.0 c s.1 i.1) in
      let low = own_low c.hart h s.0 in
      let top = most k i.0 s.0 row.0 row.1 s.1 in
      omega (arith, same, low, top)

  next_key : (k : ℕ) (key : List ℕ) (c : Choice) → slice_get keys k ≡ Some key → Contains meant c
      → (to : ℕ) × IsNumberOf place keys to (place_after (place key) c)
  next_key k key c there meant_c =
      let within = slice_get_within keys k key there in
      let count = have.count in
      let i = at_contains meant c meant_c in
      let i_in = slice_get_within meant i.0 c i.1 in
      let row = get_there rows k (omega (arith, within, count)) in
      let from = have.edges k key row.0 there row.1 in
      let wide = from.count in
      let to = get_there row.0 i.0 (omega (arith, i_in, wide)) in
      (to.0, from.lead i.0 to.0 c to.1 i.1)

  -- from each marked key's place turns lead to a place in which the hart steps
  abbrev Came : List Bool → Place → Type 0
  Came marks q = (k : ℕ) (key : List ℕ) → slice_get keys k ≡ Some key → slice_get marks k ≡ Some true → LeadsBy meant h (place key) q 1

  goes : (turns : List Choice) (k : ℕ) (key : List ℕ) (marks : List Bool) → slice_get keys k ≡ Some key
      → IsLedTo meant first (place key) → length marks ≡ length keys → Came marks (place key) → All (Contains meant) turns
      → left u marks < steps_in_turns (place key).stride (place key).world h turns → GoesRound meant h first
  unfolding steps_in_turns
  goes [] k key marks there led even came all many = absurd (omega (arith, many))
  goes (c ∷ turns) k key marks there led even came all many =
      let meant_c = All-head (Contains meant) c turns all in
      let rest = All-tail (Contains meant) c turns all in
      let next = next_key k key c there meant_c in
      let at = next.1 in
      let led_next = subst (IsLedTo meant first) (sym at.is) (led_on meant first (place key) c meant_c led) in
      let low = turn_low k key c there meant_c in
      let within = slice_get_within keys k key there in
      let mark = get_there marks k (omega (arith, within, even)) in
      elim (cases_lt 0 (steps_in_turn (place key).stride (place key).world h c)) [
        | inr none ↦ goes turns next.0 at.key marks at.there led_next even
            (λ j x e f. subst (λ q. LeadsBy meant h (place x) q 1) (sym at.is) (leads_on meant h (place x) (place key) c meant_c (came j x e f)))
            rest (subst (λ (q : Place). left u marks < steps_in_turns q.stride q.world h turns) (sym at.is) (omega (arith, many, none)))
        | inl some ↦ elim (cases_Bool mark.0) [
          | inl yes_ ↦
              let round = came k key there (mark.1 ∙ ap Some yes_) in
              record {
                place = place key;
                there = led.list;
                there_meant = led.meant;
                leads = led.leads;
                round = round.turns;
                round_meant = round.are_meant;
                back = ap (λ (q : Place). q.world) round.leads;
                steps = (let many = round.many in omega (arith, many));
              }
          | inr no_ ↦
              let fewer = left_less u marks k (mark.1 ∙ ap Some no_) in
              goes turns next.0 at.key (set marks k true) at.there led_next (length-set marks k true ∙ even)
              (λ j x e f. subst (λ q. LeadsBy meant h (place x) q 1) (sym at.is) (elim (cases_eq j k) [
                | inl same ↦
                    let x_is : key ≡ x = same_at keys k key x there (ap (slice_get keys) (sym same) ∙ e) in
                    subst (λ y. LeadsBy meant h (place y) (place_after (place key) c) 1) x_is (leads_by meant h (place key) c meant_c some)
                | inr other ↦ leads_on meant h (place x) (place key) c meant_c
                    (came j x e (sym (get_set_other marks k j true other) ∙ f))
              ]))
              rest
              (subst (λ (q : Place). left u (set marks k true) < steps_in_turns q.stride q.world h turns) (sym at.is)
              (omega (arith, many, fewer, low)))
        ]
      ]

  -- more steps than each key's place could be left by once
  pub many_go_round : (k : ℕ) (key : List ℕ) (n limit : ℕ) → slice_get keys k ≡ Some key → IsLedTo meant first (place key)
      → HasPathOf meant h (place key) n → length steps * u ≤ limit → limit < n → GoesRound meant h first
  many_go_round k key n limit there led of low over =
      let enough = of.enough in
      let is = of.path.steps in
      let all = unmarked_left u (length steps) in
      goes of.path.turns k key (unmarked (length steps)) there led (unmarked_count (length steps) ∙ own.count)
      (λ j x e f. absurd (not_unmarked (length steps) j f)) of.path.are_meant (omega (arith, enough, is, all, low, over))

-- ---- bounds
module _ (quiet clear : OfNextStep) (stride : Stride) (waits : CanWait quiet clear stride) (first w : World) (aligned : AreAligned w)
    (covers : WorldCovers quiet first w) (meant : List Choice) (h : ℕ) (place : List ℕ → Place) (keys rows steps : List (List ℕ))
    (numbers : List ℕ) (limit : ℕ) (plain : HasPlainChoices meant) where
  aligned_first : AreAligned first
  aligned_first = subst AreAligned covers.leads (aligned_run w covers.choices aligned)

  pub exact_from : (b : ℕ) → Contains meant (record { hart = h; refuse = false }) → KeysAreClear clear meant place keys
      → AreLedTo meant (place_begun stride first) place keys → HaveEdges place meant keys rows → HaveSteps place meant keys steps
      → length numbers ≡ length rows → IsLimit steps limit → EndsRaising meant h rows steps limit numbers true
      → AreTaken meant h place keys numbers → slice_get numbers 0 ≡ Some b
      → TellsBound meant first w (own covers.choices h) h (After b)
  exact_from b meant_h are_clear led have own_ even is_limit ends taken b_is =
      let falls : NumbersFall meant h place keys numbers
      = settled_fall meant h place keys rows steps numbers limit have own_ even ends.0 ends.1 is_limit.3 in
      let of : HasPathOf meant h (place_begun stride first) b
      = subst (λ (p : Place). HasPathOf meant h p b) led.is_first (taken 0 led.first_key b led.at_first b_is) in
      let enough = of.enough in (
        numbers_bound_behind quiet clear stride waits meant h place keys numbers are_clear falls first w b aligned meant_h covers
            (record { index = 0; key = led.first_key; there = led.at_first; is = led.is_first; number_is = b_is }),
        λ n less. path_taken quiet clear stride waits meant plain first h of.steps n aligned_first of.path (omega (arith, less, enough)),
      )

  pub none_from : AreLedTo meant (place_begun stride first) place keys → HaveEdges place meant keys rows → HaveSteps place meant keys steps
      → length numbers ≡ length rows → IsLimit steps limit → EndsRaising meant h rows steps limit numbers false
      → AreTaken meant h place keys numbers → HasNoBound meant first h
  none_from led have own_ even is_limit ends taken = elim ends [
    | inl over ↦
        let within = slice_get_within numbers over.0 over.1 over.2 in
        let count = have.count in
        let key = get_there keys over.0 (omega (arith, within, even, count)) in
        round_unbounded quiet clear stride waits meant plain first h aligned_first
        (many_go_round meant h (place_begun stride first) place keys rows steps is_limit.0 have own_ is_limit.1 over.0 key.0 over.1 limit key.1
        (led.led_to over.0 key.0 key.1) (taken over.0 key.0 over.1 key.1 over.2) is_limit.2 over.3)
    | inr rounds ↦
        let found = rounds place keys have own_ in
        let led_there = led.led_to found.number found.key found.there in
        let round = found.round in
        round_unbounded quiet clear stride waits meant plain first h aligned_first (record {
          place = place found.key;
          there = led_there.list;
          there_meant = led_there.meant;
          leads = led_there.leads;
          round = round.turns;
          round_meant = round.are_meant;
          back = ap (λ (q : Place). q.world) round.leads;
          steps = (let many = round.many in omega (arith, many));
        })
  ]
