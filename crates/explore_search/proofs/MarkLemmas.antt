-- Marks of keys, and ways out by them.
use Rattle.std.proofs.Common.{◌≡◌, ℕ, zero, suc, ◌+◌, ◌<◌, ◌≤◌, Bool, true, false, List, [], ◌∷◌, ◌++◌, length, take, drop, set, cond, Some, refl, ap, sym, ◌∙◌, subst, arith, inl, inr, ◌⊎◌}
use Rattle.std.specs.List.{All, Contains, slice_get}
use Rattle.std.proofs.lemmas.Bool.{cases_eq}
use Rattle.std.proofs.lemmas.List.{append-nil, drop_all, take_all}
use Rattle.std.proofs.lemmas.List.Elements.{All-nil, All-head, All-tail, All-cons}
use Rattle.std.proofs.lemmas.Option.{slice_get_within, get_or_from_slice_get}
use Rattle.explore_table.proofs.ListLemmas.{get_begun, get_behind, get_there, at_contains}
use Rattle.machine.specs.declared.choice.Choice.{Choice}
use Rattle.explore_laws.specs.Places.{Place, place_after, place_reached}
use Rattle.explore_laws.specs.WaysOut.{HasWayOut, HaveWaysOut}
use Rattle.explore_laws.proofs.ListLemmas.{there_set, get_set_other}
use Rattle.explore_search.specs.Edges.{HaveEdges}
use Rattle.explore_search.specs.Searched.{IsSeen}
use Rattle.explore_search.specs.Marked.{AreAllSeen, LeadsToStuck, IsMarked, LeadsToMarked, MarkEnded, HaveMarkedWaysOut, AreShut, MarksStay, marks_missing, MarksOne, MarksMore}
use Rattle.explore_search.specs.declared.seen.Link.{Link}
use Rattle.explore_search.proofs.SearchLemmas.{seen_from, below_or}
use Rattle.explore_search.proofs.NearLemmas.{IsSooner, seen_sooner}

same_at : {X : Type 0} (xs : List X) (k : ℕ) (x y : X) → slice_get xs k ≡ Some x
    → slice_get xs k ≡ Some y → x ≡ y
same_at xs k x y e f = cc

contains_at : {X : Type 0} (xs : List X) (k : ℕ) (x : X) → slice_get xs k ≡ Some x → Contains xs x
contains_at xs k x e = (k, slice_get_within xs k x e, get_or_from_slice_get xs k x x e)

not_both : (marks : List Bool) (k : ℕ) → slice_get marks k ≡ Some true
    → slice_get marks k ≡ Some false → ⊥
not_both marks k e f = let no : true ≡ false = same_at marks k true false e f in cc

-- ---- what a row leads to
pub leads_there : (row : List ℕ) (marks : List Bool) (i to : ℕ) → slice_get row i ≡ Some to → slice_get marks to ≡ Some true
    → LeadsToMarked row marks true
leads_there row marks i to e mark = (i, to, e, mark)

pub leads_nowhere : (row : List ℕ) (marks : List Bool) (n : ℕ) → length row ≤ n
    → ((i to : ℕ) → i < n → slice_get row i ≡ Some to → slice_get marks to ≡ Some false) → LeadsToMarked row marks false
leads_nowhere row marks n all none i to e = none i to (let w = slice_get_within row i to e in omega (arith, w, all)) e

pub none_more : (row : List ℕ) (marks : List Bool) (n to : ℕ) → slice_get row n ≡ Some to → slice_get marks to ≡ Some false
    → ((i next : ℕ) → i < n → slice_get row i ≡ Some next → slice_get marks next ≡ Some false)
    → (i next : ℕ) → i < n + 1 → slice_get row i ≡ Some next → slice_get marks next ≡ Some false
none_more row marks n to at_n mark before i next h e = elim (below_or i n h) [
  | inl below ↦ before i next below e
  | inr here ↦ subst (λ x. slice_get marks x ≡ Some false) (same_at row n to next at_n (ap (slice_get row) (sym here) ∙ e)) mark
]

-- ---- one mark more
pub fewer_unmarked : (marks : List Bool) (i : ℕ) → slice_get marks i ≡ Some false
    → suc (marks_missing (set marks i true)) ≡ marks_missing marks
unfolding marks_missing
fewer_unmarked [] i e = absurd (cc)
fewer_unmarked (true ∷ marks) zero e = absurd (not_both (true ∷ marks) 0 refl e)
fewer_unmarked (false ∷ marks) zero e = refl
fewer_unmarked (true ∷ marks) (suc i) e = fewer_unmarked marks i e
fewer_unmarked (false ∷ marks) (suc i) e = ap suc (fewer_unmarked marks i e)

further : (choices : List Choice) (ended : Place → Bool) (p : Place) (c : Choice) → Contains choices c
    → HasWayOut choices ended (place_after p c) → HasWayOut choices ended p
unfolding place_reached
further choices ended p c is way = record {
  turns = c ∷ way.turns;
  are_meant = All-cons (Contains choices) c way.turns is way.are_meant;
  ends = way.ends;
}

-- a row that leads to a key with a way out
way_by : (place : List ℕ → Place) (choices : List Choice) (keys rows : List (List ℕ)) → HaveEdges place choices keys rows
    → (ended : Place → Bool) (marks : List Bool) (number : ℕ) (row key : List ℕ) → slice_get rows number ≡ Some row
    → slice_get keys number ≡ Some key → LeadsToMarked row marks true → HaveMarkedWaysOut choices ended place keys marks
    → HasWayOut choices ended (place key)
way_by place choices keys rows have ended marks number row key there key_there leads ways =
    let i = leads.0 in
    let to = leads.1 in
    let e = leads.2 in
    let mark = leads.3 in
    let from = have.edges number key row key_there there in
    let inside = slice_get_within row i to e in
    let even = from.count in
    let choice = get_there choices i (omega (arith, inside, even)) in
    let at = from.lead i to choice.0 e choice.1 in
    further choices ended (place key) choice.0 (contains_at choices i choice.0 choice.1)
    (subst (HasWayOut choices ended) at.is (ways to at.key at.there mark))

pub one_ways : (place : List ℕ → Place) (choices : List Choice) (keys rows : List (List ℕ)) → HaveEdges place choices keys rows
    → (ended : Place → Bool) (marks more : List Bool) (number : ℕ) (row : List ℕ) (answer : Bool)
    → slice_get rows number ≡ Some row → MarksOne row marks more number answer
    → HaveMarkedWaysOut choices ended place keys marks → HaveMarkedWaysOut choices ended place keys more
one_ways place choices keys rows have ended marks more number row false there one ways =
    subst (HaveMarkedWaysOut choices ended place keys) (sym one.0) ways
one_ways place choices keys rows have ended marks more number row true there one ways = λ k x e mark. elim (cases_eq k number) [
  | inl same ↦ way_by place choices keys rows have ended marks number row x there (ap (slice_get keys) (sym same) ∙ e) one.2 ways
  | inr other ↦ ways k x e
      (sym (get_set_other marks number k true other) ∙ ap (λ ms. slice_get ms k) (sym one.1) ∙ mark)
]

pub one_stays : (marks more : List Bool) (number : ℕ) (row : List ℕ) (answer : Bool)
    → MarksOne row marks more number answer → MarksStay marks more
one_stays marks more number row false one = subst (MarksStay marks) (sym one.0) (λ k e. e)
one_stays marks more number row true one = λ k e. elim (cases_eq k number) [
  | inl same ↦ ap (λ ms. slice_get ms k) one.1 ∙ ap (slice_get (set marks number true)) same
      ∙ there_set marks number false true one.0
  | inr other ↦ ap (λ ms. slice_get ms k) one.1 ∙ get_set_other marks number k true other ∙ e
]

-- ---- a pass
module _ (rows : List (List ℕ)) where
  pub pass_begins : (marks : List Bool) (n : ℕ) → length rows ≤ n → MarksMore rows marks marks n false
  pass_begins marks n all =
      (refl, λ k row low there. absurd (let w = slice_get_within rows k row there in omega (arith, w, low, all)))

  pass_marked : (before marks more : List Bool) (n m number : ℕ) (row : List ℕ) (so_far : Bool)
      → MarksMore rows before marks n so_far → MarksOne row marks more number true
      → MarksMore rows before more m true
  pass_marked before marks more n m number row true so_far one =
      let fewer = fewer_unmarked marks number one.0 in
      let is = ap marks_missing one.1 in omega (arith, so_far, fewer, is)
  pass_marked before marks more n m number row false so_far one =
      let fewer = fewer_unmarked marks number one.0 in
      let was = ap marks_missing so_far.0 in
      let is = ap marks_missing one.1 in omega (arith, was, fewer, is)

  pass_same : (before marks more : List Bool) (n number : ℕ) (row : List ℕ) (so_far : Bool) → n ≤ number + 1
      → slice_get rows number ≡ Some row → MarksMore rows before marks n so_far
      → MarksOne row marks more number false → MarksMore rows before more number so_far
  pass_same before marks more n number row true low there so_far one =
      let is = ap marks_missing one.0 in omega (arith, so_far, is)
  pass_same before marks more n number row false low there so_far one = (
    one.0 ∙ so_far.0,
    λ k x above e no_. elim (cases_eq k number) [
      | inl same ↦
          let x_is : row ≡ x = same_at rows number row x there (ap (slice_get rows) (sym same) ∙ e) in
          subst (λ y. LeadsToMarked y before false) x_is
          (subst (λ ms. LeadsToMarked row ms false) so_far.0
          (one.1 (ap (λ ms. slice_get ms number) so_far.0 ∙ ap (slice_get before) (sym same) ∙ no_)))
      | inr other ↦ so_far.1 k x (omega (arith, above, other, low)) e no_
    ],
  )

  pub pass_ends : (before marks : List Bool) (n : ℕ) (so_far : Bool) → n ≡ 0
      → MarksMore rows before marks n so_far → MarksMore rows before marks 0 so_far
  pass_ends before marks n so_far none more = subst (λ m. MarksMore rows before marks m so_far) none more

  pub pass_one : (before marks more : List Bool) (n m number : ℕ) (row : List ℕ) (so_far answer after : Bool) → n ≤ number + 1
      → m ≡ number → slice_get rows number ≡ Some row → MarksMore rows before marks n so_far
      → MarksOne row marks more number answer
      → ((answer ≡ true) × (after ≡ true)) ⊎ ((answer ≡ false) × (after ≡ so_far))
      → MarksMore rows before more m after
  pass_one before marks more n m number row so_far answer after low m_is there passed one by = elim by [
    | inl yes_ ↦ subst (MarksMore rows before more m) (sym yes_.1) (pass_marked before marks more n m number row so_far passed
        (subst (MarksOne row marks more number) yes_.0 one))
    | inr no_ ↦ subst (MarksMore rows before more m) (sym no_.1)
        (subst (λ at. MarksMore rows before more at so_far) (sym m_is)
        (pass_same before marks more n number row so_far low there passed
        (subst (MarksOne row marks more number) no_.0 one)))
  ]

  pub shut_after : (marks more : List Bool) (answer : Bool) → MarksMore rows marks more 0 answer → answer ≡ false
      → AreShut rows more 0
  shut_after marks more true passed none = absurd (let no : true ≡ false = none in cc)
  shut_after marks more false passed none = λ k row low e no_.
      subst (λ ms. LeadsToMarked row ms false) (sym passed.0)
      (passed.1 k row low e (ap (λ ms. slice_get ms k) (sym passed.0) ∙ no_))

  pub pass_smaller : (marks more : List Bool) (before answer : Bool) → before ≡ true → MarksMore rows marks more 0 answer
      → marks_missing more + cond answer 1 0 < marks_missing marks + cond before 1 0
  pass_smaller marks more false answer was passed = absurd (let no : false ≡ true = was in cc)
  pass_smaller marks more true true was passed = omega (arith, passed)
  pass_smaller marks more true false was passed = let is = ap marks_missing passed.0 in omega (arith, is)

-- ---- marks of places that have ended
pub ended_more : (place : List ℕ → Place) (ended : Place → Bool) (keys : List (List ℕ)) (marks more : List Bool) (number : ℕ) (last : List ℕ)
    (mark : Bool) → length marks ≡ number → slice_get keys number ≡ Some last → mark ≡ ended (place last) → more ≡ marks ++ mark ∷ []
    → ((k : ℕ) (key : List ℕ) → k < number → slice_get keys k ≡ Some key → slice_get marks k ≡ Some (ended (place key)))
    → (k : ℕ) (key : List ℕ) → k < number + 1 → slice_get keys k ≡ Some key → slice_get more k ≡ Some (ended (place key))
ended_more place ended keys marks more number last mark count there is pushed before k key low e =
    ap (λ ms. slice_get ms k) pushed ∙ elim (below_or k number low) [
      | inl below ↦ get_begun marks (mark ∷ []) k (ended (place key)) (before k key below e)
      | inr here ↦
          ap (slice_get (marks ++ mark ∷ [])) (here ∙ sym count) ∙ get_behind marks mark
          ∙ ap Some (is ∙ ap (λ x. ended (place x)) (same_at keys number last key there (ap (slice_get keys) (sym here) ∙ e)))
    ]

-- ---- places without a way out
module _ (IsKey : List ℕ → Type 0) (place : List ℕ → Place) (start : Place) (choices : List Choice) (keys : List (List ℕ)) (links : List Link)
    (seen : AreAllSeen IsKey place start choices keys links) (ended : Place → Bool) (marks all : List Bool)
    (rows : List (List ℕ)) (have : HaveEdges place choices keys rows)
    (shown : MarkEnded place ended keys marks) (stay : MarksStay marks all) (ways : HaveMarkedWaysOut choices ended place keys all) where
  -- a choice leads from a key's place that isn't marked to another
  next_shut : AreShut rows all 0 → (c : Choice) (number : ℕ) (key : List ℕ) → slice_get keys number ≡ Some key
      → slice_get all number ≡ Some false → Contains choices c → IsMarked place keys all false (place_after (place key) c)
  next_shut shut c number key there no_ is =
      let inside = slice_get_within keys number key there in
      let count = have.count in
      let row = get_there rows number (omega (arith, inside, count)) in
      let from = have.edges number key row.0 there row.1 in
      let choice = at_contains choices c is in
      let low = slice_get_within choices choice.0 c choice.1 in
      let even = from.count in
      let to = get_there row.0 choice.0 (omega (arith, low, even)) in
      let at = from.lead choice.0 to.0 c to.1 choice.1 in
      record {
        number = to.0;
        key = at.key;
        there = at.there;
        is = at.is;
        mark_is = shut number row.0 (omega arith) row.1 no_ choice.0 to.0 to.1;
      }

  -- from a place that isn't marked no list leads to one that has ended
  never_ends : AreShut rows all 0 → (list : List Choice) (p : Place) → IsMarked place keys all false p
      → All (Contains choices) list → ended (place_reached p list) ≡ true → ⊥
  unfolding place_reached
  never_ends shut [] p is meant ends =
      not_both all is.number (stay is.number (shown is.number is.key is.there ∙ ap (λ q. Some (ended q)) is.is ∙ ap Some ends)) is.mark_is
  never_ends shut (c ∷ list) p is meant ends =
      never_ends shut list (place_after p c) (subst (λ q. IsMarked place keys all false (place_after q c)) is.is
      (next_shut shut c is.number is.key is.there is.mark_is (All-head (Contains choices) c list meant)))
      (All-tail (Contains choices) c list meant) ends

  way_seen : (p : Place) → ((k : ℕ) → k < length all → slice_get all k ≡ Some true) → length all ≡ length keys
      → IsSeen place keys p → HasWayOut choices ended p
  way_seen p marked even at =
      let within = slice_get_within keys at.number at.key at.there in
      subst (HasWayOut choices ended) at.is (ways at.number at.key at.there (marked at.number (omega (arith, within, even))))

  way_sooner : (number : ℕ) (p : Place) → ((k : ℕ) → k < number → slice_get all k ≡ Some true) → IsSooner place keys number p
      → HasWayOut choices ended p
  way_sooner number p before at =
      subst (HasWayOut choices ended) at.is (ways at.number at.key at.there (before at.number at.sooner))

  pub all_have_ways : ((k : ℕ) → k < length all → slice_get all k ≡ Some true) → length all ≡ length keys → HaveWaysOut choices start ended
  all_have_ways marked even list meant =
      way_seen (place_reached start list) marked even
      (seen_from place (λ _. false) choices keys
      (record { good = λ k key h e. refl; next = λ k key c h e is. seen.closed k key c e is }) list start
      (record { number = 0; key = seen.reached.first.0; there = seen.reached.first.1; is = seen.reached.first.2 }) meant)

  pub is_stuck : AreShut rows all 0 → (number : ℕ) (path : List Choice) → slice_get all number ≡ Some false
      → length all ≡ length keys → ((k : ℕ) → k < number → slice_get all k ≡ Some true) → All (Contains choices) path
      → ((a : Link) → slice_get links number ≡ Some a → length path ≡ a.steps)
      → ((key : List ℕ) → slice_get keys number ≡ Some key → place_reached start path ≡ place key)
      → LeadsToStuck choices start ended path
  is_stuck shut number path no_ even before meant steps leads =
      let inside = slice_get_within all number false no_ in
      let there = get_there keys number (omega (arith, inside, even)) in
      let links_even = seen.reached.even in
      let last = get_there links number (omega (arith, inside, even, links_even)) in
      record {
        meant = meant;
        stuck = λ way. never_ends shut way.turns (place_reached start path)
            (record { number = number; key = there.0; there = there.1; is = sym (leads there.0 there.1); mark_is = no_ })
            way.are_meant way.ends;
        nearest = λ other all_meant less.
            let count = steps last.0 last.1 in
            way_sooner number (place_reached start other) before
            (seen_sooner place choices keys links number seen.rising.0 last.0 seen.rising.1
            (λ k key link c low e f is. seen.soon k key link c (omega (arith, low, inside, even)) e f is) last.1 IsKey start seen.reached
            other all_meant (omega (arith, less, count)));
      }

-- what has ended has a way out
pub ended_ways : (choices : List Choice) (ended : Place → Bool) (place : List ℕ → Place) (keys : List (List ℕ)) (marks : List Bool)
    → MarkEnded place ended keys marks → HaveMarkedWaysOut choices ended place keys marks
unfolding place_reached
ended_ways choices ended place keys marks shown k key e mark = record {
  turns = [];
  are_meant = All-nil (Contains choices);
  ends = same_at marks k (ended (place key)) true (shown k key e) mark;
}

-- all of a list was written
pub all_written : (marks old : List Bool) (n : ℕ) → n ≡ length old → length marks ≡ length old
    → take n (marks ++ drop (length marks) old) ≡ marks
all_written marks old n n_is even =
    ap (λ rest. take n (marks ++ rest)) (drop_all (length marks) old (omega (arith, even)))
    ∙ ap (take n) (append-nil marks) ∙ take_all n marks (omega (arith, n_is, even))
