-- Keys, and the places that they stand for, as they grow.
use Rattle.std.proofs.Common.{◌≡◌, ◌≢◌, ℕ, zero, suc, ◌+◌, ◌-◌, ◌<◌, ◌≤◌, Bool, true, false, List, [], ◌∷◌, ◌++◌, reverse, get_or, length, map, Option, Some, None, refl, ap, sym, ◌∙◌, subst, arith, inl, inr, ◌⊎◌}
use Rattle.std.specs.List.{All, Contains, slice_get}
use Rattle.std.specs.Option.{option_map}
use Rattle.std.proofs.lemmas.List.{append-nil, length-append, length-map, length-reverse, reverse-append, get_or-reverse}
use Rattle.std.proofs.lemmas.List.Elements.{All-nil, All-head, All-tail, All-push, Contains-get_or}
use Rattle.std.proofs.lemmas.List.Quantifiers.{all_pairs_push}
use Rattle.std.proofs.lemmas.Option.{slice_get_within, slice_get-map, slice_get_read, get_or_from_slice_get}
use Rattle.explore_table.proofs.ListLemmas.{get_begun, get_behind, get_either, get_there, at_contains}
use Rattle.machine.specs.declared.choice.Choice.{Choice}
use Rattle.explore_laws.specs.Places.{Place, place_after, place_reached}
use Rattle.explore_laws.specs.Safe.{IsSafe}
use Rattle.explore_search.specs.Searched.{GoesOn, KeysDiffer, IsSeen, IsReached, AreReached, AreDone}
use Rattle.explore_search.specs.Answers.{AreAllReached}
use Rattle.explore_search.specs.Counted.{IsLedTo, AreApart, HasPlaces, HasMorePlaces}
use Rattle.explore_search.specs.declared.seen.Link.{Link}

-- ---- lists
-- one choice more
reached_last : (p : Place) (list : List Choice) (c : Choice) → place_reached p (list ++ c ∷ []) ≡ place_after (place_reached p list) c
unfolding place_reached
reached_last p [] c = refl
reached_last p (d ∷ list) c = reached_last (place_after p d) list c

pub length_pushed : {X : Type 0} (xs more : List X) (x : X) → more ≡ xs ++ x ∷ [] → length more ≡ length xs + 1
length_pushed xs more x is = ap length is ∙ length-append xs (x ∷ [])

same_at : {X : Type 0} (xs : List X) (k : ℕ) (x y : X) → slice_get xs k ≡ Some x → slice_get xs k ≡ Some y → x ≡ y
same_at xs k x y e f = cc

contains_at : {X : Type 0} (xs : List X) (k : ℕ) (x : X) → slice_get xs k ≡ Some x → Contains xs x
contains_at xs k x e = (k, slice_get_within xs k x e, get_or_from_slice_get xs k x x e)

-- what stands in a list stands in one that goes on as it does
pub get_later : {X : Type 0} (xs ys : List X) (k : ℕ) (x : X) → GoesOn xs ys → slice_get xs k ≡ Some x → slice_get ys k ≡ Some x
get_later xs ys k x goes e = ap (λ zs. slice_get zs k) goes.1 ∙ get_begun xs goes.0 k x e

-- what stands below n in a longer list stands in the list
pub old_at : {X : Type 0} (xs ys : List X) (n k : ℕ) (x : X) → n ≤ length xs → k < n → slice_get (xs ++ ys) k ≡ Some x
    → slice_get xs k ≡ Some x
old_at xs ys n k x within h e =
    let there = get_there xs k (omega (arith, within, h)) in
    there.1 ∙ sym (get_begun xs ys k there.0 there.1) ∙ e

either_below : (k n : ℕ) → k + 1 < n + 1 → (k + 1 < n) ⊎ (k + 1 ≡ n)
either_below k n h = grind arith

pub below_or : (k n : ℕ) → k < n + 1 → (k < n) ⊎ (k ≡ n)
below_or k n h = grind arith

-- ---- a closed search has seen all
pub seen_from : (place : List ℕ → Place) (bad : Place → Bool) (choices : List Choice) (keys : List (List ℕ))
    → AreDone place bad choices keys (length keys) → (list : List Choice) → (p : Place) → IsSeen place keys p
    → All (Contains choices) list → IsSeen place keys (place_reached p list)
unfolding place_reached
seen_from place bad choices keys done [] p seen all = seen
seen_from place bad choices keys done (c ∷ list) p seen all =
    let next = done.next seen.number seen.key c (slice_get_within keys seen.number seen.key seen.there) seen.there
    (All-head (Contains choices) c list all) in
    seen_from place bad choices keys done list (place_after p c)
    (record { number = next.number; key = next.key; there = next.there; is = next.is ∙ ap (λ q. place_after q c) seen.is })
    (All-tail (Contains choices) c list all)

-- ---- adding a key
-- what it says
abbrev pub Added : List (List ℕ) → List (List ℕ) → List ℕ → ℕ → Type 0
Added keys longer key number = ((slice_get keys number ≡ Some key) × (longer ≡ keys))
    ⊎ ((number ≡ length keys) × (Contains keys key → ⊥) × (longer ≡ keys ++ key ∷ []))

pub added_as : (keys longer : List (List ℕ)) (read key : List ℕ) (number : ℕ) → read ≡ key → Added keys longer read number
    → Added keys longer key number
added_as keys longer read key number same added = subst (λ k. Added keys longer k number) same added

pub first_added : (keys longer : List (List ℕ)) (key : List ℕ) (number : ℕ) → keys ≡ [] → Added keys longer key number → longer ≡ key ∷ []
first_added keys longer key number none added = elim added [
  | inl old ↦ absurd (let gone : ◌≡◌ {A = Option (List ℕ)} None (Some key) = ap (λ ks. slice_get ks number) (sym none) ∙ old.0 in cc)
  | inr new ↦ new.2 ∙ ap (λ ks. ks ++ key ∷ []) none
]

-- the first key alone
reached_one : (IsKey : List ℕ → Type 0) (place : List ℕ → Place) (start : Place) (choices : List Choice) (key : List ℕ) (link : Link)
    → IsKey key → place key ≡ start → KeysDiffer IsKey place → AreReached IsKey place start choices (key ∷ []) (link ∷ [])
reached_one IsKey place start choices key link is begins differ = record {
  are = λ k x e. elim (get_either [] key x k e) [
    | inl none ↦ absurd (cc)
    | inr here ↦ subst IsKey here.1 is
  ];
  differ = differ;
  distinct = λ i j d low inside. absurd (omega (arith, low, inside));
  first = (key, refl, begins);
  even = refl;
  ways = λ k h. absurd (omega (arith, h));
}

pub reached_first : (IsKey : List ℕ → Type 0) (place : List ℕ → Place) (start : Place) (choices : List Choice) (key : List ℕ)
    (keys : List (List ℕ)) (links : List Link) (link : Link) → keys ≡ key ∷ [] → links ≡ link ∷ [] → IsKey key → place key ≡ start
    → KeysDiffer IsKey place → AreReached IsKey place start choices keys links
reached_first IsKey place start choices key keys links link keys_are links_are is begins differ =
    subst (λ ks. AreReached IsKey place start choices ks links) (sym keys_are)
    (subst (AreReached IsKey place start choices (key ∷ [])) (sym links_are) (reached_one IsKey place start choices key link is begins differ))

-- ---- one choice, by its number
-- it leads from a place to another
abbrev pub LeadsBy : List Choice → ℕ → Place → Place → Type 0
LeadsBy choices turn p q = (c : Choice) → slice_get choices turn ≡ Some c → q ≡ place_after p c

pub leads_by : (choices : List Choice) (turn : ℕ) (d : Choice) (p q : Place) → q ≡ place_after p (get_or choices turn d)
    → LeadsBy choices turn p q
leads_by choices turn d p q is c e = is ∙ ap (place_after p) (get_or_from_slice_get choices turn c d e)

-- ---- what stands for places may grow
module _ (IsKey IsKeyLater : List ℕ → Type 0) (place later : List ℕ → Place)
    (kept : (k : List ℕ) → IsKey k → IsKeyLater k × (later k ≡ place k)) where
  link_stays : (choices : List Choice) (keys longer : List (List ℕ)) (links others : List Link) (k : ℕ)
      → ((i : ℕ) (key : List ℕ) → slice_get keys i ≡ Some key → IsKey key) → GoesOn keys longer → GoesOn links others
      → IsReached place choices keys links k → IsReached later choices longer others k
  link_stays choices keys longer links others k are keys_go links_go r = record {
    link = r.link;
    choice = r.choice;
    there = get_later links others k r.link links_go r.there;
    key = r.key;
    this = get_later keys longer k r.key keys_go r.this;
    from = r.from;
    before = get_later keys longer r.link.from r.from keys_go r.before;
    earlier = r.earlier;
    meant = r.meant;
    is = (kept r.key (are k r.key r.this)).1 ∙ r.is
        ∙ ap (λ p. place_after p r.choice) (sym (kept r.from (are r.link.from r.from r.before)).1);
  }

  seen_stays : (keys more : List (List ℕ)) (p : Place) → ((i : ℕ) (key : List ℕ) → slice_get keys i ≡ Some key → IsKey key)
      → IsSeen place keys p → IsSeen later (keys ++ more) p
  seen_stays keys more p are s = record {
    number = s.number;
    key = s.key;
    there = get_begun keys more s.number s.key s.there;
    is = (kept s.key (are s.number s.key s.there)).1 ∙ s.is;
  }

  -- nothing new was found
  pub reached_still : (first : Place) (choices : List Choice) (keys : List (List ℕ)) (links : List Link)
      → KeysDiffer IsKeyLater later → AreReached IsKey place first choices keys links
      → AreReached IsKeyLater later first choices keys links
  reached_still first choices keys links differ r = record {
    are = λ k key e. (kept key (r.are k key e)).0;
    differ = differ;
    distinct = r.distinct;
    first = (r.first.0, r.first.1, (kept r.first.0 (r.are 0 r.first.0 r.first.1)).1 ∙ r.first.2);
    even = r.even;
    ways = λ k h. link_stays choices keys keys links links (k + 1) r.are ([], sym (append-nil keys)) ([], sym (append-nil links)) (r.ways k h);
  }

  -- a key was found
  pub reached_more : (first : Place) (choices : List Choice) (keys : List (List ℕ)) (links : List Link)
      → KeysDiffer IsKeyLater later → AreReached IsKey place first choices keys links → (key from : List ℕ) (link : Link)
      → (Contains keys key → ⊥) → IsKeyLater key
      → slice_get keys link.from ≡ Some from → link.turn < length choices → LeadsBy choices link.turn (place from) (later key)
      → AreReached IsKeyLater later first choices (keys ++ key ∷ []) (links ++ link ∷ [])
  reached_more first choices keys links differ r key from link new_one is there meant leads = record {
    are = λ k x e. elim (get_either keys key x k e) [
      | inl old ↦ (kept x (r.are k x old)).0
      | inr new ↦ subst IsKeyLater new.1 is
    ];
    differ = differ;
    distinct = all_pairs_push (λ (k : List ℕ) (l : List ℕ). k ≢ l) keys key r.distinct
        (λ k d below same. new_one (subst (Contains keys) same (Contains-get_or keys k d below)));
    first = (r.first.0, get_begun keys (key ∷ []) 0 r.first.0 r.first.1, (kept r.first.0 (r.are 0 r.first.0 r.first.1)).1 ∙ r.first.2);
    even = length-append links (link ∷ []) ∙ ap (λ n. n + 1) r.even ∙ sym (length-append keys (key ∷ []));
    ways = λ k h. elim (either_below k (length keys) (let e = length-append keys (key ∷ []) in omega (arith, h, e))) [
      | inl below ↦ link_stays choices keys (keys ++ key ∷ []) links (links ++ link ∷ []) (k + 1) r.are (key ∷ [], refl) (link ∷ [], refl)
          (r.ways k below)
      | inr last ↦ let turn = get_there choices link.turn meant in
          subst (IsReached later choices (keys ++ key ∷ []) (links ++ link ∷ [])) (sym last) (record {
            link = link;
            choice = turn.0;
            there = subst (λ n. slice_get (links ++ link ∷ []) n ≡ Some link) r.even (get_behind links link);
            key = key;
            this = get_behind keys key;
            from = from;
            before = get_begun keys (key ∷ []) link.from from there;
            earlier = slice_get_within keys link.from from there;
            meant = turn.1;
            is = leads turn.0 turn.1 ∙ ap (λ p. place_after p turn.0) (sym (kept from (r.are link.from from there)).1);
          })
    ];
  }

  pub done_stays : (bad : Place → Bool) (choices : List Choice) (keys more : List (List ℕ)) (n : ℕ) → n ≤ length keys
      → ((i : ℕ) (key : List ℕ) → slice_get keys i ≡ Some key → IsKey key)
      → AreDone place bad choices keys n → AreDone later bad choices (keys ++ more) n
  done_stays bad choices keys more n within are d = record {
    good = λ k key h e. let old = old_at keys more n k key within h e in ap bad (kept key (are k key old)).1 ∙ d.good k key h old;
    next = λ k key c h e in_. let old = old_at keys more n k key within h e in
        subst (IsSeen later (keys ++ more)) (ap (λ p. place_after p c) (sym (kept key (are k key old)).1))
        (seen_stays keys more (place_after (place key) c) are (d.next k key c h old in_));
  }

  pub see_new : (first : Place) (choices : List Choice) (keys longer : List (List ℕ)) (links others : List Link)
      → KeysDiffer IsKeyLater later → AreReached IsKey place first choices keys links → (key from : List ℕ) (link : Link) (number : ℕ) → IsKeyLater key
      → slice_get keys link.from ≡ Some from → link.turn < length choices → LeadsBy choices link.turn (place from) (later key)
      → Added keys longer key number → number ≡ length links → others ≡ links ++ link ∷ []
      → AreReached IsKeyLater later first choices longer others
  see_new first choices keys longer links others differ r key from link number is there meant leads added last pushed = elim added [
    | inl old ↦ absurd (let w = slice_get_within keys number key old.0 in let even = r.even in omega (arith, w, even, last))
    | inr new ↦ rw new.2 (rw pushed (reached_more first choices keys links differ r key from link new.1 is there meant leads))
  ]

  pub see_known : (first : Place) (choices : List Choice) (keys longer : List (List ℕ)) (links : List Link)
      → KeysDiffer IsKeyLater later → AreReached IsKey place first choices keys links → (key : List ℕ) (number : ℕ)
      → Added keys longer key number → number ≢ length links → AreReached IsKeyLater later first choices longer links
  see_known first choices keys longer links differ r key number added other = elim added [
    | inl old ↦ rw old.1 (reached_still first choices keys links differ r)
    | inr new ↦ absurd (other (new.0 ∙ sym r.even))
  ]

  pub see_it : (keys longer : List (List ℕ)) (key : List ℕ) (number : ℕ) (p : Place) → Added keys longer key number
      → later key ≡ p → IsSeen later longer p
  see_it keys longer key number p added is = elim added [
    | inl old ↦ record { number = number; key = key; there = ap (λ ks. slice_get ks number) old.1 ∙ old.0; is = is }
    | inr new ↦ record {
      number = number;
      key = key;
      is = is;
      there = ap (λ ks. slice_get ks number) new.2 ∙ ap (slice_get (keys ++ key ∷ [])) new.0 ∙ get_behind keys key;
    }
  ]

  -- one choice more was taken from a key
  pub seen_step : (choices : List Choice) (keys longer : List (List ℕ)) → GoesOn keys longer
      → ((i : ℕ) (k : List ℕ) → slice_get keys i ≡ Some k → IsKey k) → (key : List ℕ) → IsKey key → (i : ℕ)
      → ((k : ℕ) (d : Choice) → k < i → slice_get choices k ≡ Some d → IsSeen place keys (place_after (place key) d))
      → ((d : Choice) → slice_get choices i ≡ Some d → IsSeen later longer (place_after (place key) d))
      → (k : ℕ) (d : Choice) → k < i + 1 → slice_get choices k ≡ Some d → IsSeen later longer (place_after (later key) d)
  seen_step choices keys longer begins are key is i before now k d h e =
      subst (λ p. IsSeen later longer (place_after p d)) (sym (kept key is).1) (elim (below_or k i h) [
        | inl below ↦ subst (λ ks. IsSeen later ks (place_after (place key) d)) (sym begins.1)
            (seen_stays keys begins.0 (place_after (place key) d) are (before k d below e))
        | inr here ↦ now d (ap (slice_get choices) (sym here) ∙ e)
      ])

  -- what was done stays done
  pub done_later : (bad worse : Place → Bool) (choices : List Choice) (keys longer : List (List ℕ)) (n : ℕ) → GoesOn keys longer
      → n ≤ length keys → ((i : ℕ) (k : List ℕ) → slice_get keys i ≡ Some k → IsKey k) → worse ≡ bad
      → AreDone place bad choices keys n → AreDone later worse choices longer n
  done_later bad worse choices keys longer n begins within are same d =
      rw same (rw begins.1 (done_stays bad choices keys begins.0 n within are d))

-- all that follows a key is seen
pub done_more : (place : List ℕ → Place) (bad : Place → Bool) (choices : List Choice) (keys : List (List ℕ)) (n : ℕ) (key : List ℕ)
    → slice_get keys n ≡ Some key → bad (place key) ≡ false
    → ((k : ℕ) (c : Choice) → k < length choices → slice_get choices k ≡ Some c → IsSeen place keys (place_after (place key) c))
    → AreDone place bad choices keys n → AreDone place bad choices keys (n + 1)
done_more place bad choices keys n key there good seen d = record {
  good = λ k x h e. elim (below_or k n h) [
    | inl below ↦ d.good k x below e
    | inr here ↦ ap (λ y. bad (place y)) (sym (same_at keys n key x there (ap (slice_get keys) (sym here) ∙ e))) ∙ good
  ];
  next = λ k x c h e is. elim (below_or k n h) [
    | inl below ↦ d.next k x c below e is
    | inr here ↦
        let at = at_contains choices c is in
        subst (λ y. IsSeen place keys (place_after (place y) c)) (same_at keys n key x there (ap (slice_get keys) (sym here) ∙ e))
        (seen at.0 c (slice_get_within choices at.0 c at.1) at.1)
  ];
}

-- ---- what was found by a search
led_further : (choices : List Choice) (start p q : Place) (c : Choice) → IsLedTo choices start p → Contains choices c → q ≡ place_after p c
    → IsLedTo choices start q
led_further choices start p q c led meant is = record {
  list = led.list ++ c ∷ [];
  meant = All-push (Contains choices) led.list c led.meant meant;
  leads = reached_last start led.list c ∙ ap (λ x. place_after x c) led.leads ∙ sym is;
}

module _ (IsKey : List ℕ → Type 0) (place : List ℕ → Place) (start : Place) (choices : List Choice) (keys : List (List ℕ))
    (links : List Link) (r : AreReached IsKey place start choices keys links) where
  led_below : (n k : ℕ) (key : List ℕ) → k < n → slice_get keys k ≡ Some key → IsLedTo choices start (place key)
  unfolding place_reached
  led_below zero k key h e = absurd (omega (arith, h))
  led_below (suc n) zero key h e = record {
    list = [];
    meant = All-nil (Contains choices);
    leads = sym r.first.2 ∙ ap place (same_at keys 0 r.first.0 key r.first.1 e);
  }
  led_below (suc n) (suc k) key h e =
      let at : k + 1 ≡ suc k = omega arith in
      let inside = slice_get_within keys (suc k) key e in
      let way = r.ways k (omega (arith, inside)) in
      let earlier = way.earlier in
      let before = led_below n way.link.from way.from (omega (arith, earlier, h)) way.before in
      subst (λ x. IsLedTo choices start (place x)) (same_at keys (k + 1) way.key key way.this (ap (slice_get keys) at ∙ e))
      (led_further choices start (place way.from) (place way.key) way.choice before
      (contains_at choices way.link.turn way.choice way.meant) way.is)

  -- the keys' places differ, and lists of choices lead to them
  keys_apart : AreApart choices start (map place keys)
  keys_apart = record {
    differ = λ i j d low inside.
        let there = get_there keys j (let m = length-map keys place in omega (arith, inside, m)) in
        let within = slice_get_within keys j there.0 there.1 in
        let here = get_there keys i (omega (arith, low, within)) in
        λ same. r.distinct i j here.0 low within
        (get_or_from_slice_get keys i here.0 here.0 here.1
        ∙ r.differ here.0 there.0 (r.are i here.0 here.1) (r.are j there.0 there.1)
        (sym (place_at i here.0 d here.1) ∙ same ∙ place_at j there.0 d there.1)
        ∙ sym (get_or_from_slice_get keys j there.0 here.0 there.1));
    led_to = λ k d inside.
        let there = get_there keys k (let m = length-map keys place in omega (arith, inside, m)) in
        subst (IsLedTo choices start) (sym (place_at k there.0 d there.1)) (led_below (k + 1) k there.0 (omega arith) there.1);
  }
    where
      place_at : (k : ℕ) (key : List ℕ) (d : Place) → slice_get keys k ≡ Some key → get_or (map place keys) k d ≡ place key
      place_at k key d e = get_or_from_slice_get (map place keys) k (place key) d (slice_get-map place keys k ∙ ap (option_map place) e)

  -- nothing is left to be looked at
  module _ (bad : Place → Bool) (n : ℕ) (d : AreDone place bad choices keys n) (all : length keys ≤ n) where
    seen_all : (list : List Choice) → All (Contains choices) list → IsSeen place keys (place_reached start list)
    seen_all list meant =
        seen_from place bad choices keys
        (record {
          good = λ k key h e. d.good k key (omega (arith, h, all)) e;
          next = λ k key c h e is. d.next k key c (omega (arith, h, all)) e is;
        })
        list start (record { number = 0; key = r.first.0; there = r.first.1; is = r.first.2 }) meant

    all_safe : IsSafe choices start bad
    all_safe list meant =
        let seen = seen_all list meant in
        let within = slice_get_within keys seen.number seen.key seen.there in
        ap bad (sym seen.is) ∙ d.good seen.number seen.key (omega (arith, within, all)) seen.there

    all_reached : AreAllReached IsKey place choices start keys
    all_reached = record {
      are = λ k x inside.
          let there = get_there keys k inside in
          subst IsKey (sym (get_or_from_slice_get keys k there.0 x there.1)) (r.are k there.0 there.1);
      led_to = λ k x inside.
          let there = get_there keys k inside in
          subst (λ key. IsLedTo choices start (place key)) (sym (get_or_from_slice_get keys k there.0 x there.1))
          (led_below (k + 1) k there.0 (omega arith) there.1);
      all = seen_all;
    }

    all_counted : HasPlaces choices start (length keys)
    all_counted = record {
      places = map place keys;
      apart = keys_apart;
      all = λ list meant.
          let seen = seen_all list meant in
          subst (Contains (map place keys)) seen.is (contains_at (map place keys) seen.number (place seen.key)
          (slice_get-map place keys seen.number ∙ ap (option_map place) seen.there));
      count_is = length-map keys place;
    }

  -- more keys than so many were found
  more_counted : (most : ℕ) → most < length keys → HasMorePlaces choices start most
  more_counted most more = record {
    places = map place keys;
    apart = keys_apart;
    more = (let m = length-map keys place in omega (arith, m, more));
  }

-- the same by what a search knows: its first place and what is bad are those that it began with
pub closed_is_safe : {IsKey : List ℕ → Type 0} {place : List ℕ → Place} {begun start : Place} {worse bad : Place → Bool}
    {choices : List Choice} {keys : List (List ℕ)} {links : List Link} {n : ℕ} → AreReached IsKey place begun choices keys links
    → AreDone place worse choices keys n → begun ≡ start → worse ≡ bad → length keys ≤ n → IsSafe choices start bad
closed_is_safe {IsKey} {place} {begun} {start} {worse} {bad} {choices} {keys} {links} {n} r d first same all =
    subst (λ p. IsSafe choices p bad) first (subst (IsSafe choices begun) same (all_safe IsKey place begun choices keys links r worse n d all))

pub closed_is_all : {IsKey : List ℕ → Type 0} {place : List ℕ → Place} {begun start : Place} {bad : Place → Bool}
    {choices : List Choice} {keys : List (List ℕ)} {links : List Link} {n : ℕ} → AreReached IsKey place begun choices keys links
    → AreDone place bad choices keys n → begun ≡ start → length keys ≤ n → AreAllReached IsKey place choices start keys
closed_is_all {IsKey} {place} {begun} {start} {bad} {choices} {keys} {links} {n} r d first all =
    subst (λ p. AreAllReached IsKey place choices p keys) first (all_reached IsKey place begun choices keys links r bad n d all)

pub closed_is_counted : {IsKey : List ℕ → Type 0} {place : List ℕ → Place} {begun start : Place} {bad : Place → Bool}
    {choices : List Choice} {keys : List (List ℕ)} {links : List Link} {n : ℕ} → AreReached IsKey place begun choices keys links
    → AreDone place bad choices keys n → begun ≡ start → length keys ≤ n → HasPlaces choices start (length keys)
closed_is_counted {IsKey} {place} {begun} {start} {bad} {choices} {keys} {links} {n} r d first all =
    subst (λ p. HasPlaces choices p (length keys)) first (all_counted IsKey place begun choices keys links r bad n d all)

pub more_are_counted : {IsKey : List ℕ → Type 0} {place : List ℕ → Place} {begun start : Place} {choices : List Choice}
    {keys : List (List ℕ)} {links : List Link} {most : ℕ} → AreReached IsKey place begun choices keys links → begun ≡ start
    → most < length keys → HasMorePlaces choices start most
more_are_counted {IsKey} {place} {begun} {start} {choices} {keys} {links} {most} r first more =
    subst (λ p. HasMorePlaces choices p most) first (more_counted IsKey place begun choices keys links r most more)

-- what is read in a buffer is bad where its key is
pub bad_by : (bad : Place → Bool) (place : List ℕ → Place) (read key : List ℕ) (answer : Bool) → read ≡ key
    → answer ≡ bad (place read) → answer ≡ true → bad (place key) ≡ true
bad_by bad place read key answer same is yes_ = subst (λ k. bad (place k) ≡ true) same (sym is ∙ yes_)

-- ---- the way back
pub All-reverse : {X : Type 0} (P : X → Type 0) (xs : List X) → All P xs → All P (reverse xs)
All-reverse P xs all = λ k d h.
    let below : k < length xs = (let e = length-reverse xs in omega (arith, h, e)) in
    subst P (sym (get_or-reverse xs k d below)) (all (length xs - 1 - k) d (omega (arith, below)))

-- the choices so far, backwards, lead from key number `at` to another
abbrev pub LeadsOn : (List ℕ → Place) → List (List ℕ) → ℕ → ℕ → List Choice → Type 0
LeadsOn place keys at number path = (here key : List ℕ) → slice_get keys at ≡ Some here → slice_get keys number ≡ Some key
    → place_reached (place here) (reverse path) ≡ place key

pub leads_first : (place : List ℕ → Place) (keys : List (List ℕ)) (number : ℕ) (path : List Choice) → path ≡ []
    → LeadsOn place keys number number path
unfolding place_reached
leads_first place keys number path none here key e f = rw none (ap place (same_at keys number here key e f))

-- the way that a key other than the first was found
pub way_at : (IsKey : List ℕ → Type 0) (place : List ℕ → Place) (first : Place) (choices : List Choice) (keys : List (List ℕ))
    (links : List Link) → AreReached IsKey place first choices keys links → (at : ℕ) → 0 < at → at < length keys
    → IsReached place choices keys links at
way_at IsKey place first choices keys links r at some within =
    let one : at - 1 + 1 ≡ at = omega (arith, some) in
    subst (IsReached place choices keys links) one (r.ways (at - 1) (omega (arith, some, within)))

same_link : (links : List Link) (at : ℕ) (a link : Link) → slice_get links at ≡ Some a → at < length links → link ≡ get_or links at link → a ≡ link
same_link links at a link e within is = same_at links at a link e (slice_get_read links (length links) at link refl within is)

module _ (IsKey : List ℕ → Type 0) (place : List ℕ → Place) (first : Place) (choices : List Choice) (keys : List (List ℕ))
    (links : List Link) (r : AreReached IsKey place first choices keys links) (at : ℕ) (some : 0 < at) (within : at < length keys)
    (link : Link) (is : link ≡ get_or links at link) where
  way : IsReached place choices keys links at
  way = way_at IsKey place first choices keys links r at some within

  link_is : way.link ≡ link
  link_is = same_link links at way.link link way.there (let even = r.even in omega (arith, within, even)) is

  pub back_less : link.from < at
  back_less = subst (λ (l : Link). l.from < at) link_is way.earlier

  turn_is : slice_get choices link.turn ≡ Some way.choice
  turn_is = subst (λ (l : Link). slice_get choices l.turn ≡ Some way.choice) link_is way.meant

  pub back_turn : link.turn < length choices
  back_turn = slice_get_within choices link.turn way.choice turn_is

  pub back_meant : (d : Choice) → Contains choices (get_or choices link.turn d)
  back_meant d = Contains-get_or choices link.turn d back_turn

  pub back_leads : (number : ℕ) (path more : List Choice) (d : Choice) → LeadsOn place keys at number path
      → more ≡ path ++ get_or choices link.turn d ∷ [] → LeadsOn place keys link.from number more
  unfolding place_reached
  back_leads number path more d leads pushed here key e f =
      let choice = get_or choices link.turn d in
      let choice_is : choice ≡ way.choice = get_or_from_slice_get choices link.turn way.choice d turn_is in
      let from_is : way.from ≡ here = same_at keys link.from way.from here
      (subst (λ (l : Link). slice_get keys l.from ≡ Some way.from) link_is way.before) e in
      let step_is : place_after (place here) choice ≡ place way.key
      = ap (λ k. place_after (place k) choice) (sym from_is) ∙ ap (place_after (place way.from)) choice_is ∙ sym way.is in
      ap (λ p. place_reached (place here) (reverse p)) pushed ∙ ap (place_reached (place here)) (reverse-append path (choice ∷ []))
      ∙ ap (λ p. place_reached p (reverse path)) step_is ∙ leads way.key key way.this f
