-- Nearer places are found first.
use Rattle.std.proofs.Common.{◌≡◌, ◌≢◌, ℕ, zero, suc, ◌+◌, ◌-◌, ◌<◌, ◌≤◌, Bool, false, List, [], ◌∷◌, ◌++◌, length, Option, Some, refl, ap, sym, ◌∙◌, subst, arith, inl, inr, ◌⊎◌}
use Rattle.std.specs.List.{All, Contains, slice_get}
use Rattle.std.proofs.lemmas.List.Elements.{All-head, All-tail}
use Rattle.std.proofs.lemmas.Option.{slice_get_within}
use Rattle.machine.specs.declared.choice.Choice.{Choice}
use Rattle.explore_laws.specs.Places.{Place, place_after, place_reached}
use Rattle.explore_table.proofs.ListLemmas.{get_behind, get_either, get_there, at_contains}
use Rattle.explore_search.specs.Searched.{GoesOn, IsSoon, AreReached, AreDone, AreRising, AreSoon}
use Rattle.explore_search.specs.Marked.{AreAllSeen}
use Rattle.explore_search.specs.declared.seen.Link.{Link}
use Rattle.explore_search.proofs.SearchLemmas.{Added, get_later, old_at, below_or}

same_link : (links : List Link) (k : ℕ) (a b : Link) → slice_get links k ≡ Some a → slice_get links k ≡ Some b → a ≡ b
same_link links k a b e f = cc

same_steps : (links : List Link) (k : ℕ) (a b : Link) → slice_get links k ≡ Some a → slice_get links k ≡ Some b → a.steps ≡ b.steps
same_steps links k a b e f = ap (λ (l : Link). l.steps) (same_link links k a b e f)

-- ---- one link more
module _ (links : List Link) (n : ℕ) (r : AreRising links n) (link from : Link) (there : slice_get links n ≡ Some from)
    (step : link.steps ≡ from.steps + 1) (is_from : link.from ≡ n) where
  within : n < length links
  within = slice_get_within links n from there

  old_of : (k : ℕ) (a : Link) → k < length links → slice_get (links ++ link ∷ []) k ≡ Some a → slice_get links k ≡ Some a
  old_of k a below e = old_at links (link ∷ []) (length links) k a (omega arith) below e

  rising_both : (i j : ℕ) (a b : Link) → i ≤ j
      → (slice_get links i ≡ Some a) ⊎ ((i ≡ length links) × (link ≡ a))
      → (slice_get links j ≡ Some b) ⊎ ((j ≡ length links) × (link ≡ b)) → a.steps ≤ b.steps
  rising_both i j a b h (inl e) (inl f) = r.rising i j a b h e f
  rising_both i j a b h (inl e) (inr f) =
      let below = r.near i from a there e in
      let is : link.steps ≡ b.steps = ap (λ (l : Link). l.steps) f.1 in omega (arith, below, is, step)
  rising_both i j a b h (inr e) (inl f) =
      let lt = slice_get_within links j b f in let at = e.0 in absurd (omega (arith, lt, at, h))
  rising_both i j a b h (inr e) (inr f) =
      let x : link.steps ≡ a.steps = ap (λ (l : Link). l.steps) e.1 in
      let y : link.steps ≡ b.steps = ap (λ (l : Link). l.steps) f.1 in omega (arith, x, y)

  pub rising_more : AreRising (links ++ link ∷ []) n
  rising_more = record {
    zero_first = λ a e. r.zero_first a (old_of 0 a (omega (arith, within)) e);
    back = λ k a e. elim (get_either links link a (k + 1) e) [
      | inl old ↦ r.back k a old
      | inr new ↦ subst (λ (l : Link). l.from < k + 1) new.1 (let at = new.0 in omega (arith, within, is_from, at))
    ];
    up = λ k a b e f. elim (get_either links link a (k + 1) e) [
      | inl old ↦ r.up k a b old (old_of a.from b (let x = r.back k a old in let y = slice_get_within links (k + 1) a old in omega (arith, x, y)) f)
      | inr new ↦
          let b_is : b.steps ≡ from.steps = same_steps links n b from
          (old_of n b within (ap (slice_get (links ++ link ∷ [])) (sym (sym (ap (λ (l : Link). l.from) new.1) ∙ is_from)) ∙ f)) there in
          sym (ap (λ (l : Link). l.steps) new.1) ∙ step ∙ ap (λ s. s + 1) (sym b_is)
    ];
    least = λ k a e. elim (get_either links link a k e) [
      | inl old ↦ r.least k a old
      | inr new ↦ subst (λ (l : Link). l.steps ≤ k) new.1 (let x = r.least n from there in let at = new.0 in omega (arith, x, within, at, step))
    ];
    rising = λ i j a b h e f. rising_both i j a b h (get_either links link a i e) (get_either links link b j f);
    near = λ j a b e f.
        let a_is : a.steps ≡ from.steps = same_steps links n a from (old_of n a within e) there in
        elim (get_either links link b j f) [
          | inl old ↦ (let x = r.near j from b there old in omega (arith, x, a_is))
          | inr new ↦ (let is : link.steps ≡ b.steps = ap (λ (l : Link). l.steps) new.1 in omega (arith, is, a_is, step))
        ];
  }

-- the next key is looked at
pub rising_next : (links : List Link) (n : ℕ) (from : Link) → slice_get links n ≡ Some from → AreRising links n → AreRising links (n + 1)
rising_next links n from there r = record {
  zero_first = r.zero_first;
  back = r.back;
  up = r.up;
  least = r.least;
  rising = r.rising;
  near = λ j a b e f.
      let x = r.near j from b there f in
      let y = r.rising n (n + 1) from a (omega arith) there e in omega (arith, x, y);
}

-- ---- places that are found soon
pub soon_later : (place : List ℕ → Place) (keys : List (List ℕ)) (links : List Link) (m n : ℕ) (p : Place) → m ≤ n
    → IsSoon place keys links m p → IsSoon place keys links n p
soon_later place keys links m n p h s = (s.0, (let x = s.1 in omega (arith, x, h)))

module _ (IsKey IsKeyLater : List ℕ → Type 0) (place later : List ℕ → Place)
    (kept : (k : List ℕ) → IsKey k → IsKeyLater k × (later k ≡ place k)) where
  pub soon_stays : (keys longer : List (List ℕ)) (links others : List Link) (most : ℕ) (p : Place)
      → ((i : ℕ) (key : List ℕ) → slice_get keys i ≡ Some key → IsKey key) → GoesOn keys longer → GoesOn links others
      → IsSoon place keys links most p → IsSoon later longer others most p
  soon_stays keys longer links others most p are begins links_begin s =
      let at = s.0 in (
        record {
          number = at.number;
          key = at.key;
          there = get_later keys longer at.number at.key begins at.there;
          link = at.link;
          found = get_later links others at.number at.link links_begin at.found;
          is = (kept at.key (are at.number at.key at.there)).1 ∙ at.is;
        },
        s.1,
      )

  pub soons_stay : (choices : List Choice) (keys longer : List (List ℕ)) (links others : List Link) (n : ℕ) → n ≤ length keys
      → length links ≡ length keys → ((i : ℕ) (key : List ℕ) → slice_get keys i ≡ Some key → IsKey key) → GoesOn keys longer
      → GoesOn links others → AreSoon place choices keys links n → AreSoon later choices longer others n
  soons_stay choices keys longer links others n within even are begins links_begin soons k key link c h e f is =
      let old : slice_get keys k ≡ Some key
      = old_at keys begins.0 n k key within h (ap (λ ks. slice_get ks k) (sym begins.1) ∙ e) in
      let old_link : slice_get links k ≡ Some link
      = old_at links links_begin.0 n k link (omega (arith, within, even)) h (ap (λ ls. slice_get ls k) (sym links_begin.1) ∙ f) in
      subst (λ p. IsSoon later longer others (link.steps + 1) (place_after p c)) (sym (kept key (are k key old)).1)
      (soon_stays keys longer links others (link.steps + 1) (place_after (place key) c) are begins links_begin (soons k key link c h old old_link is))

  -- one choice more was taken from a key
  pub soon_step : (choices : List Choice) (keys longer : List (List ℕ)) (links others : List Link) (most : ℕ) → GoesOn keys longer
      → GoesOn links others → ((i : ℕ) (k : List ℕ) → slice_get keys i ≡ Some k → IsKey k) → (key : List ℕ) → IsKey key
      → (i : ℕ)
      → ((k : ℕ) (d : Choice) → k < i → slice_get choices k ≡ Some d → IsSoon place keys links most (place_after (place key) d))
      → ((d : Choice) → slice_get choices i ≡ Some d → IsSoon later longer others most (place_after (place key) d))
      → (k : ℕ) (d : Choice) → k < i + 1 → slice_get choices k ≡ Some d → IsSoon later longer others most (place_after (later key) d)
  soon_step choices keys longer links others most begins links_begin are key is i before now k d h e =
      subst (λ p. IsSoon later longer others most (place_after p d)) (sym (kept key is).1) (elim (below_or k i h) [
        | inl below ↦ soon_stays keys longer links others most (place_after (place key) d) are begins links_begin (before k d below e)
        | inr here ↦ now d (ap (slice_get choices) (sym here) ∙ e)
      ])

-- all that follows a key is found soon
pub soons_more : (place : List ℕ → Place) (choices : List Choice) (keys : List (List ℕ)) (links : List Link) (n : ℕ) (key : List ℕ)
    (link : Link) → slice_get keys n ≡ Some key → slice_get links n ≡ Some link
    → ((k : ℕ) (c : Choice) → k < length choices → slice_get choices k ≡ Some c → IsSoon place keys links (link.steps + 1) (place_after (place key) c))
    → AreSoon place choices keys links n → AreSoon place choices keys links (n + 1)
soons_more place choices keys links n key link there found seen soons k x y c h e f is = elim (below_or k n h) [
  | inl below ↦ soons k x y c below e f is
  | inr here ↦
      let at = at_contains choices c is in
      let key_is : key ≡ x = same_key key x (sym there ∙ ap (slice_get keys) (sym here) ∙ e) in
      let link_is : link ≡ y = same_link links n link y found (ap (slice_get links) (sym here) ∙ f) in
      subst (λ z. IsSoon place keys links (y.steps + 1) (place_after (place z) c)) key_is
      (subst (λ (z : Link). IsSoon place keys links (z.steps + 1) (place_after (place key) c)) link_is
      (seen at.0 c (slice_get_within choices at.0 c at.1) at.1))
]
  where
    same_key : (c d : List ℕ) → ◌≡◌ {A = Option (List ℕ)} (Some c) (Some d) → c ≡ d
    same_key c d e = cc

-- ---- no shorter list
-- a place is that of one of the first n keys
pub record IsSooner (place : List ℕ → Place) (keys : List (List ℕ)) (n : ℕ) (p : Place) : Type 0 where
  pub number : ℕ
  pub key : List ℕ
  pub there : slice_get keys number ≡ Some key
  pub sooner : number < n
  pub is : place key ≡ p

module _ (place : List ℕ → Place) (choices : List Choice) (keys : List (List ℕ)) (links : List Link) (n m : ℕ) (last : Link)
    (r : AreRising links m) (soons : AreSoon place choices keys links n) (there : slice_get links n ≡ Some last) where
  -- what is found sooner than key n stands before it
  before_last : (k : ℕ) (a : Link) → slice_get links k ≡ Some a → a.steps < last.steps → k < n
  before_last k a e h = elim (either k n) [
    | inl below ↦ below
    | inr above ↦ absurd (let x = r.rising n k last a above there e in omega (arith, x, h))
  ]
    where
      either : (k n : ℕ) → (k < n) ⊎ (n ≤ k)
      either k n = grind arith

  soon_from : (m : ℕ) (p : Place) (list : List Choice) → IsSoon place keys links m p → m + length list ≤ last.steps
      → All (Contains choices) list → IsSoon place keys links (m + length list) (place_reached p list)
  unfolding place_reached
  soon_from m p [] s room all = soon_later place keys links m (m + 0) p (omega arith) s
  soon_from m p (c ∷ list) s room all =
      let at = s.0 in
      let x = s.1 in
      let below : at.number < n = before_last at.number at.link at.found (omega (arith, x, room)) in
      let next : IsSoon place keys links (at.link.steps + 1) (place_after p c)
      = subst (λ q. IsSoon place keys links (at.link.steps + 1) (place_after q c)) at.is
      (soons at.number at.key at.link c below at.there at.found (All-head (Contains choices) c list all)) in
      let rest : IsSoon place keys links (m + 1 + length list) (place_reached (place_after p c) list)
      = soon_from (m + 1) (place_after p c) list (soon_later place keys links (at.link.steps + 1) (m + 1) (place_after p c) (omega (arith, x)) next)
      (omega (arith, room)) (All-tail (Contains choices) c list all) in
      soon_later place keys links (m + 1 + length list) (m + suc (length list)) (place_reached (place_after p c) list) (omega arith) rest

  -- where a shorter list leads is the place of a key before key n
  pub seen_sooner : (IsKey : List ℕ → Type 0) (start : Place) → AreReached IsKey place start choices keys links → (other : List Choice)
      → All (Contains choices) other → length other < last.steps → IsSooner place keys n (place_reached start other)
  seen_sooner IsKey start reached_all other all shorter =
      let first_link = get_there links 0 (let w = slice_get_within links n last there in omega (arith, w)) in
      let begin : IsSoon place keys links 0 start = (
        record {
          number = 0;
          key = reached_all.first.0;
          link = first_link.0;
          there = reached_all.first.1;
          found = first_link.1;
          is = reached_all.first.2;
        },
        (let z = r.zero_first first_link.0 first_link.1 in omega (arith, z)),
      ) in
      let s = soon_from 0 start other begin (omega (arith, shorter)) all in
      let at = s.0 in
      let x = s.1 in
      record {
        number = at.number;
        key = at.key;
        there = at.there;
        sooner = before_last at.number at.link at.found (omega (arith, x, shorter));
        is = at.is;
      }

  pub none_shorter : (IsKey : List ℕ → Type 0) (start : Place) (bad : Place → Bool) → AreReached IsKey place start choices keys links
      → AreDone place bad choices keys n → (other : List Choice) → All (Contains choices) other → length other < last.steps
      → bad (place_reached start other) ≡ false
  none_shorter IsKey start bad reached_all done other all shorter =
      let s = seen_sooner IsKey start reached_all other all shorter in
      ap bad (sym s.is) ∙ done.good s.number s.key s.sooner s.there

-- ---- adding a key
pub soon_new : (later : List ℕ → Place) (keys longer : List (List ℕ)) (links others : List Link) (key : List ℕ) (link : Link) (number : ℕ)
    (p : Place) → length links ≡ length keys → Added keys longer key number → number ≡ length links → others ≡ links ++ link ∷ []
    → later key ≡ p → IsSoon later longer others link.steps p
soon_new later keys longer links others key link number p even added last pushed is = elim added [
  | inl old ↦ absurd (let w = slice_get_within keys number key old.0 in omega (arith, w, even, last))
  | inr new ↦ (
    record {
      number = length keys;
      key = key;
      link = link;
      is = is;
      there = ap (λ ks. slice_get ks (length keys)) new.2 ∙ get_behind keys key;
      found = ap (λ ls. slice_get ls (length keys)) pushed ∙ subst (λ n. slice_get (links ++ link ∷ []) n ≡ Some link) even (get_behind links link);
    },
    omega arith,
  )
]

pub soon_known : (later : List ℕ → Place) (keys longer : List (List ℕ)) (links : List Link) (key : List ℕ) (link : Link) (number : ℕ)
    (p : Place) → length links ≡ length keys → Added keys longer key number → number ≢ length links → AreRising links link.from
    → link.from < length keys → ((a : Link) → slice_get links link.from ≡ Some a → link.steps ≡ a.steps + 1)
    → later key ≡ p → IsSoon later longer links link.steps p
soon_known later keys longer links key link number p even added other r within step is = elim added [
  | inl old ↦
      let there = get_there links number (let w = slice_get_within keys number key old.0 in omega (arith, w, even)) in
      let from = get_there links link.from (omega (arith, within, even)) in (
        record {
          number = number;
          key = key;
          link = there.0;
          is = is;
          found = there.1;
          there = ap (λ ks. slice_get ks number) old.1 ∙ old.0;
        },
        (let x = r.near number from.0 there.0 from.1 there.1 in let y = step from.0 from.1 in omega (arith, x, y)),
      )
  | inr new ↦ absurd (other (new.0 ∙ sym even))
]

pub rising_after : (links others : List Link) (link : Link) → AreRising links link.from → link.from < length links
    → ((a : Link) → slice_get links link.from ≡ Some a → link.steps ≡ a.steps + 1) → others ≡ links ++ link ∷ []
    → AreRising others link.from
rising_after links others link r within step pushed =
    let from = get_there links link.from within in
    rw pushed (rising_more links link.from r link from.0 from.1 (step from.0 from.1) refl)

-- a list with one link
pub rising_first : (links : List Link) (link : Link) → links ≡ link ∷ [] → link.steps ≡ 0 → AreRising links 0
rising_first links link one zero_steps = rw one (record {
  zero_first = λ a e. ap (λ (l : Link). l.steps) (sym (same a e)) ∙ zero_steps;
  back = λ k a e. absurd (none k a e);
  up = λ k a b e f. absurd (none k a e);
  least = λ k a e. (let x = all k a e in omega (arith, x));
  rising = λ i j a b h e f. (let x = all i a e in let y = all j b f in omega (arith, x, y));
  near = λ j a b e f. (let x = all 0 a e in let y = all j b f in omega (arith, x, y));
})
  where
    same : (a : Link) → ◌≡◌ {A = Option Link} (Some link) (Some a) → link ≡ a
    same a e = cc

    none : (k : ℕ) (a : Link) → slice_get (link ∷ []) (k + 1) ≡ Some a → ⊥
    none k a e = let w = slice_get_within (link ∷ []) (k + 1) a e in omega (arith, w)

    all : (k : ℕ) (a : Link) → slice_get (link ∷ []) k ≡ Some a → a.steps ≡ 0
    all zero a e = ap (λ (l : Link). l.steps) (sym (same a e)) ∙ zero_steps
    all (suc k) a e = absurd (let w = slice_get_within (link ∷ []) (suc k) a e in omega (arith, w))

-- ---- how long the way back is
abbrev pub CountsOn : List Link → ℕ → ℕ → ℕ → Type 0
CountsOn links at number count = (a b : Link) → slice_get links at ≡ Some a → slice_get links number ≡ Some b → count + a.steps ≡ b.steps

pub counts_first : (links : List Link) (number count : ℕ) → count ≡ 0 → CountsOn links number number count
counts_first links number count none a b e f = let x = same_steps links number a b e f in omega (arith, none, x)

pub counts_more : (links : List Link) (n at number count more : ℕ) (link : Link) → AreRising links n → 0 < at → at < length links
    → slice_get links at ≡ Some link → more ≡ count + 1 → CountsOn links at number count → CountsOn links link.from number more
counts_more links n at number count more link r some within there one counts a b e f =
    let at_is : at - 1 + 1 ≡ at = omega (arith, some) in
    let up : link.steps ≡ a.steps + 1 = r.up (at - 1) link a (ap (slice_get links) at_is ∙ there) e in
    let x = counts link b there f in omega (arith, x, up, one)

pub counts_all : (links : List Link) (n at number count : ℕ) → AreRising links n → at ≤ 0 → number < length links
    → CountsOn links at number count → (b : Link) → slice_get links number ≡ Some b → count ≡ b.steps
counts_all links n at number count r zero_at within counts b f =
    let first = get_there links 0 (omega (arith, within)) in
    let at_is : at ≡ 0 = omega (arith, zero_at) in
    let x = counts first.0 b (ap (slice_get links) at_is ∙ first.1) f in
    let z = r.zero_first first.0 first.1 in omega (arith, x, z)

-- ---- a search that has looked at all places
pub closed_is_seen : {IsKey : List ℕ → Type 0} {place : List ℕ → Place} {begun start : Place} {bad : Place → Bool}
    {choices : List Choice} {keys : List (List ℕ)} {links : List Link} {n : ℕ} → AreReached IsKey place begun choices keys links
    → AreDone place bad choices keys n → AreRising links n → AreSoon place choices keys links n → begun ≡ start → length keys ≤ n
    → AreAllSeen IsKey place start choices keys links
closed_is_seen {IsKey} {place} {begun} {start} {bad} {choices} {keys} {links} {n} r d rising soon first all =
    subst (λ p. AreAllSeen IsKey place p choices keys links) first (record {
      reached = r;
      closed = λ k key c e is. d.next k key c (let w = slice_get_within keys k key e in omega (arith, w, all)) e is;
      rising = (n, rising);
      soon = λ k key link c low e f is. soon k key link c (omega (arith, low, all)) e f is;
    })
