-- How a search goes on, choice by choice.
use Rattle.std.proofs.Common.{◌≡◌, ℕ, suc, ◌+◌, ◌-◌, ◌<◌, ◌≤◌, true, false, List, length, get_or, Option, Some, None, ◌∙◌, sym, ap, refl, arith, rules}
use Rattle.std.specs.List.{slice_get}
use Rattle.std.specs.Option.{is_some, IfSome}
use Rattle.machine.specs.World.{World}
use Rattle.machine.specs.declared.choice.Choice.{Choice}
use Rattle.debug_session.specs.Wishes.{Wish, reason_on}
use Rattle.debug_session.specs.Session.{Session, world_at, reason_at, Found, found_or, first_found, last_found}
use Rattle.debug_session.proofs.TrackLemmas.{read_choice}

-- ---- the reason at a choice that was made
pub reason_is : {R : Type 0} (wish : Wish R) (s : Session) (i : ℕ) (v : World) (c : Choice) (why : Option R) → i < length s.choices → c ≡ get_or s.choices i c
    → v ≡ world_at s i → why ≡ wish v c → why ≡ reason_at wish s i
unfolding reason_at
reason_is wish s i v c why inside read was found =
    found ∙ ap (λ (u : World). wish u c) was
    ∙ ap (reason_on wish (world_at s i)) (sym (read_choice s.choices i c inside read))

-- ---- what is found
-- there is a reason
pub found_there : {R : Type 0} (k : ℕ) (why : Option R) (elsewhere : Found R) → is_some why ≡ true → found_or k why elsewhere ≡ (k, why)
found_there k None elsewhere some = absurd (search rules)
found_there k (Some w) elsewhere some = refl

-- there is none
pub found_elsewhere : {R : Type 0} (k : ℕ) (why : Option R) (elsewhere : Found R) → is_some why ≡ false → found_or k why elsewhere ≡ elsewhere
found_elsewhere k None elsewhere none = refl
found_elsewhere k (Some w) elsewhere none = absurd (search rules)

-- a fact that holds if there is a reason
pub if_any : {R : Type 0} (why : Option R) (P : Type 0) → P → IfSome why (λ _. P)
if_any None P p = tt
if_any (Some w) P p = p

pub if_there : {R : Type 0} (why : Option R) (P : Type 0) → is_some why ≡ true → IfSome why (λ _. P) → P
if_there None P some p = absurd (search rules)
if_there (Some w) P some p = p

-- ---- searches
first_one : {R : Type 0} (reason : ℕ → Option R) (i n : ℕ) → first_found reason i (suc n) ≡ found_or (i + 1) (reason i) (first_found reason (i + 1) n)
unfolding first_found
first_one reason i n = refl

first_more : {R : Type 0} (reason : ℕ → Option R) (i n : ℕ) → i < n → first_found reason i (n - i) ≡ found_or (i + 1) (reason i) (first_found reason (i + 1) (n - (i + 1)))
first_more reason i n h =
    let e : n - i ≡ suc (n - (i + 1)) = omega arith in
    rw e (first_one reason i (n - (i + 1)))

first_none : {R : Type 0} (reason : ℕ → Option R) (i : ℕ) → first_found reason i 0 ≡ (i, None)
unfolding first_found
first_none reason i = refl

-- the choice behind which one has to stop
pub first_here : {R : Type 0} (reason : ℕ → Option R) (i n : ℕ) (why : Option R) (all : Found R) → i < n → why ≡ reason i → is_some why ≡ true
    → first_found reason i (n - i) ≡ all → (i + 1, why) ≡ all
first_here {R} reason i n None all h is some left = absurd (search rules)
first_here {R} reason i n (Some w) all h is some left =
    ap (λ (o : Option R). found_or (i + 1) o (first_found reason (i + 1) (n - (i + 1)))) is
    ∙ sym (first_more reason i n h) ∙ left

-- a choice without a reason
pub first_later : {R : Type 0} (reason : ℕ → Option R) (i n : ℕ) (why : Option R) (all : Found R) → i < n → why ≡ reason i → is_some why ≡ false
    → first_found reason i (n - i) ≡ all → first_found reason (i + 1) (n - (i + 1)) ≡ all
first_later {R} reason i n (Some w) all h is none left = absurd (search rules)
first_later {R} reason i n None all h is none left =
    ap (λ (o : Option R). found_or (i + 1) o (first_found reason (i + 1) (n - (i + 1)))) is
    ∙ sym (first_more reason i n h) ∙ left

-- no step is left
pub first_end : {R : Type 0} (reason : ℕ → Option R) (i n : ℕ) (all : Found R) → n ≤ i → i ≤ n → first_found reason i (n - i) ≡ all → (n, None) ≡ all
first_end reason i n all h k left =
    let e : n - i ≡ 0 = omega arith in
    let at : i ≡ n = omega arith in
    ap (λ (j : ℕ). (j, None)) (sym at) ∙ sym (first_none reason i) ∙ ap (first_found reason i) (sym e) ∙ left

last_one : {R : Type 0} (reason : ℕ → Option R) (i : ℕ) → last_found reason (suc i) ≡ found_or (i + 1) (reason i) (last_found reason i)
unfolding last_found
last_one reason i = refl

-- no position is searched
pub last_none : {R : Type 0} (reason : ℕ → Option R) → (0, None) ≡ last_found reason 0
unfolding last_found
last_none reason = refl

-- one has to stop behind this choice
pub last_here : {R : Type 0} (reason : ℕ → Option R) (i : ℕ) (why : Option R) → why ≡ reason i → is_some why ≡ true → (i + 1, why) ≡ last_found reason (i + 1)
last_here {R} reason i None is some = absurd (search rules)
last_here {R} reason i (Some w) is some =
    let e : i + 1 ≡ suc i = omega arith in
    ap (λ (o : Option R). found_or (i + 1) o (last_found reason i)) is
    ∙ sym (last_one reason i) ∙ ap (last_found reason) (sym e)

-- one has not
pub last_earlier : {R : Type 0} (reason : ℕ → Option R) (i : ℕ) (why : Option R) (found : Found R) → why ≡ reason i → is_some why ≡ false → found ≡ last_found reason i
    → found ≡ last_found reason (i + 1)
last_earlier {R} reason i (Some w) found is none same = absurd (search rules)
last_earlier {R} reason i None found is none same =
    let e : i + 1 ≡ suc i = omega arith in
    same
    ∙ ap (λ (o : Option R). found_or (i + 1) o (last_found reason i)) is
    ∙ sym (last_one reason i) ∙ ap (last_found reason) (sym e)
