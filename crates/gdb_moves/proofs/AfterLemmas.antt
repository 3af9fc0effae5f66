-- Searches that pass choices.
use Rattle.std.proofs.Common.{◌≡◌, ℕ, ◌+◌, ◌-◌, ◌<◌, ◌≤◌, true, false, List, Option, Some, None, ◌⊎◌, inl, inr, ◌∙◌, sym, ap, refl, arith, rules}
use Rattle.std.proofs.lemmas.Bool.{cases_Bool}
use Rattle.std.proofs.lemmas.Option.{slice_get_past}
use Rattle.debug_session.specs.Searches.{IsLeastStop, IsGreatestStop}
use Rattle.debug_session.specs.Session.{Session, world_at, length_of, reason_at}
use Rattle.debug_session.specs.Stops.{has}
use Rattle.debug_session.specs.Wishes.{Wish, reason_on}
use Rattle.gdb_moves.specs.After.{reason_unless, IsStopOrNone}

-- there is no reason from one choice on and below another
abbrev pub NoneIn : {R : Type 0} → (ℕ → Option R) → ℕ → ℕ → Type 0
NoneIn reason from to = (i : ℕ) → from ≤ i → i < to → reason i ≡ None

-- a choice that is passed
unless_passed : {R : Type 0} (passed : List ℕ) (reason : ℕ → Option R) (i : ℕ)
    → has passed i ≡ true → reason_unless passed reason i ≡ None
unfolding reason_unless
unless_passed passed reason i is = rw is refl

-- one that is not
unless_not : {R : Type 0} (passed : List ℕ) (reason : ℕ → Option R) (i : ℕ)
    → has passed i ≡ false → reason_unless passed reason i ≡ reason i
unfolding reason_unless
unless_not passed reason i is = rw is refl

-- one without a reason
unless_none : {R : Type 0} (passed : List ℕ) (reason : ℕ → Option R) (i : ℕ)
    → reason i ≡ None → reason_unless passed reason i ≡ None
unless_none passed reason i none = elim (cases_Bool (has passed i)) [
  | inl is ↦ unless_passed passed reason i is
  | inr not_in ↦ unless_not passed reason i not_in ∙ none
]

below_or_from : (i k : ℕ) → (i < k) ⊎ (k ≤ i)
below_or_from i k = grind arith

at_or_below : (i k : ℕ) → i < k → (i + 1 ≡ k) ⊎ (i + 1 < k)
at_or_below i k h = grind arith

-- nothing has been searched
pub none_yet : {R : Type 0} (reason : ℕ → Option R) (k : ℕ) → NoneIn reason k k
none_yet reason k i low high = absurd (omega (arith, low, high))

-- two pieces
none_both : {R : Type 0} (reason : ℕ → Option R) (a b c : ℕ)
    → NoneIn reason a b → NoneIn reason b c → NoneIn reason a c
none_both reason a b c first second i low high = elim (below_or_from i b) [
  | inl before ↦ first i low before
  | inr behind ↦ second i behind high
]

-- ---- forwards
-- the search ends
pub least_end : {R : Type 0} (passed : List ℕ) (reason : ℕ → Option R) (from begin to k : ℕ)
    (why : Option R) → NoneIn (reason_unless passed reason) from begin → why ≡ None
    → IsLeastStop reason begin to k why → IsLeastStop (reason_unless passed reason) from to k None
least_end passed reason from begin to k (Some w) so_far none least = absurd (search rules)
least_end passed reason from begin to k None so_far none least = (
  least.0,
  none_both (reason_unless passed reason) from begin to so_far
      (λ i low high. unless_none passed reason i (least.1 i low high)),
)

-- a choice is met
pub least_met : {R : Type 0} (passed : List ℕ) (reason : ℕ → Option R) (from begin to k : ℕ)
    (why : Option R) (w : R) → from ≤ begin → NoneIn (reason_unless passed reason) from begin
    → why ≡ Some w → has passed (k - 1) ≡ false
    → IsLeastStop reason begin to k why
    → IsLeastStop (reason_unless passed reason) from to k (Some w)
least_met passed reason from begin to k None w low so_far is out least = absurd (search rules)
least_met {R} passed reason from begin to k (Some v) w low so_far is out least = (
  omega (arith, low, least.0),
  least.1,
  λ i at. (let here : i ≡ k - 1 = omega (arith, at) in
      unless_not passed reason i (ap (has passed) here ∙ out) ∙ least.2 i at ∙ is),
  λ i from_low high. none_both (reason_unless passed reason) from begin (k - 1) so_far
      (λ j from_begin below. unless_none passed reason j
      (least.3 j from_begin (omega (arith, below)))) i from_low (omega (arith, high)),
)

-- a choice is passed
pub least_passed : {R : Type 0} (passed : List ℕ) (reason : ℕ → Option R) (from begin to k : ℕ)
    (why : Option R) (w : R) → NoneIn (reason_unless passed reason) from begin
    → why ≡ Some w → has passed (k - 1) ≡ true → IsLeastStop reason begin to k why
    → NoneIn (reason_unless passed reason) from k
least_passed passed reason from begin to k None w so_far is own least = absurd (search rules)
least_passed passed reason from begin to k (Some v) w so_far is own least =
    none_both (reason_unless passed reason) from begin k so_far
    (λ i low high. elim (at_or_below i k high) [
      | inl at ↦ (let here : i ≡ k - 1 = omega (arith, at) in
          unless_passed passed reason i (ap (has passed) here ∙ own))
      | inr below ↦ unless_none passed reason i (least.3 i low below)
    ])

-- a stop that is found is behind a choice of those that were searched
pub least_bounds : {R : Type 0} (reason : ℕ → Option R) (from to k : ℕ) (why : Option R) (w : R)
    → why ≡ Some w → IsLeastStop reason from to k why → (from < k) × (k ≤ to)
least_bounds reason from to k None w is least = absurd (search rules)
least_bounds reason from to k (Some v) w is least = (least.0, least.1)

-- ---- backwards
-- the search ends
pub greatest_end : {R : Type 0} (passed : List ℕ) (reason : ℕ → Option R) (end below k : ℕ)
    (why : Option R) → NoneIn (reason_unless passed reason) end below → why ≡ None
    → IsGreatestStop reason end k why → IsGreatestStop (reason_unless passed reason) below k None
greatest_end passed reason end below k (Some w) so_far none greatest = absurd (search rules)
greatest_end passed reason end below k None so_far none greatest = (
  greatest.0,
  λ i high. none_both (reason_unless passed reason) 0 end below
      (λ j low before. unless_none passed reason j (greatest.1 j before)) so_far i
      (omega arith) high,
)

-- a choice is met
pub greatest_met : {R : Type 0} (passed : List ℕ) (reason : ℕ → Option R) (end below k : ℕ)
    (why : Option R) (w : R) → end ≤ below → NoneIn (reason_unless passed reason) end below
    → why ≡ Some w → has passed (k - 1) ≡ false
    → IsGreatestStop reason end k why
    → IsGreatestStop (reason_unless passed reason) below k (Some w)
greatest_met passed reason end below k None w high so_far is out greatest =
    absurd (search rules)
greatest_met {R} passed reason end below k (Some v) w high so_far is out greatest = (
  greatest.0,
  omega (arith, high, greatest.1),
  λ i at. (let here : i ≡ k - 1 = omega (arith, at) in
      unless_not passed reason i (ap (has passed) here ∙ out) ∙ greatest.2 i at ∙ is),
  none_both (reason_unless passed reason) k end below
      (λ i low before. unless_none passed reason i (greatest.3 i low before)) so_far,
)

-- a choice is passed
pub greatest_passed : {R : Type 0} (passed : List ℕ) (reason : ℕ → Option R) (end below k : ℕ)
    (why : Option R) (w : R) → NoneIn (reason_unless passed reason) end below
    → why ≡ Some w → has passed (k - 1) ≡ true → IsGreatestStop reason end k why
    → NoneIn (reason_unless passed reason) (k - 1) below
greatest_passed passed reason end below k None w so_far is own greatest = absurd (search rules)
greatest_passed passed reason end below k (Some v) w so_far is own greatest =
    none_both (reason_unless passed reason) (k - 1) end below
    (λ i low before. elim (below_or_from i k) [
      | inl at ↦ (let here : i ≡ k - 1 = omega (arith, low, at, greatest.0) in
          unless_passed passed reason i (ap (has passed) here ∙ own))
      | inr behind ↦ unless_none passed reason i (greatest.3 i behind before)
    ]) so_far

-- a stop that is found is behind a choice of those that were searched
pub greatest_bounds : {R : Type 0} (reason : ℕ → Option R) (to k : ℕ) (why : Option R) (w : R)
    → why ≡ Some w → IsGreatestStop reason to k why → (0 < k) × (k ≤ to)
greatest_bounds reason to k None w is greatest = absurd (search rules)
greatest_bounds reason to k (Some v) w is greatest = (greatest.0, greatest.1)

-- there is no reason behind the last choice
pub none_past : {R : Type 0} (passed : List ℕ) (wish : Wish R) (s : Session) (end below : ℕ)
    → ((i : ℕ) → end ≤ i → i < below → length_of s ≤ i)
    → NoneIn (reason_unless passed (reason_at wish s)) end below
unfolding reason_at
none_past passed wish s end below past i low high = unless_none passed (reason_at wish s) i
    (ap (reason_on wish (world_at s i)) (slice_get_past s.choices i (past i low high)))

-- ---- laws
-- the reason at a choice that is not passed
is_reason : {R : Type 0} (passed : List ℕ) (reason : ℕ → Option R) (i : ℕ) (why : Option R)
    → has passed i ≡ false → reason_unless passed reason i ≡ why → reason i ≡ why
is_reason passed reason i why out is = sym (unless_not passed reason i out) ∙ is

pub seen_ahead : {R : Type 0} (passed : List ℕ) (reason : ℕ → Option R) (from to k i : ℕ)
    (stop : Option R) → IsLeastStop (reason_unless passed reason) from to k stop
    → from ≤ i → i < k → has passed i ≡ false → IsStopOrNone reason k stop i
seen_ahead passed reason from to k i None least low high out =
    inl (is_reason passed reason i None out (least.1 i low (omega (arith, high, least.0))))
seen_ahead {R} passed reason from to k i (Some w) least low high out =
    elim (at_or_below i k high) [
      | inl at ↦ inr (at, is_reason passed reason i (Some w) out (least.2 i at))
      | inr below ↦ inl (is_reason passed reason i None out (least.3 i low below))
    ]

at_or_behind : (i k : ℕ) → k ≤ i + 1 → (i + 1 ≡ k) ⊎ (k ≤ i)
at_or_behind i k h = grind arith

pub seen_back : {R : Type 0} (passed : List ℕ) (reason : ℕ → Option R) (to k i : ℕ)
    (stop : Option R) → IsGreatestStop (reason_unless passed reason) to k stop
    → k ≤ i + 1 → i < to → has passed i ≡ false → IsStopOrNone reason k stop i
seen_back passed reason to k i None greatest low high out =
    inl (is_reason passed reason i None out (greatest.1 i high))
seen_back {R} passed reason to k i (Some w) greatest low high out =
    elim (at_or_behind i k low) [
      | inl at ↦ inr (at, is_reason passed reason i (Some w) out (greatest.2 i at))
      | inr behind ↦ inl (is_reason passed reason i None out (greatest.3 i behind high))
    ]

-- a choice with a reason is not passed
stop_there : {R : Type 0} (passed : List ℕ) (reason : ℕ → Option R) (i : ℕ) (w : R)
    → reason_unless passed reason i ≡ Some w → (has passed i ≡ false) × (reason i ≡ Some w)
stop_there passed reason i w is = elim (cases_Bool (has passed i)) [
  | inl own ↦ absurd (let no : Some w ≡ None = sym is ∙ unless_passed passed reason i own in
      search (rules, no))
  | inr out ↦ (out, is_reason passed reason i (Some w) out is)
]

pub stop_ahead : {R : Type 0} (passed : List ℕ) (reason : ℕ → Option R) (from to i : ℕ) (w : R)
    → IsLeastStop (reason_unless passed reason) from to (i + 1) (Some w)
    → (has passed i ≡ false) × (reason i ≡ Some w)
stop_ahead passed reason from to i w least = stop_there passed reason i w (least.2 i refl)

pub stop_back : {R : Type 0} (passed : List ℕ) (reason : ℕ → Option R) (to i : ℕ) (w : R)
    → IsGreatestStop (reason_unless passed reason) to (i + 1) (Some w)
    → (has passed i ≡ false) × (reason i ≡ Some w)
stop_back passed reason to i w greatest = stop_there passed reason i w (greatest.2 i refl)
