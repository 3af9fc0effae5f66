-- Searches end as the definition in the user's words requires.
use Rattle.std.proofs.Common.{◌≡◌, ℕ, zero, suc, ◌+◌, ◌-◌, ◌<◌, ◌≤◌, Option, Some, None, ◌⊎◌, inl, inr, ◌∙◌, sym, ap, refl, arith, subst}
use Rattle.debug_session.specs.Searches.{IsLeastStop, IsGreatestStop}
use Rattle.debug_session.specs.Wishes.{Wish}
use Rattle.debug_session.specs.Session.{Session, length_of, reason_at, Found, found_or, first_found, last_found, first_of, last_of, next_of, earlier_of}

abbrev Least : {R : Type 0} → (ℕ → Option R) → ℕ → ℕ → Found R → Type 0
Least reason from to f = IsLeastStop reason from to f.0 f.1

abbrev Greatest : {R : Type 0} → (ℕ → Option R) → ℕ → Found R → Type 0
Greatest reason to f = IsGreatestStop reason to f.0 f.1

first_or_later : (i j : ℕ) → i ≤ j → (i ≡ j) ⊎ (i + 1 ≤ j)
first_or_later i j h = grind arith

none_from : {R : Type 0} (reason : ℕ → Option R) (i : ℕ) (j : ℕ) → reason i ≡ None → (i + 1 ≤ j → reason j ≡ None) → i ≤ j → reason j ≡ None
none_from reason i j here later h = elim (first_or_later i j h) [ inl same ↦ ap reason (sym same) ∙ here | inr after ↦ later after ]

-- a position that is found one further on, if the search goes on
least_later : {R : Type 0} (reason : ℕ → Option R) (i to k : ℕ) (why : Option R) → reason i ≡ None → IsLeastStop reason (i + 1) to k why → IsLeastStop reason i to k why
least_later reason i to k None here e = (e.0, λ j low high. none_from reason i j here (λ after. e.1 j after high) low)
least_later reason i to k (Some w) here e =
    (omega (arith, e.0), e.1, e.2, λ j low high. none_from reason i j here (λ after. e.3 j after high) low)

least_here : {R : Type 0} (reason : ℕ → Option R) (i n : ℕ) (o : Option R) (rest : Found R) → reason i ≡ o → Least reason (i + 1) (i + suc n) rest → Least reason i (i + suc n) (found_or (i + 1) o rest)
least_here reason i n None rest e later = least_later reason i (i + suc n) rest.0 rest.1 e later
least_here reason i n (Some w) rest e later =
    (omega arith, omega arith, λ j same. (let at : j ≡ i = omega arith in ap reason at ∙ e), λ j low high. absurd (omega arith))

first_is_least : {R : Type 0} (reason : ℕ → Option R) (i n : ℕ) → Least reason i (i + n) (first_found reason i n)
unfolding first_found
first_is_least reason i zero = (omega arith, λ j low high. absurd (omega arith))
first_is_least reason i (suc n) =
    let to : i + 1 + n ≡ i + suc n = omega arith in
    least_here reason i n (reason i) (first_found reason (i + 1) n) refl
    (subst (λ (t : ℕ). Least reason (i + 1) t (first_found reason (i + 1) n)) to (first_is_least reason (i + 1) n))

pub from_is_least : {R : Type 0} (wish : Wish R) (s : Session) (from : ℕ) → from ≤ length_of s
    → IsLeastStop (reason_at wish s) from (length_of s) (first_of wish s from).0 (first_of wish s from).1
from_is_least wish s from inside =
    let to : from + (length_of s - from) ≡ length_of s = omega arith in
    subst (λ (t : ℕ). Least (reason_at wish s) from t (first_of wish s from)) to (first_is_least (reason_at wish s) from (length_of s - from))

pub next_is_least : {R : Type 0} (wish : Wish R) (s : Session) → s.position ≤ length_of s
    → IsLeastStop (reason_at wish s) s.position (length_of s) (next_of wish s).0 (next_of wish s).1
next_is_least wish s inside = from_is_least wish s s.position inside

last_or_earlier : (i j : ℕ) → j < suc i → (j ≡ i) ⊎ (j < i)
last_or_earlier i j h = grind arith

none_to : {R : Type 0} (reason : ℕ → Option R) (i j : ℕ) → reason i ≡ None → (j < i → reason j ≡ None) → j < suc i → reason j ≡ None
none_to reason i j here earlier h = elim (last_or_earlier i j h) [ inl same ↦ ap reason same ∙ here | inr before ↦ earlier before ]

greatest_earlier : {R : Type 0} (reason : ℕ → Option R) (i k : ℕ) (why : Option R) → reason i ≡ None → IsGreatestStop reason i k why → IsGreatestStop reason (suc i) k why
greatest_earlier reason i k None here e = (e.0, λ j high. none_to reason i j here (e.1 j) high)
greatest_earlier reason i k (Some w) here e =
    (e.0, omega (arith, e.1), e.2, λ j low high. none_to reason i j here (λ before. e.3 j low before) high)

greatest_here : {R : Type 0} (reason : ℕ → Option R) (i : ℕ) (o : Option R) (rest : Found R) → reason i ≡ o → Greatest reason i rest → Greatest reason (suc i) (found_or (i + 1) o rest)
greatest_here reason i None rest e earlier = greatest_earlier reason i rest.0 rest.1 e earlier
greatest_here reason i (Some w) rest e earlier =
    (omega arith, omega arith, λ j same. (let at : j ≡ i = omega arith in ap reason at ∙ e), λ j low high. absurd (omega arith))

last_is_greatest : {R : Type 0} (reason : ℕ → Option R) (n : ℕ) → Greatest reason n (last_found reason n)
unfolding last_found
last_is_greatest reason zero = (refl, λ j high. absurd (omega arith))
last_is_greatest reason (suc i) = greatest_here reason i (reason i) (last_found reason i) refl (last_is_greatest reason i)

pub below_is_greatest : {R : Type 0} (wish : Wish R) (s : Session) (below : ℕ)
    → IsGreatestStop (reason_at wish s) below (last_of wish s below).0 (last_of wish s below).1
below_is_greatest wish s below = last_is_greatest (reason_at wish s) below

pub earlier_is_greatest : {R : Type 0} (wish : Wish R) (s : Session)
    → IsGreatestStop (reason_at wish s) (s.position - 1) (earlier_of wish s).0 (earlier_of wish s).1
earlier_is_greatest wish s = below_is_greatest wish s (s.position - 1)

-- what was found, as a position and a reason
pub found_from_is_least : {R : Type 0} (wish : Wish R) (s : Session) (from k : ℕ) (why : Option R) → from ≤ length_of s → (k, why) ≡ first_of wish s from
    → IsLeastStop (reason_at wish s) from (length_of s) k why
found_from_is_least wish s from k why inside is =
    subst (Least (reason_at wish s) from (length_of s)) (sym is) (from_is_least wish s from inside)

pub found_is_least : {R : Type 0} (wish : Wish R) (s : Session) (k : ℕ) (why : Option R) → s.position ≤ length_of s → (k, why) ≡ next_of wish s
    → IsLeastStop (reason_at wish s) s.position (length_of s) k why
found_is_least wish s k why inside is =
    subst (Least (reason_at wish s) s.position (length_of s)) (sym is) (next_is_least wish s inside)

pub found_below_is_greatest : {R : Type 0} (wish : Wish R) (s : Session) (below k : ℕ) (why : Option R) → (k, why) ≡ last_of wish s below
    → IsGreatestStop (reason_at wish s) below k why
found_below_is_greatest wish s below k why is =
    subst (Greatest (reason_at wish s) below) (sym is) (below_is_greatest wish s below)

pub found_is_greatest : {R : Type 0} (wish : Wish R) (s : Session) (k : ℕ) (why : Option R) → (k, why) ≡ earlier_of wish s
    → IsGreatestStop (reason_at wish s) (s.position - 1) k why
found_is_greatest wish s k why is =
    subst (Greatest (reason_at wish s) (s.position - 1)) (sym is) (earlier_is_greatest wish s)
