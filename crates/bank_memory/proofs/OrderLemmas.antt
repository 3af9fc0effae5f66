-- The order of a bank's accesses: the last one decides which may follow.
use Rattle.std.proofs.Common.{◌≡◌, ℕ, zero, suc, ◌+◌, ◌-◌, ◌<◌, ◌≤◌, ◌&&◌, ◌==◌, Bool, true, false, List, [], ◌∷◌, ◌++◌, length, Some, refl, ap, sym, ◌∙◌, arith, inl, inr, ⊎_elim}
use Rattle.std.specs.Prelude.{not, slice_get, slice_index_or, nat_lt}
use Rattle.std.specs.List.{AllByRecursion}
use Rattle.std.proofs.lemmas.Bool.{eq-eqb, eqb-true, and_parts, and_from, and_right, or_cases, or_left, or_right, ltb-true, lt-ltb, not-true}
use Rattle.bank_laws.specs.declared.access.LoggedAccess.{LoggedAccess}
use Rattle.bank_laws.specs.Order.{is_code_read, Before, Rises}
use Rattle.bank_memory.specs.Rising.{is_before, may_follow, may_lead, rises}
use Rattle.bank_memory.specs.Stamps.{access_stamp, last_access_stamp}
use Rattle.bank_memory.proofs.StampLemmas.{below_last}

-- the test is exact
pub before_parts : (a c : LoggedAccess) → is_before a c ≡ true → Before a c
before_parts a c e =
    ⊎_elim
    (λ (l : nat_lt a.stamp c.stamp ≡ true). inl (ltb-true a.stamp c.stamp l))
    (λ (r : (a.stamp == c.stamp && (a.hart == c.hart && (is_code_read a.kind && not (is_code_read c.kind)))) ≡ true).
    let x = and_parts (a.stamp == c.stamp) (a.hart == c.hart && (is_code_read a.kind && not (is_code_read c.kind))) r in
    let y = and_parts (a.hart == c.hart) (is_code_read a.kind && not (is_code_read c.kind)) x.1 in
    let z = and_parts (is_code_read a.kind) (not (is_code_read c.kind)) y.1 in
    inr (eqb-true a.stamp c.stamp x.0, eqb-true a.hart c.hart y.0, z.0, not-true (is_code_read c.kind) z.1))
    (or_cases (nat_lt a.stamp c.stamp) (a.stamp == c.stamp && (a.hart == c.hart && (is_code_read a.kind && not (is_code_read c.kind)))) e)

before_from : (a c : LoggedAccess) → Before a c → is_before a c ≡ true
before_from a c (inl l) = or_left (nat_lt a.stamp c.stamp) _ (lt-ltb a.stamp c.stamp l)
before_from a c (inr p) = or_right (nat_lt a.stamp c.stamp) _ (and_from (a.stamp == c.stamp) _ (eq-eqb a.stamp c.stamp p.0) (and_from (a.hart == c.hart) _ (eq-eqb a.hart c.hart p.1) (and_from (is_code_read a.kind) _ p.2 (ap not p.3))))

before_join_facts : (a b c : LoggedAccess) → Before a b → Before b c → Before a c
before_join_facts a b c (inl l) (inl m) = inl (omega (arith, l, m))
before_join_facts a b c (inl l) (inr m) = inl (omega (arith, l, m.0))
before_join_facts a b c (inr l) (inl m) = inl (omega (arith, m, l.0))
before_join_facts a b c (inr l) (inr m) = cc (l.3, m.2)

before_join : (a b c : LoggedAccess) → is_before a b ≡ true → is_before b c ≡ true → is_before a c ≡ true
before_join a b c p q = before_from a c (before_join_facts a b c (before_parts a b p) (before_parts b c q))

lead_at : (a : LoggedAccess) (xs : List LoggedAccess) (n : ℕ) (last : LoggedAccess) → may_lead a xs ≡ true → slice_get xs n ≡ Some last → is_before a last ≡ true
unfolding may_lead
lead_at a [] n last e g = cc (g)
lead_at a (x ∷ xs) zero last e g = let s : x ≡ last = cc (g) in ap (λ (y : LoggedAccess). is_before a y) (sym s) ∙ (and_parts (is_before a x) (may_lead a xs) e).0
lead_at a (x ∷ xs) (suc n) last e g = lead_at a xs n last (and_parts (is_before a x) (may_lead a xs) e).1 g

follow_join : (x last c : LoggedAccess) → is_before x last ≡ true → (b : Bool) → is_before last c ≡ b → (is_before x c && b) ≡ b
follow_join x last c e true q = and_from (is_before x c) true (before_join x last c e q) refl
follow_join x last c e false q = and_right (is_before x c) false refl

and_true : (b : Bool) → (b && true) ≡ b
and_true true = refl
and_true false = refl

follow_last : (xs : List LoggedAccess) (n : ℕ) (last c : LoggedAccess) → rises xs ≡ true → n + 1 ≡ length xs → slice_get xs n ≡ Some last → may_follow xs c ≡ is_before last c
unfolding may_follow rises
follow_last [] n last c r l g = cc (g)
follow_last (x ∷ []) zero last c r l g = let s : x ≡ last = cc (g) in and_true (is_before x c) ∙ ap (λ (y : LoggedAccess). is_before y c) s
follow_last (x ∷ []) (suc n) last c r l g = absurd (omega (arith, l))
follow_last (x ∷ y ∷ ys) zero last c r l g = absurd (omega (arith, l))
follow_last (x ∷ y ∷ ys) (suc n) last c r l g =
    let both = and_parts (may_lead x (y ∷ ys)) (rises (y ∷ ys)) r in
    ap (λ (b : Bool). is_before x c && b) (follow_last (y ∷ ys) n last c both.1 (omega (arith, l)) g) ∙ follow_join x last c (lead_at x (y ∷ ys) n last both.0 g) (is_before last c) refl

get_there : (xs : List LoggedAccess) (n : ℕ) (d : LoggedAccess) → n < length xs → slice_get xs n ≡ Some (slice_index_or xs n d)
get_there [] n d low = absurd (omega (arith, low))
get_there (x ∷ xs) zero d low = refl
get_there (x ∷ xs) (suc n) d low = get_there xs n d (omega (arith, low))

follow_at : (xs : List LoggedAccess) (n : ℕ) (c d : LoggedAccess) → rises xs ≡ true → n + 1 ≡ length xs → may_follow xs c ≡ is_before (slice_index_or xs n d) c
follow_at xs n c d r l = follow_last xs n (slice_index_or xs n d) c r l (get_there xs n d (omega (arith, l)))

follow_empty : (xs : List LoggedAccess) (c : LoggedAccess) → length xs ≡ 0 → may_follow xs c ≡ true
unfolding may_follow
follow_empty [] c e = refl
follow_empty (x ∷ xs) c e = absurd (omega (arith, e))

pub follow_full : (xs : List LoggedAccess) (c d : LoggedAccess) → rises xs ≡ true → (length xs == 0) ≡ false → may_follow xs c ≡ is_before (slice_index_or xs (length xs - 1) d) c
follow_full [] c d r e = cc e
follow_full (x ∷ xs) c d r e = follow_at (x ∷ xs) (length (x ∷ xs) - 1) c d r (omega arith)

pub follow_first : (xs : List LoggedAccess) (c : LoggedAccess) → (length xs == 0) ≡ true → may_follow xs c ≡ true
follow_first xs c e = follow_empty xs c (eqb-true (length xs) 0 e)

lead_push : (x : LoggedAccess) (xs : List LoggedAccess) (a : LoggedAccess) → may_lead x xs ≡ true → is_before x a ≡ true → may_lead x (xs ++ a ∷ []) ≡ true
unfolding may_lead
lead_push x [] a l e = and_from (is_before x a) true e refl
lead_push x (y ∷ ys) a l e = let both = and_parts (is_before x y) (may_lead x ys) l in and_from (is_before x y) _ both.0 (lead_push x ys a both.1 e)

pub rises_push : (xs : List LoggedAccess) (a : LoggedAccess) → rises xs ≡ true → may_follow xs a ≡ true → rises (xs ++ a ∷ []) ≡ true
unfolding rises may_follow may_lead
rises_push [] a r f = refl
rises_push (x ∷ xs) a r f =
    let r2 = and_parts (may_lead x xs) (rises xs) r in
    let f2 = and_parts (is_before x a) (may_follow xs a) f in
    and_from (may_lead x (xs ++ a ∷ [])) _ (lead_push x xs a r2.0 f2.0) (rises_push xs a r2.1 f2.1)

pub rises_none : rises [] ≡ true
unfolding rises
rises_none = refl

leads_all : (x : LoggedAccess) (xs : List LoggedAccess) → may_lead x xs ≡ true → AllByRecursion (Before x) xs
unfolding may_lead
leads_all x [] e = tt
leads_all x (y ∷ ys) e = let both = and_parts (is_before x y) (may_lead x ys) e in (before_parts x y both.0, leads_all x ys both.1)

-- a log that passes the test is in order
pub rises_is : (xs : List LoggedAccess) → rises xs ≡ true → Rises Before xs
unfolding rises
rises_is [] e = tt
rises_is (x ∷ xs) e = let both = and_parts (may_lead x xs) (rises xs) e in (leads_all x xs both.0, rises_is xs both.1)

-- ---- an access with a higher stamp than the last one may follow
never_falls : (a c : LoggedAccess) → Before a c → a.stamp ≤ c.stamp
never_falls a c (inl l) = omega (arith, l)
never_falls a c (inr p) = let same = p.0 in omega (arith, same)

follows_all : (log : List LoggedAccess) (stamp : ℕ) (a : LoggedAccess) → AllByRecursion (λ x. x.stamp ≤ stamp) log → stamp < a.stamp → may_follow log a ≡ true
unfolding may_follow
follows_all [] stamp a below above = refl
follows_all (x ∷ log) stamp a below above =
    and_from (is_before x a) _ (before_from x a (inl (let low = below.0 in omega (arith, low, above)))) (follows_all log stamp a below.1 above)

pub follows_above : (log : List LoggedAccess) (a : LoggedAccess) → Rises Before log → last_access_stamp log < a.stamp → may_follow log a ≡ true
follows_above [] a rises above = follow_empty [] a refl
follows_above (x ∷ log) a rises above =
    follows_all (x ∷ log) (last_access_stamp (x ∷ log)) a
    (below_last Before (λ (c : LoggedAccess). c.stamp) access_stamp never_falls (λ c. refl) (x ∷ log) (length (x ∷ log) - 1) (last_access_stamp (x ∷ log)) rises (omega arith) refl)
    above
