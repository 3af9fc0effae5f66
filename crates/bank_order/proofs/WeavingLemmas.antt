-- Two lists merged to one: step by step, with the elements of both, in order.
use Rattle.std.proofs.Common.{◌≡◌, ℕ, zero, suc, ◌+◌, ◌<◌, ◌≤◌, Bool, true, false, List, [], ◌∷◌, ◌++◌, length, drop, refl, ap, sym, ◌∙◌, arith, append_assoc, append-nil, inl, inr, ⊎_elim}
use Rattle.std.specs.Borrow.{Bor}
use Rattle.std.proofs.lemmas.List.{drop-map, length-map, map-append}
use Rattle.std.specs.Prelude.{◌⊎◌, slice_index_or, if◌then◌else◌}
use Rattle.bank_laws.specs.Segments.{LoggedSegment}
use Rattle.bank_laws.specs.Order.{In}
use Rattle.bank_order.specs.Weaving.{comes_first, woven}
use Rattle.bank_order.specs.Logs.{borrowed_segments}

drop_there : (xs : List LoggedSegment) (i : ℕ) (d : LoggedSegment) → i < length xs → drop i xs ≡ slice_index_or xs i d ∷ drop (i + 1) xs
drop_there [] i d low = absurd (omega (arith, low))
drop_there (x ∷ xs) zero d low = refl
drop_there (x ∷ xs) (suc i) d low =
    let e : suc (i + 1) ≡ suc i + 1 = omega arith in
    drop_there xs i d (omega (arith, low)) ∙ ap (λ (k : ℕ). slice_index_or xs i d ∷ drop k (x ∷ xs)) e

get_or_default : (xs : List LoggedSegment) (i : ℕ) (d e : LoggedSegment) → i < length xs → slice_index_or xs i d ≡ slice_index_or xs i e
get_or_default [] i d e low = absurd (omega (arith, low))
get_or_default (x ∷ xs) zero d e low = refl
get_or_default (x ∷ xs) (suc i) d e low = get_or_default xs i d e (omega (arith, low))

drop_none : (xs : List LoggedSegment) (i : ℕ) → length xs ≤ i → drop i xs ≡ []
drop_none [] zero low = refl
drop_none [] (suc i) low = refl
drop_none (x ∷ xs) zero low = absurd (omega (arith, low))
drop_none (x ∷ xs) (suc i) low = drop_none xs i (omega (arith, low))

woven_first : (e f : LoggedSegment) (es fs : List LoggedSegment) → comes_first e f ≡ true → woven (e ∷ es) (f ∷ fs) ≡ e ∷ woven es (f ∷ fs)
unfolding woven
woven_first e f es fs q = rw q refl

woven_second : (e f : LoggedSegment) (es fs : List LoggedSegment) → comes_first e f ≡ false → woven (e ∷ es) (f ∷ fs) ≡ f ∷ woven (e ∷ es) fs
unfolding woven
woven_second e f es fs q = rw q refl

pub first_of_both : (xs ys : List LoggedSegment) (i j : ℕ) (d : LoggedSegment) → i < length xs → j < length ys → comes_first (slice_index_or xs i d) (slice_index_or ys j d) ≡ true
    → woven (drop i xs) (drop j ys) ≡ slice_index_or xs i d ∷ woven (drop (i + 1) xs) (drop j ys)
first_of_both xs ys i j d low below q =
    ap (λ (l : List LoggedSegment). woven l (drop j ys)) (drop_there xs i d low)
    ∙ ap (woven (slice_index_or xs i d ∷ drop (i + 1) xs)) (drop_there ys j d below)
    ∙ woven_first (slice_index_or xs i d) (slice_index_or ys j d) (drop (i + 1) xs) (drop (j + 1) ys) q
    ∙ ap (λ (l : List LoggedSegment). slice_index_or xs i d ∷ woven (drop (i + 1) xs) l) (sym (drop_there ys j d below))

pub second_of_both : (xs ys : List LoggedSegment) (i j : ℕ) (d : LoggedSegment) → i < length xs → j < length ys → comes_first (slice_index_or xs i d) (slice_index_or ys j d) ≡ false
    → woven (drop i xs) (drop j ys) ≡ slice_index_or ys j d ∷ woven (drop i xs) (drop (j + 1) ys)
second_of_both xs ys i j d low below q =
    ap (λ (l : List LoggedSegment). woven l (drop j ys)) (drop_there xs i d low)
    ∙ ap (woven (slice_index_or xs i d ∷ drop (i + 1) xs)) (drop_there ys j d below)
    ∙ woven_second (slice_index_or xs i d) (slice_index_or ys j d) (drop (i + 1) xs) (drop (j + 1) ys) q
    ∙ ap (λ (l : List LoggedSegment). slice_index_or ys j d ∷ woven l (drop (j + 1) ys)) (sym (drop_there xs i d low))

woven_rest : (xs ys : List LoggedSegment) → (xs ≡ []) ⊎ (ys ≡ []) → woven xs ys ≡ xs ++ ys
unfolding woven
woven_rest [] ys e = refl
woven_rest (x ∷ xs) [] e = sym (append-nil (x ∷ xs))
woven_rest (x ∷ xs) (y ∷ ys) (inl e) = cc e
woven_rest (x ∷ xs) (y ∷ ys) (inr e) = cc e

-- where one list is at its end
pub rest_of_both : (xs ys : List LoggedSegment) (i j : ℕ) → (length xs ≤ i) ⊎ (length ys ≤ j) → woven (drop i xs) (drop j ys) ≡ drop i xs ++ drop j ys
rest_of_both xs ys i j (inl p) = woven_rest (drop i xs) (drop j ys) (inl (drop_none xs i p))
rest_of_both xs ys i j (inr p) = woven_rest (drop i xs) (drop j ys) (inr (drop_none ys j p))

-- one more of a list whose rest follows
pub push_step : (xs : List LoggedSegment) (i : ℕ) (d : LoggedSegment) (out all : List LoggedSegment) → i < length xs → out ++ drop i xs ≡ all
    → (out ++ slice_index_or xs i d ∷ []) ++ drop (i + 1) xs ≡ all
push_step xs i d out all low e = append_assoc out (slice_index_or xs i d ∷ []) (drop (i + 1) xs) ∙ ap (λ (l : List LoggedSegment). out ++ l) (sym (drop_there xs i d low)) ∙ e

-- ---- the elements of both
pub in_woven : (xs ys : List LoggedSegment) (e : LoggedSegment) → In e xs ⊎ In e ys → In e (woven xs ys)
unfolding woven
in_woven [] ys e (inl i) = absurd i
in_woven [] ys e (inr i) = i
in_woven (x ∷ xs) [] e (inl i) = i
in_woven (x ∷ xs) [] e (inr i) = absurd i
in_woven (x ∷ xs) (y ∷ ys) e w = at_test (λ v. in_woven xs (y ∷ ys) e v) (λ v. in_woven (x ∷ xs) ys e v) (comes_first x y) w
  where
    at_test : (In e xs ⊎ In e (y ∷ ys) → In e (woven xs (y ∷ ys))) → (In e (x ∷ xs) ⊎ In e ys → In e (woven (x ∷ xs) ys)) → (t : Bool)
        → In e (x ∷ xs) ⊎ In e (y ∷ ys) → In e (if t then x ∷ woven xs (y ∷ ys) else y ∷ woven (x ∷ xs) ys)
    at_test f g true (inl (inl q)) = inl q
    at_test f g true (inl (inr i)) = inr (f (inl i))
    at_test f g true (inr i) = inr (f (inr i))
    at_test f g false (inl i) = inr (g (inl i))
    at_test f g false (inr (inl q)) = inl q
    at_test f g false (inr (inr i)) = inr (g (inr i))

pub woven_in : (xs ys : List LoggedSegment) (e : LoggedSegment) → In e (woven xs ys) → In e xs ⊎ In e ys
unfolding woven
woven_in [] ys e i = inr i
woven_in (x ∷ xs) [] e i = inl i
woven_in (x ∷ xs) (y ∷ ys) e w = at_test (λ v. woven_in xs (y ∷ ys) e v) (λ v. woven_in (x ∷ xs) ys e v) (comes_first x y) w
  where
    at_test : (In e (woven xs (y ∷ ys)) → In e xs ⊎ In e (y ∷ ys)) → (In e (woven (x ∷ xs) ys) → In e (x ∷ xs) ⊎ In e ys) → (t : Bool)
        → In e (if t then x ∷ woven xs (y ∷ ys) else y ∷ woven (x ∷ xs) ys) → In e (x ∷ xs) ⊎ In e (y ∷ ys)
    at_test f g true (inl q) = inl (inl q)
    at_test f g true (inr i) = ⊎_elim (λ (a : In e xs). inl (inr a)) (λ (b : In e (y ∷ ys)). inr b) (f i)
    at_test f g false (inl q) = inr (inl q)
    at_test f g false (inr i) = ⊎_elim (λ (a : In e (x ∷ xs)). inl a) (λ (b : In e ys). inr (inr b)) (g i)

-- ---- the loop that weaves
pub take_first : (xs ys out more all : List LoggedSegment) (i j : ℕ) (x y z : LoggedSegment) → i < length xs → j < length ys
    → x ≡ slice_index_or xs i x → y ≡ slice_index_or ys j y → z ≡ slice_index_or xs i z → comes_first x y ≡ true
    → out ++ woven (drop i xs) (drop j ys) ≡ all → more ≡ out ++ z ∷ [] → more ++ woven (drop (i + 1) xs) (drop j ys) ≡ all
take_first xs ys out more all i j x y z low below ix iy iz test so_far pushed =
    let same : slice_index_or xs i x ≡ slice_index_or xs i z = get_or_default xs i x z low in
    let same_y : slice_index_or ys j y ≡ slice_index_or ys j x = get_or_default ys j y x below in
    let first : comes_first (slice_index_or xs i x) (slice_index_or ys j x) ≡ true =
    ap (λ (e : LoggedSegment). comes_first e (slice_index_or ys j x)) (sym ix) ∙ ap (comes_first x) (sym (iy ∙ same_y)) ∙ test in
    ap (λ (l : List LoggedSegment). l ++ woven (drop (i + 1) xs) (drop j ys)) pushed
    ∙ append_assoc out (z ∷ []) (woven (drop (i + 1) xs) (drop j ys))
    ∙ ap (λ (e : LoggedSegment). out ++ e ∷ woven (drop (i + 1) xs) (drop j ys)) (iz ∙ sym same)
    ∙ ap (λ (l : List LoggedSegment). out ++ l) (sym (first_of_both xs ys i j x low below first))
    ∙ so_far

pub take_second : (xs ys out more all : List LoggedSegment) (i j : ℕ) (x y z : LoggedSegment) → i < length xs → j < length ys
    → x ≡ slice_index_or xs i x → y ≡ slice_index_or ys j y → z ≡ slice_index_or ys j z → comes_first x y ≡ false
    → out ++ woven (drop i xs) (drop j ys) ≡ all → more ≡ out ++ z ∷ [] → more ++ woven (drop i xs) (drop (j + 1) ys) ≡ all
take_second xs ys out more all i j x y z low below ix iy iz test so_far pushed =
    let same : slice_index_or ys j x ≡ slice_index_or ys j z = get_or_default ys j x z below in
    let same_y : slice_index_or ys j y ≡ slice_index_or ys j x = get_or_default ys j y x below in
    let second : comes_first (slice_index_or xs i x) (slice_index_or ys j x) ≡ false =
    ap (λ (e : LoggedSegment). comes_first e (slice_index_or ys j x)) (sym ix) ∙ ap (comes_first x) (sym (iy ∙ same_y)) ∙ test in
    ap (λ (l : List LoggedSegment). l ++ woven (drop i xs) (drop (j + 1) ys)) pushed
    ∙ append_assoc out (z ∷ []) (woven (drop i xs) (drop (j + 1) ys))
    ∙ ap (λ (e : LoggedSegment). out ++ e ∷ woven (drop i xs) (drop (j + 1) ys)) (iz ∙ sym same)
    ∙ ap (λ (l : List LoggedSegment). out ++ l) (sym (second_of_both xs ys i j x low below second))
    ∙ so_far

pub take_rest : (xs ys out both more all : List LoggedSegment) (i j : ℕ) → (length xs ≤ i) ⊎ (length ys ≤ j)
    → out ++ woven (drop i xs) (drop j ys) ≡ all → both ≡ out ++ drop i xs → more ≡ both ++ drop j ys → more ≡ all
take_rest xs ys out both more all i j past so_far first second =
    second ∙ ap (λ (l : List LoggedSegment). l ++ drop j ys) first ∙ append_assoc out (drop i xs) (drop j ys)
    ∙ ap (λ (l : List LoggedSegment). out ++ l) (sym (rest_of_both xs ys i j past)) ∙ so_far

-- ---- segments that are referred to
pub seen_low : (xs : List (Bor LoggedSegment)) (i : ℕ) → i < length xs → i < length (borrowed_segments xs)
seen_low xs i low = let e = length-map xs (λ (r : Bor LoggedSegment). r.now) in omega (arith, low, e)

pub seen_past : (xs : List (Bor LoggedSegment)) (i : ℕ) → length xs ≤ i → length (borrowed_segments xs) ≤ i
seen_past xs i past = let e = length-map xs (λ (r : Bor LoggedSegment). r.now) in omega (arith, past, e)

pub seen_at : (xs : List (Bor LoggedSegment)) (i : ℕ) (x : Bor LoggedSegment) → i < length xs → x ≡ slice_index_or xs i x → x.now ≡ slice_index_or (borrowed_segments xs) i x.now
seen_at [] i x low is = absurd (omega (arith, low))
seen_at (y ∷ xs) zero x low is = ap (λ (r : Bor LoggedSegment). r.now) is
seen_at (y ∷ xs) (suc i) x low is = seen_at xs i x (omega (arith, low)) is

pub seen_push : (out more : List (Bor LoggedSegment)) (z : Bor LoggedSegment) → more ≡ out ++ z ∷ [] → borrowed_segments more ≡ borrowed_segments out ++ z.now ∷ []
seen_push out more z e = ap borrowed_segments e ∙ map-append (λ (r : Bor LoggedSegment). r.now) out (z ∷ [])

pub seen_rest : (out more xs : List (Bor LoggedSegment)) (i : ℕ) → more ≡ out ++ drop i xs → borrowed_segments more ≡ borrowed_segments out ++ drop i (borrowed_segments xs)
seen_rest out more xs i e =
    ap borrowed_segments e ∙ map-append (λ (r : Bor LoggedSegment). r.now) out (drop i xs)
    ∙ ap (λ (l : List LoggedSegment). borrowed_segments out ++ l) (sym (drop-map (λ (r : Bor LoggedSegment). r.now) i xs))
