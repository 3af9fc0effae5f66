-- The bytes before the first byte of a value, and those from it on.
use Rattle.std.proofs.Common.{◌≡◌, ◌≢◌, ℕ, suc, ◌+◌, ◌<◌, ◌≤◌, Bool, true, false, not, cond, List, [], ◌∷◌, ◌++◌, length, take, drop, get_or, ⊎_elim, refl, arith, rules, ap, sym, ◌∙◌, ◌⊎◌, inl, inr, eqb-true, eq-eqb, ne_eqb, append-nil}
use Rattle.std.proofs.lemmas.Bool.{cases_lt}
use Rattle.std.proofs.lemmas.Grind.{common_steps}
use Rattle.std.proofs.lemmas.List.{drop_more, take-append-drop}
use Rattle.std.proofs.Math.Seq.{take-append_seam, drop-append_seam}
use Rattle.std.proofs.lemmas.List.Sums.{prefix_len_stops}
use Rattle.std.proofs.lemmas.Str.Parse.{digit_from_value}
use Rattle.std.specs.Prelude.{◌==◌}
use Rattle.std.specs.List.{position_or_len}
use Rattle.std.specs.Str.Parse.{AllDigits}
use Rattle.text_items.specs.Numbers.{before_byte, from_byte}

-- the list has no byte of this value
abbrev pub HasNone : ℕ → List ℕ → Type 0
HasNone byte [] = Unit {0}
HasNone byte (b ∷ bs) = (b ≢ byte) × HasNone byte bs

-- digits have no byte below 48
pub digits_have_none : (byte : ℕ) (digits : List ℕ) → byte < 48 → AllDigits 10 digits → HasNone byte digits
digits_have_none byte [] low h = tt
digits_have_none byte (c ∷ cs) low h =
    (λ e. let digit = digit_from_value c h.0 in omega (arith, digit, e, low), digits_have_none byte cs low h.1)

pub have_none-append : (byte : ℕ) (xs ys : List ℕ) → HasNone byte xs → HasNone byte ys → HasNone byte (xs ++ ys)
have_none-append byte [] ys h k = k
have_none-append byte (x ∷ xs) ys h k = (h.0, have_none-append byte xs ys h.1 k)

one_more : (b : Bool) (n k : ℕ) → b ≡ false → n ≡ k → cond (not b) (1 + n) 0 ≡ suc k
one_more true n k h e = absurd (cc)
one_more false n k h e = omega (arith, e)

place_of-there : (byte : ℕ) (front rest : List ℕ) → HasNone byte front → position_or_len (λ b. b == byte) (front ++ byte ∷ rest) ≡ length front
place_of-there byte [] rest h = ap (λ (b : Bool). cond (not b) (1 + position_or_len (λ b. b == byte) rest) 0) (eq-eqb byte byte refl)
place_of-there byte (c ∷ cs) rest h =
    one_more (c == byte) (position_or_len (λ b. b == byte) (cs ++ byte ∷ rest)) (length cs) (ne_eqb c byte h.0) (place_of-there byte cs rest h.1)

place_of-none : (byte : ℕ) (front : List ℕ) → HasNone byte front → position_or_len (λ b. b == byte) front ≡ length front
place_of-none byte [] h = refl
place_of-none byte (c ∷ cs) h =
    one_more (c == byte) (position_or_len (λ b. b == byte) cs) (length cs) (ne_eqb c byte h.0) (place_of-none byte cs h.1)

pub before_byte-there : (byte : ℕ) (front rest : List ℕ) → HasNone byte front → before_byte byte (front ++ byte ∷ rest) ≡ front
before_byte-there byte front rest h =
    ap (λ k. take k (front ++ byte ∷ rest)) (place_of-there byte front rest h) ∙ take-append_seam front (byte ∷ rest)

pub from_byte-there : (byte : ℕ) (front rest : List ℕ) → HasNone byte front → from_byte byte (front ++ byte ∷ rest) ≡ byte ∷ rest
from_byte-there byte front rest h =
    ap (λ k. drop k (front ++ byte ∷ rest)) (place_of-there byte front rest h) ∙ drop-append_seam front (byte ∷ rest)

pub before_byte-none : (byte : ℕ) (front : List ℕ) → HasNone byte front → before_byte byte front ≡ front
before_byte-none byte front h =
    ap (λ k. take k front) (place_of-none byte front h) ∙ ap (λ xs. take (length front) xs) (sym (append-nil front)) ∙ take-append_seam front []

pub from_byte-none : (byte : ℕ) (front : List ℕ) → HasNone byte front → from_byte byte front ≡ []
from_byte-none byte front h =
    ap (λ k. drop k front) (place_of-none byte front h) ∙ ap (λ xs. drop (length front) xs) (sym (append-nil front)) ∙ drop-append_seam front []

-- both parts make the item
pub parts_make : (byte : ℕ) (item : List ℕ) → before_byte byte item ++ from_byte byte item ≡ item
parts_make byte item = take-append-drop (position_or_len (λ b. b == byte) item) item

no_not : (b : Bool) → not b ≡ false → b ≡ true
no_not true h = refl
no_not false h = sym h

-- the second part is empty, or begins with the byte
pub from_byte_is : (byte : ℕ) (item : List ℕ) → (from_byte byte item ≡ [])
    ⊎ (from_byte byte item ≡ byte ∷ drop 1 (from_byte byte item))
from_byte_is byte item = ⊎_elim (λ lt. inr (there lt)) (λ ge. inl (none ge)) (cases_lt p (length item))
  where
    p : ℕ
    p = position_or_len (λ b. b == byte) item

    there : position_or_len (λ b. b == byte) item < length item → from_byte byte item ≡ byte ∷ drop 1 (from_byte byte item)
    there lt =
        let k = position_or_len (λ b. b == byte) item in
        let here : drop k item ≡ get_or item k 0 ∷ drop (k + 1) item = drop_more item k 0 lt in
        let stops : (get_or item k 0 == byte) ≡ true = no_not _ (prefix_len_stops (λ b. not (b == byte)) item 0 lt) in
        let is : get_or item k 0 ≡ byte = eqb-true _ byte stops in
        let whole : drop k item ≡ byte ∷ drop (k + 1) item = here ∙ ap (λ b. b ∷ drop (k + 1) item) is in
        let rest : drop 1 (drop k item) ≡ drop (k + 1) item = ap (drop 1) whole in
        whole ∙ ap (λ xs. byte ∷ xs) (sym rest)

    none : length item ≤ position_or_len (λ b. b == byte) item → from_byte byte item ≡ []
    none ge = search (rules, common_steps)
