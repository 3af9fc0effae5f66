-- Sources that are read one after another.
use Rattle.std.proofs.Common.{append_assoc, append-nil, refl, ◌≡◌, ℕ, ◌+◌, ◌-◌, ◌^◌, ◌<◌, ◌≤◌, List, [], ◌∷◌, ◌++◌, length, map, drop, get_or, slice_set, Option, Some, None, IfSome, All, Bool, true, false, arith, sym, ap, subst, rules, ◌∙◌}
use Rattle.std.proofs.KnownBytes.{Consumes-whole}
use Rattle.std.proofs.Math.Seq.{map-set_same}
use Rattle.std.proofs.lemmas.List.{drop-set-lt, drop_more, get_or-map, get_or-set_same, length-map, map-append, map-set}
use Rattle.std.proofs.lemmas.List.Elements.{All-get_or}
use Rattle.std.specs.Io.KnownBytes.{Consumes, IsAtEnd}
use Rattle.std.proofs.lemmas.Grind.{common_steps}
use Rattle.std.specs.List.{list_all}
use Rattle.std.proofs.lemmas.Str.{is_utf8-from_IsUtf8, IsUtf8-from_is_utf8}
use Rattle.std.specs.Str.{is_utf8, IsUtf8}
use Rattle.cmd_asm.specs.Sources.{all_known, first_other, known_onto, RisesAt}

-- of all sources these were read, and those are left
abbrev pub ReadSoFar : {X : Type 0} → Option (List X) → List X → Option (List X) → Type 0
ReadSoFar None got rest = Unit {0}
ReadSoFar (Some all) got None = ⊥
ReadSoFar (Some all) got (Some rest) = all ≡ got ++ rest

-- one more was read
read_more : {X : Type 0} (all : Option (List X)) (got : List X) (x : Option X) (rest : Option (List X)) (value : X)
    → ReadSoFar all got (known_onto x rest) → IfSome x (λ known. value ≡ known) → ReadSoFar all (got ++ value ∷ []) rest
read_more None got x rest value so_far same = tt
read_more (Some all) got None rest value so_far same = absurd so_far
read_more (Some all) got (Some x) None value so_far same = absurd so_far
read_more (Some all) got (Some x) (Some rest) value so_far same =
    so_far ∙ ap (λ y. got ++ y ∷ rest) (sym same) ∙ sym (append_assoc got (value ∷ []) rest)

-- at the start nothing was read
pub read_none : {X : Type 0} (all : Option (List X)) → ReadSoFar all [] all
read_none None = tt
read_none (Some all) = refl

-- texts alone: none is another thing
none_other : (n : ℕ) (xs : List (List ℕ)) → list_all is_utf8 xs ≡ true → first_other n xs ≡ None
none_other n [] all = refl
none_other n (x ∷ xs) all = search (rules, common_steps, none_other (n + 1) xs)

-- the first that isn't a text comes after texts
other_at : (n : ℕ) (xs : List (List ℕ)) (x : List ℕ) (rest : List (List ℕ)) → list_all is_utf8 xs ≡ true → is_utf8 x ≡ false
    → (place : ℕ) → place ≡ n + length xs → first_other n (xs ++ x ∷ rest) ≡ Some place
other_at n [] x rest all other place at = let here : place ≡ n = omega (arith, at) in rw (other, here) refl
other_at n (y ∷ xs) x rest all other place at = search (rules, common_steps, other_at (n + 1) xs x rest (search rules) other place (omega (arith, at)))

all_more : (xs : List (List ℕ)) (x : List ℕ) → list_all is_utf8 xs ≡ true → is_utf8 x ≡ true → list_all is_utf8 (xs ++ x ∷ []) ≡ true
all_more [] x all one = rw one refl
all_more (y ∷ ys) x all one = search (rules, common_steps, all_more ys x)

-- what is no UTF-8 fails the test
pub is_other : (bytes : List ℕ) (b : Bool) → is_utf8 bytes ≡ b → (IsUtf8 bytes → false ≡ true) → is_utf8 bytes ≡ false
is_other bytes true e none = e ∙ sym (none (IsUtf8-from_is_utf8 bytes e))
is_other bytes false e none = e

-- one text more
pub texts_more : {V : Type 0} (items : V → List ℕ) (before after : List V) (text : V) → after ≡ before ++ text ∷ []
    → list_all is_utf8 (map items before) ≡ true → IsUtf8 (items text) → list_all is_utf8 (map items after) ≡ true
texts_more items before after text grown all one =
    ap (list_all is_utf8) (ap (map items) grown ∙ map-append items before (text ∷ []))
    ∙ all_more (map items before) (items text) all (is_utf8-from_IsUtf8 (items text) one)

-- all sources were read
read_all_of : (all : Option (List (List ℕ))) (got : List (List ℕ)) → ReadSoFar all got (Some []) → list_all is_utf8 got ≡ true
    → IfSome all (λ all. (got ≡ all) × (first_other 0 all ≡ None))
read_all_of None got so_far texts = tt
read_all_of (Some all) got so_far texts =
    let same : all ≡ got = so_far ∙ append-nil got in
    (sym same, ap (first_other 0) same ∙ none_other 0 got texts)

pub all_are_read : {S : Type 0} (left : S → Option (List ℕ)) (sources : List S) (place : ℕ) (all : Option (List (List ℕ))) (got : List (List ℕ))
    → length sources ≤ place → ReadSoFar all got (all_known (map left (drop place sources))) → list_all is_utf8 got ≡ true
    → IfSome all (λ all. (got ≡ all) × (first_other 0 all ≡ None))
all_are_read left sources place all got past so_far texts =
    let none : drop place sources ≡ [] = search (rules, common_steps) in
    read_all_of all got (subst (λ xs. ReadSoFar all got (all_known (map left xs))) none so_far) texts

-- the next source is no text
other_after : (all : Option (List (List ℕ))) (got : List (List ℕ)) (bytes : List ℕ) (rest : Option (List (List ℕ)))
    → ReadSoFar all (got ++ bytes ∷ []) rest → list_all is_utf8 got ≡ true → is_utf8 bytes ≡ false
    → IfSome all (λ all. first_other 0 all ≡ Some (length got))
other_after None got bytes rest so_far texts other = tt
other_after (Some all) got bytes None so_far texts other = absurd so_far
other_after (Some all) got bytes (Some rest) so_far texts other =
    ap (first_other 0) (so_far ∙ append_assoc got (bytes ∷ []) rest) ∙ other_at 0 got bytes rest texts other (length got) (omega arith)

-- sources, the counts of their failures as they were at first, and the source at a place
module _ {S : Type 0} (left : S → Option (List ℕ)) (failures : S → ℕ) (sources : List S) (counts : List ℕ) (place : ℕ) (old new : S)
    (same : map failures sources ≡ counts) (within : place < length sources) where
  pub count_is_low : All (λ n. n < 2 ^ 64 - 1) counts → failures (get_or sources place old) < 2 ^ 64 - 1
  count_is_low low =
      let lt : place < length (map failures sources) = omega (arith, length-map sources failures, within) in
      let here : get_or (map failures sources) place 0 ≡ failures (get_or sources place old) = get_or-map failures sources place old 0 within in
      subst (λ n. n < 2 ^ 64 - 1) here (All-get_or (λ n. n < 2 ^ 64 - 1) (map failures sources) place 0 lt (subst (All (λ n. n < 2 ^ 64 - 1)) (sym same) low))

  pub count_rises : failures new ≡ failures (get_or sources place old) + 1 → RisesAt counts (map failures (slice_set sources place new)) place
  count_rises more =
      let lt : place < length (map failures sources) = omega (arith, length-map sources failures, within) in
      let here : get_or counts place 0 ≡ failures (get_or sources place old) = ap (λ xs. get_or xs place 0) (sym same) ∙ get_or-map failures sources place old 0 within in
      let there : get_or (map failures (slice_set sources place new)) place 0 ≡ failures new
      = ap (λ xs. get_or xs place 0) (map-set failures sources place new) ∙ get_or-set_same (map failures sources) place (failures new) 0 lt in
      (subst (λ xs. place < length xs) same lt, omega (arith, here, there, more))

  pub counts_stay : failures new ≡ failures (get_or sources place old) → map failures (slice_set sources place new) ≡ counts
  counts_stay stays = map-set_same failures sources place new old stays ∙ same

  pub one_is_read : {V : Type 0} (items : V → List ℕ) (all : Option (List (List ℕ))) (before after : List V) (bytes : V)
      → after ≡ before ++ bytes ∷ []
      → ReadSoFar all (map items before) (all_known (map left (drop place sources)))
      → Consumes (left (get_or sources place old)) (left new) (items bytes) → IsAtEnd (left new)
      → ReadSoFar all (map items after) (all_known (map left (drop (place + 1) (slice_set sources place new))))
  one_is_read items all before after bytes grown so_far took end =
      let split : drop place sources ≡ get_or sources place old ∷ drop (place + 1) sources = drop_more sources place old within in
      let rest : drop (place + 1) (slice_set sources place new) ≡ drop (place + 1) sources = drop-set-lt (place + 1) sources place new (omega arith) in
      let known : IfSome (left (get_or sources place old)) (λ b. items bytes ≡ b)
      = Consumes-whole (left (get_or sources place old)) (left new) (items bytes) (λ b. items bytes ≡ b) took end refl in
      let got : map items after ≡ map items before ++ items bytes ∷ [] = ap (map items) grown ∙ map-append items before (bytes ∷ []) in
      subst (λ xs. ReadSoFar all (map items after) (all_known (map left xs))) (sym rest)
      (subst (λ got. ReadSoFar all got (all_known (map left (drop (place + 1) sources)))) (sym got)
      (read_more all (map items before) (left (get_or sources place old)) (all_known (map left (drop (place + 1) sources))) (items bytes)
      (subst (λ xs. ReadSoFar all (map items before) (all_known (map left xs))) split so_far) known))

  pub one_is_other : {V : Type 0} (items : V → List ℕ) (all : Option (List (List ℕ))) (got : List V) (bytes : List ℕ)
      → ReadSoFar all (map items got) (all_known (map left (drop place sources)))
      → Consumes (left (get_or sources place old)) (left new) bytes → IsAtEnd (left new)
      → list_all is_utf8 (map items got) ≡ true → length got ≡ place → is_utf8 bytes ≡ false
      → IfSome all (λ all. first_other 0 all ≡ Some place)
  one_is_other items all got bytes so_far took end texts count other =
      let split : drop place sources ≡ get_or sources place old ∷ drop (place + 1) sources = drop_more sources place old within in
      let known : IfSome (left (get_or sources place old)) (λ b. bytes ≡ b)
      = Consumes-whole (left (get_or sources place old)) (left new) bytes (λ b. bytes ≡ b) took end refl in
      let more = read_more all (map items got) (left (get_or sources place old)) (all_known (map left (drop (place + 1) sources))) bytes
      (subst (λ xs. ReadSoFar all (map items got) (all_known (map left xs))) split so_far) known in
      subst (λ n. IfSome all (λ all. first_other 0 all ≡ Some n)) (length-map got items ∙ count)
      (other_after all (map items got) bytes (all_known (map left (drop (place + 1) sources))) more texts other)
