-- Lists that are read part by part.
use Rattle.std.proofs.Common.{◌≡◌, ℕ, ◌==◌, ◌||◌, true, false, Bool, List, [], ◌∷◌, ◌++◌, drop, length, Option, Some, None, refl, ap, sym, ◌∙◌, append-nil, append_assoc, eqb-true, arith}
use Rattle.std.specs.Str.{bytes_eq}
use Rattle.text_items.specs.Numbers.{before_byte, from_byte}
use Rattle.gdb_requests.specs.declared.request.ThreadAction.{ThreadAction}
use Rattle.gdb_requests.specs.Features.{is_one_of, semicolon_parts}
use Rattle.gdb_requests.specs.Lists.{onto_list}
use Rattle.gdb_requests.specs.Actions.{all_actions, actions_of, thread_action_of}
use Rattle.gdb_requests.specs.Bytes.{paired_bytes, front_byte}
use Rattle.gdb_requests.proofs.PartLemmas.{more_parts, last_part}

-- a list, and then another, if there is one
abbrev pub front_and : {A : Type 0} → List A → Option (List A) → Option (List A)
front_and front None = None
front_and front (Some rest) = Some (front ++ rest)

list_onto : {A : Type 0} (front : List A) (a : A) (rest : Option (List A))
    → front_and front (onto_list (Some a) rest) ≡ front_and (front ++ a ∷ []) rest
list_onto front a None = refl
list_onto front a (Some rest) = ap Some (sym (append_assoc front (a ∷ []) rest))

no_element : {A : Type 0} (o : Option (List A)) → onto_list None o ≡ None
no_element None = refl
no_element (Some rest) = refl

-- one more action is read
pub action_more : (front new : List ThreadAction) (action : ThreadAction) (rest next whole : List ℕ)
    → thread_action_of (before_byte 59 rest) ≡ Some action → (length (from_byte 59 rest) == 0) ≡ false
    → next ≡ drop 1 (from_byte 59 rest) → new ≡ front ++ action ∷ []
    → front_and front (actions_of rest) ≡ actions_of whole
    → front_and new (actions_of next) ≡ actions_of whole
unfolding all_actions
action_more front new action rest next whole is some behind made so_far =
    ap (λ l. front_and l (actions_of next)) made
    ∙ ap (λ l. front_and (front ++ action ∷ []) (actions_of l)) behind
    ∙ sym (list_onto front action (actions_of (drop 1 (from_byte 59 rest))))
    ∙ ap (λ o. front_and front (onto_list o (actions_of (drop 1 (from_byte 59 rest))))) (sym is)
    ∙ ap (λ parts. front_and front (all_actions parts)) (sym (more_parts 59 rest some))
    ∙ so_far

-- the last action is read
pub action_last : (front new : List ThreadAction) (action : ThreadAction) (rest whole : List ℕ)
    → thread_action_of (before_byte 59 rest) ≡ Some action → (length (from_byte 59 rest) == 0) ≡ true
    → new ≡ front ++ action ∷ []
    → front_and front (actions_of rest) ≡ actions_of whole
    → actions_of whole ≡ Some new
unfolding all_actions
action_last front new action rest whole is none made so_far =
    sym so_far
    ∙ ap (λ parts. front_and front (all_actions parts)) (last_part 59 rest none)
    ∙ ap (λ o. front_and front (onto_list o (Some []))) is
    ∙ ap Some (sym made)

-- an action is bad
bad_part : (part : List ℕ) (parts : List (List ℕ)) → thread_action_of part ≡ None → all_actions (part ∷ parts) ≡ None
unfolding all_actions
bad_part part parts bad = ap (λ o. onto_list o (all_actions parts)) bad ∙ no_element (all_actions parts)

pub action_bad : (front : List ThreadAction) (rest whole : List ℕ)
    → thread_action_of (before_byte 59 rest) ≡ None
    → front_and front (actions_of rest) ≡ actions_of whole
    → actions_of whole ≡ None
action_bad front rest whole bad so_far = by (length (from_byte 59 rest) == 0) refl
  where
    by : (t : Bool) → (length (from_byte 59 rest) == 0) ≡ t → actions_of whole ≡ None
    by true none = sym so_far ∙ ap (λ parts. front_and front (all_actions parts)) (last_part 59 rest none)
        ∙ ap (front_and front) (bad_part (before_byte 59 rest) [] bad)
    by false some = sym so_far ∙ ap (λ parts. front_and front (all_actions parts)) (more_parts 59 rest some)
        ∙ ap (front_and front) (bad_part (before_byte 59 rest) (semicolon_parts (drop 1 (from_byte 59 rest))) bad)

or_false : (t : Bool) → (t || false) ≡ t
or_false true = refl
or_false false = refl

-- one more feature is another one
pub feature_more : (word rest next : List ℕ) (whole : Bool) → bytes_eq (before_byte 59 rest) word ≡ false
    → (length (from_byte 59 rest) == 0) ≡ false → next ≡ drop 1 (from_byte 59 rest)
    → is_one_of word (semicolon_parts rest) ≡ whole → is_one_of word (semicolon_parts next) ≡ whole
unfolding is_one_of
feature_more word rest next whole other some behind so_far =
    ap (λ l. is_one_of word (semicolon_parts l)) behind
    ∙ ap (λ t. t || is_one_of word (semicolon_parts (drop 1 (from_byte 59 rest)))) (sym other)
    ∙ ap (is_one_of word) (sym (more_parts 59 rest some))
    ∙ so_far

-- the last feature is another one
pub feature_last : (word rest : List ℕ) (whole : Bool) → bytes_eq (before_byte 59 rest) word ≡ false
    → (length (from_byte 59 rest) == 0) ≡ true
    → is_one_of word (semicolon_parts rest) ≡ whole → false ≡ whole
unfolding is_one_of
feature_last word rest whole other none so_far =
    sym (ap (λ t. t || false) other) ∙ ap (is_one_of word) (sym (last_part 59 rest none)) ∙ so_far

-- a feature is the one
pub feature_found : (word rest : List ℕ) (whole : Bool) → bytes_eq (before_byte 59 rest) word ≡ true
    → is_one_of word (semicolon_parts rest) ≡ whole → true ≡ whole
unfolding is_one_of
feature_found word rest whole same so_far = by (length (from_byte 59 rest) == 0) refl
  where
    by : (t : Bool) → (length (from_byte 59 rest) == 0) ≡ t → true ≡ whole
    by true none = sym (ap (λ t. t || false) same) ∙ ap (is_one_of word) (sym (last_part 59 rest none)) ∙ so_far
    by false some = sym (ap (λ t. t || is_one_of word (semicolon_parts (drop 1 (from_byte 59 rest)))) same)
        ∙ ap (is_one_of word) (sym (more_parts 59 rest some)) ∙ so_far

-- one more byte is read
pub byte_more : (front new rest next whole : List ℕ) (byte : ℕ) → front_byte rest ≡ Some byte
    → next ≡ drop 1 (drop 1 rest) → new ≡ front ++ byte ∷ []
    → front_and front (paired_bytes rest) ≡ paired_bytes whole
    → front_and new (paired_bytes next) ≡ paired_bytes whole
unfolding paired_bytes
byte_more front new [] next whole byte is behind made so_far = absurd (cc)
byte_more front new (first ∷ []) next whole byte is behind made so_far = absurd (cc)
byte_more front new (first ∷ (second ∷ rest)) next whole byte is behind made so_far =
    ap (λ l. front_and l (paired_bytes next)) made
    ∙ ap (λ l. front_and (front ++ byte ∷ []) (paired_bytes l)) behind
    ∙ sym (list_onto front byte (paired_bytes rest))
    ∙ ap (λ o. front_and front (onto_list o (paired_bytes rest))) (sym is)
    ∙ so_far

-- two digits are bad, or the second is missing
pub byte_bad : (front rest whole : List ℕ) → (length rest == 0) ≡ false → front_byte rest ≡ None
    → front_and front (paired_bytes rest) ≡ paired_bytes whole
    → paired_bytes whole ≡ None
unfolding paired_bytes
byte_bad front [] whole some bad so_far = absurd (cc)
byte_bad front (first ∷ []) whole some bad so_far = sym so_far
byte_bad front (first ∷ (second ∷ rest)) whole some bad so_far =
    sym so_far ∙ ap (λ o. front_and front (onto_list o (paired_bytes rest))) bad ∙ ap (front_and front) (no_element (paired_bytes rest))

-- all bytes are read
pub byte_end : (front rest whole : List ℕ) → (length rest == 0) ≡ true
    → front_and front (paired_bytes rest) ≡ paired_bytes whole → paired_bytes whole ≡ Some front
unfolding paired_bytes
byte_end front [] whole none so_far = sym so_far ∙ ap Some (append-nil front)
byte_end front (first ∷ rest) whole none so_far = absurd (let len : length (first ∷ rest) ≡ 0 = eqb-true (length (first ∷ rest)) 0 none in omega (arith, len))
