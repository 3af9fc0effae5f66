-- What is kept where a key is added, and an answer under it.
use Rattle.std.proofs.Common.{◌≡◌, ℕ, ◌<◌, ◌≤◌, List, [], ◌∷◌, ◌++◌, length, Some, ap, sym, ◌∙◌, arith, inl, inr, ◌⊎◌}
use Rattle.std.proofs.lemmas.Option.{slice_get_within, same_Some}
use Rattle.std.specs.List.{Contains, slice_get}
use Rattle.explore_space.specs.Memo.{KeepsOne}
use Rattle.explore_table.proofs.ListLemmas.{get_either}

-- a key is there under a number, or is added under it
abbrev pub KeyAdded : List (List ℕ) → List (List ℕ) → ℕ → List ℕ → Type 0
KeyAdded keys more_keys at key = ((slice_get keys at ≡ Some key) × (more_keys ≡ keys))
    ⊎ ((at ≡ length keys) × (Contains keys key → ⊥) × (more_keys ≡ keys ++ key ∷ []))

-- a number below that of the keys is that of the same key
key_before : (keys more_keys : List (List ℕ)) (at i : ℕ) (key other : List ℕ) → KeyAdded keys more_keys at key
    → i < length keys → slice_get more_keys i ≡ Some other → slice_get keys i ≡ Some other
key_before keys more_keys at i key other added low there = elim added [
  | inl old ↦ ap (λ ks. slice_get ks i) (sym old.1) ∙ there
  | inr new ↦ elim (get_either keys key other i (ap (λ ks. slice_get ks i) (sym new.2) ∙ there)) [
    | inl before ↦ before
    | inr last ↦ absurd (let e = last.0 in omega (arith, e, low))
  ]
]

-- the key's own number leads to it
key_here : (keys more_keys : List (List ℕ)) (at : ℕ) (key other : List ℕ) → KeyAdded keys more_keys at key
    → slice_get more_keys at ≡ Some other → other ≡ key
key_here keys more_keys at key other added there = elim added [
  | inl old ↦ same_Some _ _ (sym (ap (λ ks. slice_get ks at) (sym old.1) ∙ there) ∙ old.0)
  | inr new ↦ elim (get_either keys key other at (ap (λ ks. slice_get ks at) (sym new.2) ∙ there)) [
    | inl before ↦
        absurd (let inside = slice_get_within keys at other before in let e = new.0 in omega (arith, inside, e))
    | inr last ↦ sym last.1
  ]
]

-- no answer is added
pub keeps_old : (keys answers more_keys more_answers : List (List ℕ)) (at : ℕ) (key answer : List ℕ)
    → length answers ≤ length keys → KeyAdded keys more_keys at key → more_answers ≡ answers
    → KeepsOne keys answers more_keys more_answers key answer
keeps_old keys answers more_keys more_answers at key answer even added same = record {
  each = λ i other told kept.
      (let there = ap (λ xs. slice_get xs i) (sym same) ∙ kept.1 in
      let inside = slice_get_within answers i told there in
      inl (key_before keys more_keys at i key other added (omega (arith, even, inside)) kept.0, there));
}

-- nothing is added
pub keeps_all : (keys answers more_keys : List (List ℕ)) (key answer : List ℕ) → more_keys ≡ keys
    → KeepsOne keys answers more_keys answers key answer
keeps_all keys answers more_keys key answer same = record {
  each = λ i other told kept. inl (ap (λ ks. slice_get ks i) (sym same) ∙ kept.0, kept.1);
}

-- an answer is added
pub keeps_new : (keys answers more_keys more_answers : List (List ℕ)) (at : ℕ) (key answer : List ℕ)
    → length answers ≤ length keys → KeyAdded keys more_keys at key → at ≡ length answers
    → more_answers ≡ answers ++ answer ∷ [] → KeepsOne keys answers more_keys more_answers key answer
keeps_new keys answers more_keys more_answers at key answer even added here more = record {
  each = λ i other told kept.
      elim (get_either answers answer told i (ap (λ xs. slice_get xs i) (sym more) ∙ kept.1)) [
        | inl before ↦
            let inside = slice_get_within answers i told before in
            inl (key_before keys more_keys at i key other added (omega (arith, even, inside)) kept.0, before)
        | inr last ↦ inr (
          key_here keys more_keys at key other added
              (ap (slice_get more_keys) (here ∙ sym last.0) ∙ kept.0),
          sym last.1,
        )
      ];
}
