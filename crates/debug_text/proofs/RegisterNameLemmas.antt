-- Names of registers, one more at a time.
use Rattle.std.proofs.Common.{◌≡◌, ℕ, suc, ◌+◌, ◌-◌, ◌<◌, ◌≤◌, List, [], ◌∷◌, Option, Some, None, refl, arith, ap, sym, ◌∙◌}
use Rattle.std.specs.Prelude.{length, if◌then◌else◌}
use Rattle.std.specs.Str.{bytes_eq}
use Rattle.isa_names.specs.Names.{abi}
use Rattle.debug_text.specs.Words.{next_word, behind_word, line_words}
use Rattle.debug_text.specs.RegisterNames.{named_from, register_named, registers_named, list_and}
use Rattle.debug_text.specs.declared.register_names.RegisterList.{RegisterList}
use Rattle.debug_text.proofs.LineLemmas.{next_and, words_next}

-- one register more
pub named_more : (name : List ℕ) (r n : ℕ) → r < n
    → named_from name r (n - r) ≡ (if bytes_eq name (abi r) then Some r else named_from name (r + 1) (n - (r + 1)))
unfolding named_from
named_more name r n h = let e : n - r ≡ suc (n - (r + 1)) = omega arith in rw e refl

-- no register is left
pub named_end : (name : List ℕ) (r n : ℕ) → n ≤ r → named_from name r (n - r) ≡ None
unfolding named_from
named_end name r n h = let e : n - r ≡ 0 = omega arith in rw e refl

-- the registers of a next word, if there is one, and the words behind it
abbrev pub next_registers : RegisterList → List ℕ → List (List ℕ) → Option RegisterList
next_registers list [] names = Some list
next_registers list (b ∷ name) names = list_and (λ more. registers_named more names) list (register_named (b ∷ name))

next_of_names : (list : RegisterList) (word : List ℕ) (names : List (List ℕ))
    → registers_named list (next_and word names) ≡ next_registers list word names
unfolding registers_named
next_of_names list [] names = refl
next_of_names list (b ∷ word) names = refl

-- one name more, or none
pub names_next : (list : RegisterList) (text : List ℕ)
    → registers_named list (line_words text) ≡ next_registers list (next_word text) (line_words (behind_word text))
names_next list text =
    ap (λ names. registers_named list names) (words_next text)
    ∙ next_of_names list (next_word text) (line_words (behind_word text))

no_name : (list : RegisterList) (word : List ℕ) (names : List (List ℕ)) → length word ≡ 0
    → next_registers list word names ≡ Some list
no_name list [] names none = refl
no_name list (b ∷ word) names none = absurd (omega arith)

-- no name is left
pub names_end : (list : RegisterList) (text : List ℕ) → length (next_word text) ≡ 0
    → registers_named list (line_words text) ≡ Some list
names_end list text none =
    names_next list text ∙ no_name list (next_word text) (line_words (behind_word text)) none
