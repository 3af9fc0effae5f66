-- A line's command is that of its words.
use Rattle.std.proofs.Common.{◌≡◌, ◌≢◌, ℕ, Bool, true, false, List, [], ◌∷◌, ◌++◌, ◌+◌, ◌-◌, ◌<◌, ap, sym, subst, refl, ◌∙◌, arith, eqb-true, ne_eqb, one-add}
use Rattle.std.specs.Prelude.{take, drop, length, if◌then◌else◌}
use Rattle.std.specs.List.{All, position_or_len, prefix_len}
use Rattle.std.proofs.lemmas.Bool.{eqb-false}
use Rattle.std.proofs.lemmas.List.Elements.{All-nil, All-cons, All-head, All-tail}
use Rattle.std.proofs.lemmas.List.{take-append-drop, length-append, length-drop}
use Rattle.std.proofs.Math.Seq.{take-append_seam, drop-append_seam}
use Rattle.elf_read.specs.Symbol.{SymbolValue}
use Rattle.debug_text.specs.Words.{is_space, from_word, next_word, behind_word, ends_word, words_with, line_words}
use Rattle.debug_text.specs.Commands.{line_command, command_of}
use Rattle.debug_text.specs.Lines.{HasWords, command_of_words}

abbrev IsWordByte : ℕ → Type 0
IsWordByte c = c ≢ 32

-- the first of some words, or none, and the others
abbrev first_of : List (List ℕ) → List ℕ
first_of [] = []
first_of (word ∷ words) = word

abbrev others_of : List (List ℕ) → List (List ℕ)
others_of [] = []
others_of (word ∷ words) = words

-- the bytes of a word
word_len : (bytes rest : List ℕ) → All IsWordByte bytes → ends_word rest ≡ true
    → position_or_len is_space (bytes ++ rest) ≡ length bytes
word_len [] [] all end = refl
word_len [] (b ∷ rest) all end = rw end refl
word_len (b ∷ bytes) rest all end =
    rw (ne_eqb b 32 (All-head IsWordByte b bytes all))
    (rw (word_len bytes rest (All-tail IsWordByte b bytes all) end) (one-add (length bytes)))

-- the next word is the first, and behind it are the others
abbrev FollowsWords : List ℕ → List (List ℕ) → Type 0
FollowsWords line words = (next_word line ≡ first_of words) × HasWords (behind_word line) (others_of words)

-- from a line without the spaces at its front
from_first : (line front : List ℕ) (words : List (List ℕ)) → from_word line ≡ front
    → (take (position_or_len is_space front) front ≡ first_of words)
    × HasWords (drop (position_or_len is_space front) front) (others_of words)
    → FollowsWords line words
from_first line front words e (word, has) = (
  ap (λ t. take (position_or_len is_space t) t) e ∙ word,
  subst (λ t. HasWords (drop (position_or_len is_space t) t) (others_of words)) (sym e) has,
)

next_words : (line : List ℕ) (words : List (List ℕ)) → HasWords line words → FollowsWords line words
next_words _ _ HasWords.nothing = (refl, HasWords.nothing)
next_words _ _ (HasWords.space line words has) =
    from_first (32 ∷ line) (from_word line) words (rw one-add refl) (next_words line words has)
next_words _ _ (HasWords.word b bytes rest words all end has) =
    let line : List ℕ = (b ∷ bytes) ++ rest in
    let n : position_or_len is_space line ≡ length (b ∷ bytes) = word_len (b ∷ bytes) rest all end in
    from_first line line ((b ∷ bytes) ∷ words) (rw (ne_eqb b 32 (All-head IsWordByte b bytes all)) refl) (
      ap (λ k. take k line) n ∙ take-append_seam (b ∷ bytes) rest,
      subst (λ t. HasWords t words) (sym (ap (λ k. drop k line) n ∙ drop-append_seam (b ∷ bytes) rest)) has,
    )

-- words aren't empty
abbrev IsWord : List ℕ → Type 0
IsWord [] = ⊥
IsWord (b ∷ bytes) = Unit {0}

are_words : (line : List ℕ) (words : List (List ℕ)) → HasWords line words → All IsWord words
are_words _ _ HasWords.nothing = All-nil IsWord
are_words _ _ (HasWords.space line words has) = are_words line words has
are_words _ _ (HasWords.word b bytes rest words all end has) =
    All-cons IsWord (b ∷ bytes) words tt (are_words rest words has)

-- a word in front of words
words_run : (b : ℕ) (bytes rest : List ℕ) → All IsWordByte (b ∷ bytes) → ends_word rest ≡ true
    → line_words ((b ∷ bytes) ++ rest) ≡ (b ∷ bytes) ∷ line_words rest
unfolding line_words
words_run b [] rest all end = rw (ne_eqb b 32 (All-head IsWordByte b [] all)) (rw end refl)
words_run b (c ∷ bytes) rest all end =
    let more : All IsWordByte (c ∷ bytes) = All-tail IsWordByte b (c ∷ bytes) all in
    let next : line_words ((c ∷ bytes) ++ rest) ≡ (c ∷ bytes) ∷ line_words rest = words_run c bytes rest more end in
    ap (λ t. if t then line_words ((c ∷ bytes) ++ rest) else words_with b (ends_word ((c ∷ bytes) ++ rest)) (line_words ((c ∷ bytes) ++ rest)))
    (ne_eqb b 32 (All-head IsWordByte b (c ∷ bytes) all))
    ∙ ap (λ t. words_with b t (line_words ((c ∷ bytes) ++ rest))) (ne_eqb c 32 (All-head IsWordByte c bytes more))
    ∙ ap (λ words. words_with b false words) next

-- a line that has words has these
words_are : (line : List ℕ) (words : List (List ℕ)) → HasWords line words → line_words line ≡ words
unfolding line_words
words_are _ _ HasWords.nothing = refl
words_are _ _ (HasWords.space line words has) = words_are line words has
words_are _ _ (HasWords.word b bytes rest words all end has) =
    words_run b bytes rest all end ∙ ap (λ more. (b ∷ bytes) ∷ more) (words_are rest words has)

-- the command of the first words
of_first : (symbols : List SymbolValue) (words : List (List ℕ)) → All IsWord words
    → line_command symbols (first_of words) (first_of (others_of words)) (first_of (others_of (others_of words)))
    (first_of (others_of (others_of (others_of words)))) (others_of (others_of words))
    ≡ command_of_words symbols words
of_first symbols [] all = refl
of_first symbols ([] ∷ words) all = absurd (All-head IsWord [] words all)
of_first symbols ((x ∷ xs) ∷ []) all = refl
of_first symbols ((x ∷ xs) ∷ ([] ∷ words)) all =
    absurd (All-head IsWord [] words (All-tail IsWord (x ∷ xs) ([] ∷ words) all))
of_first symbols ((x ∷ xs) ∷ ((y ∷ ys) ∷ [])) all = refl
of_first symbols ((x ∷ xs) ∷ ((y ∷ ys) ∷ ([] ∷ words))) all =
    absurd (All-head IsWord [] words (All-tail IsWord (y ∷ ys) ([] ∷ words)
    (All-tail IsWord (x ∷ xs) ((y ∷ ys) ∷ ([] ∷ words)) all)))
of_first symbols ((x ∷ xs) ∷ ((y ∷ ys) ∷ ((z ∷ zs) ∷ []))) all = refl
of_first symbols ((x ∷ xs) ∷ ((y ∷ ys) ∷ ((z ∷ zs) ∷ ([] ∷ words)))) all =
    absurd (All-head IsWord [] words (All-tail IsWord (z ∷ zs) ([] ∷ words)
    (All-tail IsWord (y ∷ ys) ((z ∷ zs) ∷ ([] ∷ words))
    (All-tail IsWord (x ∷ xs) ((y ∷ ys) ∷ ((z ∷ zs) ∷ ([] ∷ words))) all))))
of_first symbols ((x ∷ xs) ∷ ((y ∷ ys) ∷ ((z ∷ zs) ∷ ((v ∷ vs) ∷ words)))) all = refl

pub command_is : (symbols : List SymbolValue) (line : List ℕ) (words : List (List ℕ)) → HasWords line words
    → command_of symbols line ≡ command_of_words symbols words
unfolding command_of
command_is symbols line words has =
    let behind : List ℕ = behind_word line in
    let behind_2 : List ℕ = behind_word behind in
    let others : List (List ℕ) = others_of words in
    let others_2 : List (List ℕ) = others_of others in
    let one : FollowsWords line words = next_words line words has in
    let two : FollowsWords behind others = next_words behind others one.1 in
    let three : FollowsWords behind_2 others_2 = next_words behind_2 others_2 two.1 in
    let four = next_words (behind_word behind_2) (others_of others_2) three.1 in
    let names : line_words behind_2 ≡ others_2 = words_are behind_2 others_2 two.1 in
    ap (λ w. line_command symbols w (next_word behind) (next_word behind_2) (next_word (behind_word behind_2)) (line_words behind_2)) one.0
    ∙ ap (λ w. line_command symbols (first_of words) w (next_word behind_2) (next_word (behind_word behind_2)) (line_words behind_2)) two.0
    ∙ ap (λ w. line_command symbols (first_of words) (first_of others) w (next_word (behind_word behind_2)) (line_words behind_2)) three.0
    ∙ ap (λ w. line_command symbols (first_of words) (first_of others) (first_of others_2) w (line_words behind_2)) four.0
    ∙ ap (λ w. line_command symbols (first_of words) (first_of others) (first_of others_2) (first_of (others_of others_2)) w) names
    ∙ of_first symbols words (are_words line words has)

one_byte : (b : ℕ) → b ≢ 32 → All IsWordByte (b ∷ [])
one_byte b other = All-cons IsWordByte b [] other (All-nil IsWordByte)

-- a byte more in front, which is no space
begins : (b : ℕ) (line : List ℕ) (words : List (List ℕ)) → b ≢ 32 → HasWords line words
    → (all : List (List ℕ)) × HasWords (b ∷ line) all
begins b _ _ other HasWords.nothing =
    ((b ∷ []) ∷ [], HasWords.word b [] [] [] (one_byte b other) refl HasWords.nothing)
begins b _ _ other (HasWords.space line words has) = (
  (b ∷ []) ∷ words,
  HasWords.word b [] (32 ∷ line) words (one_byte b other) refl (HasWords.space line words has),
)
begins b _ _ other (HasWords.word c bytes rest words all end has) = (
  (b ∷ (c ∷ bytes)) ∷ words,
  HasWords.word b (c ∷ bytes) rest words (All-cons IsWordByte b (c ∷ bytes) other all) end has,
)

pub has_words : (line : List ℕ) → (words : List (List ℕ)) × HasWords line words
has_words [] = ([], HasWords.nothing)
has_words (b ∷ line) = by (is_space b) refl (has_words line)
  where
    by : (t : Bool) → is_space b ≡ t → (words : List (List ℕ)) × HasWords line words
        → (words : List (List ℕ)) × HasWords (b ∷ line) words
    by true e (words, has) =
        (words, subst (λ c. HasWords (c ∷ line) words) (sym (eqb-true b 32 e)) (HasWords.space line words has))
    by false e (words, has) = begins b line words (eqb-false b 32 e) has

-- the words of a line: the next one, if there is one, and those behind it
abbrev pub next_and : List ℕ → List (List ℕ) → List (List ℕ)
next_and [] words = []
next_and (b ∷ word) words = (b ∷ word) ∷ words

next_of_words : (words : List (List ℕ)) → All IsWord words → words ≡ next_and (first_of words) (others_of words)
next_of_words [] all = refl
next_of_words ([] ∷ words) all = absurd (All-head IsWord [] words all)
next_of_words ((b ∷ word) ∷ words) all = refl

pub words_next : (line : List ℕ) → line_words line ≡ next_and (next_word line) (line_words (behind_word line))
words_next line =
    let (words, has) = has_words line in
    let follow : FollowsWords line words = next_words line words has in
    words_are line words has
    ∙ next_of_words words (are_words line words has)
    ∙ ap (λ w. next_and w (others_of words)) (sym follow.0)
    ∙ ap (λ ws. next_and (next_word line) ws) (sym (words_are (behind_word line) (others_of words) follow.1))

-- behind a word is less of a line
pub shorter : (line : List ℕ) → 0 < length (next_word line) → length (behind_word line) < length line
shorter line some =
    let front : List ℕ = from_word line in
    let k : ℕ = position_or_len is_space front in
    let parts : length (take k front) + length (drop k front) ≡ length front = sym (length-append (take k front) (drop k front)) ∙ ap (λ l. length l) (take-append-drop k front) in
    let less : length front ≡ length line - prefix_len is_space line = length-drop (prefix_len is_space line) line in
    omega arith
