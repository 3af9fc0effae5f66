-- The words of a line.
use Rattle.std.specs.Prelude.{ℕ, Bool, true, false, ◌==◌, List, [], ◌∷◌, take, drop, if◌then◌else◌}
use Rattle.std.specs.List.{prefix_len, position_or_len}

-- words are separated by spaces
abbrev pub is_space : ℕ → Bool
is_space b = b == 32

-- a line without the spaces at its front
abbrev pub from_word : List ℕ → List ℕ
from_word line = drop (prefix_len is_space line) line

-- the first word of a line, empty if there is none
abbrev pub next_word : List ℕ → List ℕ
next_word line = take (position_or_len is_space (from_word line)) (from_word line)

-- the rest after it
abbrev pub behind_word : List ℕ → List ℕ
behind_word line = drop (position_or_len is_space (from_word line)) (from_word line)

-- a word may end before this rest of a line: at its end, or at a space
abbrev pub ends_word : List ℕ → Bool
ends_word [] = true
ends_word (b ∷ rest) = is_space b

-- the words of a byte, which is no space, and a rest with these; whether the byte ends its word
abbrev pub words_with : ℕ → Bool → List (List ℕ) → List (List ℕ)
words_with b true words = (b ∷ []) ∷ words
words_with b false [] = (b ∷ []) ∷ []
words_with b false (word ∷ words) = (b ∷ word) ∷ words

-- the words of a line, with spaces between and around them
unfoldable pub line_words : List ℕ → List (List ℕ)
line_words [] = []
line_words (b ∷ line) =
    if is_space b then line_words line else words_with b (ends_word line) (line_words line)
