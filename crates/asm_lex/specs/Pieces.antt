-- The first piece of a text.
use Rattle.std.specs.Prelude.{ℕ, suc, ◌<◌, ◌≤◌, slice_index, take, ◌+◌, ◌-◌, Bool, false, not, ◌&&◌, ◌==◌, nat_lt, if◌then◌else◌, List, [], ◌∷◌, Option, Some, None, length}
use Rattle.std.specs.List.{prefix_len, list_all}
use Rattle.std.specs.Option.{option_map}
use Rattle.asm_lex.specs.declared.token.Kind.{Kind}
use Rattle.asm_lex.specs.declared.token.Kind.TheVariants.{Name, Number, Back, Ahead, Text, Comma, Open, Close, Plus, Minus, Percent, Colon, Semicolon, Other, LineEnd}
use Rattle.asm_lex.specs.declared.piece.Piece.{Piece}
use Rattle.asm_lex.specs.declared.piece.Piece.TheVariants.{Gap, Lexeme, BadChar, BadNumber, OpenText}
use Rattle.asm_lex.specs.Bytes.{is_digit, is_name_byte, is_space_or_tab, is_printable}
use Rattle.asm_lex.specs.Numbers.{digits_number}

-- the kind of a printable character that stands for itself
abbrev pub sign_of : ℕ → Kind
sign_of b =
    if b == 44 then Comma else
    (if b == 40 then Open else
    (if b == 41 then Close else
    (if b == 43 then Plus else
    (if b == 45 then Minus else
    (if b == 37 then Percent else
    (if b == 58 then Colon else
    (if b == 59 then Semicolon else Other b)))))))

-- the longest run of name characters
unfoldable pub run_of_names : List ℕ → ℕ
run_of_names text = prefix_len is_name_byte text

-- a comment extends to the end of its line
unfoldable pub comment_len : List ℕ → ℕ
comment_len text = prefix_len (λ b. not (b == 10)) text

-- the number of bytes before the closing quote; a backslash escapes the next byte
unfoldable pub closing : Bool → List ℕ → Option ℕ
closing escaped [] = None
closing escaped (b ∷ bs) =
    if b == 10 then None
    else (if b == 34 && not escaped then Some 0
    else option_map suc (closing (b == 92 && not escaped) bs))

-- decimal digits followed by `b` or `f`
unfoldable pub reference_of : List ℕ → Piece
reference_of word =
    let digits = length word - 1 in
    let last = slice_index word digits in
    if nat_lt 0 digits && list_all is_digit (take digits word)
    then (if last == 98 then Lexeme Back (length word) else (if last == 102 then Lexeme Ahead (length word) else BadNumber))
    else BadNumber

-- a word that begins with a digit is a number or a reference
abbrev pub number_piece : List ℕ → Option ℕ → Piece
number_piece word (Some n) = Lexeme (Number n) (length word)
number_piece word None = reference_of word

unfoldable pub word_piece : List ℕ → Piece
word_piece word = if is_digit (slice_index word 0) then number_piece word (digits_number word) else Lexeme Name (length word)

-- a string whose closing quote is this far after the opening one
abbrev pub text_piece : Option ℕ → Piece
text_piece None = OpenText
text_piece (Some n) = Lexeme Text (n + 2)

-- CR only begins a line end
abbrev pub return_piece : List ℕ → Piece
return_piece [] = BadChar
return_piece (b ∷ bs) = if b == 10 then Lexeme LineEnd 2 else BadChar

-- the first piece of a text that is not empty
unfoldable pub front : List ℕ → Piece
front [] = BadChar
front (b ∷ bs) =
    if is_space_or_tab b then Gap 1
    else (if b == 10 then Lexeme LineEnd 1
    else (if b == 13 then return_piece bs
    else (if b == 35 then Gap (1 + comment_len bs)
    else (if b == 34 then text_piece (closing false bs)
    else (if is_name_byte b then word_piece (take (run_of_names (b ∷ bs)) (b ∷ bs))
    else (if is_printable b then Lexeme (sign_of b) 1
    else BadChar))))))

-- the piece has at least one and at most this many bytes
abbrev pub TakesSomeOf : ℕ → Piece → Type 0
TakesSomeOf len (Gap n) = (0 < n) × (n ≤ len)
TakesSomeOf len (Lexeme kind n) = (0 < n) × (n ≤ len)
TakesSomeOf len BadChar = Unit {0}
TakesSomeOf len BadNumber = Unit {0}
TakesSomeOf len OpenText = Unit {0}
