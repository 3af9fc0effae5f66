-- A listing assembles to the bytes that it lists.
use Rattle.std.proofs.Common.{◌≡◌, ℕ, suc, ◌+◌, ◌/◌, ◌%◌, ◌^◌, ◌<◌, ◌≤◌, true, List, [], ◌∷◌, ◌++◌, length, Ok, refl, ap, subst, ◌∙◌, arith, append_assoc}
use Rattle.std.specs.Prelude.{codes, All}
use Rattle.std.specs.Int.{w32, to_le_bytes}
use Rattle.std.specs.List.{list_all}
use Rattle.std.proofs.lemmas.Bool.Decides.{nat_tests}
use Rattle.std.proofs.lemmas.List.{append-nil}
use Rattle.std.proofs.lemmas.List.Folds.{list_all-append}
use Rattle.isa_names.specs.Digits.{word_text, byte_text}
use Rattle.isa_disasm.specs.Lines.{line_text}
use Rattle.isa_disasm.specs.Listing.{word_of_bytes, word_entry, byte_entry, listing}
use Rattle.asm_lex.specs.Grammar.{is_in_line}
use Rattle.asm_lex.specs.Lexemes.{Lexeme, LineEnd, Lexed, lexed}
use Rattle.asm_statement.specs.Statement.{StatementValue}
use Rattle.asm_statement.specs.Statements.{stated, statement_from, source_from, labels_from, body, sources_from, statements_of}
use Rattle.asm_assemble.specs.Program.{text_start}
use Rattle.asm_round_trip.proofs.Atoms.{Gap, Remark, Line, lexemes, afterwards}
use Rattle.asm_round_trip.proofs.Digits.{hex8, digit_at}
use Rattle.asm_assemble.specs.Sources.{assembled_texts}
use Rattle.asm_round_trip.specs.TextAlone.{text_alone}
use Rattle.asm_round_trip.proofs.Apart.{atoms_read}
use Rattle.asm_round_trip.proofs.Numerals.{word_text_is}
use Rattle.asm_round_trip.proofs.Phases.{Phased, phased_none, phased_more, phased_all}
use Rattle.asm_round_trip.proofs.Back.{IsBack, text_place}
use Rattle.asm_round_trip.proofs.Shapes.{byte_back}
use Rattle.asm_round_trip.proofs.LineBack.{line_back}

in_line : (n k : ℕ) → is_in_line (digit_at n k) ≡ true
in_line n k = grind (arith, nat_tests)

hex8_in_line : (n : ℕ) → list_all is_in_line (hex8 n) ≡ true
unfolding hex8
hex8_in_line n = rw (in_line n 7, in_line n 6, in_line n 5, in_line n 4, in_line n 3, in_line n 2, in_line n 1, in_line n 0) refl

digits_in_line : (n : ℕ) → list_all is_in_line (word_text n) ≡ true
digits_in_line n = rw (word_text_is n) (hex8_in_line n)

-- the address and the digits after a word's line
abbrev remark : ℕ → ℕ → List ℕ
remark at word = 32 ∷ (word_text at ++ (32 ∷ word_text word))

remark_in_line : (at word : ℕ) → list_all is_in_line (remark at word) ≡ true
remark_in_line at word = rw (list_all-append is_in_line (word_text at) (32 ∷ word_text word), digits_in_line at, digits_in_line word) refl

byte_remark_in_line : (at : ℕ) → list_all is_in_line (32 ∷ word_text at) ≡ true
byte_remark_in_line at = rw (digits_in_line at) refl

abbrev whole_of : List Lexeme → Lexed
whole_of words = record { lexemes = words; whole = true }

-- a text that reads as statements which give bytes from an address on
pub record Reads (at : ℕ) (text bytes : List ℕ) : Type 0 where
  pub words : List Lexeme
  pub are : lexed 0 text ≡ whole_of words
  pub said : ℕ → ℕ → List StatementValue
  pub says : (source line : ℕ) (done : List StatementValue) → source_from true (text_place source line) done [] words ≡ Ok (done ++ said source line)
  pub phased : (source line : ℕ) → Phased at (said source line) bytes

-- a line with its remark, before lines that read
abbrev lined : List ℕ → List ℕ → List ℕ → List ℕ
lined text c rest = text ++ (32 ∷ 32 ∷ 35 ∷ (c ++ (10 ∷ rest)))

tail_read : (c rest : List ℕ) (words : List Lexeme) → list_all is_in_line c ≡ true → lexed 0 rest ≡ whole_of words → lexed 0 (32 ∷ 32 ∷ 35 ∷ (c ++ (10 ∷ rest))) ≡ whole_of (LineEnd ∷ words)
tail_read c rest words e are = atoms_read (Gap ∷ Gap ∷ Remark c ∷ Line ∷ []) rest (e, refl, tt) ∙ rw are refl

line_read : (at : ℕ) (text bytes c rest : List ℕ) (words : List Lexeme) (back : IsBack at text bytes) → list_all is_in_line c ≡ true → lexed 0 rest ≡ whole_of words
    → lexed 0 (lined text c rest) ≡ whole_of (lexemes back.atoms (LineEnd ∷ words))
line_read at text bytes c rest words back e are =
    let tail : List ℕ = 32 ∷ 32 ∷ 35 ∷ (c ++ (10 ∷ rest)) in
    rw (back.shows tail) (atoms_read back.atoms tail (back.apart tail refl) ∙ ap (afterwards back.atoms) (tail_read c rest words e are))

line_said : (at : ℕ) (text bytes : List ℕ) (words : List Lexeme) (back : IsBack at text bytes) (source line : ℕ) (done more : List StatementValue)
    → source_from true (text_place source (line + 1)) (done ++ stated (text_place source line) back.body ∷ []) [] words ≡ Ok ((done ++ stated (text_place source line) back.body ∷ []) ++ more)
    → source_from true (text_place source line) done [] (lexemes back.atoms (LineEnd ∷ words)) ≡ Ok (done ++ stated (text_place source line) back.body ∷ more)
line_said at text bytes words back source line done more e =
    back.one_line (text_place source line) done words ∙ rw (back.says source line done) (e ∙ rw append_assoc refl)

step : (at : ℕ) (text bytes c rest more : List ℕ) → IsBack at text bytes → list_all is_in_line c ≡ true → Reads (at + length bytes) rest more → Reads at (lined text c rest) (bytes ++ more)
step at text bytes c rest more back e r = record {
  words = lexemes back.atoms (LineEnd ∷ r.words);
  are = line_read at text bytes c rest r.words back e r.are;
  said = λ source line. stated (text_place source line) back.body ∷ r.said source (line + 1);
  says = λ source line done. line_said at text bytes r.words back source line done (r.said source (line + 1)) (r.says source (line + 1) (done ++ stated (text_place source line) back.body ∷ []));
  phased = λ source line. phased_more at (stated (text_place source line) back.body) (r.said source (line + 1)) bytes more back.stands (r.phased source (line + 1));
}

nothing : (at : ℕ) → Reads at [] []
unfolding lexed source_from statement_from labels_from body
nothing at = record {
  words = [];
  are = refl;
  said = λ source line. [];
  says = λ source line done. rw append-nil refl;
  phased = λ source line. phased_none at;
}

abbrev pub AreBytes : List ℕ → Type 0
AreBytes [] = Unit {0}
AreBytes (b ∷ bs) = (b < 2 ^ 8) × AreBytes bs

bytes_of_word : (a b c d : ℕ) → a < 2 ^ 8 → b < 2 ^ 8 → c < 2 ^ 8 → d < 2 ^ 8 → to_le_bytes w32 (word_of_bytes a b c d) ≡ a ∷ b ∷ c ∷ d ∷ []
bytes_of_word a b c d p q r s =
    let e : word_of_bytes a b c d % 256 ≡ a = omega arith in
    let f : word_of_bytes a b c d / 256 % 256 ≡ b = omega arith in
    let g : word_of_bytes a b c d / 65536 % 256 ≡ c = omega arith in
    let h : word_of_bytes a b c d / 16777216 % 256 ≡ d = omega arith in
    rw (e, f, g, h) refl

word_small : (a b c d : ℕ) → a < 2 ^ 8 → b < 2 ^ 8 → c < 2 ^ 8 → d < 2 ^ 8 → word_of_bytes a b c d < 2 ^ 32
word_small a b c d p q r s = omega arith

word_step : (at word : ℕ) (bytes rest more : List ℕ) → to_le_bytes w32 word ≡ bytes → at % 4 ≡ 0 → at < 2 ^ 32 → word < 2 ^ 32 → Reads (at + length bytes) rest more → Reads at (word_entry at word rest) (bytes ++ more)
word_step at word bytes rest more same aligned lt small r =
    let e : word_entry at word rest ≡ lined (line_text at word) (remark at word) rest = simp append_assoc in
    let back : IsBack at (line_text at word) bytes = subst (λ bs. IsBack at (line_text at word) bs) same (line_back at word aligned lt small) in
    rw e (step at (line_text at word) bytes (remark at word) rest more back (remark_in_line at word) r)

byte_step : (at byte : ℕ) (rest more : List ℕ) → byte < 2 ^ 8 → Reads (at + 1) rest more → Reads at (byte_entry at byte rest) (byte ∷ more)
byte_step at byte rest more small r =
    let e : byte_entry at byte rest ≡ lined (codes ".byte 0x" ++ byte_text byte) (32 ∷ word_text at) rest = simp append_assoc in
    rw e (step at (codes ".byte 0x" ++ byte_text byte) (byte ∷ []) (32 ∷ word_text at) rest more (byte_back at byte small) (byte_remark_in_line at) r)

pub whole : (bytes : List ℕ) (at : ℕ) → AreBytes bytes → at % 4 ≡ 0 → at + length bytes ≤ 2 ^ 32 → Reads at (listing at bytes) bytes
unfolding listing
whole [] at h z le = nothing at
whole (a ∷ []) at h z le = byte_step at a [] [] h.0 (nothing (at + 1))
whole (a ∷ b ∷ []) at h z le = byte_step at a _ _ h.0 (byte_step (at + 1) b [] [] h.1.0 (nothing (at + 1 + 1)))
whole (a ∷ b ∷ c ∷ []) at h z le = byte_step at a _ _ h.0 (byte_step (at + 1) b _ _ h.1.0 (byte_step (at + 1 + 1) c [] [] h.1.1.0 (nothing (at + 1 + 1 + 1))))
whole (a ∷ b ∷ c ∷ d ∷ rest) at h z le =
    let more : Reads (at + 4) (listing (at + 4) rest) rest = whole rest (at + 4) h.1.1.1.1 (omega arith) (omega arith) in
    word_step at (word_of_bytes a b c d) (a ∷ b ∷ c ∷ d ∷ []) (listing (at + 4) rest) rest (bytes_of_word a b c d h.0 h.1.0 h.1.1.0 h.1.1.1.0) z (omega arith) (word_small a b c d h.0 h.1.0 h.1.1.0 h.1.1.1.0) more

are_bytes : (bytes : List ℕ) → All (λ b. b < 2 ^ 8) bytes → AreBytes bytes
are_bytes [] h = tt
are_bytes (b ∷ bs) h = (h 0 0 (omega arith), are_bytes bs (λ k d lt. h (suc k) d (omega arith)))

-- a single source
one_source : (text : List ℕ) (words : List Lexeme) (said : List StatementValue) → lexed 0 text ≡ whole_of words → source_from true (text_place 0 1) [] [] words ≡ Ok said → statements_of (text ∷ []) ≡ Ok said
unfolding statements_of sources_from
one_source text words said are says = rw (are, says) refl

pub comes_back : (bytes : List ℕ) → All (λ b. b < 2 ^ 8) bytes → length bytes ≤ 2 ^ 24 → assembled_texts (listing text_start bytes ∷ []) ≡ Ok (text_alone bytes)
unfolding assembled_texts
comes_back bytes h le =
    let r : Reads 65536 (listing 65536 bytes) bytes = whole bytes 65536 (are_bytes bytes h) (omega arith) (omega arith) in
    rw (one_source (listing 65536 bytes) r.words (r.said 0 1) r.are (r.says 0 1 [])) (phased_all (r.said 0 1) bytes (r.phased 0 1) le)
