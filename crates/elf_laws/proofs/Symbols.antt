-- The symbols of each text's program are named as a table of names holds them, and come back.
use Rattle.std.proofs.Common.{◌≡◌, ℕ, ◌^◌, ◌<◌, Bool, true, false, List, [], ◌∷◌, ◌++◌, map, Ok, refl, sym, ap, subst, arith}
use Rattle.std.specs.Prelude.{not, ◌==◌, ◌&&◌}
use Rattle.std.specs.List.{list_all}
use Rattle.std.specs.Str.{IsAscii}
use Rattle.std.proofs.lemmas.Bool.Decides.{nat_tests}
use Rattle.std.proofs.lemmas.Str.{IsUtf8-from_ascii, is_utf8-from_IsUtf8}
use Rattle.std.proofs.lemmas.Str.Ascii.{IsAscii-nil, IsAscii-cons}
use Rattle.asm_lex.specs.Bytes.{is_name_byte}
use Rattle.asm_statement.specs.Statement.{StatementValue, BodyValue}
use Rattle.asm_statement.specs.Statements.{statements_of}
use Rattle.asm_statement.specs.declared.statement.Body.TheVariants as bodies
use Rattle.asm_statement.specs.declared.statement.Section.{Section}
use Rattle.asm_assemble.specs.Assembled.{assembled}
use Rattle.asm_assemble.specs.Placed.{Standing, Placed, symbol_at, placed_symbols_in}
use Rattle.asm_assemble.specs.Program.{ProgramValue, SymbolList}
use Rattle.asm_assemble.specs.Sources.{assembled_texts}
use Rattle.asm_assemble.specs.declared.program.Symbol.{Symbol}
use Rattle.asm_assemble.proofs.PlacedWhole.{assembled_is_placed}
use Rattle.elf_write.specs.File.{file}
use Rattle.elf_laws.specs.Fields.{HasFields}
use Rattle.elf_laws.proofs.FieldsLemmas.{written}
use Rattle.asm_laws.proofs.ReadsLemmas.{ok_iff}
use Rattle.asm_laws.proofs.Entry.{entry_small}
use Rattle.asm_laws.proofs.Ranges.{step_gives}
use Rattle.elf_laws.specs.Given.{IsName, AreNamed}
use Rattle.elf_laws.proofs.GivenLemmas.{come_back}
use Rattle.elf_laws.specs.Labels.{IsWord, AreWords, HasNames, LabelsAreNames, TextsSymbolsComeBack}
use Rattle.elf_laws.proofs.Each.{Each}
use Rattle.elf_laws.proofs.Statements.{HasName, SaysName, texts_named}

-- ---- a word is a name of a table of names
both_true : (a b : Bool) → (a && b) ≡ true → (a ≡ true) × (b ≡ true)
both_true true b e = (refl, e)
both_true false b e = absurd cc

small : (b : ℕ) → is_name_byte b ≡ true → b < 128
small b h = grind (arith, h)

above_zero : (b : ℕ) → is_name_byte b ≡ true → 0 < b
above_zero b h = grind (arith, h)

no_test : (b : ℕ) → 0 < b → (b == 0) ≡ false
no_test b h = grind (arith, nat_tests)

not_zero : (b : ℕ) → is_name_byte b ≡ true → not (b == 0) ≡ true
not_zero b h = ap not (no_test b (above_zero b h))

ascii : (name : List ℕ) → list_all is_name_byte name ≡ true → IsAscii name
ascii [] h = IsAscii-nil
ascii (b ∷ bs) h =
    let both = both_true (is_name_byte b) (list_all is_name_byte bs) h in
    IsAscii-cons b bs (small b both.0) (ascii bs both.1)

no_zero : (name : List ℕ) → list_all is_name_byte name ≡ true → list_all (λ b. not (b == 0)) name ≡ true
no_zero [] h = refl
no_zero (b ∷ bs) h =
    let both = both_true (is_name_byte b) (list_all is_name_byte bs) h in
    rw (not_zero b both.0) (no_zero bs both.1)

name_is : (name : List ℕ) → IsWord name → IsName name
name_is name h = record { some = h.some; text = is_utf8-from_IsUtf8 name (IsUtf8-from_ascii name (ascii name h.each)); no_zero = no_zero name h.each }

-- ---- the symbols of statements
-- a symbol's name is a word, and its address has 32 bits
abbrev IsOwn : (List ℕ × Symbol) → Type 0
IsOwn s = IsWord s.0 × (s.1.address < 2 ^ 32)

one_own : (all : List Standing) (section : Section) (at : ℕ) (b : BodyValue) (rest : SymbolList) → HasName b → Each IsOwn rest → Each IsOwn (symbol_at all section at b ++ rest)
one_own all section at (bodies.Label name) rest h more = ((h, omega arith), more)
one_own all section at (bodies.LocalLabel digits) rest h more = more
one_own all section at (bodies.Instruction i) rest h more = more
one_own all section at (bodies.Pseudo p) rest h more = more
one_own all section at (bodies.Directive d) rest h more = more

all_own : (all ss : List Standing) → Each SaysName (map (λ (s : Standing). s.statement) ss) → Each IsOwn (placed_symbols_in all ss)
unfolding placed_symbols_in
all_own all [] h = tt
all_own all (s ∷ ss) h = one_own all s.section s.address s.statement.body _ h.0 (all_own all ss h.1)

words : (ss : SymbolList) → Each IsOwn ss → AreWords ss
words [] h = tt
words (s ∷ ss) h = (h.0.0, words ss h.1)

named : (ss : SymbolList) → Each IsOwn ss → AreNamed ss
named [] h = tt
named (s ∷ ss) h = (name_is s.0 h.0.0, h.0.1, named ss h.1)

-- ---- the whole
placed_names : (texts : List (List ℕ)) (ss : List StatementValue) (p : ProgramValue) → statements_of texts ≡ Ok ss → Placed ss p → HasNames p
placed_names texts ss p read h =
    let said : Each SaysName ss = texts_named 0 texts ss ((ok_iff texts ss).0 read) in
    let own : Each IsOwn p.symbols = subst (Each IsOwn) (sym h.placed.symbols) (all_own h.all h.all (subst (Each SaysName) (sym h.placed.standing.statements) said)) in
    record { words = words p.symbols own; named = named p.symbols own; within = h.placed.within; entry = entry_small ss p h.all h.bases h.placed }

pub names : LabelsAreNames
unfolding assembled_texts
names texts p e =
    let g = step_gives (statements_of texts) assembled p e in
    placed_names texts g.0 p g.1 (assembled_is_placed g.0 p g.2)

pub back : TextsSymbolsComeBack file
back texts p e fits =
    let h : HasNames p = names texts p e in
    let fields : HasFields p (file p) = written p h.within h.entry in
    come_back p h.within h.entry h.named (subst (λ n. n < 2 ^ 32) fields.ends fits)
