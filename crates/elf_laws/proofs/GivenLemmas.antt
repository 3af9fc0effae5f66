-- The symbols of a written file are the program's.
use Rattle.std.proofs.Common.{◌≡◌, ℕ, suc, ◌+◌, ◌*◌, ◌/◌, ◌%◌, ◌^◌, ◌<◌, ◌≤◌, true, false, List, [], ◌∷◌, ◌++◌, length, take, drop, map, Some, Ok, refl, sym, ap, subst, ◌∙◌, arith, append_assoc, length-append}
use Rattle.std.specs.Prelude.{not, ◌==◌, nat_lt, filter, Bool, slice_index, if◌then◌else◌}
use Rattle.std.specs.Str.{is_utf8, chars}
use Rattle.std.proofs.lemmas.Bool.Decides.{nat_tests}
use Rattle.std.proofs.Math.Seq.{drop-append_seam}
use Rattle.std.proofs.lemmas.List.{take-append-drop, get_or-drop}
use Rattle.byteorder.specs.Endian.{little_number}
use Rattle.asm_statement.specs.declared.statement.Section.{Section}
use Rattle.asm_statement.specs.declared.statement.Section.TheVariants as section
use Rattle.asm_assemble.specs.Program.{ProgramValue, SymbolList, round_up}
use Rattle.asm_assemble.specs.declared.program.Symbol.{Symbol}
use Rattle.elf_write.specs.File.{file}
use Rattle.elf_write.specs.Section.{tables_of, names_at}
use Rattle.elf_write.specs.Table as tables
use Rattle.elf_write.specs.Table.{no_symbols, with_symbols}
use Rattle.elf_write.proofs.LayoutLemmas.{Bounds, bounds}
use Rattle.elf_read.specs.Name.{name_in}
use Rattle.elf_read.specs.Number.{word_at, half_at}
use Rattle.elf_read.specs.Section.{section_at, sections_from}
use Rattle.elf_read.specs.Symbol.{SymbolValue}
use Rattle.elf_read.specs.SymbolFields.{symbol_kind, symbol_place, read_symbol}
use Rattle.elf_read.specs.SymbolTable.{symbols_from, symbols_in, symbols_of, with_name, added}
use Rattle.elf_read.specs.declared.section.SectionHeader.{SectionHeader}
use Rattle.elf_read.specs.declared.symbol.SymbolKind.{SymbolKind}
use Rattle.elf_read.specs.declared.symbol.SymbolKind.TheVariants as kinds
use Rattle.elf_read.specs.declared.symbol.SymbolPlace.{SymbolPlace}
use Rattle.elf_read.specs.declared.symbol.SymbolPlace.TheVariants as places
use Rattle.elf_laws.specs.Fields.{AllStand, HasBytesAt, section_rows, symbol_rows, listed_symbols, local_symbols, names_size, names_place, symbols_place, section_names_place, section_index, sections_place, end_of_data, data_place, zeros, HasFields}
use Rattle.elf_laws.proofs.At.{held}
use Rattle.elf_laws.proofs.Parts.{names_at_place, names_are}
use Rattle.elf_laws.proofs.Tables.{tables_are, names_long, symbol_there, grows}
use Rattle.elf_laws.proofs.FieldsLemmas.{written}
use Rattle.elf_laws.specs.Given.{AreNamed, symbol_given, SymbolsComeBack}
use Rattle.elf_laws.proofs.Names.{name_is, named_both, named_filter, named_at, IsRead, all_read}

-- ---- section headers
header : ℕ → ℕ → ℕ → ℕ → ℕ → SectionHeader
header kind offset size link entry = record { kind = kind; offset = offset; size = size; link = link; entry_size = entry }

section_is : (bytes : List ℕ) (place name kind flags address offset size link info align entry : ℕ) → AllStand bytes place (section_rows name kind flags address offset size link info align entry)
    → section_at bytes place ≡ header kind offset size link entry
unfolding section_at word_at header
section_is bytes place name kind flags address offset size link info align entry h =
    let a = h.1.0.is in
    let b = h.1.1.1.1.0.is in
    let c = h.1.1.1.1.1.0.is in
    let d = h.1.1.1.1.1.1.0.is in
    let e = h.1.1.1.1.1.1.1.1.1.0.is in
    rw (a, b, c, d, e) refl

cons_same : (x y : SectionHeader) (xs ys : List SectionHeader) → x ≡ y → xs ≡ ys → x ∷ xs ≡ y ∷ ys
cons_same x y xs ys e f = ap (λ z. z ∷ xs) e ∙ ap (λ zs. y ∷ zs) f

moved : (bytes : List ℕ) (at next : ℕ) (x : SectionHeader) → at ≡ next → section_at bytes next ≡ x → section_at bytes at ≡ x
moved bytes at next x e f = ap (section_at bytes) e ∙ f

seven : (bytes : List ℕ) (s : ℕ) (a b c d e f g : SectionHeader) → section_at bytes s ≡ a → section_at bytes (s + 40) ≡ b → section_at bytes (s + 80) ≡ c → section_at bytes (s + 120) ≡ d
    → section_at bytes (s + 160) ≡ e → section_at bytes (s + 200) ≡ f → section_at bytes (s + 240) ≡ g → sections_from bytes s 7 ≡ a ∷ b ∷ c ∷ d ∷ e ∷ f ∷ g ∷ []
unfolding sections_from
seven bytes s a b c d e f g p q r t u v w =
    cons_same _ _ _ _ p (cons_same _ _ _ _ q (cons_same _ _ _ _ (moved bytes (s + 40 + 40) (s + 80) c (omega arith) r)
    (cons_same _ _ _ _ (moved bytes (s + 40 + 40 + 40) (s + 120) d (omega arith) t) (cons_same _ _ _ _ (moved bytes (s + 40 + 40 + 40 + 40) (s + 160) e (omega arith) u)
    (cons_same _ _ _ _ (moved bytes (s + 40 + 40 + 40 + 40 + 40) (s + 200) f (omega arith) v) (cons_same _ _ _ _ (moved bytes (s + 40 + 40 + 40 + 40 + 40 + 40) (s + 240) g (omega arith) w) refl))))))

not_below : (n m : ℕ) → m ≤ n → nat_lt n m ≡ false
not_below n m h = grind (arith, nat_tests)

-- the symbol table is the fifth section, and its names are the sixth
in_seven : (bytes : List ℕ) (b_offset b_size c_offset c_size d_offset d_size at count names_begin names_length g_offset : ℕ) → at + 16 * count ≤ length bytes → names_begin + names_length ≤ length bytes
    → symbols_in bytes (header 0 0 0 0 0 ∷ header 1 b_offset b_size 0 0 ∷ header 1 c_offset c_size 0 0 ∷ header 8 d_offset d_size 0 0 ∷ header 2 at (16 * count) 5 16 ∷ header 3 names_begin names_length 0 0 ∷ header 3 g_offset 44 0 0 ∷ [])
    ≡ symbols_from (take names_length (drop names_begin bytes)) bytes [] at count
unfolding symbols_in header
in_seven bytes b_offset b_size c_offset c_size d_offset d_size at count names_begin names_length g_offset h g =
    let whole : 16 * count % 16 ≡ 0 = omega arith in
    let many : 16 * count / 16 ≡ count = omega arith in
    let inside : nat_lt (length bytes) (at + 16 * count) ≡ false = not_below (length bytes) (at + 16 * count) h in
    let also : nat_lt (length bytes) (names_begin + names_length) ≡ false = not_below (length bytes) (names_begin + names_length) g in
    rw (whole, inside, also, many) refl

-- ---- the program's own
low : (n : ℕ) → n < 2 ^ 32 → n % 2 ^ 32 ≡ n
low n h = omega arith

abbrev names_of : tables.TablesValue → List ℕ
names_of t = t.names

names_before : (before : SymbolList) → length (with_symbols no_symbols before).names ≡ 1 + names_size before
unfolding no_symbols
names_before before = names_long no_symbols before

names_length_is : (p : ProgramValue) → length (tables_of p).names ≡ 1 + names_size (listed_symbols p.symbols)
names_length_is p = ap (λ (t : tables.TablesValue). length t.names) (tables_are p.symbols) ∙ names_before (listed_symbols p.symbols)

names_read : (p : ProgramValue) → Bounds p → take (1 + names_size (listed_symbols p.symbols)) (drop (names_place p) (file p)) ≡ (tables_of p).names
names_read p b =
    subst (λ n. take n (drop (names_place p) (file p)) ≡ (tables_of p).names) (names_length_is p)
    (subst (λ n. take (length (tables_of p).names) (drop n (file p)) ≡ (tables_of p).names) (names_are p) (held (file p) (names_at p) (tables_of p).names (names_at_place p b)))

above : (n : ℕ) → n ≤ round_up n 4
unfolding round_up
above n = omega arith

-- places come one behind the other
record InOrder (p : ProgramValue) : Type 0 where
  first : 52 ≤ symbols_place p
  names : names_place p ≡ symbols_place p + 16 * (1 + length (listed_symbols p.symbols))
  behind_names : section_names_place p ≡ names_place p + (1 + names_size (listed_symbols p.symbols))
  end : section_names_place p + 44 ≤ sections_place p

in_order : (p : ProgramValue) → InOrder p
in_order p = record {
  first = let e = above (end_of_data p) in omega (arith, e);
  names = refl;
  behind_names = refl;
  end = above (section_names_place p + 44);
}

abbrev symbol_with : List ℕ → ℕ → SymbolKind → SymbolPlace → SymbolValue
symbol_with name address kind place = record { name = name; address = address; kind = kind; place = place }

-- one byte as a number
byte_read : (bytes : List ℕ) (n : ℕ) → slice_index bytes n ≡ little_number 1 (drop n bytes)
byte_read bytes n =
    let here : n ≡ n + 0 = omega arith in
    let alone : slice_index (drop n bytes) 0 ≡ slice_index (drop n bytes) 0 + 256 * 0 = omega arith in
    ap (slice_index bytes) here ∙ sym (get_or-drop n bytes 0 0) ∙ alone

no_type : (global : Bool) → symbol_kind (if global then 16 else 0) ≡ kinds.Unsaid
no_type true = refl
no_type false = refl

in_section : (part : Section) → symbol_place (section_index part) ≡ places.Elsewhere
in_section section.Text = refl
in_section section.Data = refl
in_section section.Zeros = refl

-- the fields of a symbol say what it is
fields_read : (bytes : List ℕ) (place name_place : ℕ) (s : List ℕ × Symbol) → s.1.address < 2 ^ 32 → AllStand bytes place (symbol_rows name_place s.1)
    → read_symbol bytes place s.0 ≡ symbol_given s
unfolding read_symbol word_at half_at
fields_read bytes place name_place s fits h =
    let address : little_number 4 (drop (place + 4) bytes) ≡ s.1.address = h.1.0.is ∙ low s.1.address fits in
    let kind : symbol_kind (slice_index bytes (place + 12)) ≡ kinds.Unsaid = ap symbol_kind (byte_read bytes (place + 12) ∙ h.1.1.1.0.is) ∙ no_type s.1.global in
    let there : symbol_place (little_number 2 (drop (place + 14) bytes)) ≡ places.Elsewhere = ap symbol_place h.1.1.1.1.1.0.is ∙ in_section s.1.section in
    ap (λ a. symbol_with s.0 a (symbol_kind (slice_index bytes (place + 12))) (symbol_place (little_number 2 (drop (place + 14) bytes)))) address
    ∙ (ap (λ k. symbol_with s.0 s.1.address k (symbol_place (little_number 2 (drop (place + 14) bytes)))) kind
    ∙ ap (symbol_with s.0 s.1.address kinds.Unsaid) there)

symbol_read : (p : ProgramValue) (h : HasFields p (file p)) → AreNamed (listed_symbols p.symbols) → sections_place p + 280 < 2 ^ 32 → (before : SymbolList) (s : List ℕ × Symbol) (after : SymbolList)
    → listed_symbols p.symbols ≡ before ++ s ∷ after → IsRead (tables_of p).names (file p) (symbols_place p + 16 + 16 * length before) s
unfolding word_at
symbol_read p h named small before s after cut =
    let there = symbol_there before s after in
    let u = with_symbols no_symbols before in
    let names : (tables_of p).names ≡ u.names ++ ((s.0 ++ 0 ∷ []) ++ there.names_behind) =
    ap names_of (tables_are p.symbols ∙ ap (with_symbols no_symbols) cut) ∙ there.names in
    let own = named_at before s after (subst AreNamed cut named) in
    let n = names_before before in
    let o = in_order p in
    let whole = names_length_is p in
    let lengths : length (tables_of p).names ≡ length u.names + length ((s.0 ++ 0 ∷ []) ++ there.names_behind) = ap length names ∙ length-append u.names ((s.0 ++ 0 ∷ []) ++ there.names_behind) in
    let fits : 1 + names_size before < 2 ^ 32 = omega (arith, n, o.names, o.behind_names, o.end, whole, lengths) in
    let at : symbols_place p + 16 * (1 + length before) ≡ symbols_place p + 16 + 16 * length before = omega arith in
    let fields : AllStand (file p) (symbols_place p + 16 + 16 * length before) (symbol_rows (1 + names_size before) s.1) = subst (λ k. AllStand (file p) k (symbol_rows (1 + names_size before) s.1)) at (h.symbols before s after cut).fields in
    let place : little_number 4 (drop (symbols_place p + 16 + 16 * length before + 0) (file p)) ≡ length u.names = fields.0.is ∙ (low (1 + names_size before) fits ∙ sym n) in
    record {
      name =
          ap (λ k. name_in (drop k (tables_of p).names)) place
          ∙ (ap (λ xs. name_in (drop (length u.names) xs)) names
          ∙ (ap name_in (drop-append_seam u.names ((s.0 ++ 0 ∷ []) ++ there.names_behind) ∙ append_assoc s.0 (0 ∷ []) there.names_behind)
          ∙ name_is s.0 there.names_behind own.0.text own.0.no_zero));
      some = own.0.some;
      same = fields_read (file p) (symbols_place p + 16 + 16 * length before) (1 + names_size before) s own.1 fields;
    }

-- ---- the symbol without a name
no_text : is_utf8 [] ≡ true
unfolding is_utf8 chars
no_text = refl

null_name : (p : ProgramValue) → name_in (tables_of p).names ≡ Some []
unfolding no_symbols
null_name p =
    let g = grows no_symbols (listed_symbols p.symbols) in
    ap (λ (t : tables.TablesValue). name_in t.names) (tables_are p.symbols) ∙ (ap name_in g.names ∙ name_is [] g.more_names no_text refl)

null_place : (bytes : List ℕ) (at : ℕ) → HasBytesAt bytes at (zeros 16) → word_at bytes (at + 0) ≡ 0
unfolding word_at
null_place bytes at h =
    let same : at + 0 ≡ at = omega arith in
    let whole : drop at bytes ≡ zeros 16 ++ drop 16 (drop at bytes) = sym (take-append-drop 16 (drop at bytes)) ∙ ap (λ xs. xs ++ drop 16 (drop at bytes)) h in
    ap (λ n. little_number 4 (drop n bytes)) same ∙ ap (little_number 4) whole

all_named : (p : ProgramValue) → AreNamed p.symbols → AreNamed (listed_symbols p.symbols)
all_named p h =
    named_both (local_symbols p.symbols) (filter (λ (s : List ℕ × Symbol). s.1.global) p.symbols)
    (named_filter (λ (s : List ℕ × Symbol). not s.1.global) p.symbols h) (named_filter (λ (s : List ℕ × Symbol). s.1.global) p.symbols h)

null_step : (names bytes : List ℕ) (at count : ℕ) → word_at bytes (at + 0) ≡ 0 → name_in names ≡ Some [] → symbols_from names bytes [] at (suc count) ≡ symbols_from names bytes [] (at + 16) count
unfolding symbols_from
null_step names bytes at count e f =
    ap (λ k. with_name (name_in (drop k names)) (λ name. symbols_from names bytes (added [] name (read_symbol bytes at)) (at + 16) count)) e
    ∙ ap (λ o. with_name o (λ name. symbols_from names bytes (added [] name (read_symbol bytes at)) (at + 16) count)) f

-- the symbols in the table
table_read : (p : ProgramValue) (h : HasFields p (file p)) → AreNamed (listed_symbols p.symbols) → sections_place p + 280 < 2 ^ 32
    → symbols_from (tables_of p).names (file p) [] (symbols_place p) (1 + length (listed_symbols p.symbols)) ≡ Ok (map symbol_given (listed_symbols p.symbols))
table_read p h named small =
    let one : 1 + length (listed_symbols p.symbols) ≡ suc (length (listed_symbols p.symbols)) = omega arith in
    ap (symbols_from (tables_of p).names (file p) [] (symbols_place p)) one
    ∙ (null_step (tables_of p).names (file p) (symbols_place p) (length (listed_symbols p.symbols)) (null_place (file p) (symbols_place p) h.no_symbol) (null_name p)
    ∙ all_read (tables_of p).names (file p) [] (symbols_place p + 16) (listed_symbols p.symbols) (symbol_read p h named small))

-- the section headers
symtab_is : (p : ProgramValue) (h : HasFields p (file p)) → sections_place p + 280 < 2 ^ 32
    → section_at (file p) (sections_place p + 160) ≡ header 2 (symbols_place p) (16 * (1 + length (listed_symbols p.symbols))) 5 16
symtab_is p h small =
    let o = in_order p in
    let begins : symbols_place p % 2 ^ 32 ≡ symbols_place p = low (symbols_place p) (omega (arith, o.names, o.behind_names, o.end)) in
    let sized : 16 * (1 + length (listed_symbols p.symbols)) % 2 ^ 32 ≡ 16 * (1 + length (listed_symbols p.symbols)) = low (16 * (1 + length (listed_symbols p.symbols))) (omega (arith, o.names, o.behind_names, o.end)) in
    section_is (file p) (sections_place p + 160) 18 2 0 0 (symbols_place p % 2 ^ 32) (16 * (1 + length (listed_symbols p.symbols)) % 2 ^ 32) 5 ((1 + length (local_symbols p.symbols)) % 2 ^ 32) 4 16 h.sections.symtab
    ∙ (ap (λ n. header 2 n (16 * (1 + length (listed_symbols p.symbols)) % 2 ^ 32) 5 16) begins ∙ ap (λ n. header 2 (symbols_place p) n 5 16) sized)

strtab_is : (p : ProgramValue) (h : HasFields p (file p)) → sections_place p + 280 < 2 ^ 32
    → section_at (file p) (sections_place p + 200) ≡ header 3 (names_place p) (1 + names_size (listed_symbols p.symbols)) 0 0
strtab_is p h small =
    let o = in_order p in
    let begins : names_place p % 2 ^ 32 ≡ names_place p = low (names_place p) (omega (arith, o.behind_names, o.end)) in
    let sized : (1 + names_size (listed_symbols p.symbols)) % 2 ^ 32 ≡ 1 + names_size (listed_symbols p.symbols) = low (1 + names_size (listed_symbols p.symbols)) (omega (arith, o.behind_names, o.end)) in
    section_is (file p) (sections_place p + 200) 26 3 0 0 (names_place p % 2 ^ 32) ((1 + names_size (listed_symbols p.symbols)) % 2 ^ 32) 0 0 1 0 h.sections.strtab
    ∙ (ap (λ n. header 3 n ((1 + names_size (listed_symbols p.symbols)) % 2 ^ 32) 0 0) begins ∙ ap (λ n. header 3 (names_place p) n 0 0) sized)

seven_are : (p : ProgramValue) (h : HasFields p (file p)) → sections_place p + 280 < 2 ^ 32
    → sections_from (file p) (sections_place p) 7
    ≡ header 0 0 0 0 0 ∷ header 1 4096 (length p.text) 0 0 ∷ header 1 (4096 + data_place p) (length p.bytes) 0 0 ∷ header 8 (end_of_data p) p.zeros 0 0
    ∷ header 2 (symbols_place p) (16 * (1 + length (listed_symbols p.symbols))) 5 16 ∷ header 3 (names_place p) (1 + names_size (listed_symbols p.symbols)) 0 0 ∷ header 3 (section_names_place p % 2 ^ 32) 44 0 0 ∷ []
seven_are p h small =
    seven (file p) (sections_place p) _ _ _ _ _ _ _
    (section_is (file p) (sections_place p) 0 0 0 0 0 0 0 0 0 0 h.sections.none)
    (section_is (file p) (sections_place p + 40) 1 1 6 0x10000 4096 (length p.text) 0 0 4 0 h.sections.text_section)
    (section_is (file p) (sections_place p + 80) 7 1 3 (0x10000 + data_place p) (4096 + data_place p) (length p.bytes) 0 0 4 0 h.sections.data_section)
    (section_is (file p) (sections_place p + 120) 13 8 3 (0x10000 + round_up (data_place p + length p.bytes) 4) (end_of_data p) p.zeros 0 0 4 0 h.sections.bss)
    (symtab_is p h small)
    (strtab_is p h small)
    (section_is (file p) (sections_place p + 240) 34 3 0 0 (section_names_place p % 2 ^ 32) 44 0 0 1 0 h.sections.shstrtab)

in_file : (p : ProgramValue) (h : HasFields p (file p)) → Bounds p → AreNamed (listed_symbols p.symbols) → sections_place p + 280 < 2 ^ 32
    → symbols_in (file p) (sections_from (file p) (sections_place p) 7) ≡ Ok (map symbol_given (listed_symbols p.symbols))
in_file p h b named small =
    let o = in_order p in
    let long = h.ends in
    ap (symbols_in (file p)) (seven_are p h small)
    ∙ (in_seven (file p) 4096 (length p.text) (4096 + data_place p) (length p.bytes) (end_of_data p) p.zeros (symbols_place p) (1 + length (listed_symbols p.symbols)) (names_place p) (1 + names_size (listed_symbols p.symbols)) (section_names_place p % 2 ^ 32)
    (omega (arith, o.names, o.behind_names, o.end, long)) (omega (arith, o.behind_names, o.end, long))
    ∙ (ap (λ names. symbols_from names (file p) [] (symbols_place p) (1 + length (listed_symbols p.symbols))) (names_read p b)
    ∙ table_read p h named small))

not_none : (n : ℕ) → 0 < n → (n == 0) ≡ false
not_none n h = grind (arith, nat_tests)

-- the header passes
behind_header : (bytes : List ℕ) (place : ℕ) → 52 ≤ length bytes → 0 < place → place + 280 ≤ length bytes → word_at bytes 32 ≡ place → half_at bytes 48 ≡ 7 → half_at bytes 46 ≡ 40
    → symbols_of bytes ≡ symbols_in bytes (sections_from bytes place 7)
unfolding symbols_of
behind_header bytes place long some inside e f g =
    let a : nat_lt (length bytes) 52 ≡ false = not_below (length bytes) 52 long in
    let b : (place == 0) ≡ false = not_none place some in
    let c : nat_lt (length bytes) (place + 280) ≡ false = not_below (length bytes) (place + 280) inside in
    rw (e, f, g) (rw (a, b, c) refl)

place_read : (p : ProgramValue) (h : HasFields p (file p)) → sections_place p + 280 < 2 ^ 32 → word_at (file p) 32 ≡ sections_place p
unfolding word_at
place_read p h small = h.header.1.1.1.1.1.1.1.1.1.1.1.1.0.is ∙ low (sections_place p) (omega arith)

size_read : (p : ProgramValue) (h : HasFields p (file p)) → half_at (file p) 46 ≡ 40
unfolding half_at
size_read p h = h.header.1.1.1.1.1.1.1.1.1.1.1.1.1.1.1.1.1.0.is

count_read : (p : ProgramValue) (h : HasFields p (file p)) → half_at (file p) 48 ≡ 7
unfolding half_at
count_read p h = h.header.1.1.1.1.1.1.1.1.1.1.1.1.1.1.1.1.1.1.0.is

pub come_back : SymbolsComeBack file
come_back p within fits named small =
    let h : HasFields p (file p) = written p within fits in
    let o = in_order p in
    let long = h.ends in
    behind_header (file p) (sections_place p) (omega (arith, long)) (omega (arith, o.first, o.names, o.behind_names, o.end)) (omega (arith, long)) (place_read p h small) (count_read p h) (size_read p h)
    ∙ in_file p h (bounds p within) (all_named p named) small
