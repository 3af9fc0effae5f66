-- Each field of a written file is at its place.
use Rattle.std.proofs.Common.{◌≡◌, ℕ, ◌+◌, ◌-◌, ◌*◌, ◌/◌, ◌%◌, ◌^◌, ◌<◌, ◌≤◌, cond, eqb, List, [], ◌∷◌, ◌++◌, length, refl, ap, subst, ◌∙◌, arith, length-append, inl, inr}
use Rattle.std.proofs.lemmas.Bool.{cases_Bool}
use Rattle.std.proofs.lemmas.Bool.Decides.{nat_tests}
use Rattle.asm_statement.specs.declared.statement.Section.{Section}
use Rattle.asm_statement.specs.declared.statement.Section.TheVariants as section
use Rattle.asm_assemble.specs.Program.{ProgramValue, SymbolList, round_up, segment_size}
use Rattle.asm_assemble.specs.declared.program.Symbol.{Symbol}
use Rattle.elf_write.specs.Field.{bytes_of_all, zero_bytes}
use Rattle.elf_write.specs.File.{file, file_with, content}
use Rattle.elf_write.specs.Layout.{data_distance, data_size, header_count}
use Rattle.elf_write.specs.Section as sections
use Rattle.elf_write.specs.Section.{tables_of, symbols_at, names_at, section_names_at, sections_at, section_fields, joined_tables, table_bytes, text_section, data_section, zeros_section, symbols_section, names_section, section_names_section, own_sections, table_sections}
use Rattle.elf_write.specs.Table as tables
use Rattle.elf_write.specs.Table.{symbol_fields, no_symbols, with_symbols}
use Rattle.elf_write.specs.declared.field.Field.{Field}
use Rattle.elf_write.specs.declared.field.Field.TheVariants.{Byte, Half, Word}
use Rattle.elf_write.proofs.LayoutLemmas.{Bounds, bounds}
use Rattle.elf_write.proofs.ReadLemmas.{front_length}
use Rattle.elf_write.proofs.SectionLemmas.{tables_end}
use Rattle.elf_laws.specs.Fields.{AllStand, HasBytesAt, data_place, memory_size, end_of_data, symbols_place, local_symbols, listed_symbols, names_size, names_place, section_names_place, sections_place, program_headers, file_rows, load_rows, text_rows, data_rows, section_rows, symbol_rows, written_section_names, zeros, HasSections, HasSymbol, HasFields, WrittenHasFields}
use Rattle.elf_laws.proofs.At.{At, left_at, right_at, held, AllFit, header_stands}
use Rattle.elf_laws.proofs.Tables.{tables_are, grows, entries_long, names_long, symbol_there, first_global}
use Rattle.elf_laws.specs.Fields as own
use Rattle.byteorder.specs.Endian.{little_bytes}
use Rattle.elf_laws.proofs.Parts.{moved, changed, symbols_are, names_are, section_names_are, sections_are, bound_byte, rest_small, tail_of, written_front, zeros_at, file_rows_stand, text_rows_stand, data_rows_stand, gap_of, text_at, gap_at, data_at, content_long, ends_at, tail_at, tables_at, before_of, before_long, entries_joined_at, entries_at, names_at_place, section_names_at_place}

-- ---- symbols
abbrev Entry : Type 0
Entry = List ℕ × Symbol

four : (a b c d e f g h : ℕ) → a ≡ e → b ≡ f → c ≡ g → d ≡ h → a ∷ b ∷ c ∷ d ∷ [] ≡ e ∷ f ∷ g ∷ h ∷ []
four a b c d e f g h p q r s = cc

low_word : (a : ℕ) → little_bytes 4 a ≡ little_bytes 4 (a % 2 ^ 32)
low_word a =
    let e : a % 256 ≡ a % 2 ^ 32 % 256 = omega arith in
    let f : a / 256 % 256 ≡ a % 2 ^ 32 / 256 % 256 = omega arith in
    let g : a / 65536 % 256 ≡ a % 2 ^ 32 / 65536 % 256 = omega arith in
    let h : a / 16777216 % 256 ≡ a % 2 ^ 32 / 16777216 % 256 = omega arith in
    four (a % 256) (a / 256 % 256) (a / 65536 % 256) (a / 16777216 % 256) (a % 2 ^ 32 % 256) (a % 2 ^ 32 / 256 % 256) (a % 2 ^ 32 / 65536 % 256) (a % 2 ^ 32 / 16777216 % 256) e f g h

same_number : (s : Section) → tables.section_number s ≡ own.section_index s
same_number section.Text = refl
same_number section.Data = refl
same_number section.Zeros = refl

symbol_list : ℕ → Symbol → List Field
symbol_list place s =
    Word (place % 2 ^ 32) ∷ Word (s.address % 2 ^ 32) ∷ Word 0 ∷ Byte (cond s.global 16 0) ∷ Byte 0 ∷ Half (own.section_index s.section) ∷ []

same_fields : (place : ℕ) (s : Symbol) → bytes_of_all (symbol_fields place s) ≡ bytes_of_all (symbol_list place s)
unfolding symbol_list
same_fields place s =
    ap (λ w. little_bytes 4 (place % 2 ^ 32) ++ (w ++ (little_bytes 4 0 ++ ((cond s.global 16 0 ∷ []) ++ ((0 ∷ []) ++ (little_bytes 2 (tables.section_number s.section) ++ [])))))) (low_word s.address)
    ∙ ap (λ n. little_bytes 4 (place % 2 ^ 32) ++ (little_bytes 4 (s.address % 2 ^ 32) ++ (little_bytes 4 0 ++ ((cond s.global 16 0 ∷ []) ++ ((0 ∷ []) ++ (little_bytes 2 n ++ [])))))) (same_number s.section)

number_small : (s : Section) → own.section_index s < 2 ^ 16
number_small section.Text = omega arith
number_small section.Data = omega arith
number_small section.Zeros = omega arith

symbol_fits : (place : ℕ) (s : Symbol) → AllFit (symbol_list place s)
unfolding symbol_list
symbol_fits place s = (rest_small place, (rest_small s.address, (omega arith, (bound_byte s.global, (omega arith, (number_small s.section, tt))))))

symbol_stands : (bytes : List ℕ) (at place : ℕ) (s : Symbol) → At bytes at (bytes_of_all (symbol_fields place s)) → AllStand bytes at (symbol_rows place s)
unfolding symbol_list
symbol_stands bytes at place s a = header_stands bytes at (symbol_list place s) (symbol_fits place s) (changed bytes at (bytes_of_all (symbol_fields place s)) (bytes_of_all (symbol_list place s)) a (same_fields place s))

entries_before : (before : SymbolList) → length (with_symbols no_symbols before).entries ≡ 16 * (1 + length before)
unfolding no_symbols zero_bytes
entries_before before = let e = entries_long no_symbols before in omega (arith, e)

names_before : (before : SymbolList) → length (with_symbols no_symbols before).names ≡ 1 + names_size before
unfolding no_symbols
names_before before = names_long no_symbols before

abbrev entries_of : tables.TablesValue → List ℕ
entries_of t = t.entries

abbrev names_in : tables.TablesValue → List ℕ
names_in t = t.names

has_symbol : (p : ProgramValue) → Bounds p → (before : SymbolList) (s : Entry) (after : SymbolList) → listed_symbols p.symbols ≡ before ++ s ∷ after → HasSymbol p (file p) before s
has_symbol p b before s after cut =
    let there = symbol_there before s after in
    let whole : tables_of p ≡ with_symbols no_symbols (before ++ s ∷ after) = tables_are p.symbols ∙ ap (with_symbols no_symbols) cut in
    let u = with_symbols no_symbols before in
    let fields : List ℕ = bytes_of_all (symbol_fields (length u.names) s.1) in
    let entries : At (file p) (symbols_at p) (u.entries ++ (fields ++ there.entries_behind)) =
    changed (file p) (symbols_at p) (tables_of p).entries (u.entries ++ (fields ++ there.entries_behind)) (entries_at p b) (ap entries_of whole ∙ there.entries) in
    let n = entries_before before in
    let here = symbols_are p in
    let symbol : At (file p) (symbols_place p + 16 * (1 + length before)) fields =
    left_at (file p) (symbols_place p + 16 * (1 + length before)) fields there.entries_behind
    (right_at (file p) (symbols_at p) (symbols_place p + 16 * (1 + length before)) u.entries (fields ++ there.entries_behind) entries (omega (arith, n, here))) in
    let names : At (file p) (names_at p) (u.names ++ ((s.0 ++ 0 ∷ []) ++ there.names_behind)) =
    changed (file p) (names_at p) (tables_of p).names (u.names ++ ((s.0 ++ 0 ∷ []) ++ there.names_behind)) (names_at_place p b) (ap names_in whole ∙ there.names) in
    let m = names_before before in
    let first = names_are p in
    let name : At (file p) (names_place p + (1 + names_size before)) (s.0 ++ 0 ∷ []) =
    left_at (file p) (names_place p + (1 + names_size before)) (s.0 ++ 0 ∷ []) there.names_behind
    (right_at (file p) (names_at p) (names_place p + (1 + names_size before)) u.names ((s.0 ++ 0 ∷ []) ++ there.names_behind) names (omega (arith, m, first))) in
    record {
      fields = subst (λ k. AllStand (file p) (symbols_place p + 16 * (1 + length before)) (symbol_rows k s.1)) m
          (symbol_stands (file p) (symbols_place p + 16 * (1 + length before)) (length u.names) s.1 symbol);
      name = held (file p) (names_place p + (1 + names_size before)) (s.0 ++ 0 ∷ []) name;
    }

no_symbol_at : (p : ProgramValue) → Bounds p → At (file p) (symbols_place p) (zeros 16)
unfolding no_symbols zero_bytes
no_symbol_at p b =
    let g = grows no_symbols (listed_symbols p.symbols) in
    left_at (file p) (symbols_place p) (zeros 16) g.more_entries
    (moved (file p) (symbols_at p) (symbols_place p) (zeros 16 ++ g.more_entries)
    (changed (file p) (symbols_at p) (tables_of p).entries (zeros 16 ++ g.more_entries) (entries_at p b) (ap entries_of (tables_are p.symbols) ∙ g.entries)) (symbols_are p))

no_name_at : (p : ProgramValue) → Bounds p → At (file p) (names_place p) (0 ∷ [])
unfolding no_symbols
no_name_at p b =
    let g = grows no_symbols (listed_symbols p.symbols) in
    left_at (file p) (names_place p) (0 ∷ []) g.more_names
    (moved (file p) (names_at p) (names_place p) ((0 ∷ []) ++ g.more_names)
    (changed (file p) (names_at p) (tables_of p).names ((0 ∷ []) ++ g.more_names) (names_at_place p b) (ap names_in (tables_are p.symbols) ∙ g.names)) (names_are p))

-- ---- section headers
section_list : ℕ → ℕ → ℕ → ℕ → ℕ → ℕ → ℕ → ℕ → ℕ → ℕ → List Field
section_list name kind flags address offset size link info align entry =
    Word name ∷ Word kind ∷ Word flags ∷ Word address ∷ Word offset ∷ Word size ∷ Word link ∷ Word info ∷ Word align ∷ Word entry ∷ []

-- the numbers of a section header that are not plain
record IsSmall (address offset size info : ℕ) : Type 0 where
  address_fits : address < 2 ^ 32
  offset_fits : offset < 2 ^ 32
  size_fits : size < 2 ^ 32
  info_fits : info < 2 ^ 32

-- and of those that are
record IsPlain (name kind flags link align entry : ℕ) : Type 0 where
  name_fits : name < 2 ^ 32
  kind_fits : kind < 2 ^ 32
  flags_fit : flags < 2 ^ 32
  link_fits : link < 2 ^ 32
  align_fits : align < 2 ^ 32
  entry_fits : entry < 2 ^ 32

section_stands : (bytes : List ℕ) (at name kind flags address offset size link info align entry : ℕ) → IsPlain name kind flags link align entry → IsSmall address offset size info
    → At bytes at (bytes_of_all (section_list name kind flags address offset size link info align entry)) → AllStand bytes at (section_rows name kind flags address offset size link info align entry)
unfolding section_list
section_stands bytes at name kind flags address offset size link info align entry p s a =
    header_stands bytes at (section_list name kind flags address offset size link info align entry)
    (p.name_fits, (p.kind_fits, (p.flags_fit, (s.address_fits, (s.offset_fits, (s.size_fits, (p.link_fits, (s.info_fits, (p.align_fits, (p.entry_fits, tt)))))))))) a

plain : (name kind flags link align entry : ℕ) → name < 256 → kind < 256 → flags < 256 → link < 256 → align < 256 → entry < 256 → IsPlain name kind flags link align entry
plain name kind flags link align entry a b c d e f = record { name_fits = omega arith; kind_fits = omega arith; flags_fit = omega arith; link_fits = omega arith; align_fits = omega arith; entry_fits = omega arith }

headers_behind : (p : ProgramValue) → Bounds p → At (file p) (sections_place p) (own_sections p ++ table_sections p)
headers_behind p b =
    let e = tables_end p in
    let f = sections_are p in
    right_at (file p) (sections.data_end p) (sections_place p) (table_bytes p) (own_sections p ++ table_sections p) (tail_at p b) (e ∙ f)

own_long : (p : ProgramValue) → length (own_sections p) ≡ 160
unfolding own_sections section_fields zero_bytes
own_long p = refl

tables_long : (p : ProgramValue) → length (table_sections p) ≡ 120
unfolding table_sections section_fields
tables_long p = refl

own_at : (p : ProgramValue) → Bounds p → At (file p) (sections_place p) (own_sections p)
own_at p b = left_at (file p) (sections_place p) (own_sections p) (table_sections p) (headers_behind p b)

tables_behind : (p : ProgramValue) → Bounds p → At (file p) (sections_place p + 160) (table_sections p)
tables_behind p b =
    let e = own_long p in
    right_at (file p) (sections_place p) (sections_place p + 160) (own_sections p) (table_sections p) (headers_behind p b) (omega (arith, e))

-- three parts of 40 bytes, and one before them
abbrev three : List ℕ → List ℕ → List ℕ → List ℕ
three x y z = x ++ (y ++ z)

record Three (bytes : List ℕ) (at : ℕ) (x y z : List ℕ) : Type 0 where
  one : At bytes at x
  two : At bytes (at + 40) y
  last : At bytes (at + 80) z

cut_three : (bytes : List ℕ) (at : ℕ) (x y z : List ℕ) → length x ≡ 40 → length y ≡ 40 → At bytes at (three x y z) → Three bytes at x y z
cut_three bytes at x y z e f a =
    let rest : At bytes (at + 40) (y ++ z) = right_at bytes at (at + 40) x (y ++ z) a (ap (λ n. at + n) e) in
    record {
      one = left_at bytes at x (y ++ z) a;
      two = left_at bytes (at + 40) y z rest;
      last = right_at bytes (at + 40) (at + 80) y z rest (omega (arith, f));
    }

abbrev text_list : ProgramValue → List Field
text_list p = section_fields (text_section p)

abbrev data_list : ProgramValue → List Field
data_list p = section_fields (data_section p)

abbrev zeros_list : ProgramValue → List Field
zeros_list p = section_fields (zeros_section p)

none_at : (p : ProgramValue) → Bounds p → At (file p) (sections_place p) (zero_bytes 40)
unfolding own_sections
none_at p b = left_at (file p) (sections_place p) (zero_bytes 40) (three (bytes_of_all (text_list p)) (bytes_of_all (data_list p)) (bytes_of_all (zeros_list p))) (own_at p b)

own_three : (p : ProgramValue) → Bounds p → Three (file p) (sections_place p + 40) (bytes_of_all (text_list p)) (bytes_of_all (data_list p)) (bytes_of_all (zeros_list p))
unfolding own_sections section_fields zero_bytes
own_three p b =
    cut_three (file p) (sections_place p + 40) (bytes_of_all (text_list p)) (bytes_of_all (data_list p)) (bytes_of_all (zeros_list p)) refl refl
    (right_at (file p) (sections_place p) (sections_place p + 40) (zero_bytes 40) (three (bytes_of_all (text_list p)) (bytes_of_all (data_list p)) (bytes_of_all (zeros_list p))) (own_at p b) refl)

table_three : (p : ProgramValue) → Bounds p
    → Three (file p) (sections_place p + 160) (bytes_of_all (section_fields (symbols_section p))) (bytes_of_all (section_fields (names_section p))) (bytes_of_all (section_fields (section_names_section p)))
unfolding table_sections section_fields
table_three p b =
    cut_three (file p) (sections_place p + 160) (bytes_of_all (section_fields (symbols_section p))) (bytes_of_all (section_fields (names_section p))) (bytes_of_all (section_fields (section_names_section p))) refl refl
    (tables_behind p b)

zeros_small : (bytes zeros : ℕ) → zeros ≤ segment_size bytes zeros
unfolding segment_size round_up
zeros_small bytes zeros = elim (cases_Bool (eqb zeros 0)) [ inl e ↦ (let z : zeros ≡ 0 = grind (arith, nat_tests, e) in omega (arith, z)) | inr e ↦ rw e (omega arith) ]

zeros_place_small : (n : ℕ) → n < 2 ^ 30 → 0x10000 + round_up n 4 < 2 ^ 32
unfolding round_up
zeros_place_small n h = omega arith

add_40 : (n : ℕ) → n + 40 + 40 ≡ n + 80
add_40 n = omega arith

add_80 : (n : ℕ) → n + 40 + 80 ≡ n + 120
add_80 n = omega arith

add_160 : (n : ℕ) → n + 160 + 40 ≡ n + 200
add_160 n = omega arith

add_240 : (n : ℕ) → n + 160 + 80 ≡ n + 240
add_240 n = omega arith

entries_size : (p : ProgramValue) → length (tables_of p).entries ≡ 16 * (1 + length (listed_symbols p.symbols))
entries_size p = ap (λ (t : tables.TablesValue). length t.entries) (tables_are p.symbols) ∙ entries_before (listed_symbols p.symbols)

names_length : (p : ProgramValue) → length (tables_of p).names ≡ 1 + names_size (listed_symbols p.symbols)
names_length p = ap (λ (t : tables.TablesValue). length t.names) (tables_are p.symbols) ∙ names_before (listed_symbols p.symbols)

first_small : (p : ProgramValue) → (tables_of p).first_global < 2 ^ 32
first_small p = let e = first_global p.symbols in omega (arith, e)

symtab_rows : (p : ProgramValue) → Bounds p → AllStand (file p) (sections_place p + 160)
    (section_rows 18 2 0 0 (symbols_place p % 2 ^ 32) (16 * (1 + length (listed_symbols p.symbols)) % 2 ^ 32) 5 ((1 + length (local_symbols p.symbols)) % 2 ^ 32) 4 16)
unfolding section_fields section_list
symtab_rows p b =
    subst (λ n. AllStand (file p) (sections_place p + 160) (section_rows 18 2 0 0 (symbols_place p % 2 ^ 32) (n % 2 ^ 32) 5 ((1 + length (local_symbols p.symbols)) % 2 ^ 32) 4 16)) (entries_size p) (
    subst (λ n. AllStand (file p) (sections_place p + 160) (section_rows 18 2 0 0 (symbols_place p % 2 ^ 32) (length (tables_of p).entries % 2 ^ 32) 5 n 4 16)) (first_global p.symbols) (
    subst (λ n. AllStand (file p) (sections_place p + 160) (section_rows 18 2 0 0 (n % 2 ^ 32) (length (tables_of p).entries % 2 ^ 32) 5 (tables_of p).first_global 4 16)) (symbols_are p) (
    section_stands (file p) (sections_place p + 160) 18 2 0 0 (symbols_at p % 2 ^ 32) (length (tables_of p).entries % 2 ^ 32) 5 (tables_of p).first_global 4 16
    (plain 18 2 0 5 4 16 (omega arith) (omega arith) (omega arith) (omega arith) (omega arith) (omega arith))
    (record { address_fits = omega arith; offset_fits = rest_small (symbols_at p); size_fits = rest_small (length (tables_of p).entries); info_fits = first_small p })
    (table_three p b).one)))

strtab_rows : (p : ProgramValue) → Bounds p → AllStand (file p) (sections_place p + 160 + 40)
    (section_rows 26 3 0 0 (names_place p % 2 ^ 32) ((1 + names_size (listed_symbols p.symbols)) % 2 ^ 32) 0 0 1 0)
unfolding section_fields section_list
strtab_rows p b =
    subst (λ n. AllStand (file p) (sections_place p + 160 + 40) (section_rows 26 3 0 0 (names_place p % 2 ^ 32) (n % 2 ^ 32) 0 0 1 0)) (names_length p) (
    subst (λ n. AllStand (file p) (sections_place p + 160 + 40) (section_rows 26 3 0 0 (n % 2 ^ 32) (length (tables_of p).names % 2 ^ 32) 0 0 1 0)) (names_are p) (
    section_stands (file p) (sections_place p + 160 + 40) 26 3 0 0 (names_at p % 2 ^ 32) (length (tables_of p).names % 2 ^ 32) 0 0 1 0
    (plain 26 3 0 0 1 0 (omega arith) (omega arith) (omega arith) (omega arith) (omega arith) (omega arith))
    (record { address_fits = omega arith; offset_fits = rest_small (names_at p); size_fits = rest_small (length (tables_of p).names); info_fits = omega arith })
    (table_three p b).two))

shstrtab_rows : (p : ProgramValue) → Bounds p → AllStand (file p) (sections_place p + 160 + 80) (section_rows 34 3 0 0 (section_names_place p % 2 ^ 32) 44 0 0 1 0)
unfolding section_fields section_list
shstrtab_rows p b =
    subst (λ n. AllStand (file p) (sections_place p + 160 + 80) (section_rows 34 3 0 0 (n % 2 ^ 32) 44 0 0 1 0)) (section_names_are p) (
    section_stands (file p) (sections_place p + 160 + 80) 34 3 0 0 (section_names_at p % 2 ^ 32) 44 0 0 1 0
    (plain 34 3 0 0 1 0 (omega arith) (omega arith) (omega arith) (omega arith) (omega arith) (omega arith))
    (record { address_fits = omega arith; offset_fits = rest_small (section_names_at p); size_fits = omega arith; info_fits = omega arith })
    (table_three p b).last)

none_rows : (p : ProgramValue) → Bounds p → AllStand (file p) (sections_place p) (section_rows 0 0 0 0 0 0 0 0 0 0)
unfolding section_list zero_bytes
none_rows p b =
    section_stands (file p) (sections_place p) 0 0 0 0 0 0 0 0 0 0
    (plain 0 0 0 0 0 0 (omega arith) (omega arith) (omega arith) (omega arith) (omega arith) (omega arith))
    (record { address_fits = omega arith; offset_fits = omega arith; size_fits = omega arith; info_fits = omega arith })
    (none_at p b)

text_section_rows : (p : ProgramValue) → Bounds p → AllStand (file p) (sections_place p + 40) (section_rows 1 1 6 0x10000 4096 (length p.text) 0 0 4 0)
unfolding section_fields section_list
text_section_rows p b =
    section_stands (file p) (sections_place p + 40) 1 1 6 0x10000 4096 (length p.text) 0 0 4 0
    (plain 1 1 6 0 4 0 (omega arith) (omega arith) (omega arith) (omega arith) (omega arith) (omega arith))
    (record { address_fits = omega arith; offset_fits = omega arith; size_fits = omega (arith, b.small); info_fits = omega arith })
    (own_three p b).one

data_section_rows : (p : ProgramValue) → Bounds p → AllStand (file p) (sections_place p + 40 + 40) (section_rows 7 1 3 (0x10000 + data_place p) (4096 + data_place p) (length p.bytes) 0 0 4 0)
unfolding section_fields section_list data_distance
data_section_rows p b =
    section_stands (file p) (sections_place p + 40 + 40) 7 1 3 (0x10000 + data_place p) (4096 + data_place p) (length p.bytes) 0 0 4 0
    (plain 7 1 3 0 4 0 (omega arith) (omega arith) (omega arith) (omega arith) (omega arith) (omega arith))
    (record { address_fits = omega (arith, b.near); offset_fits = omega (arith, b.near); size_fits = omega (arith, b.small, b.given); info_fits = omega arith })
    (own_three p b).two

bss_rows : (p : ProgramValue) → Bounds p → AllStand (file p) (sections_place p + 40 + 80) (section_rows 13 8 3 (0x10000 + round_up (data_place p + length p.bytes) 4) (end_of_data p) p.zeros 0 0 4 0)
unfolding section_fields section_list data_distance data_size sections.data_end
bss_rows p b =
    let z = zeros_small (length p.bytes) p.zeros in
    section_stands (file p) (sections_place p + 40 + 80) 13 8 3 (0x10000 + round_up (data_place p + length p.bytes) 4) (end_of_data p) p.zeros 0 0 4 0
    (plain 13 8 3 0 4 0 (omega arith) (omega arith) (omega arith) (omega arith) (omega arith) (omega arith))
    (record { address_fits = zeros_place_small (data_place p + length p.bytes) (omega (arith, b.near, b.small, b.given)); offset_fits = omega (arith, b.near, b.small, b.given); size_fits = omega (arith, b.small, z); info_fits = omega arith })
    (own_three p b).last

rows_moved : (bytes : List ℕ) (at next : ℕ) (rows : List own.FieldRow) → AllStand bytes at rows → at ≡ next → AllStand bytes next rows
rows_moved bytes at next rows h e = subst (λ n. AllStand bytes n rows) e h

has_sections : (p : ProgramValue) → Bounds p → HasSections p (file p)
has_sections p b =
    let s = sections_place p in
    record {
      none = none_rows p b;
      text_section = text_section_rows p b;
      data_section = rows_moved (file p) (s + 40 + 40) (s + 80) (section_rows 7 1 3 (0x10000 + data_place p) (4096 + data_place p) (length p.bytes) 0 0 4 0) (data_section_rows p b) (add_40 s);
      bss = rows_moved (file p) (s + 40 + 80) (s + 120) (section_rows 13 8 3 (0x10000 + round_up (data_place p + length p.bytes) 4) (end_of_data p) p.zeros 0 0 4 0) (bss_rows p b) (add_80 s);
      symtab = symtab_rows p b;
      strtab = rows_moved (file p) (s + 160 + 40) (s + 200) (section_rows 26 3 0 0 (names_place p % 2 ^ 32) ((1 + names_size (listed_symbols p.symbols)) % 2 ^ 32) 0 0 1 0) (strtab_rows p b) (add_160 s);
      shstrtab = rows_moved (file p) (s + 160 + 80) (s + 240) (section_rows 34 3 0 0 (section_names_place p % 2 ^ 32) 44 0 0 1 0) (shstrtab_rows p b) (add_240 s);
    }

-- ---- the whole
headers_count : (p : ProgramValue) → header_count p ≡ program_headers p
unfolding header_count data_size
headers_count p = refl

held_zeros : (bytes : List ℕ) (at n : ℕ) → At bytes at (zero_bytes n) → HasBytesAt bytes at (zeros n)
unfolding zero_bytes
held_zeros bytes at n a = held bytes at (zeros n) a

before_text_held : (p : ProgramValue) → HasBytesAt (file p) (52 + 32 * program_headers p) (zeros (4044 - 32 * program_headers p))
before_text_held p = subst (λ n. HasBytesAt (file p) (52 + 32 * n) (zeros (4044 - 32 * n))) (headers_count p) (held_zeros (file p) (52 + 32 * header_count p) (4044 - 32 * header_count p) (zeros_at p))

gap_held : (p : ProgramValue) → HasBytesAt (file p) (4096 + length p.text) (zeros (data_place p - length p.text))
unfolding gap_of data_distance
gap_held p = held_zeros (file p) (4096 + length p.text) (data_place p - length p.text) (left_at (file p) (4096 + length p.text) (gap_of p) p.bytes (gap_at p))

data_held : (p : ProgramValue) → Bounds p → HasBytesAt (file p) (4096 + data_place p) p.bytes
unfolding data_distance
data_held p b = held (file p) (4096 + data_place p) p.bytes (data_at p b)

before_symbols_held : (p : ProgramValue) → Bounds p → HasBytesAt (file p) (end_of_data p) (zeros (symbols_place p - end_of_data p))
unfolding before_of symbols_at sections.data_end data_distance
before_symbols_held p b = held_zeros (file p) (end_of_data p) (symbols_place p - end_of_data p) (left_at (file p) (end_of_data p) (before_of p) (tables_of p).entries (entries_joined_at p b))

section_names_held : (p : ProgramValue) → Bounds p → HasBytesAt (file p) (section_names_place p) written_section_names
unfolding sections.section_names
section_names_held p b = held (file p) (section_names_place p) written_section_names (moved (file p) (section_names_at p) (section_names_place p) written_section_names (section_names_at_place p b) (section_names_are p))

-- how much is written when the names of the sections are
joined_length : (p : ProgramValue) → Bounds p → sections.data_end p + length (joined_tables p) ≡ section_names_at p + 44
unfolding sections.section_names section_names_at names_at before_of
joined_length p b =
    let e = before_long p in
    let f = length-append (before_of p) (tables_of p).entries in
    let g = length-append (before_of p ++ (tables_of p).entries) (tables_of p).names in
    let h = length-append ((before_of p ++ (tables_of p).entries) ++ (tables_of p).names) sections.section_names in
    omega (arith, e, f, g, h)

before_sections_at : (p : ProgramValue) → Bounds p → At (file p) (section_names_at p + 44) (zero_bytes (round_up (section_names_at p + 44) 4 - (section_names_at p + 44)))
unfolding sections_at
before_sections_at p b =
    right_at (file p) (sections.data_end p) (section_names_at p + 44) (joined_tables p) (zero_bytes (round_up (section_names_at p + 44) 4 - (section_names_at p + 44))) (tables_at p b) (joined_length p b)

before_sections_held : (p : ProgramValue) → Bounds p → HasBytesAt (file p) (section_names_place p + 44) (zeros (sections_place p - (section_names_place p + 44)))
before_sections_held p b =
    subst (λ n. HasBytesAt (file p) (n + 44) (zeros (round_up (n + 44) 4 - (n + 44)))) (section_names_are p)
    (held_zeros (file p) (section_names_at p + 44) (round_up (section_names_at p + 44) 4 - (section_names_at p + 44)) (before_sections_at p b))

file_ends : (p : ProgramValue) → Bounds p → length (file p) ≡ sections_place p + 280
unfolding file file_with
file_ends p b =
    let a = length-append (written_front p) (content p ++ tail_of p) in
    let c = length-append (content p) (tail_of p) in
    let d = length-append (table_bytes p) (own_sections p ++ table_sections p) in
    let e = length-append (own_sections p) (table_sections p) in
    let f = front_length p (sections_at p % 2 ^ 32) in
    let g = content_long p b in
    let h = tables_end p in
    let i = ends_at p in
    let j = own_long p in
    let k = tables_long p in
    let l = sections_are p in
    omega (arith, a, c, d, e, f, g, h, i, j, k, l)

within_limit : (p : ProgramValue) → length p.text + memory_size p ≤ 2 ^ 24 → Bounds p
within_limit p h = bounds p h

pub written : WrittenHasFields file
written p within fits =
    let b = within_limit p within in
    record {
      header = file_rows_stand p fits;
      text_header = text_rows_stand p b;
      data_header = data_rows_stand p b;
      before_text = before_text_held p;
      text_bytes = held (file p) 4096 p.text (left_at (file p) 4096 p.text (gap_of p ++ p.bytes) (text_at p));
      before_data = gap_held p;
      data_bytes = data_held p b;
      before_symbols = before_symbols_held p b;
      no_symbol = held (file p) (symbols_place p) (zeros 16) (no_symbol_at p b);
      symbols = has_symbol p b;
      no_name = held (file p) (names_place p) (0 ∷ []) (no_name_at p b);
      names = section_names_held p b;
      before_sections = before_sections_held p b;
      sections = has_sections p b;
      ends = file_ends p b;
    }
