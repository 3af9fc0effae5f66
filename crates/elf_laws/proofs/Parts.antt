-- The parts of a written file at their places.
use Rattle.std.proofs.Common.{◌≡◌, ℕ, ◌+◌, ◌-◌, ◌*◌, ◌%◌, ◌^◌, ◌<◌, ◌≤◌, Bool, true, false, cond, eqb, List, [], ◌∷◌, ◌++◌, length, refl, ap, subst, ◌∙◌, arith, length-append, inl, inr}
use Rattle.std.specs.Prelude.{◌==◌}
use Rattle.std.proofs.lemmas.Bool.{cases_Bool}
use Rattle.std.proofs.Math.ListN.{length-replicate}
use Rattle.asm_statement.specs.declared.statement.Section.{Section}
use Rattle.asm_statement.specs.declared.statement.Section.TheVariants as section
use Rattle.asm_assemble.specs.Program.{ProgramValue, round_up}
use Rattle.elf_write.specs.Field.{zero_bytes}
use Rattle.elf_write.specs.File.{file, file_with, content}
use Rattle.elf_write.specs.Layout.{data_distance, data_size, header_count}
use Rattle.elf_write.specs.Section as sections
use Rattle.elf_write.specs.Section.{tables_of, symbols_at, names_at, section_names_at, sections_at, section_fields, joined_tables, table_bytes, text_section, data_section, zeros_section, symbols_section, names_section, section_names_section, own_sections, table_sections}
use Rattle.elf_write.specs.Segment.{load_fields, text_header, data_header, file_header, front_segment}
use Rattle.elf_write.specs.Table as tables
use Rattle.elf_write.specs.Table.{symbol_fields, no_symbols, with_symbols}
use Rattle.elf_write.specs.declared.field.Field.{Field}
use Rattle.elf_write.specs.declared.field.Field.TheVariants.{Byte, Half, Word}
use Rattle.elf_write.proofs.LayoutLemmas.{Bounds, few_headers}
use Rattle.elf_write.proofs.ReadLemmas.{front_length}
use Rattle.elf_laws.specs.Fields.{AllStand, data_place, memory_size, symbols_place, listed_symbols, names_size, names_place, section_names_place, sections_place, program_headers, file_rows, text_rows, data_rows}
use Rattle.elf_laws.proofs.At.{At, all_at, left_at, right_at, AllFit, rows_of, header_stands, maybe_stands}
use Rattle.elf_laws.proofs.Tables.{tables_are, entries_long, names_long}

pub moved : (bytes : List ℕ) (place next : ℕ) (part : List ℕ) → At bytes place part → place ≡ next → At bytes next part
moved bytes place next part a e = subst (λ n. At bytes n part) e a

pub changed : (bytes : List ℕ) (place : ℕ) (part other : List ℕ) → At bytes place part → part ≡ other → At bytes place other
changed bytes place part other a e = subst (λ xs. At bytes place xs) e a

-- ---- places in the writer's words
pub symbols_are : (p : ProgramValue) → symbols_at p ≡ symbols_place p
unfolding symbols_at sections.data_end data_distance
symbols_are p = refl

pub names_are : (p : ProgramValue) → names_at p ≡ names_place p
unfolding names_at no_symbols zero_bytes
names_are p =
    let e : length (tables_of p).entries ≡ 16 + 16 * length (listed_symbols p.symbols) =
    ap (λ (t : tables.TablesValue). length t.entries) (tables_are p.symbols) ∙ entries_long no_symbols (listed_symbols p.symbols) in
    let s = symbols_are p in
    omega (arith, e, s)

pub section_names_are : (p : ProgramValue) → section_names_at p ≡ section_names_place p
unfolding section_names_at no_symbols
section_names_are p =
    let e : length (tables_of p).names ≡ 1 + names_size (listed_symbols p.symbols) =
    ap (λ (t : tables.TablesValue). length t.names) (tables_are p.symbols) ∙ names_long no_symbols (listed_symbols p.symbols) in
    let n = names_are p in
    omega (arith, e, n)

pub sections_are : (p : ProgramValue) → sections_at p ≡ sections_place p
unfolding sections_at
sections_are p = ap (λ n. round_up (n + 44) 4) (section_names_are p)

-- ---- numbers that fit
pub small_count : (p : ProgramValue) → header_count p < 2 ^ 16
small_count p = let few = few_headers p in omega (arith, few)

pub head_place : (b : Bool) → cond b 0 52 < 2 ^ 32
head_place true = omega arith
head_place false = omega arith

pub bound_byte : (b : Bool) → cond b 16 0 < 256
bound_byte true = omega arith
bound_byte false = omega arith

pub section_small : (s : Section) → tables.section_number s < 2 ^ 16
section_small section.Text = omega arith
section_small section.Data = omega arith
section_small section.Zeros = omega arith

pub rest_small : (n : ℕ) → n % 2 ^ 32 < 2 ^ 32
rest_small n = omega arith

pub zero_length : (n : ℕ) → length (zero_bytes n) ≡ n
unfolding zero_bytes
zero_length n = length-replicate n 0

pub header_long : (p : ProgramValue) (s : ℕ) → length (file_header p s) ≡ 52
unfolding file_header
header_long p s = refl

pub text_header_long : (p : ProgramValue) → length (text_header p) ≡ cond (length p.text == 0) 0 32
unfolding text_header load_fields
text_header_long p = elim (cases_Bool (eqb (length p.text) 0)) [ inl e ↦ rw e refl | inr e ↦ rw e refl ]

pub data_header_long : (p : ProgramValue) → length (data_header p) ≡ cond (data_size p == 0) 0 32
unfolding data_header load_fields
data_header_long p = elim (cases_Bool (eqb (data_size p) 0)) [ inl e ↦ rw e refl | inr e ↦ rw e refl ]

pub behind_text_header : (b : Bool) → 52 + cond b 0 32 ≡ cond b 52 84
behind_text_header true = refl
behind_text_header false = refl

pub two_headers : (a b : Bool) → cond a 52 84 + cond b 0 32 ≡ 52 + 32 * (cond a 0 1 + cond b 0 1)
two_headers true true = refl
two_headers true false = refl
two_headers false true = refl
two_headers false false = refl

-- ---- the parts
pub from_zero : (n m : ℕ) → n ≡ m → 0 + n ≡ m
from_zero n m e = omega arith

abbrev pub tail_of : ProgramValue → List ℕ
tail_of p = table_bytes p ++ (own_sections p ++ table_sections p)

abbrev pub written_front : ProgramValue → List ℕ
written_front p = front_segment p (sections_at p % 2 ^ 32)

pub file_parts : (p : ProgramValue) → At (file p) 0 (written_front p ++ (content p ++ tail_of p))
unfolding file file_with
file_parts p = all_at (file p)

pub front_at : (p : ProgramValue) → At (file p) 0 (written_front p)
front_at p = left_at (file p) 0 (written_front p) (content p ++ tail_of p) (file_parts p)

pub content_at : (p : ProgramValue) → At (file p) 4096 (content p ++ tail_of p)
content_at p = right_at (file p) 0 4096 (written_front p) (content p ++ tail_of p) (file_parts p) (from_zero (length (written_front p)) 4096 (front_length p (sections_at p % 2 ^ 32)))

-- the header and what is behind it
pub header_at : (p : ProgramValue) → At (file p) 0 (file_header p (sections_at p % 2 ^ 32))
header_at p = left_at (file p) 0 (file_header p (sections_at p % 2 ^ 32)) (text_header p ++ (data_header p ++ zero_bytes (4044 - 32 * header_count p))) (front_at p)

pub headers_at : (p : ProgramValue) → At (file p) 52 (text_header p ++ (data_header p ++ zero_bytes (4044 - 32 * header_count p)))
headers_at p = right_at (file p) 0 52 (file_header p (sections_at p % 2 ^ 32)) (text_header p ++ (data_header p ++ zero_bytes (4044 - 32 * header_count p))) (front_at p) (from_zero (length (file_header p (sections_at p % 2 ^ 32))) 52 (header_long p (sections_at p % 2 ^ 32)))

pub data_header_at : (p : ProgramValue) → At (file p) (cond (length p.text == 0) 52 84) (data_header p ++ zero_bytes (4044 - 32 * header_count p))
data_header_at p =
    right_at (file p) 52 (cond (length p.text == 0) 52 84) (text_header p) (data_header p ++ zero_bytes (4044 - 32 * header_count p)) (headers_at p)
    (ap (λ n. 52 + n) (text_header_long p) ∙ behind_text_header (length p.text == 0))

pub counts_are : (p : ProgramValue) → cond (length p.text == 0) 52 84 + length (data_header p) ≡ 52 + 32 * header_count p
unfolding header_count
counts_are p = ap (λ n. cond (length p.text == 0) 52 84 + n) (data_header_long p) ∙ two_headers (length p.text == 0) (data_size p == 0)

pub zeros_at : (p : ProgramValue) → At (file p) (52 + 32 * header_count p) (zero_bytes (4044 - 32 * header_count p))
zeros_at p = right_at (file p) (cond (length p.text == 0) 52 84) (52 + 32 * header_count p) (data_header p) (zero_bytes (4044 - 32 * header_count p)) (data_header_at p) (counts_are p)

-- the fields of the file's header
pub header_fields : ProgramValue → ℕ → List Field
header_fields p s =
    Word 0x464C457F ∷ Byte 1 ∷ Byte 1 ∷ Byte 1 ∷ Byte 0 ∷ Word 0 ∷ Word 0
    ∷ Half 2 ∷ Half 243 ∷ Word 1
    ∷ Word p.entry ∷ Word (cond (program_headers p == 0) 0 52) ∷ Word s
    ∷ Word 0 ∷ Half 52 ∷ Half 32 ∷ Half (program_headers p)
    ∷ Half 40 ∷ Half 7 ∷ Half 6 ∷ []

pub headers_few : (p : ProgramValue) → program_headers p < 2 ^ 16
headers_few p = by (length p.text == 0) (memory_size p == 0)
  where
    by : (a b : Bool) → cond a 0 1 + cond b 0 1 < 2 ^ 16
    by true true = omega arith
    by true false = omega arith
    by false true = omega arith
    by false false = omega arith

pub file_fits : (p : ProgramValue) (s : ℕ) → p.entry < 2 ^ 32 → s < 2 ^ 32 → AllFit (header_fields p s)
unfolding header_fields
file_fits p s fits small = (
  omega arith,
  (
    omega arith,
    (
      omega arith,
      (
        omega arith,
        (
          omega arith,
          (
            omega arith,
            (
              omega arith,
              (
                omega arith,
                (
                  omega arith,
                  (
                    omega arith,
                    (fits, (head_place (program_headers p == 0), (small, (omega arith, (omega arith, (omega arith, (headers_few p, (omega arith, (omega arith, (omega arith, tt)))))))))),
                  ),
                ),
              ),
            ),
          ),
        ),
      ),
    ),
  ),
)

pub file_rows_stand : (p : ProgramValue) → p.entry < 2 ^ 32 → AllStand (file p) 0 (file_rows p)
unfolding header_fields file_header header_count data_size data_distance
file_rows_stand p fits =
    subst (λ n. AllStand (file p) 0 (rows_of 0 (header_fields p n))) (ap (λ n. n % 2 ^ 32) (sections_are p))
    (header_stands (file p) 0 (header_fields p (sections_at p % 2 ^ 32)) (file_fits p (sections_at p % 2 ^ 32) fits (rest_small (sections_at p))) (header_at p))

-- ---- program headers
pub loads_fit : (offset address file_size memory rights : ℕ) → offset < 2 ^ 32 → address < 2 ^ 32 → file_size < 2 ^ 32 → memory < 2 ^ 32 → rights < 2 ^ 32 → AllFit (load_fields offset address file_size memory rights)
unfolding load_fields
loads_fit offset address file_size memory rights a b c d e = (omega arith, (a, (b, (b, (c, (d, (e, (omega arith, tt))))))))

pub text_rows_stand : (p : ProgramValue) → Bounds p → AllStand (file p) 52 (text_rows p)
unfolding text_header load_fields
text_rows_stand p b =
    maybe_stands (length p.text == 0) (file p) 52 (load_fields 4096 0x10000 (length p.text) (length p.text) 5)
    (loads_fit 4096 0x10000 (length p.text) (length p.text) 5 (omega arith) (omega arith) (omega (arith, b.small)) (omega (arith, b.small)) (omega arith))
    (left_at (file p) 52 (text_header p) (data_header p ++ zero_bytes (4044 - 32 * header_count p)) (headers_at p))

pub data_rows_stand : (p : ProgramValue) → Bounds p → AllStand (file p) (cond (length p.text == 0) 52 84) (data_rows p)
unfolding data_header load_fields data_distance data_size
data_rows_stand p b =
    maybe_stands (memory_size p == 0) (file p) (cond (length p.text == 0) 52 84) (load_fields (4096 + data_place p) (0x10000 + data_place p) (length p.bytes) (memory_size p) 6)
    (loads_fit (4096 + data_place p) (0x10000 + data_place p) (length p.bytes) (memory_size p) 6 (omega (arith, b.near)) (omega (arith, b.near)) (omega (arith, b.small, b.given)) (omega (arith, b.small)) (omega arith))
    (left_at (file p) (cond (length p.text == 0) 52 84) (data_header p) (zero_bytes (4044 - 32 * header_count p)) (data_header_at p))

-- ---- text and data
unfoldable pub gap_of : ProgramValue → List ℕ
gap_of p = zero_bytes (data_distance p - length p.text)

pub text_at : (p : ProgramValue) → At (file p) 4096 (p.text ++ (gap_of p ++ p.bytes))
unfolding content gap_of
text_at p = left_at (file p) 4096 (content p) (tail_of p) (content_at p)

pub gap_at : (p : ProgramValue) → At (file p) (4096 + length p.text) (gap_of p ++ p.bytes)
gap_at p = right_at (file p) 4096 (4096 + length p.text) p.text (gap_of p ++ p.bytes) (text_at p) refl

pub gap_long : (p : ProgramValue) → length (gap_of p) ≡ data_distance p - length p.text
unfolding gap_of
gap_long p = zero_length (data_distance p - length p.text)

pub data_at : (p : ProgramValue) → Bounds p → At (file p) (4096 + data_distance p) p.bytes
data_at p b =
    let e = gap_long p in
    let h = b.behind in
    right_at (file p) (4096 + length p.text) (4096 + data_distance p) (gap_of p) p.bytes (gap_at p) (omega (arith, e, h))

pub content_long : (p : ProgramValue) → Bounds p → length (content p) ≡ data_distance p + length p.bytes
unfolding content gap_of
content_long p b =
    let e = length-append p.text (gap_of p ++ p.bytes) in
    let f = length-append (gap_of p) p.bytes in
    let g = gap_long p in
    let h = b.behind in
    omega (arith, e, f, g, h)

pub ends_at : (p : ProgramValue) → sections.data_end p ≡ 4096 + data_distance p + length p.bytes
unfolding sections.data_end
ends_at p = refl

pub tail_at : (p : ProgramValue) → Bounds p → At (file p) (sections.data_end p) (tail_of p)
tail_at p b =
    let e = content_long p b in
    let f = ends_at p in
    right_at (file p) 4096 (sections.data_end p) (content p) (tail_of p) (content_at p) (omega (arith, e, f))

-- ---- the tables
pub tables_at : (p : ProgramValue) → Bounds p → At (file p) (sections.data_end p) (joined_tables p ++ zero_bytes (sections_at p - (section_names_at p + 44)))
unfolding table_bytes
tables_at p b = left_at (file p) (sections.data_end p) (table_bytes p) (own_sections p ++ table_sections p) (tail_at p b)

pub joined_at : (p : ProgramValue) → Bounds p → At (file p) (sections.data_end p) (joined_tables p)
joined_at p b = left_at (file p) (sections.data_end p) (joined_tables p) (zero_bytes (sections_at p - (section_names_at p + 44))) (tables_at p b)

unfoldable pub before_of : ProgramValue → List ℕ
before_of p = zero_bytes (symbols_at p - sections.data_end p)

pub names_joined_at : (p : ProgramValue) → Bounds p → At (file p) (sections.data_end p) ((before_of p ++ (tables_of p).entries) ++ (tables_of p).names)
unfolding before_of
names_joined_at p b = left_at (file p) (sections.data_end p) ((before_of p ++ (tables_of p).entries) ++ (tables_of p).names) sections.section_names (joined_at p b)

pub entries_joined_at : (p : ProgramValue) → Bounds p → At (file p) (sections.data_end p) (before_of p ++ (tables_of p).entries)
entries_joined_at p b = left_at (file p) (sections.data_end p) (before_of p ++ (tables_of p).entries) (tables_of p).names (names_joined_at p b)

pub above : (n : ℕ) → n ≤ round_up n 4
unfolding round_up
above n = omega arith

pub before_long : (p : ProgramValue) → sections.data_end p + length (before_of p) ≡ symbols_at p
unfolding before_of symbols_at
before_long p =
    let e = zero_length (round_up (sections.data_end p) 4 - sections.data_end p) in
    let f = above (sections.data_end p) in
    omega (arith, e, f)

pub entries_at : (p : ProgramValue) → Bounds p → At (file p) (symbols_at p) (tables_of p).entries
entries_at p b = right_at (file p) (sections.data_end p) (symbols_at p) (before_of p) (tables_of p).entries (entries_joined_at p b) (before_long p)

pub names_at_place : (p : ProgramValue) → Bounds p → At (file p) (names_at p) (tables_of p).names
unfolding names_at
names_at_place p b =
    let e = before_long p in
    let f = length-append (before_of p) (tables_of p).entries in
    right_at (file p) (sections.data_end p) (symbols_at p + length (tables_of p).entries) (before_of p ++ (tables_of p).entries) (tables_of p).names (names_joined_at p b) (omega (arith, e, f))

pub section_names_at_place : (p : ProgramValue) → Bounds p → At (file p) (section_names_at p) sections.section_names
unfolding section_names_at names_at before_of
section_names_at_place p b =
    let e = before_long p in
    let f = length-append (before_of p) (tables_of p).entries in
    let g = length-append (before_of p ++ (tables_of p).entries) (tables_of p).names in
    right_at (file p) (sections.data_end p) (symbols_at p + length (tables_of p).entries + length (tables_of p).names) ((before_of p ++ (tables_of p).entries) ++ (tables_of p).names) sections.section_names
    (joined_at p b) (omega (arith, e, f, g))
