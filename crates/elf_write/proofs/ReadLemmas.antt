-- a written file's headers read as they were written
use Rattle.std.proofs.Common.{◌≡◌, ℕ, ◌+◌, ◌-◌, ◌*◌, ◌^◌, ◌<◌, ◌≤◌, false, not, ◌&&◌, ltb, eqb, cond, List, [], ◌∷◌, ◌++◌, length, arith, ◌∙◌, ap, refl, subst, inl, inr, filter, map, None, take, drop, length-append}
use Rattle.std.proofs.lemmas.Bool.{cases_Bool}
use Rattle.std.proofs.lemmas.Bool.Decides.{nat_tests}
use Rattle.std.proofs.Math.Seq.{drop-append-add, drop-append_seam}
use Rattle.std.proofs.Math.ListN.{length-replicate}
use Rattle.std.specs.List.{list_any}
use Rattle.byteorder.specs.Numbers.{little_number-reads_back}
use Rattle.elf_read.specs.Number.{word_at, half_at}
use Rattle.elf_read.specs.Header.{header_fault}
use Rattle.elf_read.specs.ProgramHeader.{program_header_at, program_headers_from, header_span, is_load, is_outside, is_dynamic}
use Rattle.elf_read.specs.File.{program_headers_of, is_table_outside}
use Rattle.image.specs.Spans.{space_fault}
use Rattle.elf_read.specs.declared.program_header.ProgramHeader.{ProgramHeader}
use Rattle.asm_assemble.specs.Program.{ProgramValue}
use Rattle.elf_write.specs.Field.{zero_bytes}
use Rattle.elf_write.specs.Layout.{data_distance, data_size, header_count}
use Rattle.elf_write.specs.Segment.{front_segment, file_header, load_fields, text_header, data_header}
use Rattle.elf_write.proofs.LayoutLemmas.{Bounds, few_headers}

-- a written file as a chain
unfoldable pub plain_file : ProgramValue → ℕ → List ℕ → List ℕ
plain_file p sections back = front_segment p sections ++ (p.text ++ (zero_bytes (data_distance p - length p.text) ++ (p.bytes ++ back)))

-- the fields of the header that the checks read
pub entry_read : (p : ProgramValue) (sections : ℕ) (rest : List ℕ) → p.entry < 2 ^ 32 → word_at (front_segment p sections ++ rest) 24 ≡ p.entry
unfolding file_header word_at
entry_read p sections rest fits = little_number-reads_back 4 p.entry [] fits

pub count_read : (p : ProgramValue) (sections : ℕ) (rest : List ℕ) → header_count p ≤ 2 → half_at (front_segment p sections ++ rest) 44 ≡ header_count p
unfolding file_header half_at
count_read p sections rest few = little_number-reads_back 2 (header_count p) [] (omega arith)

pub place_read : (p : ProgramValue) (sections : ℕ) (rest : List ℕ) → word_at (front_segment p sections ++ rest) 28 ≡ cond (eqb (header_count p) 0) 0 52
unfolding file_header word_at
place_read p sections rest = little_number-reads_back 4 (cond (eqb (header_count p) 0) 0 52) [] (elim (cases_Bool (eqb (header_count p) 0)) [ inl e ↦ rw e (omega arith) | inr e ↦ rw e (omega arith) ])

pub long_front : (p : ProgramValue) (sections : ℕ) (rest : List ℕ) → ltb (length (front_segment p sections ++ rest)) 52 ≡ false
unfolding file_header
long_front p sections rest = grind (arith, nat_tests)

pub header_passes : (p : ProgramValue) (sections : ℕ) (rest : List ℕ) → header_count p ≤ 2 → header_fault (front_segment p sections ++ rest) ≡ None
unfolding file_header header_fault word_at half_at
header_passes p sections rest few =
    rw (long_front p sections rest, little_number-reads_back 2 (header_count p) [] (omega arith)) (
    let e : eqb (header_count p) 65535 ≡ false = grind (arith, nat_tests) in
    let f : (not (eqb (header_count p) 0) && false) ≡ false = (elim (cases_Bool (eqb (header_count p) 0)) [ inl e ↦ rw e refl | inr e ↦ rw e refl ]) in
    rw (f, e) refl)

-- the program headers of a program
abbrev pub text_load : ProgramValue → ProgramHeader
text_load p = record { kind = 1; offset = 4096; address = 0x10000; file_size = length p.text; memory_size = length p.text; flags = 5 }

abbrev pub data_load : ProgramValue → ProgramHeader
data_load p = record { kind = 1; offset = 4096 + data_distance p; address = 0x10000 + data_distance p; file_size = length p.bytes; memory_size = data_size p; flags = 6 }

abbrev pub loads_of : ProgramValue → List ProgramHeader
loads_of p = cond (eqb (length p.text) 0) [] (text_load p ∷ []) ++ cond (eqb (data_size p) 0) [] (data_load p ∷ [])

pub parts_read : (p : ProgramValue) (sections : ℕ) (rest : List ℕ) → length p.text < 2 ^ 32 → length p.bytes < 2 ^ 32 → data_size p < 2 ^ 32 → 0x10000 + data_distance p < 2 ^ 32
    → program_headers_of (front_segment p sections ++ rest) ≡ loads_of p
unfolding file_header program_headers_of program_headers_from program_header_at word_at half_at header_count text_header data_header load_fields
parts_read p sections rest t d m a = elim (cases_Bool (eqb (length p.text) 0)) [
  | inl no_text ↦ (elim (cases_Bool (eqb (data_size p) 0)) [
    | inl no_data ↦ rw (no_text, no_data) refl
    | inr full ↦ rw (no_text, full) (rw (little_number-reads_back 4 (4096 + data_distance p) [] (omega arith), little_number-reads_back 4 (0x10000 + data_distance p) [] a, little_number-reads_back 4 (length p.bytes) [] d, little_number-reads_back 4 (data_size p) [] m) refl)
  ])
  | inr text ↦ (elim (cases_Bool (eqb (data_size p) 0)) [
    | inl no_data ↦ rw (text, no_data) (rw (little_number-reads_back 4 (length p.text) [] t) refl)
    | inr full ↦ rw (text, full) (rw (little_number-reads_back 4 (length p.text) [] t, little_number-reads_back 4 (4096 + data_distance p) [] (omega arith), little_number-reads_back 4 (0x10000 + data_distance p) [] a, little_number-reads_back 4 (length p.bytes) [] d, little_number-reads_back 4 (data_size p) [] m) refl)
  ])
]

-- the checks of places pass one segment, and two that do not overlap
pub one_passes : (b s h : ℕ) → h ≤ s → b + s ≤ 2 ^ 32 → s ≤ 2 ^ 24 → space_fault (record { base = b; size = s; file_size = h } ∷ []) ≡ None
unfolding space_fault
one_passes b s h given ends small =
    let e1 : ltb s h ≡ false = grind (arith, nat_tests) in
    let e2 : ltb (2 ^ 32) (b + s) ≡ false = grind (arith, nat_tests) in
    let e3 : ltb (2 ^ 24) (0 + s) ≡ false = grind (arith, nat_tests) in
    rw (e1, e2, e3) refl

pub two_pass : (b s h c t k : ℕ) → h ≤ s → k ≤ t → b + s ≤ c → c + t ≤ 2 ^ 32 → s + t ≤ 2 ^ 24
    → space_fault (record { base = b; size = s; file_size = h } ∷ record { base = c; size = t; file_size = k } ∷ []) ≡ None
unfolding space_fault
two_pass b s h c t k given kept apart ends small =
    let e1 : ltb s h ≡ false = grind (arith, nat_tests) in
    let f1 : ltb t k ≡ false = grind (arith, nat_tests) in
    let e2 : ltb (2 ^ 32) (b + s) ≡ false = grind (arith, nat_tests) in
    let f2 : ltb (2 ^ 32) (c + t) ≡ false = grind (arith, nat_tests) in
    let e3 : (ltb 0 s && ltb 0 t && ltb b (c + t) && ltb c (b + s)) ≡ false = grind (arith, nat_tests) in
    let e4 : ltb (2 ^ 24) (0 + s + t) ≡ false = grind (arith, nat_tests) in
    rw (e1, f1, e2, f2, e3, e4) refl

pub space_passes : (p : ProgramValue) → Bounds p → space_fault (map header_span (filter is_load (loads_of p))) ≡ None
space_passes p b = elim (cases_Bool (eqb (length p.text) 0)) [
  | inl no_text ↦ (elim (cases_Bool (eqb (data_size p) 0)) [
    | inl no_data ↦ rw (no_text, no_data) (unfold space_fault in refl)
    | inr full ↦ rw (no_text, full) (one_passes (0x10000 + data_distance p) (data_size p) (length p.bytes) b.given (omega (arith, b.near, b.small)) (omega (arith, b.small)))
  ])
  | inr text ↦ (elim (cases_Bool (eqb (data_size p) 0)) [
    | inl no_data ↦ rw (text, no_data) (one_passes 0x10000 (length p.text) (length p.text) (omega arith) (omega (arith, b.small)) (omega (arith, b.small)))
    | inr full ↦ rw (text, full) (two_pass 0x10000 (length p.text) (length p.text) (0x10000 + data_distance p) (data_size p) (length p.bytes) (omega arith) b.given (omega (arith, b.behind)) (omega (arith, b.near, b.small)) b.small)
  ])
]

-- the places of the parts of a file
pub front_length : (p : ProgramValue) (sections : ℕ) → length (front_segment p sections) ≡ 4096
unfolding zero_bytes file_header header_count text_header data_header load_fields
front_length p sections = elim (cases_Bool (eqb (length p.text) 0)) [
  | inl no_text ↦ (elim (cases_Bool (eqb (data_size p) 0)) [
    | inl no_data ↦ rw (no_text, no_data) refl
    | inr full ↦ rw (no_text, full) refl
  ])
  | inr text ↦ (elim (cases_Bool (eqb (data_size p) 0)) [
    | inl no_data ↦ rw (text, no_data) refl
    | inr full ↦ rw (text, full) refl
  ])
]

pub take_front : (xs ys : List ℕ) → take (length xs) (xs ++ ys) ≡ xs
take_front [] ys = refl
take_front (x ∷ xs) ys = ap (λ t. x ∷ t) (take_front xs ys)

pub text_there : (p : ProgramValue) (sections : ℕ) (back : List ℕ) → take (length p.text) (drop 4096 (plain_file p sections back)) ≡ p.text
unfolding plain_file
text_there p sections back =
    let rest : List ℕ = p.text ++ (zero_bytes (data_distance p - length p.text) ++ (p.bytes ++ back)) in
    let e : drop 4096 (front_segment p sections ++ rest) ≡ rest = subst (λ n. drop n (front_segment p sections ++ rest) ≡ rest) (front_length p sections) (drop-append_seam (front_segment p sections) rest) in
    ap (take (length p.text)) e ∙ take_front p.text (zero_bytes (data_distance p - length p.text) ++ (p.bytes ++ back))

pub data_there : (p : ProgramValue) (sections : ℕ) (back : List ℕ) → length p.text ≤ data_distance p → take (length p.bytes) (drop (4096 + data_distance p) (plain_file p sections back)) ≡ p.bytes
unfolding zero_bytes plain_file
data_there p sections back behind =
    let gap : ℕ = data_distance p - length p.text in
    let tail : List ℕ = p.bytes ++ back in
    let rest : List ℕ = p.text ++ (zero_bytes gap ++ tail) in
    let e1 : drop (4096 + data_distance p) (front_segment p sections ++ rest) ≡ drop (data_distance p) rest = subst (λ n. drop (n + data_distance p) (front_segment p sections ++ rest) ≡ drop (data_distance p) rest) (front_length p sections) (drop-append-add (front_segment p sections) rest (data_distance p)) in
    let whole : length p.text + gap ≡ data_distance p = omega arith in
    let e2 : drop (data_distance p) rest ≡ drop gap (zero_bytes gap ++ tail) = subst (λ n. drop n rest ≡ drop gap (zero_bytes gap ++ tail)) whole (drop-append-add p.text (zero_bytes gap ++ tail) gap) in
    let e3 : drop gap (zero_bytes gap ++ tail) ≡ tail = subst (λ n. drop n (zero_bytes gap ++ tail) ≡ tail) (length-replicate gap 0) (drop-append_seam (zero_bytes gap) tail) in
    ap (take (length p.bytes)) (e1 ∙ e2 ∙ e3) ∙ take_front p.bytes back

pub file_length : (p : ProgramValue) (sections : ℕ) (back : List ℕ) → length p.text ≤ data_distance p → 4096 + data_distance p + length p.bytes ≤ length (plain_file p sections back)
unfolding zero_bytes plain_file
file_length p sections back behind =
    let gap : ℕ = data_distance p - length p.text in
    let tail : List ℕ = p.bytes ++ back in
    let a = length-append (front_segment p sections) (p.text ++ (zero_bytes gap ++ tail)) in
    let b = length-append p.text (zero_bytes gap ++ tail) in
    let c = length-append (zero_bytes gap) tail in
    let d = length-append p.bytes back in
    let z : length (zero_bytes gap) ≡ gap = length-replicate gap 0 in
    let f = front_length p sections in
    omega (arith, a, b, c, d, z, f)

pub given_inside : (n offset given : ℕ) → offset + given ≤ n → (ltb 0 given && ltb n (offset + given)) ≡ false
given_inside n offset given inside = grind (arith, nat_tests)

pub none_outside : (p : ProgramValue) (n : ℕ) → length p.text ≤ data_distance p → 4096 + data_distance p + length p.bytes ≤ n → list_any (is_outside n) (loads_of p) ≡ false
none_outside p n behind long =
    let e1 = given_inside n 4096 (length p.text) (omega arith) in
    let e2 = given_inside n (4096 + data_distance p) (length p.bytes) (omega arith) in
    elim (cases_Bool (eqb (length p.text) 0)) [
      | inl no_text ↦ (elim (cases_Bool (eqb (data_size p) 0)) [
        | inl no_data ↦ rw (no_text, no_data) refl
        | inr full ↦ rw (no_text, full) (rw e2 refl)
      ])
      | inr text ↦ (elim (cases_Bool (eqb (data_size p) 0)) [
        | inl no_data ↦ rw (text, no_data) (rw e1 refl)
        | inr full ↦ rw (text, full) (rw (e1, e2) refl)
      ])
    ]

pub none_dynamic : (p : ProgramValue) → list_any is_dynamic (loads_of p) ≡ false
none_dynamic p = elim (cases_Bool (eqb (length p.text) 0)) [
  | inl no_text ↦ (elim (cases_Bool (eqb (data_size p) 0)) [ inl no_data ↦ rw (no_text, no_data) refl | inr full ↦ rw (no_text, full) refl ])
  | inr text ↦ (elim (cases_Bool (eqb (data_size p) 0)) [ inl no_data ↦ rw (text, no_data) refl | inr full ↦ rw (text, full) refl ])
]

pub table_inside : (p : ProgramValue) (sections : ℕ) (rest : List ℕ) → is_table_outside (front_segment p sections ++ rest) ≡ false
unfolding is_table_outside
table_inside p sections rest =
    let small = few_headers p in
    let a = length-append (front_segment p sections) rest in
    let f = front_length p sections in
    let n : ℕ = length (front_segment p sections ++ rest) in
    let room : ltb n (cond (eqb (header_count p) 0) 0 52 + 32 * header_count p) ≡ false = (elim (cases_Bool (eqb (header_count p) 0)) [ inl e ↦ rw e (grind (arith, nat_tests, a, f, small)) | inr e ↦ rw e (grind (arith, nat_tests, a, f, small)) ]) in
    rw (count_read p sections rest small, place_read p sections rest) (elim (cases_Bool (eqb (header_count p) 0)) [ inl e ↦ rw e refl | inr e ↦ rw room (rw e refl) ])
