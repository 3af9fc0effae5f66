-- a written file loads as its program
use Rattle.std.proofs.Common.{◌≡◌, ℕ, ◌+◌, ◌-◌, ◌%◌, ◌^◌, ◌<◌, ◌≤◌, true, not, ltb, eqb, List, ◌++◌, length, arith, ◌∙◌, ap, refl, inl, inr, filter, map, None, take, drop, append_assoc}
use Rattle.std.proofs.lemmas.Bool.{cases_Bool}
use Rattle.std.proofs.lemmas.Bool.Decides.{nat_tests}
use Rattle.elf_read.specs.Number.{word_at}
use Rattle.image.specs.Fault.{fault_if}
use Rattle.elf_read.specs.ProgramHeader.{is_loaded_segment}
use Rattle.elf_read.specs.File.{program_headers_of, segment_of, headers_fault, elf_fault, file_image, loaded_image}
use Rattle.image.specs.declared.fault.ElfFault.TheVariants as faults
use Rattle.asm_assemble.specs.Program.{ProgramValue, IsWithinLimit}
use Rattle.elf_write.specs.Field.{zero_bytes}
use Rattle.elf_write.specs.Layout.{data_distance, data_size}
use Rattle.elf_write.specs.Segment.{front_segment}
use Rattle.elf_write.specs.File.{content, file_with, file, program_segments, program_image}
use Rattle.elf_write.specs.Section.{sections_at, table_bytes, own_sections, table_sections}
use Rattle.elf_write.proofs.LayoutLemmas.{Bounds, bounds, few_headers}
use Rattle.elf_write.proofs.ReadLemmas.{plain_file, loads_of, header_passes, table_inside, entry_read, parts_read, none_outside, none_dynamic, space_passes, file_length, text_there, data_there}

pub fault_is : (p : ProgramValue) (sections : ℕ) (back : List ℕ) → Bounds p → p.entry < 2 ^ 32 → elf_fault (plain_file p sections back) ≡ fault_if (not (eqb (p.entry % 4) 0)) faults.EntryAlign None
unfolding elf_fault headers_fault plain_file
fault_is p sections back b fits =
    let rest : List ℕ = p.text ++ (zero_bytes (data_distance p - length p.text) ++ (p.bytes ++ back)) in
    let long : 4096 + data_distance p + length p.bytes ≤ length (front_segment p sections ++ rest) = unfold plain_file in file_length p sections back b.behind in
    rw (header_passes p sections rest (few_headers p)) (
    rw (table_inside p sections rest) (
    rw (entry_read p sections rest fits) (
    rw (parts_read p sections rest (omega (arith, b.small)) (omega (arith, b.given, b.small)) (omega (arith, b.small)) (omega (arith, b.near))) (
    rw (none_outside p (length (front_segment p sections ++ rest)) b.behind long) (
    rw (space_passes p b) (
    rw (none_dynamic p) refl))))))

pub kept_pieces : (p : ProgramValue) (bytes : List ℕ) → take (length p.text) (drop 4096 bytes) ≡ p.text → take (length p.bytes) (drop (4096 + data_distance p) bytes) ≡ p.bytes
    → map (segment_of bytes) (filter is_loaded_segment (loads_of p)) ≡ program_segments p
unfolding program_segments
kept_pieces p bytes text_is data_is = elim (cases_Bool (eqb (length p.text) 0)) [
  | inl no_text ↦ (elim (cases_Bool (eqb (data_size p) 0)) [
    | inl no_data ↦ rw (no_text, no_data) refl
    | inr full ↦ (let m : ltb 0 (data_size p) ≡ true = grind (arith, nat_tests) in rw (no_text, full) (rw m (rw data_is refl)))
  ])
  | inr text ↦ (let t : ltb 0 (length p.text) ≡ true = grind (arith, nat_tests) in
      elim (cases_Bool (eqb (data_size p) 0)) [
        | inl no_data ↦ rw (text, no_data) (rw t (rw text_is refl))
        | inr full ↦ (let m : ltb 0 (data_size p) ≡ true = grind (arith, nat_tests) in rw (text, full) (rw (t, m) (rw (text_is, data_is) refl)))
      ])
]

pub entry_at : (p : ProgramValue) (sections : ℕ) (back : List ℕ) → p.entry < 2 ^ 32 → word_at (plain_file p sections back) 24 ≡ p.entry
unfolding plain_file
entry_at p sections back fits = entry_read p sections (p.text ++ (zero_bytes (data_distance p - length p.text) ++ (p.bytes ++ back))) fits

pub parts_at : (p : ProgramValue) (sections : ℕ) (back : List ℕ) → Bounds p → program_headers_of (plain_file p sections back) ≡ loads_of p
unfolding plain_file
parts_at p sections back b = parts_read p sections (p.text ++ (zero_bytes (data_distance p - length p.text) ++ (p.bytes ++ back))) (omega (arith, b.small)) (omega (arith, b.given, b.small)) (omega (arith, b.small)) (omega (arith, b.near))

pub image_is : (p : ProgramValue) (sections : ℕ) (back : List ℕ) → Bounds p → p.entry < 2 ^ 32 → file_image (plain_file p sections back) ≡ record { entry = p.entry; segments = program_segments p }
unfolding file_image
image_is p sections back b fits =
    rw (entry_at p sections back fits, parts_at p sections back b, kept_pieces p (plain_file p sections back) (text_there p sections back) (data_there p sections back b.behind)) refl

plain_loads : (p : ProgramValue) (sections : ℕ) (back : List ℕ) → IsWithinLimit p.text p.bytes p.zeros → p.entry < 2 ^ 32 → loaded_image (plain_file p sections back) ≡ program_image p
unfolding loaded_image program_image
plain_loads p sections back placed fits =
    let b = bounds p placed in
    rw (fault_is p sections back b fits, image_is p sections back b fits) (elim (cases_Bool (eqb (p.entry % 4) 0)) [ inl e ↦ rw e refl | inr e ↦ rw e refl ])

same_file : (p : ProgramValue) (sections : ℕ) (back : List ℕ) → file_with p sections back ≡ plain_file p sections back
unfolding file_with content plain_file
same_file p sections back =
    let gap : List ℕ = zero_bytes (data_distance p - length p.text) in
    ap (λ t. front_segment p sections ++ t) (append_assoc p.text (gap ++ p.bytes) back ∙ ap (λ t. p.text ++ t) (append_assoc gap p.bytes back))

-- a written file loads as its program, whatever its sections hold
pub loads_back : (p : ProgramValue) (sections : ℕ) (back : List ℕ) → IsWithinLimit p.text p.bytes p.zeros → p.entry < 2 ^ 32 → loaded_image (file_with p sections back) ≡ program_image p
loads_back p sections back placed fits = ap loaded_image (same_file p sections back) ∙ plain_loads p sections back placed fits

pub file_loads : (bytes : List ℕ) (p : ProgramValue) → bytes ≡ file p → IsWithinLimit p.text p.bytes p.zeros → p.entry < 2 ^ 32 → loaded_image bytes ≡ program_image p
unfolding file
file_loads bytes p is placed fits = ap loaded_image is ∙ loads_back p (sections_at p % 2 ^ 32) (table_bytes p ++ (own_sections p ++ table_sections p)) placed fits
