-- the image of a file that passes the checks
use Rattle.std.proofs.Common.{◌≡◌, ℕ, ◌-◌, ◌%◌, true, false, not, eqb, ltb, List, [], ◌∷◌, length, get_or, arith, ◌∙◌, refl, inl, inr, filter, map, Option, Some, None, take, drop, min}
use Rattle.std.proofs.lemmas.Bool.{cases_Bool, cases_lt}
use Rattle.std.proofs.lemmas.Bool.Decides.{nat_tests}
use Rattle.std.proofs.lemmas.Grind.{common_steps}
use Rattle.std.proofs.lemmas.List.{get_or-drop, get_or-take, get_or_past, length-take}
use Rattle.std.proofs.Math.ListN.{length-drop}
use Rattle.std.specs.List.{list_any, list_all}
use Rattle.image.specs.declared.fault.ElfFault.{ElfFault}
use Rattle.elf_read.specs.declared.program_header.ProgramHeader.{ProgramHeader}
use Rattle.image.specs.Fault.{first_fault}
use Rattle.elf_read.specs.File.{headers_fault, segment_of, byte_at, file_byte}
use Rattle.image.specs.Image.{span_of, is_mapped, IsSound, HaveLowRights}
use Rattle.elf_read.specs.ProgramHeader.{is_load, is_dynamic, is_outside, is_loaded_segment, header_span}
use Rattle.image.specs.Spans.{is_filled, space_fault}
use Rattle.image.proofs.RightsLemmas.{low}
use Rattle.image.proofs.Sound.{sound_from, passed}

-- the bytes of the file are as many as p_filesz
given : (bytes : List ℕ) (h : ProgramHeader) → is_load h ≡ true → is_outside (length bytes) h ≡ false → length (take h.file_size (drop h.offset bytes)) ≡ h.file_size
given bytes h load inside =
    let a = length-drop {A = ℕ} in
    grind (arith, nat_tests, common_steps)

kept_spans : (bytes : List ℕ) (hs : List ProgramHeader) → list_any (is_outside (length bytes)) hs ≡ false → map span_of (map (segment_of bytes) (filter is_loaded_segment hs)) ≡ filter is_filled (map header_span (filter is_load hs))
kept_spans bytes [] e = refl
kept_spans bytes (h ∷ hs) e = elim (cases_Bool (is_outside (length bytes) h)) [
  | inl out ↦ (let no : list_any (is_outside (length bytes)) (h ∷ hs) ≡ true = rw out refl in cc)
  | inr inside ↦ (let rest : map span_of (map (segment_of bytes) (filter is_loaded_segment hs)) ≡ filter is_filled (map header_span (filter is_load hs)) = kept_spans bytes hs (rw inside at e) in
      elim (cases_Bool (is_load h)) [
        | inl load ↦ (elim (cases_Bool (is_filled (header_span h))) [
          | inl full ↦ (let keep : is_loaded_segment h ≡ true = rw (load, full) refl in
              rw (keep, load) (rw full (rw (rest, given bytes h load inside) refl)))
          | inr empty ↦ (let drop : is_loaded_segment h ≡ false = rw (load, empty) refl in
              rw (drop, load) (rw empty rest))
        ])
        | inr other ↦ (let drop : is_loaded_segment h ≡ false = rw other refl in rw (drop, other) rest)
      ])
]

kept_mapped : (bytes : List ℕ) (hs : List ProgramHeader) → list_all is_mapped (map (segment_of bytes) (filter is_loaded_segment hs)) ≡ true
kept_mapped bytes [] = refl
kept_mapped bytes (h ∷ hs) = elim (cases_Bool (is_loaded_segment h)) [
  | inl keep ↦ rw keep (let full : is_mapped (segment_of bytes h) ≡ true = grind (arith, nat_tests) in rw (full, kept_mapped bytes hs) refl)
  | inr drop ↦ rw drop (kept_mapped bytes hs)
]

none_first : (a b : Option ElfFault) → first_fault a b ≡ None → (a ≡ None) × (b ≡ None)
none_first (Some fault) b e = cc
none_first None b e = (refl, e)

-- segments and entry of a file whose program headers pass all checks are sound
pub file_is_sound : (bytes : List ℕ) (entry : ℕ) (hs : List ProgramHeader) → headers_fault (length bytes) entry hs ≡ None → IsSound entry (map (segment_of bytes) (filter is_loaded_segment hs))
unfolding headers_fault
file_is_sound bytes entry hs pass =
    let a = passed (list_any (is_outside (length bytes)) hs) _ _ pass in
    let b = none_first (space_fault (map header_span (filter is_load hs))) _ a.1 in
    let c = passed (list_any is_dynamic hs) _ _ b.1 in
    let d = passed (not (eqb (entry % 4) 0)) _ _ c.1 in
    sound_from entry (map (segment_of bytes) (filter is_loaded_segment hs)) (map header_span (filter is_load hs)) (kept_mapped bytes hs) (kept_spans bytes hs a.0) b.0 (grind (arith, nat_tests))

-- a file's segments have only the low three bits of rights
pub files_have_low : (bytes : List ℕ) (hs : List ProgramHeader) → HaveLowRights (map (segment_of bytes) hs)
files_have_low bytes [] = refl
files_have_low bytes (h ∷ hs) = rw (low h.flags, files_have_low bytes hs) refl

-- a byte of a segment, and the file's
pub file_bytes : (bytes : List ℕ) (h : ProgramHeader) (a : ℕ) → byte_at (segment_of bytes h) a ≡ file_byte bytes h a
file_bytes bytes h a = elim (cases_lt (a - h.address) h.file_size) [
  | inl low ↦ (
      let inside : ltb (a - h.address) h.file_size ≡ true = grind (arith, nat_tests) in
      let here : get_or (take h.file_size (drop h.offset bytes)) (a - h.address) 0 ≡ get_or (drop h.offset bytes) (a - h.address) 0 = get_or-take h.file_size (drop h.offset bytes) (a - h.address) 0 low in
      rw inside (here ∙ get_or-drop h.offset bytes (a - h.address) 0))
  | inr high ↦ (
      let outside : ltb (a - h.address) h.file_size ≡ false = grind (arith, nat_tests) in
      let given : length (take h.file_size (drop h.offset bytes)) ≡ min h.file_size (length (drop h.offset bytes)) = length-take h.file_size (drop h.offset bytes) in
      rw outside (get_or_past (take h.file_size (drop h.offset bytes)) (a - h.address) 0 (omega arith)))
]
