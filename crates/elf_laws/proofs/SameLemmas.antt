-- Two files with the same fields are the same bytes.
use Rattle.std.proofs.Common.{◌≡◌, ℕ, zero, suc, ◌+◌, ◌*◌, ◌-◌, ◌%◌, ◌^◌, ◌<◌, ◌≤◌, Bool, true, false, List, [], ◌∷◌, ◌++◌, length, take, drop, get_or, refl, sym, ap, subst, ◌∙◌, arith, ⊎_elim, append_assoc, append-nil, length-append, lit<}
use Rattle.std.specs.Prelude.{◌==◌, if◌then◌else◌, replicate}
use Rattle.std.specs.List.{All}
use Rattle.std.proofs.lemmas.Bool.{cases_lt}
use Rattle.std.proofs.lemmas.List.{ext_get_or, get_or-drop, get_or-take, length-replicate}
use Rattle.std.proofs.lemmas.List.Elements.{All-head, All-tail}
use Rattle.std.proofs.lemmas.List.Sums.{sum_by-append, sum_by-cons}
use Rattle.byteorder.specs.Endian.{little_from, little_number}
use Rattle.asm_assemble.specs.Program.{ProgramValue, SymbolList, round_up}
use Rattle.asm_assemble.specs.declared.program.Symbol.{Symbol}
use Rattle.elf_laws.specs.Fields.{FieldRow, Stands, AllStand, HasBytesAt, HasFields, HasSymbol, data_place, memory_size, end_of_data, symbols_place, listed_symbols, names_size, names_place, section_names_place, sections_place, program_headers, file_rows, load_rows, section_rows, symbol_rows, written_section_names, zeros, FieldsFixBytes}

-- ---- bytes of a number
abbrev AreBytes : List ℕ → Type 0
AreBytes bytes = (k : ℕ) → get_or bytes k 0 < 256

bytes_below : (bytes : List ℕ) → All (λ b. b < 256) bytes → AreBytes bytes
bytes_below [] h k = lit< tt
bytes_below (b ∷ bs) h zero = All-head (λ b. b < 256) b bs h
bytes_below (b ∷ bs) h (suc k) = bytes_below bs (All-tail (λ b. b < 256) b bs h) k

dropped_below : (bytes : List ℕ) (n : ℕ) → AreBytes bytes → AreBytes (drop n bytes)
dropped_below bytes n h k = subst (λ b. b < 256) (sym (get_or-drop n bytes k 0)) (h (n + k))

digits_same : (n i : ℕ) (xs ys : List ℕ) → AreBytes xs → AreBytes ys → little_from i n xs ≡ little_from i n ys
    → (k : ℕ) → i ≤ k → k < i + n → get_or xs k 0 ≡ get_or ys k 0
digits_same zero i xs ys x y e k low high = absurd (omega (arith, low, high))
digits_same (suc n) i xs ys x y e k low high =
    let below_x = x i in
    let below_y = y i in
    let first : get_or xs i 0 ≡ get_or ys i 0 = omega (arith, e, below_x, below_y) in
    let others : little_from (suc i) n xs ≡ little_from (suc i) n ys = omega (arith, e, first) in
    ⊎_elim (λ lt. digits_same n (suc i) xs ys x y others k (omega (arith, lt)) (omega (arith, high))) (here first) (cases_lt i k)
  where
    here : get_or xs i 0 ≡ get_or ys i 0 → k ≤ i → get_or xs k 0 ≡ get_or ys k 0
    here first le =
        let same : k ≡ i = omega (arith, low, le) in
        ap (λ j. get_or xs j 0) same ∙ first ∙ sym (ap (λ j. get_or ys j 0) same)

-- rows one behind the other, from one offset to another
abbrev Follows : ℕ → List FieldRow → ℕ → Type 0
Follows from [] to = from ≡ to
Follows from (row ∷ rows) to = (row.offset ≡ from) × Follows (from + row.width) rows to

file_follows : (p : ProgramValue) → Follows 0 (file_rows p) 52
file_follows p = (refl, (refl, (refl, (refl, (refl, (refl, (refl, (refl, (refl, (refl, (refl, (refl, (refl, (refl, (refl, (refl, (refl, (refl, (refl, (refl, refl))))))))))))))))))))

load_follows : (offset address file_size memory_size rights : ℕ) → Follows 0 (load_rows offset address file_size memory_size rights) 32
load_follows offset address file_size memory_size rights = (refl, (refl, (refl, (refl, (refl, (refl, (refl, (refl, refl))))))))

section_follows : (name kind flags address offset size link info align entry : ℕ) → Follows 0 (section_rows name kind flags address offset size link info align entry) 40
section_follows name kind flags address offset size link info align entry = (refl, (refl, (refl, (refl, (refl, (refl, (refl, (refl, (refl, (refl, refl))))))))))

symbol_follows : (name_place : ℕ) (s : Symbol) → Follows 0 (symbol_rows name_place s) 16
symbol_follows name_place s = (refl, (refl, (refl, (refl, (refl, (refl, refl))))))

above_4 : (n : ℕ) → n ≤ round_up n 4
unfolding round_up
above_4 n = omega arith

above_4096 : (n : ℕ) → n ≤ round_up n 4096
unfolding round_up
above_4096 n = omega arith

few_headers : (a b : Bool) → (if a then 0 else 1) + (if b then 0 else 1) ≤ 2
few_headers true true = omega arith
few_headers true false = omega arith
few_headers false true = omega arith
few_headers false false = omega arith

module _ (one other : List ℕ) where
  -- both have the same bytes from one place to another
  abbrev Same : ℕ → ℕ → Type 0
  Same from to = (i : ℕ) → from ≤ i → i < to → get_or one i 0 ≡ get_or other i 0

  joined : (a b c : ℕ) → Same a b → Same b c → Same a c
  joined a b c left right i low high = ⊎_elim (λ lt. left i low lt) (λ ge. right i ge high) (cases_lt i b)

  at_places : (a b c d : ℕ) → a ≡ c → b ≡ d → Same a b → Same c d
  at_places a b c d e f same i low high = same i (omega (arith, e, low)) (omega (arith, f, high))

  nothing : (a b : ℕ) → b ≤ a → Same a b
  nothing a b le i low high = absurd (omega (arith, le, low, high))

  byte_of : (bytes part : List ℕ) (place i : ℕ) → place ≤ i → i < place + length part → HasBytesAt bytes place part → get_or bytes i 0 ≡ get_or part (i - place) 0
  byte_of bytes part place i low high h =
      let whole : i ≡ place + (i - place) = omega (arith, low) in
      let below : i - place < length part = omega (arith, low, high) in
      ap (λ n. get_or bytes n 0) whole ∙ sym (get_or-drop place bytes (i - place) 0)
      ∙ sym (get_or-take (length part) (drop place bytes) (i - place) 0 below) ∙ ap (λ xs. get_or xs (i - place) 0) h

  part_same : (place : ℕ) (part : List ℕ) → HasBytesAt one place part → HasBytesAt other place part → Same place (place + length part)
  part_same place part h g i low high = byte_of one part place i low high h ∙ sym (byte_of other part place i low high g)

  zeros_same : (place n end : ℕ) → place + n ≡ end → HasBytesAt one place (zeros n) → HasBytesAt other place (zeros n) → Same place end
  zeros_same place n end e h g =
      let sized = length-replicate {A = ℕ} n 0 in
      at_places place (place + length (zeros n)) place end refl (omega (arith, sized, e)) (part_same place (zeros n) h g)

  module _ (one_below : AreBytes one) (other_below : AreBytes other) where
    row_same : (place : ℕ) (row : FieldRow) → Stands one place row → Stands other place row → Same (place + row.offset) (place + row.offset + row.width)
    row_same place row h g i low high =
        let at = place + row.offset in
        let k = i - at in
        let whole : i ≡ at + k = omega (arith, low) in
        let same = digits_same row.width 0 (drop at one) (drop at other) (dropped_below one at one_below) (dropped_below other at other_below)
        (h.is ∙ sym g.is) k (omega arith) (omega (arith, low, high)) in
        ap (λ n. get_or one n 0) whole ∙ sym (get_or-drop at one k 0) ∙ same ∙ get_or-drop at other k 0 ∙ ap (λ n. get_or other n 0) (sym whole)

    rows_same : (place : ℕ) (rows : List FieldRow) (from to : ℕ) → Follows from rows to → AllStand one place rows → AllStand other place rows → Same (place + from) (place + to)
    rows_same place [] from to f h g = nothing (place + from) (place + to) (omega (arith, f))
    rows_same place (row ∷ rows) from to f h g =
        let here = f.0 in
        joined (place + from) (place + (from + row.width)) (place + to)
        (at_places (place + row.offset) (place + row.offset + row.width) (place + from) (place + (from + row.width)) (omega (arith, here)) (omega (arith, here)) (row_same place row h.0 g.0))
        (rows_same place rows (from + row.width) to f.1 h.1 g.1)

    -- a header of so many bytes at a place
    header_same : (place size end : ℕ) (rows : List FieldRow) → Follows 0 rows size → place + size ≡ end → AllStand one place rows → AllStand other place rows → Same place end
    header_same place size end rows f e h g =
        at_places (place + 0) (place + size) place end (omega arith) e (rows_same place rows 0 size f h g)

    -- two headers that may be missing
    headers_same : (a b : Bool) (text rest : List FieldRow) → Follows 0 text 32 → Follows 0 rest 32
        → AllStand one 52 (if a then [] else text) → AllStand other 52 (if a then [] else text)
        → AllStand one (if a then 52 else 84) (if b then [] else rest) → AllStand other (if a then 52 else 84) (if b then [] else rest)
        → Same 52 (52 + 32 * ((if a then 0 else 1) + (if b then 0 else 1)))
    headers_same true true text rest t d h g k l = nothing 52 52 (omega arith)
    headers_same true false text rest t d h g k l = header_same 52 32 84 rest d refl k l
    headers_same false true text rest t d h g k l = header_same 52 32 84 text t refl h g
    headers_same false false text rest t d h g k l = joined 52 84 116 (header_same 52 32 84 text t refl h g) (header_same 84 32 116 rest d refl k l)

    module _ (p : ProgramValue) (h : HasFields p one) (g : HasFields p other) where
      -- the symbols behind those before, and their names
      abbrev entry_at : SymbolList → ℕ
      entry_at before = symbols_place p + 16 * (1 + length before)

      abbrev name_place : SymbolList → ℕ
      name_place before = names_place p + (1 + names_size before)

      one_behind : (before : SymbolList) (s : List ℕ × Symbol) → names_size (before ++ s ∷ []) ≡ names_size before + (length s.0 + 1)
      one_behind before s =
          sum_by-append (λ (s : List ℕ × Symbol). length s.0 + 1) before (s ∷ [])
          ∙ ap (λ n. names_size before + n) (sum_by-cons (λ (s : List ℕ × Symbol). length s.0 + 1) s [] ∙ omega arith)

      entries_same : (before after : SymbolList) → listed_symbols p.symbols ≡ before ++ after → Same (entry_at before) (names_place p)
      entries_same before [] cut =
          let all : length (listed_symbols p.symbols) ≡ length before = ap length (cut ∙ append-nil before) in
          nothing (entry_at before) (names_place p) (omega (arith, all))
      entries_same before (s ∷ after) cut =
          let next = before ++ s ∷ [] in
          let more : length next ≡ length before + 1 = length-append before (s ∷ []) in
          let end : entry_at before + 16 ≡ entry_at next = omega (arith, more) in
          joined (entry_at before) (entry_at next) (names_place p)
          (header_same (entry_at before) 16 (entry_at next) (symbol_rows (1 + names_size before) s.1) (symbol_follows (1 + names_size before) s.1) end (h.symbols before s after cut).fields (g.symbols before s after cut).fields)
          (entries_same next after (cut ∙ sym (append_assoc before (s ∷ []) after)))

      names_same : (before after : SymbolList) → listed_symbols p.symbols ≡ before ++ after → Same (name_place before) (section_names_place p)
      names_same before [] cut =
          let all : names_size (listed_symbols p.symbols) ≡ names_size before = ap names_size (cut ∙ append-nil before) in
          nothing (name_place before) (section_names_place p) (omega (arith, all))
      names_same before (s ∷ after) cut =
          let next = before ++ s ∷ [] in
          let more = one_behind before s in
          let long = length-append s.0 (0 ∷ []) in
          joined (name_place before) (name_place next) (section_names_place p)
          (at_places (name_place before) (name_place before + length (s.0 ++ 0 ∷ [])) (name_place before) (name_place next) refl (omega (arith, more, long))
          (part_same (name_place before) (s.0 ++ 0 ∷ []) (h.symbols before s after cut).name (g.symbols before s after cut).name))
          (names_same next after (cut ∙ sym (append_assoc before (s ∷ []) after)))

      -- from the header to the data's end
      front_same : Same 0 4096
      front_same =
          let few = few_headers (length p.text == 0) (memory_size p == 0) in
          joined 0 52 4096
          (header_same 0 52 52 (file_rows p) (file_follows p) refl h.header g.header)
          (joined 52 (52 + 32 * program_headers p) 4096
          (headers_same (length p.text == 0) (memory_size p == 0) (load_rows 4096 0x10000 (length p.text) (length p.text) 5) (load_rows (4096 + data_place p) (0x10000 + data_place p) (length p.bytes) (memory_size p) 6)
          (load_follows 4096 0x10000 (length p.text) (length p.text) 5) (load_follows (4096 + data_place p) (0x10000 + data_place p) (length p.bytes) (memory_size p) 6)
          h.text_header g.text_header h.data_header g.data_header)
          (zeros_same (52 + 32 * program_headers p) (4044 - 32 * program_headers p) 4096 (omega (arith, few)) h.before_text g.before_text))

      data_same : Same 4096 (end_of_data p)
      data_same =
          let above = above_4096 (length p.text) in
          joined 4096 (4096 + length p.text) (end_of_data p) (part_same 4096 p.text h.text_bytes g.text_bytes)
          (joined (4096 + length p.text) (4096 + data_place p) (end_of_data p)
          (zeros_same (4096 + length p.text) (data_place p - length p.text) (4096 + data_place p) (omega (arith, above)) h.before_data g.before_data)
          (part_same (4096 + data_place p) p.bytes h.data_bytes g.data_bytes))

      -- the symbol table and the names
      symbols_same : Same (end_of_data p) (names_place p)
      symbols_same =
          let above = above_4 (end_of_data p) in
          joined (end_of_data p) (symbols_place p) (names_place p)
          (zeros_same (end_of_data p) (symbols_place p - end_of_data p) (symbols_place p) (omega (arith, above)) h.before_symbols g.before_symbols)
          (joined (symbols_place p) (entry_at []) (names_place p)
          (zeros_same (symbols_place p) 16 (entry_at []) (omega arith) h.no_symbol g.no_symbol)
          (entries_same [] (listed_symbols p.symbols) refl))

      tables_same : Same (names_place p) (sections_place p)
      tables_same =
          let above = above_4 (section_names_place p + 44) in
          joined (names_place p) (name_place []) (sections_place p)
          (at_places (names_place p) (names_place p + 1) (names_place p) (name_place []) refl (omega arith) (part_same (names_place p) (0 ∷ []) h.no_name g.no_name))
          (joined (name_place []) (section_names_place p) (sections_place p) (names_same [] (listed_symbols p.symbols) refl)
          (joined (section_names_place p) (section_names_place p + 44) (sections_place p)
          (part_same (section_names_place p) written_section_names h.names g.names)
          (zeros_same (section_names_place p + 44) (sections_place p - (section_names_place p + 44)) (sections_place p) (omega (arith, above)) h.before_sections g.before_sections)))

      section_same : (place next name kind flags address offset size link info align entry : ℕ) → place + 40 ≡ next
          → AllStand one place (section_rows name kind flags address offset size link info align entry)
          → AllStand other place (section_rows name kind flags address offset size link info align entry) → Same place next
      section_same place next name kind flags address offset size link info align entry e left right =
          header_same place 40 next (section_rows name kind flags address offset size link info align entry)
          (section_follows name kind flags address offset size link info align entry) e left right

      sections_same : Same (sections_place p) (length one)
      sections_same =
          let s = sections_place p in
          let ends = h.ends in
          joined s (s + 40) (length one) (section_same s (s + 40) _ _ _ _ _ _ _ _ _ _ refl h.sections.none g.sections.none)
          (joined (s + 40) (s + 80) (length one) (section_same (s + 40) (s + 80) _ _ _ _ _ _ _ _ _ _ (omega arith) h.sections.text_section g.sections.text_section)
          (joined (s + 80) (s + 120) (length one) (section_same (s + 80) (s + 120) _ _ _ _ _ _ _ _ _ _ (omega arith) h.sections.data_section g.sections.data_section)
          (joined (s + 120) (s + 160) (length one) (section_same (s + 120) (s + 160) _ _ _ _ _ _ _ _ _ _ (omega arith) h.sections.bss g.sections.bss)
          (joined (s + 160) (s + 200) (length one) (section_same (s + 160) (s + 200) _ _ _ _ _ _ _ _ _ _ (omega arith) h.sections.symtab g.sections.symtab)
          (joined (s + 200) (s + 240) (length one) (section_same (s + 200) (s + 240) _ _ _ _ _ _ _ _ _ _ (omega arith) h.sections.strtab g.sections.strtab)
          (section_same (s + 240) (length one) _ _ _ _ _ _ _ _ _ _ (omega (arith, ends)) h.sections.shstrtab g.sections.shstrtab))))))

      all_same : Same 0 (length one)
      all_same =
          joined 0 4096 (length one) front_same
          (joined 4096 (end_of_data p) (length one) data_same
          (joined (end_of_data p) (names_place p) (length one) symbols_same
          (joined (names_place p) (sections_place p) (length one) tables_same sections_same)))

pub fixed : FieldsFixBytes
fixed p one other one_below other_below h g =
    ext_get_or 0 one other (h.ends ∙ sym g.ends)
    (λ i low. all_same one other (bytes_below one one_below) (bytes_below other other_below) p h g i (omega arith) low)
