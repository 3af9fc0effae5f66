-- What is read of a file is what its sections and its names give.
use Rattle.std.proofs.Common.{◌≡◌, ℕ, zero, suc, ◌+◌, ◌*◌, ◌%◌, ◌<◌, ◌≤◌, ◌⊎◌, inl, inr, Bool, true, false, cond, List, [], ◌∷◌, ◌++◌, length, drop, map, Option, Some, None, Ok, Err, refl, sym, ap, subst, ◌∙◌, arith, append_assoc, append-nil, ⊎_elim, ltb-true, ltb-false, le-ltb, eqb-true, eq-eqb, true≢false}
use Rattle.std.specs.Prelude.{not, ◌||◌, ◌==◌, ◌↔◌, nat_lt, filter}
use Rattle.std.specs.List.{find, slice_get}
use Rattle.std.proofs.lemmas.Bool.{cases_lt, eqb-false}
use Rattle.elf_read.specs.Name.{name_in}
use Rattle.elf_read.specs.Number.{word_at, half_at}
use Rattle.elf_read.specs.Section.{section_at, sections_from, section_bytes, is_symbol_table, ends_behind_file}
use Rattle.elf_read.specs.Symbol.{SymbolValue}
use Rattle.elf_read.specs.SymbolFields.{read_symbol}
use Rattle.elf_read.specs.SymbolTable.{Symbols, refused_if, added, with_name, symbols_from, is_bad_table, symbols_named, symbols_of_table, symbols_in, are_bad_sections, symbols_of}
use Rattle.elf_read.specs.declared.section.SectionHeader.{SectionHeader}
use Rattle.elf_read.specs.declared.symbol.SymFault.TheVariants as faults
use Rattle.elf_laws.specs.Listed.{headers_at, section_count, section_header, HasHeaders, AreInFile, IsFirstTable, HasTable, IsTable, symbol_count, symbol_name, AllHaveNames, is_some_name, text_of_name, table_symbol, indices_from, named_symbols, GivesSymbols, HasNoTable, HasBadTable, Short, BadHeaders, BadSection, BadName}

-- ---- sections one behind the other
abbrev kind_at : List ℕ → ℕ → ℕ
kind_at bytes place = (section_at bytes place).kind

first_place : (place : ℕ) → place + 40 * 0 ≡ place
first_place place = omega arith

next_place : (place k : ℕ) → place + 40 + 40 * k ≡ place + 40 * suc k
next_place place k = omega arith

-- none of the sections before one has type 2
abbrev NoTableBefore : List ℕ → ℕ → ℕ → Type 0
NoTableBefore bytes place n = (k : ℕ) → k < n → (section_at bytes (place + 40 * k)).kind ≡ 2 → ⊥

-- the first section of type 2 among so many
abbrev FoundTable : List ℕ → ℕ → ℕ → Option SectionHeader → Type 0
FoundTable bytes place n None = NoTableBefore bytes place n
FoundTable bytes place n (Some table) =
    (t : ℕ) × (t < n) × (table ≡ section_at bytes (place + 40 * t)) × ((section_at bytes (place + 40 * t)).kind ≡ 2)
    × NoTableBefore bytes place t

module _ (bytes : List ℕ) (place n : ℕ) (no_table : (section_at bytes place).kind ≡ 2 → ⊥) where
  none_behind : (m : ℕ) → NoTableBefore bytes (place + 40) m → NoTableBefore bytes place (suc m)
  none_behind m later zero low is = no_table (ap (kind_at bytes) (sym (first_place place)) ∙ is)
  none_behind m later (suc k) low is = later k (omega (arith, low)) (ap (kind_at bytes) (next_place place k) ∙ is)

  found_behind : (o : Option SectionHeader) → FoundTable bytes (place + 40) n o → FoundTable bytes place (suc n) o
  found_behind None later = none_behind n later
  found_behind (Some table) later = (
    suc later.0,
    (let low = later.1 in omega (arith, low)),
    later.2 ∙ ap (section_at bytes) (next_place place later.0),
    ap (kind_at bytes) (sym (next_place place later.0)) ∙ later.3,
    none_behind later.0 later.4,
  )

found : (bytes : List ℕ) (place n : ℕ) → FoundTable bytes place n (find is_symbol_table (sections_from bytes place n))
unfolding sections_from
found bytes place zero = λ k low is. absurd (omega (arith, low))
found bytes place (suc n) = by ((section_at bytes place).kind == 2) refl (found bytes (place + 40) n)
  where
    by : (b : Bool) → ((section_at bytes place).kind == 2) ≡ b
        → FoundTable bytes (place + 40) n (find is_symbol_table (sections_from bytes (place + 40) n))
        → FoundTable bytes place (suc n) (cond b (Some (section_at bytes place)) (find is_symbol_table (sections_from bytes (place + 40) n)))
    by true is later = (
      0,
      omega arith,
      ap (section_at bytes) (sym (first_place place)),
      ap (kind_at bytes) (first_place place) ∙ eqb-true _ 2 is,
      λ k low kind. absurd (omega (arith, low)),
    )
    by false isnt later = found_behind bytes place n (eqb-false _ 2 isnt) (find is_symbol_table (sections_from bytes (place + 40) n)) later

-- the section with an index, if there are so many
abbrev GotSection : List ℕ → ℕ → ℕ → ℕ → Option SectionHeader → Type 0
GotSection bytes place n i None = n ≤ i
GotSection bytes place n i (Some s) = (i < n) × (s ≡ section_at bytes (place + 40 * i))

got : (bytes : List ℕ) (place n i : ℕ) → GotSection bytes place n i (slice_get (sections_from bytes place n) i)
unfolding sections_from
got bytes place zero i = omega arith
got bytes place (suc n) zero = (omega arith, ap (section_at bytes) (sym (first_place place)))
got bytes place (suc n) (suc i) = by (slice_get (sections_from bytes (place + 40) n) i) (got bytes (place + 40) n i)
  where
    by : (o : Option SectionHeader) → GotSection bytes (place + 40) n i o → GotSection bytes place (suc n) (suc i) o
    by None late = omega (arith, late)
    by (Some s) there = let low = there.0 in (omega (arith, low), there.1 ∙ ap (section_at bytes) (next_place place i))

-- ---- symbols one behind the other
no_name : (name : List ℕ) → ◌≡◌ {A = Option (List ℕ)} (Some name) None → ⊥
no_name name e = absurd (cc)

module _ (bytes : List ℕ) (table : SectionHeader) where
  abbrev names : List ℕ
  names = section_bytes bytes (section_header bytes table.link)

  abbrev place_of : ℕ → ℕ
  place_of i = table.offset + 16 * i

  abbrev has_name : ℕ → Bool
  has_name i = is_some_name (symbol_name bytes table i)

  abbrev SymbolsTold : List SymbolValue → ℕ → ℕ → Symbols → Type 0
  SymbolsTold done i n (Ok symbols) =
      ((j : ℕ) → i ≤ j → j < i + n → symbol_name bytes table j ≡ None → ⊥)
      × (symbols ≡ done ++ map (table_symbol bytes table) (filter has_name (indices_from i n)))
  SymbolsTold done i n (Err fault) =
      (fault ≡ faults.BadTable) × ((j : ℕ) × (i ≤ j) × (j < i + n) × (symbol_name bytes table j ≡ None))

  module _ (done : List SymbolValue) (i n : ℕ) where
    abbrev of_name : List ℕ → SymbolValue
    of_name = read_symbol bytes (place_of i)

    -- a symbol with a name, which may be empty, before others
    list_more : (name : List ℕ) → symbol_name bytes table i ≡ Some name
        → added done name of_name ++ map (table_symbol bytes table) (filter has_name (indices_from (i + 1) n))
        ≡ done ++ map (table_symbol bytes table) (filter has_name (indices_from i (suc n)))
    unfolding read_symbol
    list_more [] is =
        let later = filter has_name (indices_from (i + 1) n) in
        sym (ap (λ o. done ++ map (table_symbol bytes table) (cond (is_some_name o) (i ∷ later) later)) is)
    list_more (b ∷ bs) is =
        let later = filter has_name (indices_from (i + 1) n) in
        let here : SymbolValue = of_name (b ∷ bs) in
        append_assoc done (here ∷ []) (map (table_symbol bytes table) later)
        ∙ sym (ap (λ o. done ++ of_name (text_of_name o) ∷ map (table_symbol bytes table) later) is)
        ∙ sym (ap (λ o. done ++ map (table_symbol bytes table) (cond (is_some_name o) (i ∷ later) later)) is)

    all_named_more : (name : List ℕ) → symbol_name bytes table i ≡ Some name
        → ((j : ℕ) → i + 1 ≤ j → j < i + 1 + n → symbol_name bytes table j ≡ None → ⊥)
        → (j : ℕ) → i ≤ j → j < i + suc n → symbol_name bytes table j ≡ None → ⊥
    all_named_more name is later j low high none = ⊎_elim behind here (cases_lt i j)
      where
        behind : i < j → ⊥
        behind lt = later j (omega (arith, lt)) (omega (arith, high)) none

        here : j ≤ i → ⊥
        here le =
            let same : i ≡ j = omega (arith, low, le) in
            no_name name (sym is ∙ ap (symbol_name bytes table) same ∙ none)

    one_more : (name : List ℕ) → symbol_name bytes table i ≡ Some name → (r : Symbols)
        → SymbolsTold (added done name of_name) (i + 1) n r → SymbolsTold done i (suc n) r
    one_more name is (Ok symbols) told = (all_named_more name is told.0, told.1 ∙ list_more name is)
    one_more name is (Err fault) told =
        let j = told.1.0 in
        let low = told.1.1 in
        let high = told.1.2 in
        (told.0, (j, omega (arith, low), omega (arith, high), told.1.3))

    step : symbols_from names bytes done (place_of i) (suc n)
        ≡ with_name (symbol_name bytes table i) (λ name. symbols_from names bytes (added done name of_name) (place_of (i + 1)) n)
    unfolding symbols_from
    step =
        let here : place_of i + 0 ≡ place_of i = omega arith in
        let next : place_of i + 16 ≡ place_of (i + 1) = omega arith in
        ap (λ k. with_name (name_in (drop (word_at bytes k) names)) (λ name. symbols_from names bytes (added done name of_name) (place_of i + 16) n)) here
        ∙ ap (λ k. with_name (symbol_name bytes table i) (λ name. symbols_from names bytes (added done name of_name) k n)) next

  symbols_told : (n i : ℕ) (done : List SymbolValue) → SymbolsTold done i n (symbols_from names bytes done (place_of i) n)
  unfolding symbols_from
  symbols_told zero i done = (λ j low high none. absurd (omega (arith, low, high)), sym (append-nil done))
  symbols_told (suc n) i done =
      subst (SymbolsTold done i (suc n)) (sym (step done i n))
      (by (symbol_name bytes table i) refl (λ name. symbols_told n (i + 1) (added done name (read_symbol bytes (place_of i)))))
    where
      by : (o : Option (List ℕ)) → symbol_name bytes table i ≡ o
          → ((name : List ℕ) → SymbolsTold (added done name (read_symbol bytes (place_of i))) (i + 1) n
          (symbols_from names bytes (added done name (read_symbol bytes (place_of i))) (place_of (i + 1)) n))
          → SymbolsTold done i (suc n) (with_name o (λ name. symbols_from names bytes (added done name (read_symbol bytes (place_of i))) (place_of (i + 1)) n))
      by None is later = (refl, (i, omega arith, omega arith, is))
      by (Some name) is later = one_more done i n name is _ (later name)

-- ---- tests
not_false : (b : Bool) → not b ≡ false → b ≡ true
not_false true e = refl
not_false false e = sym e

two_false : (a b : Bool) → (a || b) ≡ false → (a ≡ false) × (b ≡ false)
two_false true b e = absurd (true≢false e)
two_false false b e = (refl, e)

two_true : (a b : Bool) → (a || b) ≡ true → (a ≡ true) ⊎ (b ≡ true)
two_true true b e = inl refl
two_true false b e = inr e

three_false : (a b c : Bool) → (a || b || c) ≡ false → (a ≡ false) × (b ≡ false) × (c ≡ false)
three_false true b c e = absurd (true≢false e)
three_false false true c e = absurd (true≢false e)
three_false false false true e = absurd (true≢false e)
three_false false false false e = (refl, refl, refl)

some_number : (n : ℕ) → (n == 0) ≡ false → 0 < n
some_number zero e = absurd (eqb-false 0 0 e refl)
some_number (suc n) e = omega arith

table_passes : (bytes : List ℕ) (table : SectionHeader) → IsTable bytes table → is_bad_table (length bytes) table ≡ false
table_passes bytes table h =
    rw (eq-eqb table.entry_size 16 h.sized, eq-eqb (table.size % 16) 0 h.whole, le-ltb (length bytes) (table.offset + table.size) h.within) refl

names_pass : (bytes : List ℕ) (table : SectionHeader) → IsTable bytes table
    → not ((section_header bytes table.link).kind == 3) || ends_behind_file (length bytes) (section_header bytes table.link) ≡ false
names_pass bytes table h =
    let names = section_header bytes table.link in
    rw (eq-eqb names.kind 3 h.strings, le-ltb (length bytes) (names.offset + names.size) h.names_within) refl

headers_pass : (bytes : List ℕ) → AreInFile bytes → are_bad_sections bytes ≡ false
headers_pass bytes h = rw (eq-eqb (half_at bytes 46) 40 h.sized, le-ltb (length bytes) (word_at bytes 32 + 40 * half_at bytes 48) h.within) refl

-- ---- the whole
abbrev Meaning : List ℕ → Symbols → Type 0
Meaning bytes (Ok symbols) = GivesSymbols bytes symbols
Meaning bytes (Err faults.NoTable) = HasNoTable bytes
Meaning bytes (Err faults.BadTable) = HasBadTable bytes
Meaning bytes (Err faults.Memory) = ⊥

module _ (bytes : List ℕ) where
  bad_if : (b : Bool) (later : Symbols) → (b ≡ true → HasBadTable bytes) → (b ≡ false → Meaning bytes later) → Meaning bytes (refused_if b faults.BadTable later)
  bad_if true later holds fails = holds refl
  bad_if false later holds fails = fails refl

  none_if : (b : Bool) (later : Symbols) → (b ≡ true → HasNoTable bytes) → (b ≡ false → Meaning bytes later) → Meaning bytes (refused_if b faults.NoTable later)
  none_if true later holds fails = holds refl
  none_if false later holds fails = fails refl

  module _ (t : ℕ) (has : HasTable bytes t) where
    abbrev table : SectionHeader
    table = section_header bytes t

    abbrev table_names : SectionHeader
    table_names = section_header bytes table.link

    given : (r : Symbols) → IsTable bytes table → SymbolsTold bytes table [] 0 (symbol_count table) r → Meaning bytes r
    given (Ok symbols) is told = record {
      index = t;
      table = has;
      sound = is;
      names = λ i low none. told.0 i (omega arith) (omega (arith, low)) none;
      given = told.1;
    }
    given (Err fault) is told =
        let below = told.1.2 in
        subst (λ f. Meaning bytes (Err f)) (sym told.0) (BadName t told.1.0 has is (omega (arith, below)) told.1.3)

    by_names : (o : Option SectionHeader) → GotSection bytes (headers_at bytes) (section_count bytes) table.link o
        → is_bad_table (length bytes) table ≡ false → Meaning bytes (symbols_named bytes table o)
    by_names None late good = BadSection t has (λ is. let low = is.linked in omega (arith, low, late))
    by_names (Some s) there good =
        subst (λ s. Meaning bytes (symbols_named bytes table (Some s))) (sym there.1)
        (bad_if (not (table_names.kind == 3) || ends_behind_file (length bytes) table_names)
        (symbols_from (section_bytes bytes table_names) bytes [] table.offset (symbol_count table))
        (λ bad. BadSection t has (λ is. true≢false (sym bad ∙ names_pass bytes table is)))
        (λ fine.
        let tests = three_false (not (table.entry_size == 16)) (not (table.size % 16 == 0)) (ends_behind_file (length bytes) table) good in
        let more = two_false (not (table_names.kind == 3)) (ends_behind_file (length bytes) table_names) fine in
        let is : IsTable bytes table = record {
          sized = eqb-true _ 16 (not_false _ tests.0);
          whole = eqb-true _ 0 (not_false _ tests.1);
          within = ltb-false (length bytes) (table.offset + table.size) tests.2;
          linked = there.0;
          strings = eqb-true _ 3 (not_false _ more.0);
          names_within = ltb-false (length bytes) (table_names.offset + table_names.size) more.1;
        } in
        let here : table.offset + 16 * 0 ≡ table.offset = omega arith in
        given _ is (subst (λ k. SymbolsTold bytes table [] 0 (symbol_count table) (symbols_from (section_bytes bytes table_names) bytes [] k (symbol_count table))) here
        (symbols_told bytes table (symbol_count table) 0 []))))

  of_table : HasHeaders bytes → AreInFile bytes → (o : Option SectionHeader) → FoundTable bytes (headers_at bytes) (section_count bytes) o
      → Meaning bytes (symbols_of_table bytes (sections_from bytes (headers_at bytes) (section_count bytes)) o)
  of_table headers in_file None none = (headers.whole, inr (inr (headers, in_file, none)))
  of_table headers in_file (Some s) found =
      let t = found.0 in
      let has : HasTable bytes t = record {
        headers = headers;
        in_file = in_file;
        first = record { within = found.1; is = found.3; first = found.4 };
      } in
      let table : SectionHeader = section_header bytes t in
      let sections = sections_from bytes (headers_at bytes) (section_count bytes) in
      subst (λ s. Meaning bytes (symbols_of_table bytes sections (Some s))) (sym found.2)
      (bad_if (is_bad_table (length bytes) table) (symbols_named bytes table (slice_get sections table.link))
      (λ bad. BadSection t has (λ is. true≢false (sym bad ∙ table_passes bytes table is)))
      (by_names t has (slice_get sections table.link) (got bytes (headers_at bytes) (section_count bytes) table.link)))

  meaning : Meaning bytes (symbols_of bytes)
  unfolding symbols_of symbols_in
  meaning =
      let sections = sections_from bytes (word_at bytes 32) (half_at bytes 48) in
      let in_sections = symbols_in bytes sections in
      let headers_checked = refused_if (are_bad_sections bytes) faults.BadTable in_sections in
      bad_if (nat_lt (length bytes) 52) (refused_if (word_at bytes 32 == 0 || half_at bytes 48 == 0) faults.NoTable headers_checked)
      (λ short. Short (ltb-true (length bytes) 52 short))
      (λ long.
      let whole : 52 ≤ length bytes = ltb-false (length bytes) 52 long in
      none_if (word_at bytes 32 == 0 || half_at bytes 48 == 0) headers_checked
      (λ none. (whole, no_headers (two_true (word_at bytes 32 == 0) (half_at bytes 48 == 0) none)))
      (λ some.
      let both = two_false (word_at bytes 32 == 0) (half_at bytes 48 == 0) some in
      let headers : HasHeaders bytes = record { whole = whole; placed = some_number (word_at bytes 32) both.0; some = some_number (half_at bytes 48) both.1 } in
      bad_if (are_bad_sections bytes) in_sections
      (λ bad. BadHeaders headers (λ in_file. true≢false (sym bad ∙ headers_pass bytes in_file)))
      (λ good.
      let tests = two_false (not (half_at bytes 46 == 40)) (nat_lt (length bytes) (word_at bytes 32 + 40 * half_at bytes 48)) good in
      let in_file : AreInFile bytes = record {
        sized = eqb-true _ 40 (not_false _ tests.0);
        within = ltb-false (length bytes) (word_at bytes 32 + 40 * half_at bytes 48) tests.1;
      } in
      of_table headers in_file (find is_symbol_table sections) (found bytes (word_at bytes 32) (half_at bytes 48)))))
    where
      no_headers : ((word_at bytes 32 == 0) ≡ true) ⊎ ((half_at bytes 48 == 0) ≡ true)
          → (headers_at bytes ≡ 0) ⊎ (section_count bytes ≡ 0)
          ⊎ (HasHeaders bytes × AreInFile bytes × ((k : ℕ) → k < section_count bytes → (section_header bytes k).kind ≡ 2 → ⊥))
      no_headers (inl e) = inl (eqb-true _ 0 e)
      no_headers (inr e) = inr (inl (eqb-true _ 0 e))

-- ---- no file gives two answers
first_one : (bytes : List ℕ) (t u : ℕ) → IsFirstTable bytes t → IsFirstTable bytes u → t ≡ u
first_one bytes t u h g = ⊎_elim below above (cases_lt t u)
  where
    below : t < u → t ≡ u
    below lt = absurd (g.first t lt h.is)

    above : u ≤ t → t ≡ u
    above le = ⊎_elim (λ lt. absurd (h.first u lt g.is)) (λ ge. omega (arith, le, ge)) (cases_lt u t)

given_once : (bytes : List ℕ) (symbols others : List SymbolValue) → GivesSymbols bytes symbols → GivesSymbols bytes others → symbols ≡ others
given_once bytes symbols others h g =
    h.given ∙ ap (λ t. named_symbols bytes (section_header bytes t)) (first_one bytes h.index g.index h.table.first g.table.first) ∙ sym g.given

-- a file without a table has no first one
abbrev WhyNone : List ℕ → Type 0
WhyNone bytes =
    (headers_at bytes ≡ 0) ⊎ (section_count bytes ≡ 0)
    ⊎ (HasHeaders bytes × AreInFile bytes × ((k : ℕ) → k < section_count bytes → (section_header bytes k).kind ≡ 2 → ⊥))

none_of : (bytes : List ℕ) (t : ℕ) → HasTable bytes t → WhyNone bytes → ⊥
none_of bytes t has (inl is_zero) = let placed = has.headers.placed in omega (arith, placed, is_zero)
none_of bytes t has (inr (inl is_zero)) = let some = has.headers.some in omega (arith, some, is_zero)
none_of bytes t has (inr (inr none)) = none.2 t has.first.within has.first.is

none_so : (bytes : List ℕ) → HasHeaders bytes → (AreInFile bytes → ⊥) → WhyNone bytes → ⊥
none_so bytes headers bad (inl is_zero) = let placed = headers.placed in omega (arith, placed, is_zero)
none_so bytes headers bad (inr (inl is_zero)) = let some = headers.some in omega (arith, some, is_zero)
none_so bytes headers bad (inr (inr none)) = bad none.1

given_not_bad : (bytes : List ℕ) (symbols : List SymbolValue) → GivesSymbols bytes symbols → HasBadTable bytes → ⊥
given_not_bad bytes symbols h (Short low) = let whole = h.table.headers.whole in omega (arith, whole, low)
given_not_bad bytes symbols h (BadHeaders headers bad) = bad h.table.in_file
given_not_bad bytes symbols h (BadSection t has bad) =
    bad (subst (λ u. IsTable bytes (section_header bytes u)) (first_one bytes h.index t h.table.first has.first) h.sound)
given_not_bad bytes symbols h (BadName t i has is low none) =
    let same : t ≡ h.index = first_one bytes t h.index has.first h.table.first in
    h.names i (subst (λ u. i < symbol_count (section_header bytes u)) same low)
    (subst (λ u. symbol_name bytes (section_header bytes u) i ≡ None) same none)

none_not_bad : (bytes : List ℕ) → HasNoTable bytes → HasBadTable bytes → ⊥
none_not_bad bytes h (Short low) = let whole = h.0 in omega (arith, whole, low)
none_not_bad bytes h (BadHeaders headers bad) = none_so bytes headers bad h.1
none_not_bad bytes h (BadSection t has bad) = none_of bytes t has h.1
none_not_bad bytes h (BadName t i has is low none) = none_of bytes t has h.1

abbrev answer : List SymbolValue → Symbols
answer symbols = Ok symbols

pub given_iff : (bytes : List ℕ) (symbols : List SymbolValue) → (symbols_of bytes ≡ Ok symbols) ↔ GivesSymbols bytes symbols
given_iff bytes symbols = (λ e. subst (Meaning bytes) e (meaning bytes), back (symbols_of bytes) (meaning bytes))
  where
    back : (r : Symbols) → Meaning bytes r → GivesSymbols bytes symbols → r ≡ Ok symbols
    back (Ok others) m h = ap answer (given_once bytes others symbols m h)
    back (Err faults.NoTable) m h = absurd (none_of bytes h.index h.table m.1)
    back (Err faults.BadTable) m h = absurd (given_not_bad bytes symbols h m)
    back (Err faults.Memory) m h = absurd m

pub none_iff : (bytes : List ℕ) → (symbols_of bytes ≡ Err faults.NoTable) ↔ HasNoTable bytes
none_iff bytes = (λ e. subst (Meaning bytes) e (meaning bytes), back (symbols_of bytes) (meaning bytes))
  where
    back : (r : Symbols) → Meaning bytes r → HasNoTable bytes → r ≡ Err faults.NoTable
    back (Ok symbols) m h = absurd (none_of bytes m.index m.table h.1)
    back (Err faults.NoTable) m h = refl
    back (Err faults.BadTable) m h = absurd (none_not_bad bytes h m)
    back (Err faults.Memory) m h = absurd m

pub bad_iff : (bytes : List ℕ) → (symbols_of bytes ≡ Err faults.BadTable) ↔ HasBadTable bytes
bad_iff bytes = (λ e. subst (Meaning bytes) e (meaning bytes), back (symbols_of bytes) (meaning bytes))
  where
    back : (r : Symbols) → Meaning bytes r → HasBadTable bytes → r ≡ Err faults.BadTable
    back (Ok symbols) m h = absurd (given_not_bad bytes symbols m h)
    back (Err faults.NoTable) m h = absurd (none_not_bad bytes m h)
    back (Err faults.BadTable) m h = refl
    back (Err faults.Memory) m h = absurd m
