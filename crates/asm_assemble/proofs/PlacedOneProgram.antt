-- A program in which the statements are placed is the one that is assembled.
use Rattle.std.proofs.Common.{◌≡◌, ℕ, ◌+◌, ◌-◌, List, [], ◌∷◌, ◌++◌, length, Option, None, Result, Ok, Err, refl, sym, ap, ◌∙◌, arith, subst, append_assoc, append-nil}
use Rattle.std.proofs.lemmas.List.{take_at, drop_at}
use Rattle.std.specs.Prelude.{take, drop}
use Rattle.asm_statement.specs.Answer.{◌>>=◌}
use Rattle.asm_statement.specs.Statement.{StatementValue}
use Rattle.asm_statement.specs.declared.fault.Fault.{Fault}
use Rattle.asm_statement.specs.declared.fault.FaultKind.{FaultKind}
use Rattle.asm_statement.specs.declared.statement.Section.{Section}
use Rattle.asm_statement.specs.declared.statement.Section.TheVariants as sections
use Rattle.asm_assemble.specs.declared.cursor.Cursor.{Cursor}
use Rattle.asm_assemble.specs.Program.{SymbolList, ProgramValue}
use Rattle.asm_assemble.specs.Cursors.{cursor_address, size, stepped_cursor, cursor_after}
use Rattle.asm_assemble.specs.Locals.{Local, local_label_at, local_label_of}
use Rattle.asm_assemble.specs.Placing.{globals_from, placing}
use Rattle.asm_assemble.specs.Valuing.{Images, bytes_in, put_bytes, said_at, valuing, no_bytes}
use Rattle.asm_assemble.specs.Assembled.{start_at, first_cursor, heavy_of, program_entry, program_of_placed, assembled}
use Rattle.asm_assemble.specs.Placed.{Standing, Bases, placed_base, taken, Holds, placed_symbols_in, IsFit, ArePlaced, Placed}
use Rattle.asm_assemble.proofs.PlacedCuts.{laid, stood, Each, each_of}
use Rattle.asm_assemble.proofs.PlacedAddresses.{IsBehind, behind_more, behind_all}
use Rattle.asm_assemble.proofs.PlacedBases.{bases_of, behind_none}
use Rattle.asm_assemble.proofs.PlacedFits.{symbols_laid}
use Rattle.asm_assemble.proofs.PlacedBytes.{AreSized, sized_put}
use Rattle.asm_assemble.proofs.PlacedOneLayout.{IsOneLayout, one_layout}
use Rattle.asm_assemble.proofs.PlacedOneMap.{placing_goes, none_large}
use Rattle.asm_assemble.proofs.PlacedOneValue.{AreFound, found_none, found_behind, body_so}

-- of two ways to cut a list at the same place, both have the same parts
cut_front : {X : Type 0} (xs ys front rest : List X) → xs ++ ys ≡ front ++ rest → length xs ≡ length front → xs ≡ front
cut_front xs ys front rest e n = sym (take_at xs ys (length xs) refl) ∙ (ap (take (length xs)) e ∙ take_at front rest (length xs) (sym n))

cut_back : {X : Type 0} (xs ys front rest : List X) → xs ++ ys ≡ front ++ rest → length xs ≡ length front → ys ≡ rest
cut_back xs ys front rest e n = sym (drop_at xs ys (length xs) refl) ∙ (ap (drop (length xs)) e ∙ drop_at front rest (length xs) (sym n))

-- the program's sections begin with the bytes so far
pub record Leads (images : Images) (p : ProgramValue) : Type 0 where
  pub text_rest : List ℕ
  pub data_rest : List ℕ
  pub text_is : p.text ≡ images.text_bytes ++ text_rest
  pub data_is : p.bytes ≡ images.data_bytes ++ data_rest

-- a statement that has its bytes in the program
pub record IsPut (symbols : SymbolList) (local : Option ℕ) (q : Section) (images : Images) (p : ProgramValue) (s : Standing) : Type 0 where
  pub bytes : List ℕ
  pub was : bytes_in symbols local q s.address s.statement.body ≡ Ok bytes
  pub leads : Leads (put_bytes q images bytes) p

same_offset : (base n m at taken : ℕ) → base + n ≡ at → at ≡ base + taken → m ≡ taken → m ≡ n
same_offset base n m at taken e f g = omega (arith, e, f, g)

pub is_put : (q : Section) (bases : Bases) (p : ProgramValue) (locals : List Local) (done : List Standing) (images : Images) (next : Cursor) (s : Standing) (after : List StatementValue)
    → AreFound locals done → AreSized done images → Leads images p → s.address ≡ placed_base q bases + taken q done → Holds q bases p done s (laid next after)
    → IsPut p.symbols (local_label_of locals next after s.statement.source s.statement.body) q images p s
unfolding bytes_in put_bytes
is_put sections.Text bases p locals done images next s after found sized leads at held =
    let offset : length images.text_bytes ≡ length held.front = same_offset bases.text_base (length held.front) (length images.text_bytes) s.address (taken sections.Text done) held.at_address at sized.text_sized in
    let cut : images.text_bytes ++ leads.text_rest ≡ held.front ++ (held.bytes ++ held.back) = sym leads.text_is ∙ held.cut in
    let rest : leads.text_rest ≡ held.bytes ++ held.back = cut_back images.text_bytes leads.text_rest held.front (held.bytes ++ held.back) cut offset in
    record {
      bytes = held.bytes;
      was = body_so p.symbols locals done next after sections.Text s s.statement.body held.bytes found held.valued;
      leads = record {
        text_rest = held.back;
        data_rest = leads.data_rest;
        text_is = leads.text_is ∙ (ap (λ (r : List ℕ). images.text_bytes ++ r) rest ∙ sym (append_assoc images.text_bytes held.bytes held.back));
        data_is = leads.data_is;
      };
    }
is_put sections.Data bases p locals done images next s after found sized leads at held =
    let offset : length images.data_bytes ≡ length held.front = same_offset bases.data_base (length held.front) (length images.data_bytes) s.address (taken sections.Data done) held.at_address at sized.data_sized in
    let cut : images.data_bytes ++ leads.data_rest ≡ held.front ++ (held.bytes ++ held.back) = sym leads.data_is ∙ held.cut in
    let rest : leads.data_rest ≡ held.bytes ++ held.back = cut_back images.data_bytes leads.data_rest held.front (held.bytes ++ held.back) cut offset in
    record {
      bytes = held.bytes;
      was = body_so p.symbols locals done next after sections.Data s s.statement.body held.bytes found held.valued;
      leads = record {
        text_rest = leads.text_rest;
        data_rest = held.back;
        text_is = leads.text_is;
        data_is = leads.data_is ∙ (ap (λ (r : List ℕ). images.data_bytes ++ r) rest ∙ sym (append_assoc images.data_bytes held.bytes held.back));
      };
    }
is_put sections.Zeros bases p locals done images next s after found sized leads at held = record { bytes = []; was = refl; leads = leads }

-- the program's sections
abbrev sections_of : ProgramValue → Images
sections_of p = record { text_bytes = p.text; data_bytes = p.bytes }

all_there : (images : Images) (p : ProgramValue) (done : List Standing) → AreSized done images → Leads images p → length p.text ≡ taken sections.Text done → length p.bytes ≡ taken sections.Data done
    → images ≡ sections_of p
all_there images p done sized leads text bytes =
    let text_is = cut_front images.text_bytes leads.text_rest p.text [] (sym leads.text_is ∙ sym (append-nil p.text)) (sized.text_sized ∙ sym text) in
    let data_is = cut_front images.data_bytes leads.data_rest p.bytes [] (sym leads.data_is ∙ sym (append-nil p.bytes)) (sized.data_sized ∙ sym bytes) in
    ap (λ (t : List ℕ). record { text_bytes = t; data_bytes = images.data_bytes }) text_is ∙ ap (λ (d : List ℕ). record { text_bytes = p.text; data_bytes = d }) data_is

abbrev goods : List ℕ → Result (List ℕ) FaultKind
goods bytes = Ok bytes

said_so : (s : StatementValue) (r : Result (List ℕ) FaultKind) (bytes : List ℕ) (next : List ℕ → Result Images Fault) → r ≡ goods bytes → (said_at s r >>= next) ≡ next bytes
unfolding said_at
said_so s r bytes next e = ap (λ r. said_at s r >>= next) e

-- the phase goes well
valuing_goes : (bases : Bases) (p : ProgramValue) (locals : List Local) (done : List Standing) (images : Images) (c : Cursor) (ss : List StatementValue)
    → AreFound locals done → AreSized done images → IsBehind bases done c → Leads images p
    → length p.text ≡ taken sections.Text (done ++ laid c ss) → length p.bytes ≡ taken sections.Data (done ++ laid c ss)
    → Each (λ before s after. Holds s.section bases p before s after) done (laid c ss)
    → valuing p.symbols locals images c ss ≡ Ok (sections_of p)
unfolding laid Each valuing cursor_address
valuing_goes bases p locals done images c [] found sized behind leads text bytes h =
    ap Ok (all_there images p done sized leads (subst (λ d. length p.text ≡ taken sections.Text d) (append-nil done) text) (subst (λ d. length p.bytes ≡ taken sections.Data d) (append-nil done) bytes))
valuing_goes bases p locals done images c (s ∷ ss) found sized behind leads text bytes h =
    let next = stepped_cursor c s.body in
    let local = local_label_of locals next ss s.source s.body in
    let labels = local_label_at s.source (cursor_address c) s.body ++ locals in
    let stepped_cursor = is_put c.section bases p locals done images next (stood c s) ss found sized leads (behind.at_end c.section) h.0 in
    said_so s (bytes_in p.symbols local c.section (cursor_address c) s.body) stepped_cursor.bytes (λ bytes. valuing p.symbols labels (put_bytes c.section images bytes) next ss) stepped_cursor.was
    ∙ valuing_goes bases p labels (done ++ stood c s ∷ []) (put_bytes c.section images stepped_cursor.bytes) next ss
    (found_behind locals done c s found) (sized_put p.symbols local c.section done images (stood c s) stepped_cursor.bytes refl sized stepped_cursor.was) (behind_more bases done c s behind) stepped_cursor.leads
    (subst (λ d. length p.text ≡ taken sections.Text d) (sym (append_assoc done (stood c s ∷ []) (laid next ss))) text)
    (subst (λ d. length p.bytes ≡ taken sections.Data d) (sym (append_assoc done (stood c s ∷ []) (laid next ss))) bytes)
    h.1

abbrev program_good : ProgramValue → Result ProgramValue Fault
program_good p = Ok p

behind_base : (base n size : ℕ) → n ≡ base + size → n - base ≡ size
behind_base base n size e = omega (arith, e)

abbrev placed_as : SymbolList → Result SymbolList Fault
placed_as symbols = Ok symbols

abbrev valued_as : Images → Result Images Fault
valued_as images = Ok images

-- the phases succeed for placed statements
phases_go : (ss : List StatementValue) (p : ProgramValue) → ArePlaced ss p (laid (first_cursor ss) ss) (bases_of ss) → assembled ss ≡ Ok p
unfolding assembled program_of_placed program_entry placed_symbols_in first_cursor start_at
phases_go ss p h =
    let start = first_cursor ss in
    let end = cursor_after start ss in
    let all = laid start ss in
    let bases = bases_of ss in
    let zeros = end.zeros_at - start.zeros_at in
    let behind : IsBehind bases all end = behind_all bases [] start ss (behind_none ss) in
    let empty : AreSized [] no_bytes = record { text_sized = refl; data_sized = refl } in
    let leads : Leads no_bytes p = record { text_rest = p.text; data_rest = p.bytes; text_is = refl; data_is = refl } in
    let none : heavy_of start end ss ≡ None = none_large ss p h.within behind h.text_size h.data_size h.zeros_size in
    let map_is : placing (globals_from [] ss) [] None 0 start ss ≡ placed_as p.symbols =
    placing_goes start ss p.symbols 0 [] start ss (each_of (λ before s after. IsFit p.symbols (placed_symbols_in all before) s.address s.statement.body) all [] all h.fits refl)
    ∙ ap placed_as (symbols_laid start ss start ss ∙ sym h.symbols) in
    let placed : placing (globals_from [] ss) [] (heavy_of start end ss) 0 start ss ≡ placed_as p.symbols =
    ap (λ heavy. placing (globals_from [] ss) [] heavy 0 start ss) none ∙ map_is in
    let valued : valuing p.symbols [] no_bytes start ss ≡ valued_as (sections_of p) =
    valuing_goes bases p [] [] no_bytes start ss found_none empty (behind_none ss) leads h.text_size h.data_size
    (each_of (λ before s after. Holds s.section bases p before s after) all [] all h.holds refl) in
    let zeros_are : zeros ≡ p.zeros = behind_base start.zeros_at end.zeros_at p.zeros (behind.at_end sections.Zeros ∙ ap (λ n. start.zeros_at + n) (sym h.zeros_size)) in
    ap (λ r. r >>= λ symbols. valuing symbols [] no_bytes start ss >>= λ images. program_good (program_of_placed images zeros symbols)) placed
    ∙ (ap (λ r. r >>= λ images. program_good (program_of_placed images zeros p.symbols)) valued
    ∙ (ap (λ (n : ℕ). program_good (record { text = p.text; bytes = p.bytes; zeros = n; symbols = p.symbols; entry = program_entry p.symbols })) zeros_are
    ∙ ap (λ (n : ℕ). program_good (record { text = p.text; bytes = p.bytes; zeros = p.zeros; symbols = p.symbols; entry = n })) (sym h.entry)))

pub placed_is_assembled : (ss : List StatementValue) (p : ProgramValue) → Placed ss p → assembled ss ≡ Ok p
placed_is_assembled ss p h =
    let one : IsOneLayout ss h.all h.bases = one_layout ss h.all h.bases h.placed.standing in
    phases_go ss p (subst (ArePlaced ss p (laid (first_cursor ss) ss)) one.sections_begin (subst (λ all. ArePlaced ss p all h.bases) one.places h.placed))

pub one_program : (ss : List StatementValue) (p q : ProgramValue) → Placed ss p → Placed ss q → p ≡ q
one_program ss p q h k = good_is p q (sym (placed_is_assembled ss p h) ∙ placed_is_assembled ss q k)
  where
    good_is : (p q : ProgramValue) → program_good p ≡ program_good q → p ≡ q
    good_is p q e = cc

pub faulty_is_unplaced : (ss : List StatementValue) (fault : Fault) (p : ProgramValue) → assembled ss ≡ Err fault → Placed ss p → ⊥
faulty_is_unplaced ss fault p e h = differ p fault (sym (placed_is_assembled ss p h) ∙ e)
  where
    differ : (p : ProgramValue) (fault : Fault) → program_good p ≡ Err fault → ⊥
    differ p fault e = absurd cc
