-- Placed statements are at the cursors' places.
use Rattle.std.proofs.Common.{◌≡◌, ℕ, ◌+◌, ◌*◌, ◌≤◌, ◌<◌, List, [], ◌∷◌, ◌++◌, refl, sym, ap, ◌∙◌, arith, subst}
use Rattle.std.specs.Prelude.{map}
use Rattle.asm_statement.specs.Statement.{StatementValue}
use Rattle.asm_statement.specs.declared.statement.Section.{Section}
use Rattle.asm_statement.specs.declared.statement.Section.TheVariants as sections
use Rattle.asm_assemble.specs.declared.cursor.Cursor.{Cursor}
use Rattle.asm_assemble.specs.Program.{text_start}
use Rattle.asm_assemble.specs.Cursors.{cursor_address, address_in, stepped_cursor, cursor_after}
use Rattle.asm_assemble.specs.Assembled.{start_at, data_base, zeros_base, first_cursor}
use Rattle.asm_assemble.specs.Placed.{Standing, Bases, placed_base, placed_section_behind, taken, IsNextMultiple, StandsThere, AreStanding}
use Rattle.asm_assemble.proofs.PlacedCuts.{laid, stood, Each, each_of}
use Rattle.asm_assemble.proofs.PlacedAddresses.{IsBehind, behind_more, behind_all}
use Rattle.asm_assemble.proofs.PlacedBases.{bases_of, same_end, next_page, next_word}

-- a statement at the cursor's place
stands_so : (bases : Bases) (done : List Standing) (c : Cursor) (s : Standing) → IsBehind bases done c → StandsThere bases done s → s ≡ stood c s.statement
unfolding cursor_address
stands_so bases done c s h there =
    let in_section : s.section ≡ c.section = there.in_section ∙ sym h.in_section in
    let at_address : s.address ≡ address_in c.section c = there.at_address ∙ (sym (h.at_end s.section) ∙ ap (λ q. address_in q c) in_section) in
    ap (λ (q : Section). record { statement = s.statement; section = q; address = s.address }) in_section
    ∙ ap (λ (at : ℕ). record { statement = s.statement; section = c.section; address = at }) at_address

laid_so : (bases : Bases) (done : List Standing) (c : Cursor) (all : List Standing) → IsBehind bases done c → Each (λ before s after. StandsThere bases before s) done all
    → all ≡ laid c (map (λ (s : Standing). s.statement) all)
unfolding laid Each
laid_so bases done c [] h each = refl
laid_so bases done c (s ∷ all) h each =
    let next = stepped_cursor c s.statement.body in
    let same : s ≡ stood c s.statement = stands_so bases done c s h each.0 in
    let behind : IsBehind bases (done ++ s ∷ []) next = subst (λ x. IsBehind bases (done ++ x ∷ []) next) (sym same) (behind_more bases done c s.statement h) in
    ap (λ (x : Standing). x ∷ all) same
    ∙ ap (λ (rest : List Standing). stood c s.statement ∷ rest) (laid_so bases (done ++ s ∷ []) next all behind each.1)

one_page : (at x y : ℕ) → IsNextMultiple 4096 at x → IsNextMultiple 4096 at y → x ≡ y
one_page at x y h k = by h.times k.times h.multiple k.multiple h.not_below h.least k.not_below k.least
  where
    by : (n m : ℕ) → x ≡ n * 4096 → y ≡ m * 4096 → at ≤ x → x < at + 4096 → at ≤ y → y < at + 4096 → x ≡ y
    by n m a b c d e f = omega (arith, a, b, c, d, e, f)

one_word : (at x y : ℕ) → IsNextMultiple 4 at x → IsNextMultiple 4 at y → x ≡ y
one_word at x y h k = by h.times k.times h.multiple k.multiple h.not_below h.least k.not_below k.least
  where
    by : (n m : ℕ) → x ≡ n * 4 → y ≡ m * 4 → at ≤ x → x < at + 4 → at ≤ y → y < at + 4 → x ≡ y
    by n m a b c d e f = omega (arith, a, b, c, d, e, f)

-- the cursor at which placed statements begin
begins_behind : (bases : Bases) (ss : List StatementValue) → bases.text_base ≡ text_start → IsBehind bases [] (start_at bases.data_base bases.zeros_base)
unfolding start_at placed_section_behind
begins_behind bases ss e = record { in_section = refl; at_end = λ t. by t }
  where
    none : (n : ℕ) → n ≡ n + 0
    none n = omega arith

    by : (t : Section) → address_in t (start_at bases.data_base bases.zeros_base) ≡ placed_base t bases + 0
    by sections.Text = sym e ∙ none bases.text_base
    by sections.Data = none bases.data_base
    by sections.Zeros = none bases.zeros_base

-- the only places and bases
pub record IsOneLayout (ss : List StatementValue) (all : List Standing) (bases : Bases) : Type 0 where
  pub places : all ≡ laid (first_cursor ss) ss
  pub sections_begin : bases ≡ bases_of ss

pub one_layout : (ss : List StatementValue) (all : List Standing) (bases : Bases) → AreStanding ss all bases → IsOneLayout ss all bases
unfolding start_at data_base zeros_base first_cursor
one_layout ss all bases h =
    let start = start_at bases.data_base bases.zeros_base in
    let begins : IsBehind bases [] start = begins_behind bases ss h.begins.text_begins in
    let places : all ≡ laid start ss = laid_so bases [] start all begins (each_of (λ before s after. StandsThere bases before s) all [] all h.stands refl)
    ∙ ap (laid start) h.statements in
    let behind : IsBehind bases all (cursor_after start ss) = subst (λ d. IsBehind bases d (cursor_after start ss)) (sym places) (behind_all bases [] start ss begins) in
    let text_end : bases.text_base + taken sections.Text all ≡ (cursor_after (start_at 0 0) ss).text_at = sym (behind.at_end sections.Text) ∙ same_end sections.Text ss start (start_at 0 0) refl refl in
    let at_data : bases.data_base ≡ data_base ss = one_page (cursor_after (start_at 0 0) ss).text_at bases.data_base (data_base ss)
    (subst (λ at. IsNextMultiple 4096 at bases.data_base) text_end h.begins.data_begins) (next_page (cursor_after (start_at 0 0) ss).text_at) in
    let data_end : bases.data_base + taken sections.Data all ≡ (cursor_after (start_at (data_base ss) 0) ss).data_at =
    sym (behind.at_end sections.Data) ∙ same_end sections.Data ss start (start_at (data_base ss) 0) refl at_data in
    let at_zeros : bases.zeros_base ≡ zeros_base (data_base ss) ss = one_word (cursor_after (start_at (data_base ss) 0) ss).data_at bases.zeros_base (zeros_base (data_base ss) ss)
    (subst (λ at. IsNextMultiple 4 at bases.zeros_base) data_end h.begins.zeros_begin) (next_word (cursor_after (start_at (data_base ss) 0) ss).data_at) in
    record {
      places = places ∙ (ap (λ d. laid (start_at d bases.zeros_base) ss) at_data ∙ ap (λ z. laid (start_at (data_base ss) z) ss) at_zeros);
      sections_begin = ap (λ (n : ℕ). record { text_base = n; data_base = bases.data_base; zeros_base = bases.zeros_base }) h.begins.text_begins
          ∙ (ap (λ (d : ℕ). record { text_base = text_start; data_base = d; zeros_base = bases.zeros_base }) at_data
          ∙ ap (λ (z : ℕ). record { text_base = text_start; data_base = data_base ss; zeros_base = z }) at_zeros);
    }
