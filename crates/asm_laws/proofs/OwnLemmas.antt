-- An assembled text's instructions, in its file's image and in its listing.
use Rattle.std.proofs.Common.{◌≡◌, ℕ, ◌+◌, ◌%◌, true, false, List, ◌∷◌, ◌++◌, length, Option, Some, None, Ok, IfSome, refl, sym, ap, subst, ◌∙◌, arith, true≢false}
use Rattle.std.specs.Prelude.{◌&&◌}
use Rattle.std.specs.Int.{w32, to_le_bytes}
use Rattle.isa_table.specs.Spells.{InRange, word_of}
use Rattle.isa_table.specs.declared.instr.Instr.{Instr}
use Rattle.asm_statement.specs.Statement.{StatementValue, BodyValue}
use Rattle.asm_statement.specs.Statements.{statements_of, is_bytes, is_zeros}
use Rattle.asm_statement.specs.declared.statement.Body.TheVariants as body
use Rattle.asm_statement.specs.declared.statement.Section.{Section}
use Rattle.asm_statement.specs.declared.statement.Section.TheVariants as sections
use Rattle.asm_assemble.proofs.PlacedWhole.{assembled_is_placed}
use Rattle.asm_assemble.specs.Assembled.{assembled}
use Rattle.asm_assemble.specs.Placed.{Standing, Bases, Placed, ArePlaced, Holds, HasBytes, IsFit, placed_symbols_in}
use Rattle.asm_assemble.specs.Program.{ProgramValue}
use Rattle.asm_assemble.specs.Sources.{assembled_texts}
use Rattle.asm_assemble.specs.Valuing.{instr_bytes, pair_bytes}
use Rattle.elf_write.specs.File.{file, program_image}
use Rattle.elf_write.proofs.LoadLemmas.{file_loads}
use Rattle.isa_disasm.specs.Listing.{listing}
use Rattle.asm_laws.proofs.ReadsLemmas.{ok_iff}
use Rattle.asm_laws.specs.Own.{InImage, InLines, Shows, GivesOwn, ListedIsOwn, WrittenIsOwn}
use Rattle.asm_laws.proofs.Entry.{entry_small}
use Rattle.asm_laws.proofs.Images.{Piece, first_part, second_part, image_of, stands_in_text, stands_in_data, data_begins, has_word, has_line, image_lists}
use Rattle.asm_laws.proofs.InRange.{instr_in_range, PairInRange, pair_in_range}
use Rattle.asm_laws.proofs.Ranges.{step_gives}
use Rattle.asm_laws.proofs.Reading.{IsReadable, IsWell, AreWell, all_well, well_at, statements_in}

-- bytes at an address of a section; none are among the zeros
abbrev InSection : Section → Bases → ProgramValue → ℕ → List ℕ → Type 0
InSection sections.Text bases p at bytes = Piece p.text bases.text_base at bytes
InSection sections.Data bases p at bytes = Piece p.bytes bases.data_base at bytes
InSection sections.Zeros bases p at bytes = ⊥

-- what stands in a section is shown
abbrev Shown : (Section → ℕ → Instr → Type 0) → Bases → ProgramValue → Type 0
Shown shown bases p = (section : Section) (at : ℕ) (i : Instr) → InRange i → at % 4 ≡ 0 → InSection section bases p at (to_le_bytes w32 (word_of i)) → shown section at i

-- ---- the bytes of one or two instructions
abbrev PartsIn : Section → Bases → ProgramValue → ℕ → List ℕ → List ℕ → Type 0
PartsIn section bases p at xs ys = InSection section bases p at xs × InSection section bases p (at + length xs) ys

parts_in : (section : Section) (bases : Bases) (p : ProgramValue) (at : ℕ) (xs ys : List ℕ) → InSection section bases p at (xs ++ ys) → PartsIn section bases p at xs ys
parts_in sections.Text bases p at xs ys h = (first_part p.text bases.text_base at xs ys h, second_part p.text bases.text_base at xs ys h)
parts_in sections.Data bases p at xs ys h = (first_part p.bytes bases.data_base at xs ys h, second_part p.bytes bases.data_base at xs ys h)
parts_in sections.Zeros bases p at xs ys h = absurd h

shown_pair : (shown : Section → ℕ → Instr → Type 0) (bases : Bases) (p : ProgramValue) → Shown shown bases p → (section : Section) (at : ℕ) → at % 4 ≡ 0
    → (first : Instr) (second : Option Instr) → InRange first → IfSome second InRange → InSection section bases p at (pair_bytes first second)
    → shown section at first × IfSome second (λ j. shown section (at + 4) j)
unfolding pair_bytes instr_bytes
shown_pair shown bases p g section at aligned first None one two h = (g section at first one aligned h, tt)
shown_pair shown bases p g section at aligned first (Some second) one two h =
    let parts = parts_in section bases p at (to_le_bytes w32 (word_of first)) (to_le_bytes w32 (word_of second)) h in
    (g section at first one aligned parts.0, g section (at + 4) second two (omega arith) parts.1)

-- ---- what a statement holds
-- the bytes of a statement, which it has in its section
abbrev HeldAs : Section → Bases → ProgramValue → List Standing → Standing → List Standing → BodyValue → Type 0
HeldAs section bases p before s after b = (bytes : List ℕ) × HasBytes p.symbols before s after section b bytes × InSection section bases p s.address bytes

held : (section : Section) (bases : Bases) (p : ProgramValue) (before : List Standing) (s : Standing) (after : List Standing) → Holds section bases p before s after
    → (is_zeros section && is_bytes s.statement.body) ≡ false → is_bytes s.statement.body ≡ true → HeldAs section bases p before s after s.statement.body
held sections.Text bases p before s after h takes e = (h.bytes, h.valued, record { front = h.front; back = h.back; cut = h.cut; place = h.at_address })
held sections.Data bases p before s after h takes e = (h.bytes, h.valued, record { front = h.front; back = h.back; cut = h.cut; place = h.at_address })
held sections.Zeros bases p before s after h takes e = absurd (true≢false (sym e ∙ takes))

shows_body : (shown : Section → ℕ → Instr → Type 0) (bases : Bases) (p : ProgramValue) → Shown shown bases p → (before : List Standing) (s : Standing) (after : List Standing) (b : BodyValue)
    → IsReadable b → IsFit p.symbols (placed_symbols_in (before ++ s ∷ after) before) s.address b → (is_bytes b ≡ true → HeldAs s.section bases p before s after b) → Shows shown p.symbols before s after b
unfolding instr_bytes
shows_body shown bases p g before s after (body.Instruction i) w f h =
    let has = h refl in (
      has.1.0,
      has.1.1,
      g s.section s.address has.1.0 (instr_in_range p.symbols before s after i has.1.0 w has.1.1) f
          (subst (λ bytes. InSection s.section bases p s.address bytes) has.1.2 has.2),
    )
shows_body shown bases p g before s after (body.Pseudo q) w f h =
    let has = h refl in
    let range : PairInRange has.1.0 = pair_in_range p.symbols s.address q has.1.0 w has.1.1 in
    let both = shown_pair shown bases p g s.section s.address f has.1.0.first has.1.0.second range.one range.two
    (subst (λ bytes. InSection s.section bases p s.address bytes) has.1.2 has.2) in
    (has.1.0, has.1.1, both.0, both.1)
shows_body shown bases p g before s after (body.Label name) w f h = tt
shows_body shown bases p g before s after (body.LocalLabel digits) w f h = tt
shows_body shown bases p g before s after (body.Directive d) w f h = tt

shows_at : (shown : Section → ℕ → Instr → Type 0) (ss : List StatementValue) (p : ProgramValue) (all : List Standing) (bases : Bases) → ArePlaced ss p all bases → AreWell sections.Text ss
    → Shown shown bases p → (before : List Standing) (s : Standing) (after : List Standing) → all ≡ before ++ s ∷ after → Shows shown p.symbols before s after s.statement.body
shows_at shown ss p all bases placed well g before s after cut =
    let there : AreWell sections.Text (statements_in (before ++ s ∷ after)) = subst (AreWell sections.Text) (sym placed.standing.statements ∙ ap statements_in cut) well in
    let here : IsWell s.section s.statement.body =
    subst (λ t. IsWell t s.statement.body) (sym (placed.standing.stands before s after cut).in_section) (well_at sections.Text before s after there) in
    shows_body shown bases p g before s after s.statement.body here.readable
    (subst (λ xs. IsFit p.symbols (placed_symbols_in xs before) s.address s.statement.body) cut (placed.fits before s after cut))
    (held s.section bases p before s after (placed.holds before s after cut) here.takes)

-- ---- the whole
-- a program of texts
record Made (texts : List (List ℕ)) (p : ProgramValue) : Type 0 where
  statements : List StatementValue
  read : statements_of texts ≡ Ok statements
  all : List Standing
  bases : Bases
  placed : ArePlaced statements p all bases

made : (texts : List (List ℕ)) (p : ProgramValue) → assembled_texts texts ≡ Ok p → Made texts p
unfolding assembled_texts
made texts p e =
    let g = step_gives (statements_of texts) assembled p e in
    let h : Placed g.0 p = assembled_is_placed g.0 p g.2 in
    record { statements = g.0; read = g.1; all = h.all; bases = h.bases; placed = h.placed }

gives : (shown : Section → ℕ → Instr → Type 0) (texts : List (List ℕ)) (p : ProgramValue) (m : Made texts p) → Shown shown m.bases p → GivesOwn shown texts p
gives shown texts p m g = record {
  statements = m.statements;
  said = (ok_iff texts m.statements).0 m.read;
  all = m.all;
  bases = m.bases;
  placed = m.placed;
  shows = shows_at shown m.statements p m.all m.bases m.placed (all_well texts m.statements m.read) g;
}

in_image : (texts : List (List ℕ)) (p : ProgramValue) (m : Made texts p) → Shown (InImage (image_of p)) m.bases p
in_image texts p m sections.Text at i r aligned h =
    has_word p at i r (stands_in_text p at (to_le_bytes w32 (word_of i)) (omega arith)
    (subst (λ b. Piece p.text b at (to_le_bytes w32 (word_of i))) m.placed.standing.begins.text_begins h))
in_image texts p m sections.Data at i r aligned h =
    has_word p at i r (stands_in_data p at (to_le_bytes w32 (word_of i)) (omega arith)
    (subst (λ b. Piece p.bytes b at (to_le_bytes w32 (word_of i))) (data_begins p m.all m.bases m.placed.standing.begins m.placed.text_size) h))
in_image texts p m sections.Zeros at i r aligned h = absurd h

in_lines : (texts : List (List ℕ)) (p : ProgramValue) (m : Made texts p) → Shown (InLines p.text (listing 0x10000 p.text)) m.bases p
in_lines texts p m sections.Text at i r aligned h =
    has_line p.text at i r aligned (subst (λ b. Piece p.text b at (to_le_bytes w32 (word_of i))) m.placed.standing.begins.text_begins h)
in_lines texts p m sections.Data at i r aligned h = tt
in_lines texts p m sections.Zeros at i r aligned h = tt

image_is : (p : ProgramValue) → p.entry % 4 ≡ 0 → program_image p ≡ Ok (image_of p)
unfolding program_image
image_is p h = rw h refl

pub written : WrittenIsOwn file
written texts p e aligned =
    let m = made texts p e in
    record {
      image = image_of p;
      loads = file_loads (file p) p refl m.placed.within (entry_small m.statements p m.all m.bases m.placed) ∙ image_is p aligned;
      is_image = image_is p aligned;
      lists = image_lists p;
      gives = gives (InImage (image_of p)) texts p m (in_image texts p m);
    }

pub listed : ListedIsOwn
listed texts p e =
    let m = made texts p e in
    record { lists = refl; gives = gives (InLines p.text (listing 0x10000 p.text)) texts p m (in_lines texts p m) }
