-- What an assembled text gives: each of its instructions stands at its address, in the image that
-- its file loads as and in its listing.
use Rattle.std.specs.Prelude.{◌≡◌, ℕ, ◌+◌, ◌%◌, ◌^◌, ◌<◌, ◌==◌, if◌then◌else◌, List, [], ◌∷◌, ◌++◌, length, Ok, IfSome, codes}
use Rattle.std.specs.Int.{w32, to_le_bytes}
use Rattle.std.specs.Fmt.{decimal}
use Rattle.isa_table.specs.Spells.{SpellsInstr}
use Rattle.isa_table.specs.declared.instr.Instr.{Instr}
use Rattle.elf_read.specs.File.{loaded_image}
use Rattle.image.specs.Image.{ImageValue}
use Rattle.image.specs.Segment.{SegmentValue}
use Rattle.isa_disasm.specs.Listing.{listing, word_entry}
use Rattle.isa_disasm.specs.Segments.{ListsSegments}
use Rattle.asm_statement.specs.Statement.{StatementValue, BodyValue}
use Rattle.asm_statement.specs.declared.statement.Body.TheVariants as body
use Rattle.asm_statement.specs.declared.statement.Section.{Section}
use Rattle.asm_statement.specs.declared.statement.Section.TheVariants as sections
use Rattle.asm_assemble.specs.declared.instruction.Pair.{Pair}
use Rattle.asm_assemble.specs.Instructions.{instr_pair}
use Rattle.asm_assemble.specs.Placed.{Standing, Bases, ArePlaced, IsInstr}
use Rattle.asm_assemble.specs.Program.{ProgramValue, SymbolList}
use Rattle.asm_assemble.specs.Sources.{assembled_texts}
use Rattle.asm_laws.specs.Reads.{TextsSay}
use Rattle.elf_write.specs.File.{program_image}

-- these bytes stand at an address of an image, in one of its segments
pub record StandsInImage (image : ImageValue) (address : ℕ) (bytes : List ℕ) : Type 0 where
  pub segments_before : List SegmentValue
  pub segment : SegmentValue
  pub segments_behind : List SegmentValue
  pub is_there : image.segments ≡ segments_before ++ segment ∷ segments_behind
  pub before : List ℕ
  pub behind : List ℕ
  pub cut : segment.bytes ≡ before ++ (bytes ++ behind)
  pub at_address : segment.base + length before ≡ address

-- a word that spells the instruction stands at an address of an image, its lowest byte first
pub record HasWord (image : ImageValue) (address : ℕ) (i : Instr) : Type 0 where
  pub word : ℕ
  pub fits : word < 2 ^ 32
  pub spells : SpellsInstr word i
  pub stands : StandsInImage image address (to_le_bytes w32 word)

-- lines have the canonical line of a word that spells the instruction, with the lines of the text's
-- bytes before it in front and the lines of those after it behind
pub record HasLine (text lines : List ℕ) (address : ℕ) (i : Instr) : Type 0 where
  pub word : ℕ
  pub fits : word < 2 ^ 32
  pub spells : SpellsInstr word i
  pub before : List ℕ
  pub behind : List ℕ
  pub cut : text ≡ before ++ (to_le_bytes w32 word ++ behind)
  pub at_address : 0x10000 + length before ≡ address
  pub shown : lines ≡ listing 0x10000 before ++ word_entry address word (listing (address + 4) behind)

-- the instructions that a statement is are shown at their addresses: one, or the one or two of a
-- pseudo-instruction
abbrev pub Shows : (Section → ℕ → Instr → Type 0) → SymbolList → List Standing → Standing → List Standing → BodyValue → Type 0
Shows shown symbols before s after (body.Instruction i) =
    (j : Instr) × IsInstr symbols before s after i j × shown s.section s.address j
Shows shown symbols before s after (body.Pseudo p) =
    (pair : Pair) × (instr_pair symbols s.address p ≡ Ok pair) × shown s.section s.address pair.first
    × IfSome pair.second (λ j. shown s.section (s.address + 4) j)
Shows shown symbols before s after (body.Label name) = Unit {0}
Shows shown symbols before s after (body.LocalLabel digits) = Unit {0}
Shows shown symbols before s after (body.Directive d) = Unit {0}

-- the program is of the statements that the texts say, these stand where one map of labels puts
-- them, and each instruction statement's instructions are shown
pub record GivesOwn (shown : Section → ℕ → Instr → Type 0) (texts : List (List ℕ)) (p : ProgramValue) : Type 0 where
  pub statements : List StatementValue
  pub said : TextsSay 0 texts statements
  pub all : List Standing
  pub bases : Bases
  pub placed : ArePlaced statements p all bases
  pub shows : (before : List Standing) (s : Standing) (after : List Standing) → all ≡ before ++ s ∷ after
      → Shows shown p.symbols before s after s.statement.body

-- an instruction has its word in an image
abbrev pub InImage : ImageValue → Section → ℕ → Instr → Type 0
InImage image section at i = HasWord image at i

-- an instruction of the text has its canonical line among lines
abbrev pub InLines : List ℕ → List ℕ → Section → ℕ → Instr → Type 0
InLines text lines sections.Text at i = HasLine text lines at i
InLines text lines sections.Data at i = Unit {0}
InLines text lines sections.Zeros at i = Unit {0}

-- lines are the canonical lines of a program's text, and have those of its instructions
pub record ListsOwn (texts : List (List ℕ)) (p : ProgramValue) (lines : List ℕ) : Type 0 where
  pub lists : lines ≡ listing 0x10000 p.text
  pub gives : GivesOwn (InLines p.text lines) texts p

-- the listing of an image of a text: a head, and the canonical lines from 0x00010000 on; of no
-- text, nothing
abbrev pub image_lines : List ℕ → List ℕ
image_lines text =
    if length text == 0 then []
    else codes "# segment 00010000 " ++ (decimal (length text) ++ (10 ∷ listing 0x10000 text))

-- bytes load as a program's image, its listing is the canonical lines of the program's text, and
-- each instruction has its word in the image
pub record LoadsOwn (texts : List (List ℕ)) (p : ProgramValue) (bytes : List ℕ) : Type 0 where
  pub image : ImageValue
  pub loads : loaded_image bytes ≡ Ok image
  pub is_image : program_image p ≡ Ok image
  pub lists : (lines : List ℕ) → ListsSegments image.segments lines → lines ≡ image_lines p.text
  pub gives : GivesOwn (InImage image) texts p

-- ---- laws

-- a text's program, written, loads as the text's own instructions
abbrev pub WrittenIsOwn : (ProgramValue → List ℕ) → Type 0
WrittenIsOwn file =
    (texts : List (List ℕ)) (p : ProgramValue) → assembled_texts texts ≡ Ok p → p.entry % 4 ≡ 0 → LoadsOwn texts p (file p)

-- the listing of a text's program has the text's own instructions
abbrev pub ListedIsOwn : Type 0
ListedIsOwn = (texts : List (List ℕ)) (p : ProgramValue) → assembled_texts texts ≡ Ok p → ListsOwn texts p (listing 0x10000 p.text)
