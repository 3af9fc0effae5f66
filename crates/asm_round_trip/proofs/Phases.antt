-- Statements of only the text pass all phases of the assembler as one fold.
use Rattle.std.proofs.Common.{◌≡◌, ℕ, ◌+◌, ◌-◌, ◌^◌, ◌≤◌, false, List, [], ◌∷◌, ◌++◌, length, None, Ok, refl, ap, ◌∙◌, arith, nat_lt, append_assoc, length-append}
use Rattle.std.proofs.lemmas.List.{append-nil}
use Rattle.asm_statement.specs.Statement.{StatementValue, BodyValue}
use Rattle.asm_statement.specs.declared.statement.Section.TheVariants as sections
use Rattle.asm_assemble.specs.declared.cursor.Cursor.{Cursor}
use Rattle.asm_assemble.specs.Program.{SymbolList, ProgramValue, round_up, segment_size}
use Rattle.asm_assemble.specs.Cursors.{cursor_address, stepped_cursor, cursor_after}
use Rattle.asm_assemble.specs.Locals.{Local, local_label_of}
use Rattle.asm_assemble.specs.Operands.{operand_address, found}
use Rattle.asm_assemble.specs.Placing.{Globals, globals_from, place_fault, placing}
use Rattle.asm_assemble.specs.Valuing.{Images, put_bytes, bytes_in, said_at, valuing, no_bytes}
use Rattle.asm_assemble.specs.Assembled.{start_at, data_base, zeros_base, first_cursor, is_too_large, heavy_of, program_entry, program_of_placed, assembled}
use Rattle.asm_round_trip.specs.TextAlone.{text_alone}
use Rattle.asm_round_trip.proofs.Signs.{not_below}
use Rattle.asm_round_trip.proofs.Stands.{Stands}

abbrev pub in_text : ℕ → ℕ → ℕ → Cursor
in_text at d z = record { section = sections.Text; text_at = at; data_at = d; zeros_at = z }

abbrev pub more_text : Images → List ℕ → Images
more_text done bytes = record { text_bytes = done.text_bytes ++ bytes; data_bytes = done.data_bytes }

-- statements that give consecutive bytes from an address in the text on
pub record Phased (at : ℕ) (ss : List StatementValue) (bytes : List ℕ) : Type 0 where
  pub after : (d z : ℕ) → cursor_after (in_text at d z) ss ≡ in_text (at + length bytes) d z
  pub globals : (seen : Globals) → globals_from seen ss ≡ seen
  pub places : (globals : Globals) (seen : SymbolList) (i d z : ℕ) → placing globals seen None i (in_text at d z) ss ≡ Ok seen
  pub values : (symbols : SymbolList) (before : List Local) (done : Images) (d z : ℕ) → valuing symbols before done (in_text at d z) ss ≡ Ok (more_text done bytes)

pub phased_none : (at : ℕ) → Phased at [] []
unfolding cursor_after globals_from placing valuing
phased_none at = record {
  after = λ d z. ap (λ k. in_text k d z) (omega arith);
  globals = λ seen. refl;
  places = λ globals seen i d z. refl;
  values = λ symbols before done d z. rw append-nil refl;
}

stepped : (at d z : ℕ) (b : BodyValue) (bytes : List ℕ) → Stands at b bytes → stepped_cursor (in_text at d z) b ≡ in_text (at + length bytes) d z
unfolding stepped_cursor cursor_address
stepped at d z b bytes h = rw (h.stays, h.size_is) refl

free : (at d z : ℕ) (globals : Globals) (seen : SymbolList) (b : BodyValue) (bytes : List ℕ) → Stands at b bytes → place_fault seen false (cursor_address (in_text at d z)) b ≡ None
unfolding place_fault cursor_address
free at d z globals seen b bytes h = rw (h.no_fault seen) refl

pub phased_more : (at : ℕ) (s : StatementValue) (ss : List StatementValue) (bytes more : List ℕ) → Stands at s.body bytes → Phased (at + length bytes) ss more → Phased at (s ∷ ss) (bytes ++ more)
unfolding cursor_after globals_from placing valuing place_fault said_at bytes_in put_bytes cursor_address
phased_more at s ss bytes more h p = record {
  after = λ d z. rw (stepped at d z s.body bytes h) (p.after d z ∙ ap (λ k. in_text k d z) (omega (arith, length-append bytes more)));
  globals = λ seen. rw (h.no_global seen) (p.globals seen);
  places = λ globals seen i d z. rw (h.no_fault seen, h.no_symbol globals sections.Text, append-nil, stepped at d z s.body bytes h) (p.places globals seen (i + 1) d z);
  values = λ symbols before done d z.
      rw (h.gives symbols (local_label_of before (stepped_cursor (in_text at d z) s.body) ss s.source s.body), h.no_label s.source, stepped at d z s.body bytes h)
      (p.values symbols before (more_text done bytes) d z ∙ rw append_assoc refl);
}

abbrev data_of : ℕ → ℕ
data_of n = round_up (65536 + n) 4096

abbrev zeros_of : ℕ → ℕ
zeros_of n = round_up (data_of n) 4

first : (ss : List StatementValue) (bytes : List ℕ) → Phased 65536 ss bytes → first_cursor ss ≡ in_text 65536 (data_of (length bytes)) (zeros_of (length bytes))
unfolding first_cursor data_base zeros_base start_at
first ss bytes p = rw (p.after 0 0, p.after (data_of (length bytes)) 0) refl

light : (n d z : ℕ) (ss : List StatementValue) → n ≤ 2 ^ 24 → heavy_of (in_text 65536 d z) (in_text (65536 + n) d z) ss ≡ None
unfolding heavy_of is_too_large segment_size
light n d z ss le =
    let no_data : d - d ≡ 0 = omega arith in
    let no_zeros : z - z ≡ 0 = omega arith in
    let e : nat_lt 16777216 (65536 + n - 65536 + 0) ≡ false = not_below 16777216 (65536 + n - 65536 + 0) (omega arith) in
    rw (no_data, no_zeros, e) refl

made : (bytes : List ℕ) (z : ℕ) → program_of_placed (more_text no_bytes bytes) (z - z) [] ≡ text_alone bytes
unfolding program_of_placed program_entry operand_address found
made bytes z = let no_zeros : z - z ≡ 0 = omega arith in rw no_zeros refl

pub phased_all : (ss : List StatementValue) (bytes : List ℕ) → Phased 65536 ss bytes → length bytes ≤ 2 ^ 24 → assembled ss ≡ Ok (text_alone bytes)
unfolding assembled
phased_all ss bytes p le =
    let n = length bytes in
    let d = data_of n in
    let z = zeros_of n in
    rw (first ss bytes p, p.after d z, p.globals [], light n d z ss le, p.places [] [] 0 d z, p.values [] [] no_bytes d z) (ap (λ (p : ProgramValue). Ok p) (made bytes z))
