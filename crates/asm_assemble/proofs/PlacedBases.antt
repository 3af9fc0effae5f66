-- The bases of sections.
use Rattle.std.proofs.Common.{◌≡◌, ℕ, ◌+◌, ◌/◌, List, [], ◌∷◌, refl, sym, ap, ◌∙◌, arith, subst, cond}
use Rattle.asm_statement.specs.Statement.{StatementValue, BodyValue}
use Rattle.asm_statement.specs.declared.statement.Section.{Section}
use Rattle.asm_statement.specs.declared.statement.Section.TheVariants as sections
use Rattle.asm_assemble.specs.declared.cursor.Cursor.{Cursor}
use Rattle.asm_assemble.specs.Program.{text_start}
use Rattle.asm_assemble.specs.Program.{round_up}
use Rattle.asm_assemble.specs.Cursors.{cursor_address, address_in, size, stepped_cursor, cursor_after}
use Rattle.asm_assemble.specs.Assembled.{start_at, data_base, zeros_base, first_cursor}
use Rattle.asm_assemble.specs.Placed.{Bases, placed_base, is_same, placed_section_behind, IsNextMultiple, AreBases}
use Rattle.asm_assemble.proofs.PlacedCuts.{laid}
use Rattle.asm_assemble.proofs.PlacedAddresses.{IsBehind, step_section, step_at, behind_all}

pub next_page : (at : ℕ) → IsNextMultiple 4096 at (round_up at 4096)
unfolding round_up
next_page at = record { times = (at + 4095) / 4096; multiple = refl; not_below = omega arith; least = omega arith }

pub next_word : (at : ℕ) → IsNextMultiple 4 at (round_up at 4)
unfolding round_up
next_word at = record { times = (at + 3) / 4; multiple = refl; not_below = omega arith; least = omega arith }

same_taken : (s t : Section) (c d : Cursor) (b : BodyValue) → address_in t c ≡ address_in t d
    → cond (is_same s t) (size (address_in s c) b) 0 ≡ cond (is_same s t) (size (address_in s d) b) 0
same_taken sections.Text sections.Text c d b e = ap (λ at. size at b) e
same_taken sections.Text sections.Data c d b e = refl
same_taken sections.Text sections.Zeros c d b e = refl
same_taken sections.Data sections.Text c d b e = refl
same_taken sections.Data sections.Data c d b e = ap (λ at. size at b) e
same_taken sections.Data sections.Zeros c d b e = refl
same_taken sections.Zeros sections.Text c d b e = refl
same_taken sections.Zeros sections.Data c d b e = refl
same_taken sections.Zeros sections.Zeros c d b e = ap (λ at. size at b) e

taken_at : (t : Section) (c : Cursor) (b : BodyValue) → address_in t (stepped_cursor c b) ≡ address_in t c + cond (is_same c.section t) (size (address_in c.section c) b) 0
unfolding cursor_address
taken_at t c b = step_at c b t

-- the end of a section does not depend on the bases of the others
pub same_end : (t : Section) (ss : List StatementValue) (c d : Cursor) → c.section ≡ d.section → address_in t c ≡ address_in t d
    → address_in t (cursor_after c ss) ≡ address_in t (cursor_after d ss)
unfolding cursor_after
same_end t [] c d e f = f
same_end t (s ∷ ss) c d e f =
    same_end t ss (stepped_cursor c s.body) (stepped_cursor d s.body)
    (step_section c s.body ∙ rw e (sym (step_section d s.body)))
    (taken_at t c s.body ∙ (ap (λ q. address_in t c + cond (is_same q t) (size (address_in q c) s.body) 0) e
    ∙ (ap (λ n. n + cond (is_same d.section t) (size (address_in d.section c) s.body) 0) f
    ∙ (ap (λ n. address_in t d + n) (same_taken d.section t c d s.body f) ∙ sym (taken_at t d s.body)))))

-- the bases of statements
abbrev pub bases_of : List StatementValue → Bases
bases_of ss = record { text_base = text_start; data_base = data_base ss; zeros_base = zeros_base (data_base ss) ss }

-- at the beginning nothing is done
pub behind_none : (ss : List StatementValue) → IsBehind (bases_of ss) [] (first_cursor ss)
unfolding first_cursor start_at placed_section_behind
behind_none ss = record { in_section = refl; at_end = λ t. by t }
  where
    none : (n : ℕ) → n ≡ n + 0
    none n = omega arith

    by : (t : Section) → address_in t (first_cursor ss) ≡ placed_base t (bases_of ss) + 0
    by sections.Text = none text_start
    by sections.Data = none (data_base ss)
    by sections.Zeros = none (zeros_base (data_base ss) ss)

pub are_bases : (ss : List StatementValue) → AreBases (bases_of ss) (laid (first_cursor ss) ss)
unfolding first_cursor start_at data_base zeros_base
are_bases ss =
    let start = first_cursor ss in
    let behind : IsBehind (bases_of ss) (laid start ss) (cursor_after start ss) = behind_all (bases_of ss) [] start ss (behind_none ss) in
    record {
      text_begins = refl;
      data_begins = subst (λ at. IsNextMultiple 4096 at (data_base ss))
          (same_end sections.Text ss (start_at 0 0) start refl refl ∙ behind.at_end sections.Text)
          (next_page (cursor_after (start_at 0 0) ss).text_at);
      zeros_begin = subst (λ at. IsNextMultiple 4 at (zeros_base (data_base ss) ss))
          (same_end sections.Data ss (start_at (data_base ss) 0) start refl refl ∙ behind.at_end sections.Data)
          (next_word (cursor_after (start_at (data_base ss) 0) ss).data_at);
    }
