-- The places of statements: at their section's base plus the sizes before them.
use Rattle.std.proofs.Common.{◌≡◌, ℕ, ◌+◌, List, [], ◌∷◌, ◌++◌, Option, Some, None, refl, sym, ap, ◌∙◌, append_assoc, append-nil, arith, subst, cond}
use Rattle.std.specs.Prelude.{unwrap_or}
use Rattle.std.proofs.lemmas.List.Sums.{sum_by_push}
use Rattle.asm_statement.specs.Statement.{StatementValue, BodyValue}
use Rattle.asm_statement.specs.declared.statement.Section.{Section}
use Rattle.asm_statement.specs.declared.statement.Section.TheVariants as sections
use Rattle.asm_statement.specs.declared.statement.Body.TheVariants as body
use Rattle.asm_statement.specs.declared.statement.Directive.TheVariants as directive
use Rattle.asm_assemble.specs.declared.cursor.Cursor.{Cursor}
use Rattle.asm_assemble.specs.Cursors.{cursor_address, address_in, size, directive_size, stepped_cursor, switched, advanced, section_of, cursor_after}
use Rattle.asm_assemble.specs.Placed.{Standing, Bases, placed_base, is_same, placed_section_behind, taken_by, taken, StandsThere}
use Rattle.asm_assemble.proofs.PlacedCuts.{laid, stood, Each}

-- the cursor is after the statements done
pub record IsBehind (bases : Bases) (done : List Standing) (c : Cursor) : Type 0 where
  pub in_section : c.section ≡ placed_section_behind sections.Text done
  pub at_end : (t : Section) → address_in t c ≡ placed_base t bases + taken t done

-- one statement more, and its section
pub section_more : (first : Section) (done : List Standing) (s : Standing)
    → placed_section_behind first (done ++ s ∷ []) ≡ unwrap_or (section_of s.statement.body) (placed_section_behind first done)
unfolding placed_section_behind
section_more first [] s = refl
section_more first (d ∷ done) s = section_more (unwrap_or (section_of d.statement.body) first) done s

-- a section change takes no bytes
change_size : (at : ℕ) (b : BodyValue) (section : Section) → section_of b ≡ Some section → size at b ≡ 0
unfolding section_of size directive_size
change_size at (body.Directive (directive.Section to)) section e = refl
change_size at (body.Directive (directive.Align n)) section e = absurd cc
change_size at (body.Directive (directive.Zero n)) section e = absurd cc
change_size at (body.Directive (directive.Words n)) section e = absurd cc
change_size at (body.Directive (directive.Halves n)) section e = absurd cc
change_size at (body.Directive (directive.Bytes n)) section e = absurd cc
change_size at (body.Directive (directive.Ascii n)) section e = absurd cc
change_size at (body.Directive (directive.Global n)) section e = absurd cc
change_size at (body.Label n) section e = absurd cc
change_size at (body.LocalLabel n) section e = absurd cc
change_size at (body.Instruction n) section e = absurd cc
change_size at (body.Pseudo n) section e = absurd cc

-- what a step does to the section
pub step_section : (c : Cursor) (b : BodyValue) → (stepped_cursor c b).section ≡ unwrap_or (section_of b) c.section
unfolding stepped_cursor
step_section c b = by (section_of b) c.section refl
  where
    by : (o : Option Section) (t : Section) → c.section ≡ t → (switched o c b).section ≡ unwrap_or o c.section
    by (Some to) t e = refl
    by None sections.Text e = rw e refl
    by None sections.Data e = rw e refl
    by None sections.Zeros e = rw e refl

-- what a step does to the next address of a section
pub step_at : (c : Cursor) (b : BodyValue) (t : Section) → address_in t (stepped_cursor c b) ≡ address_in t c + taken_by t (record { statement = record { source = 0; line = 0; body = b }; section = c.section; address = cursor_address c })
unfolding stepped_cursor
step_at c b t = by (section_of b) c.section t refl refl
  where
    none : (n : ℕ) → n ≡ n + 0
    none n = omega arith

    changed : (s t : Section) (n : ℕ) → n ≡ 0 → address_in t c ≡ address_in t c + cond (is_same s t) n 0
    changed sections.Text sections.Text n e = omega (arith, e)
    changed sections.Text sections.Data n e = omega (arith, e)
    changed sections.Text sections.Zeros n e = omega (arith, e)
    changed sections.Data sections.Text n e = omega (arith, e)
    changed sections.Data sections.Data n e = omega (arith, e)
    changed sections.Data sections.Zeros n e = omega (arith, e)
    changed sections.Zeros sections.Text n e = omega (arith, e)
    changed sections.Zeros sections.Data n e = omega (arith, e)
    changed sections.Zeros sections.Zeros n e = omega (arith, e)

    kept : (to t : Section) → address_in t (record c { section = to }) ≡ address_in t c
    kept to sections.Text = refl
    kept to sections.Data = refl
    kept to sections.Zeros = refl

    on : (s t : Section) (n : ℕ) → address_in t (advanced s c n) ≡ address_in t c + cond (is_same s t) n 0
    on sections.Text sections.Text n = refl
    on sections.Text sections.Data n = none c.data_at
    on sections.Text sections.Zeros n = none c.zeros_at
    on sections.Data sections.Text n = none c.text_at
    on sections.Data sections.Data n = refl
    on sections.Data sections.Zeros n = none c.zeros_at
    on sections.Zeros sections.Text n = none c.text_at
    on sections.Zeros sections.Data n = none c.data_at
    on sections.Zeros sections.Zeros n = refl

    by : (o : Option Section) (s t : Section) → section_of b ≡ o → c.section ≡ s → address_in t (switched o c b) ≡ address_in t c + cond (is_same c.section t) (size (cursor_address c) b) 0
    by (Some to) s t e f = kept to t ∙ changed c.section t (size (cursor_address c) b) (change_size (cursor_address c) b to e)
    by None s t e f = on c.section t (size (cursor_address c) b)

-- a statement more is done
pub behind_more : (bases : Bases) (done : List Standing) (c : Cursor) (s : StatementValue) → IsBehind bases done c
    → IsBehind bases (done ++ stood c s ∷ []) (stepped_cursor c s.body)
behind_more bases done c s h = record {
  in_section = step_section c s.body ∙ ap (unwrap_or (section_of s.body)) h.in_section ∙ sym (section_more sections.Text done (stood c s));
  at_end = λ t. step_at c s.body t ∙ rw (sum_by_push (taken_by t) done (stood c s)) (let before = h.at_end t in omega (arith, before));
}

-- the place of the next statement
stands_there : (bases : Bases) (done : List Standing) (c : Cursor) (s : StatementValue) → IsBehind bases done c → StandsThere bases done (stood c s)
unfolding cursor_address
stands_there bases done c s h = record { in_section = h.in_section; at_address = h.at_end c.section }

-- each statement is at its section's base plus the sizes before it
pub all_stand : (bases : Bases) (done : List Standing) (c : Cursor) (ss : List StatementValue) → IsBehind bases done c
    → Each (λ before s after. StandsThere bases before s) done (laid c ss)
unfolding laid Each
all_stand bases done c [] h = tt
all_stand bases done c (s ∷ ss) h =
    (stands_there bases done c s h, all_stand bases (done ++ stood c s ∷ []) (stepped_cursor c s.body) ss (behind_more bases done c s h))

-- after all statements, each section ends at its base and the sizes of all
pub behind_all : (bases : Bases) (done : List Standing) (c : Cursor) (ss : List StatementValue) → IsBehind bases done c
    → IsBehind bases (done ++ laid c ss) (cursor_after c ss)
unfolding laid cursor_after
behind_all bases done c [] h = subst (λ d. IsBehind bases d c) (sym (append-nil done)) h
behind_all bases done c (s ∷ ss) h =
    subst (λ d. IsBehind bases d (cursor_after (stepped_cursor c s.body) ss)) (append_assoc done (stood c s ∷ []) (laid (stepped_cursor c s.body) ss))
    (behind_all bases (done ++ stood c s ∷ []) (stepped_cursor c s.body) ss (behind_more bases done c s h))
