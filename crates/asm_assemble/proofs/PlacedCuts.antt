-- Statements with those before and after them.
use Rattle.std.proofs.Common.{◌≡◌, List, [], ◌∷◌, ◌++◌, refl, sym, ap, ◌∙◌, append_assoc, subst, append-nil}
use Rattle.std.specs.Prelude.{map}
use Rattle.asm_statement.specs.Statement.{StatementValue}
use Rattle.asm_assemble.specs.declared.cursor.Cursor.{Cursor}
use Rattle.asm_assemble.specs.Cursors.{cursor_address, stepped_cursor}
use Rattle.asm_assemble.specs.Placed.{Standing}

-- a statement at the cursor
abbrev pub stood : Cursor → StatementValue → Standing
stood c s = record { statement = s; section = c.section; address = cursor_address c }

-- the statements, each at its cursor
unfoldable pub laid : Cursor → List StatementValue → List Standing
laid c [] = []
laid c (s ∷ ss) = stood c s ∷ laid (stepped_cursor c s.body) ss

-- a claim on each statement, with those before it and after it, after those done
unfoldable pub Each : (List Standing → Standing → List Standing → Type 0) → List Standing → List Standing → Type 0
Each P done [] = Unit {0}
Each P done (s ∷ rest) = P done s rest × Each P (done ++ s ∷ []) rest

-- statements at a cursor with none among them
pub same_head : (s t : Standing) (rest after : List Standing) → s ∷ rest ≡ t ∷ after → s ≡ t
same_head s t rest after e = cc

pub same_tail : (s t : Standing) (rest after : List Standing) → s ∷ rest ≡ t ∷ after → rest ≡ after
same_tail s t rest after e = cc

pub none_is_some : (t : Standing) (before after : List Standing) → [] ≡ before ++ t ∷ after → ⊥
none_is_some t [] after e = absurd cc
none_is_some t (b ∷ before) after e = absurd cc

-- such a claim holds of each statement, however it is found among them
pub each_cut : (P : List Standing → Standing → List Standing → Type 0) (done all : List Standing) → Each P done all
    → (before : List Standing) (s : Standing) (after : List Standing) → all ≡ before ++ s ∷ after → P (done ++ before) s after
unfolding Each
each_cut P done [] h before s after e = absurd (none_is_some s before after e)
each_cut P done (t ∷ rest) h [] s after e =
    subst (λ d. P d s after) (sym (append-nil done))
    (subst (λ a. P done s a) (same_tail t s rest after e) (subst (λ x. P done x rest) (same_head t s rest after e) h.0))
each_cut P done (t ∷ rest) h (b ∷ before) s after e =
    subst (λ d. P d s after) (append_assoc done (b ∷ []) before)
    (subst (λ x. P ((done ++ x ∷ []) ++ before) s after) (same_head t b rest (before ++ s ∷ after) e)
    (each_cut P (done ++ t ∷ []) rest h.1 before s after (same_tail t b rest (before ++ s ∷ after) e)))

-- the statements are those that were laid
pub laid_statements : (c : Cursor) (ss : List StatementValue) → map (λ (s : Standing). s.statement) (laid c ss) ≡ ss
unfolding laid
laid_statements c [] = refl
laid_statements c (s ∷ ss) = ap (λ rest. s ∷ rest) (laid_statements (stepped_cursor c s.body) ss)

-- what holds of each statement, however it is found, is such a claim
pub each_of : (P : List Standing → Standing → List Standing → Type 0) (whole done rest : List Standing)
    → ((before : List Standing) (s : Standing) (after : List Standing) → whole ≡ before ++ s ∷ after → P before s after) → whole ≡ done ++ rest → Each P done rest
unfolding Each
each_of P whole done [] h e = tt
each_of P whole done (s ∷ rest) h e = (h done s rest e, each_of P whole (done ++ s ∷ []) rest h (e ∙ sym (append_assoc done (s ∷ []) rest)))
