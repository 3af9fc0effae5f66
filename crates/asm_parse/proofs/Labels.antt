-- Reading on after a label.
use Rattle.std.proofs.Common.{◌≡◌, ℕ, ◌+◌, ◌≤◌, List, [], ◌∷◌, ◌++◌, length, drop, map, Some, None, refl, sym, ◌∙◌}
use Rattle.std.proofs.lemmas.List.{drop-drop, drop_all}
use Rattle.asm_lex.specs.declared.lexeme.Lexeme as program
use Rattle.asm_lex.specs.Lexemes.{Lexeme, Word, Number, seen}
use Rattle.asm_statement.specs.declared.place.Place.{Place}
use Rattle.asm_statement.specs.Statement.{StatementValue, BodyValue}
use Rattle.asm_statement.specs.Statements.{label_of, labels_from, stated}

-- a single lexeme is no label
alone : (l : Lexeme) → label_of (l ∷ []) ≡ None
unfolding label_of
alone (Word w) = refl
alone (Number n w) = refl
alone _ = refl

none_alone : label_of [] ≡ None
unfolding label_of
none_alone = refl

behind : (place : Place) (done : List StatementValue) (ls : List Lexeme) (b : BodyValue) → label_of ls ≡ Some b → labels_from place done ls ≡ labels_from place (done ++ stated place b ∷ []) (drop 2 ls)
unfolding labels_from
behind place done [] b is = let h : Some b ≡ None = sym is ∙ none_alone in cc
behind place done (l ∷ []) b is = let h : Some b ≡ None = sym is ∙ alone l in cc
behind place done (l ∷ m ∷ ls) b is = rw is refl

ended : (place : Place) (done : List StatementValue) (ls : List Lexeme) → label_of ls ≡ None → labels_from place done ls ≡ (done, ls)
unfolding labels_from
ended place done [] is = refl
ended place done (l ∷ []) is = refl
ended place done (l ∷ m ∷ ls) is = rw is refl

seen_behind : (xs : List program.Lexeme) → drop 2 (map seen xs) ≡ map seen (drop 2 xs)
seen_behind [] = refl
seen_behind (x ∷ []) = refl
seen_behind (x ∷ y ∷ xs) = refl

pub label_step : (place : Place) (done : List StatementValue) (all : List program.Lexeme) (at : ℕ) (b : BodyValue) (total : List StatementValue × List Lexeme)
    → label_of (map seen (drop at all)) ≡ Some b → labels_from place done (map seen (drop at all)) ≡ total
    → labels_from place (done ++ stated place b ∷ []) (map seen (drop (at + 2) all)) ≡ total
label_step place done all at b total is so_far =
    rw (← drop-drop 2 at all, ← seen_behind (drop at all), ← behind place done (map seen (drop at all)) b is) so_far

pub no_label : (place : Place) (done : List StatementValue) (all : List program.Lexeme) (at : ℕ) (total : List StatementValue × List Lexeme)
    → label_of (map seen (drop at all)) ≡ None → labels_from place done (map seen (drop at all)) ≡ total
    → total ≡ (done, map seen (drop at all))
no_label place done all at total is so_far = sym so_far ∙ ended place done (map seen (drop at all)) is

pub at_end : (place : Place) (done : List StatementValue) (all : List program.Lexeme) (at : ℕ) (total : List StatementValue × List Lexeme) → length all ≤ at
    → labels_from place done (map seen (drop at all)) ≡ total → total ≡ (done, map seen (drop at all))
unfolding labels_from
at_end place done all at total le so_far = rw (drop_all at all le) (sym (rw (drop_all at all le) at so_far))
