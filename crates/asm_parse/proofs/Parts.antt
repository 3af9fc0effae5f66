-- A part of the lexemes.
use Rattle.std.proofs.Common.{◌≡◌, ℕ, suc, ◌+◌, ◌-◌, ◌<◌, ◌≤◌, List, [], ◌∷◌, ◌++◌, length, get_or, take, drop, map, refl, sym, ap, ◌∙◌, arith, length-drop, get_or-drop, false, true, add-one}
use Rattle.std.specs.Borrow.{Bor}
use Rattle.std.proofs.Math.Seq.{take-suc, drop-cons}
use Rattle.std.proofs.lemmas.List.{get_or_default, map-append, map_push}
use Rattle.asm_lex.specs.declared.lexeme.Lexeme as program
use Rattle.asm_lex.specs.Lexemes.{Lexeme, seen}
use Rattle.asm_statement.specs.Directives.{is_comma_lexeme, parts_from, parts_seen}

pub part_more : (xs : List program.Lexeme) (start i : ℕ) (x : program.Lexeme) → start ≤ i → i < length xs → x ≡ get_or xs i x → take (i + 1 - start) (drop start xs) ≡ take (i - start) (drop start xs) ++ x ∷ []
part_more xs start i x le lt is =
    let n : i + 1 - start ≡ suc (i - start) = omega arith in
    let at : start + (i - start) ≡ i = omega arith in
    let inside : i - start < length (drop start xs) = omega (arith, length-drop start xs) in
    let here : get_or (drop start xs) (i - start) x ≡ x = get_or-drop start xs (i - start) x ∙ (ap (λ k. get_or xs k x) at ∙ sym is) in
    rw n (take-suc (drop start xs) (i - start) x inside ∙ ap (λ y. take (i - start) (drop start xs) ++ y ∷ []) here)

pub part_none : (xs : List program.Lexeme) (start : ℕ) → take (start - start) (drop start xs) ≡ []
part_none xs start = let e : start - start ≡ 0 = omega arith in rw e refl

-- a lexeme that is no comma joins the part
pub goes_on : (done : List (List Lexeme)) (xs : List program.Lexeme) (start i : ℕ) (d : program.Lexeme) (total : List (List Lexeme)) → start ≤ i → i < length xs → is_comma_lexeme (seen (get_or xs i d)) ≡ false
    → parts_from done (map seen (take (i - start) (drop start xs))) (map seen (drop i xs)) ≡ total
    → parts_from done (map seen (take (i + 1 - start) (drop start xs))) (map seen (drop (i + 1) xs)) ≡ total
unfolding parts_from
goes_on done xs start i d total le lt other so_far =
    let x = get_or xs i d in
    let same : x ≡ get_or xs i x = get_or_default xs i d x lt in
    let one = rw (drop-cons xs i d lt, other) at so_far in
    rw (part_more xs start i x le lt same, add-one, map-append seen (take (i - start) (drop start xs)) (x ∷ [])) one

-- a comma ends the part
pub comma_here : (before after : List (Bor (List program.Lexeme))) (part : Bor (List program.Lexeme)) (xs : List program.Lexeme) (start i : ℕ) (d : program.Lexeme) (total : List (List Lexeme)) → i < length xs → is_comma_lexeme (seen (get_or xs i d)) ≡ true
    → part.now ≡ take (i - start) (drop start xs) → after ≡ before ++ part ∷ []
    → parts_from (parts_seen before) (map seen (take (i - start) (drop start xs))) (map seen (drop i xs)) ≡ total
    → parts_from (parts_seen after) (map seen (take (i + 1 - (i + 1)) (drop (i + 1) xs))) (map seen (drop (i + 1) xs)) ≡ total
unfolding parts_from
comma_here before after part xs start i d total lt is same pushed so_far =
    let one = rw (drop-cons xs i d lt, is, ← same) at so_far in
    rw (pushed, map_push (λ (p : Bor (List program.Lexeme)). map seen p.now) before part, part_none xs (i + 1), add-one) one
