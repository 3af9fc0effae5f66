-- Names in the table of names, and the symbols one by one.
use Rattle.std.proofs.Common.{◌≡◌, ℕ, suc, ◌+◌, ◌*◌, ◌^◌, ◌<◌, Bool, true, false, cond, List, [], ◌∷◌, ◌++◌, length, take, drop, map, Some, None, Ok, refl, sym, ap, subst, ◌∙◌, arith, append_assoc, append-nil, length-append}
use Rattle.std.specs.Prelude.{not, ◌==◌, nat_lt, ◌&&◌, filter, position}
use Rattle.std.specs.List.{list_all, position_or_len}
use Rattle.std.specs.Str.{is_utf8}
use Rattle.std.proofs.lemmas.Bool.Decides.{nat_tests}
use Rattle.std.proofs.Math.Seq.{take-append_seam}
use Rattle.asm_assemble.specs.Program.{SymbolList}
use Rattle.asm_assemble.specs.declared.program.Symbol.{Symbol}
use Rattle.elf_read.specs.Name.{name_in, text_before}
use Rattle.elf_read.specs.Symbol.{SymbolValue}
use Rattle.elf_read.specs.SymbolFields.{read_symbol}
use Rattle.elf_read.specs.SymbolTable.{Symbols, symbols_from, with_name, added}
use Rattle.elf_read.specs.Number.{word_at}
use Rattle.elf_laws.specs.Given.{IsName, AreNamed, symbol_given}

both_true : (a b : Bool) → (a && b) ≡ true → (a ≡ true) × (b ≡ true)
both_true true b e = (refl, e)
both_true false b e = absurd cc

not_true : (a : Bool) → not a ≡ true → a ≡ false
not_true true e = absurd cc
not_true false e = refl

-- the first zero byte is the one behind the name
zero_behind : (name rest : List ℕ) → list_all (λ b. not (b == 0)) name ≡ true → position_or_len (λ b. b == 0) (name ++ 0 ∷ rest) ≡ length name
zero_behind [] rest h = refl
zero_behind (b ∷ name) rest h =
    let both = both_true (not (b == 0)) (list_all (λ b. not (b == 0)) name) h in
    let e : (b == 0) ≡ false = not_true (b == 0) both.0 in
    let more = zero_behind name rest both.1 in
    rw e (omega (arith, more))

found : (n m : ℕ) → n < m → nat_lt n m ≡ true
found n m h = grind (arith, nat_tests)

position_is : (name rest : List ℕ) → list_all (λ b. not (b == 0)) name ≡ true → position (λ b. b == 0) (name ++ 0 ∷ rest) ≡ Some (length name)
position_is name rest h =
    let e = zero_behind name rest h in
    let f = length-append name (0 ∷ rest) in
    let g : nat_lt (length name) (length (name ++ 0 ∷ rest)) ≡ true = found (length name) (length (name ++ 0 ∷ rest)) (omega (arith, f)) in
    ap (λ n. cond (nat_lt n (length (name ++ 0 ∷ rest))) (Some n) None) e ∙ ap (λ b. cond b (Some (length name)) None) g

pub name_is : (name rest : List ℕ) → is_utf8 name ≡ true → list_all (λ b. not (b == 0)) name ≡ true → name_in (name ++ 0 ∷ rest) ≡ Some name
unfolding name_in
name_is name rest text h =
    let t : take (length name) (name ++ 0 ∷ rest) ≡ name = take-append_seam name (0 ∷ rest) in
    ap (text_before (name ++ 0 ∷ rest)) (position_is name rest h)
    ∙ (ap (λ xs. cond (is_utf8 xs) (Some xs) None) t ∙ ap (λ b. cond b (Some name) None) text)

-- ---- names of chosen symbols
pub named_both : (xs ys : SymbolList) → AreNamed xs → AreNamed ys → AreNamed (xs ++ ys)
named_both [] ys h g = g
named_both (x ∷ xs) ys h g = (h.0, h.1, named_both xs ys h.2 g)

named_if : (b : Bool) (x : List ℕ × Symbol) (xs : SymbolList) → IsName x.0 → x.1.address < 2 ^ 32 → AreNamed xs → AreNamed (cond b (x ∷ xs) xs)
named_if true x xs n a h = (n, a, h)
named_if false x xs n a h = h

pub named_filter : (test : (List ℕ × Symbol) → Bool) (xs : SymbolList) → AreNamed xs → AreNamed (filter test xs)
named_filter test [] h = h
named_filter test (x ∷ xs) h = named_if (test x) x (filter test xs) h.0 h.1 (named_filter test xs h.2)

pub named_at : (before : SymbolList) (s : List ℕ × Symbol) (after : SymbolList) → AreNamed (before ++ s ∷ after) → IsName s.0 × (s.1.address < 2 ^ 32)
named_at [] s after h = (h.0, h.1)
named_at (x ∷ before) s after h = named_at before s after h.2

-- ---- symbols one by one
-- the symbol at a place, with its name in the table of names, is this one
pub record IsRead (names bytes : List ℕ) (place : ℕ) (s : List ℕ × Symbol) : Type 0 where
  pub name : name_in (drop (word_at bytes (place + 0)) names) ≡ Some s.0
  pub some : 0 < length s.0
  pub same : read_symbol bytes place s.0 ≡ symbol_given s

add_one : (done : List SymbolValue) (name : List ℕ) (of_name : List ℕ → SymbolValue) → 0 < length name → added done name of_name ≡ done ++ of_name name ∷ []
add_one done [] of_name h = absurd (omega arith)
add_one done (b ∷ bs) of_name h = refl

abbrev goods : List SymbolValue → Symbols
goods ss = Ok ss

-- symbols behind others, each 16 bytes behind the one before
pub all_read : (names bytes : List ℕ) (done : List SymbolValue) (place : ℕ) (ss : SymbolList)
    → ((before : SymbolList) (s : List ℕ × Symbol) (after : SymbolList) → ss ≡ before ++ s ∷ after → IsRead names bytes (place + 16 * length before) s)
    → symbols_from names bytes done place (length ss) ≡ Ok (done ++ map symbol_given ss)
unfolding symbols_from
all_read names bytes done place [] h = ap goods (sym (append-nil done))
all_read names bytes done place (s ∷ ss) h =
    let r : IsRead names bytes (place + 0) s = h [] s ss refl in
    let here : IsRead names bytes place s = subst (λ n. IsRead names bytes n s) (no_way place) r in
    ap (λ o. with_name o (λ name. symbols_from names bytes (added done name (read_symbol bytes place)) (place + 16) (length ss))) here.name
    ∙ (ap (λ xs. symbols_from names bytes xs (place + 16) (length ss)) (add_one done s.0 (read_symbol bytes place) here.some ∙ ap (λ x. done ++ x ∷ []) here.same)
    ∙ (all_read names bytes (done ++ symbol_given s ∷ []) (place + 16) ss (λ before t after cut. subst (λ n. IsRead names bytes n t) (further place (length before)) (h (s ∷ before) t after (ap (λ xs. s ∷ xs) cut)))
    ∙ ap goods (append_assoc done (symbol_given s ∷ []) (map symbol_given ss))))
  where
    no_way : (n : ℕ) → n + 0 ≡ n
    no_way n = omega arith

    further : (n k : ℕ) → n + 16 * suc k ≡ n + 16 + 16 * k
    further n k = omega arith
