-- A table seen by its names' bytes.
use Rattle.std.proofs.Common.{◌≡◌, ℕ, Bool, true, false, cond, List, [], ◌∷◌, ◌++◌, Option, Some, refl, sym, ap, ◌∙◌, true≢false}
use Rattle.std.specs.Prelude.{String}
use Rattle.std.specs.Map.{lookup}
use Rattle.std.specs.Str.{bytes_eq}
use Rattle.std.specs.String.{string_bytes, string_eq}
use Rattle.std.proofs.lemmas.Slice.Eq.{bytes_eq-Decides}
use Rattle.indexmap.specs.IndexMap.{insert_entry}
use Rattle.std.proofs.lemmas.List.{map_push}
use Rattle.asm_assemble.specs.Program.{symbol_list}
use Rattle.asm_assemble.specs.Operands.{found}

-- a look-up among the entries is one among the names' bytes
pub found_entry : {A V : Type 0} (es : List (String A × V)) (q : List ℕ) → lookup (λ k. bytes_eq q (string_bytes k)) es ≡ found (symbol_list es) q
unfolding symbol_list found
found_entry [] q = refl
found_entry (e ∷ es) q = ap (cond (bytes_eq q (string_bytes e.0)) (Some e.1)) (found_entry es q)

-- an entry at the end
pub list_push : {A V : Type 0} (es : List (String A × V)) (k : String A) (v : V) → symbol_list (es ++ (k, v) ∷ []) ≡ symbol_list es ++ (string_bytes k, v) ∷ []
unfolding symbol_list
list_push es k v = map_push _ es (k, v)

-- of two tests of a name, of which one at most passes, the order does not matter
either_first : {V : Type 0} (b c : Bool) (x y : V) (rest : Option V) → (b ≡ true → c ≡ true → x ≡ y) → cond b (Some x) (cond c (Some y) rest) ≡ cond c (Some y) (cond b (Some x) rest)
either_first true true x y rest h = ap Some (h refl refl)
either_first true false x y rest h = refl
either_first false true x y rest h = refl
either_first false false x y rest h = refl

-- the first of two equal tests decides
same_test : {V : Type 0} (b : Bool) (x y : V) (rest : Option V) → cond b (Some x) rest ≡ cond b (Some x) (cond b (Some y) rest)
same_test true x y rest = refl
same_test false x y rest = refl

-- equal names have equal bytes
same_bytes : (p q : List ℕ) → bytes_eq p q ≡ true → p ≡ q
same_bytes p q e = (bytes_eq-Decides p q).0 e

-- equal bytes pass
bytes_eq-true : {p q : List ℕ} → p ≡ q → bytes_eq p q ≡ true
bytes_eq-true {p = p} {q = q} e = (bytes_eq-Decides p q).1 e

-- what is put under a name is found there, and all else as before
pub found_put : {A V : Type 0} (es : List (String A × V)) (k : String A) (v : V) (q : List ℕ) → found (symbol_list (insert_entry string_eq es k v)) q ≡ found ((string_bytes k, v) ∷ symbol_list es) q
unfolding symbol_list found
found_put [] k v q = refl
found_put (e ∷ es) k v q = by (bytes_eq (string_bytes k) (string_bytes e.0)) refl (found_put es k v q)
  where
    by : (b : Bool) → bytes_eq (string_bytes k) (string_bytes e.0) ≡ b
        → found (symbol_list (insert_entry string_eq es k v)) q ≡ found ((string_bytes k, v) ∷ symbol_list es) q
        → found (symbol_list (cond b ((e.0, v) ∷ es) (e ∷ insert_entry string_eq es k v))) q ≡ found ((string_bytes k, v) ∷ symbol_list (e ∷ es)) q
    by true p h = rw (same_bytes (string_bytes k) (string_bytes e.0) p) (same_test (bytes_eq q (string_bytes e.0)) v e.1 (found (symbol_list es) q))
    by false p h = ap (cond (bytes_eq q (string_bytes e.0)) (Some e.1)) h ∙ either_first (bytes_eq q (string_bytes e.0)) (bytes_eq q (string_bytes k)) e.1 v (found (symbol_list es) q) (λ here there. absurd (true≢false (sym (bytes_eq-true (sym (same_bytes q (string_bytes k) there) ∙ same_bytes q (string_bytes e.0) here)) ∙ p)))
