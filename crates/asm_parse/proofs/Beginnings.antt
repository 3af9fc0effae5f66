-- Tables of names cut by the names' first bytes.
use Rattle.std.proofs.Common.{◌≡◌, ℕ, Bool, true, false, cond, List, [], ◌∷◌, Some, refl, sym, ◌∙◌, ap, inl, inr, arith}
use Rattle.std.specs.Prelude.{slice_index, ◌==◌}
use Rattle.std.specs.Str.{bytes_eq}
use Rattle.std.proofs.lemmas.Bool.{cases_Bool, cond-false, false_from_ne_true, true≢false}
use Rattle.std.proofs.lemmas.Slice.Eq.{bytes_eq-Decides}
use Rattle.asm_statement.specs.Names.{first_named}

-- the rows whose names begin with such a byte
unfoldable pub kept : {V : Type 0} → (ℕ → Bool) → List (List ℕ × V) → List (List ℕ × V)
kept p [] = []
kept p (row ∷ rows) = cond (p (slice_index row.0 0)) (row ∷ kept p rows) (kept p rows)

begins_otherwise : (p : ℕ → Bool) (one other : List ℕ) → p (slice_index one 0) ≡ false → p (slice_index other 0) ≡ true → bytes_eq one other ≡ false
begins_otherwise p one other is_not is = false_from_ne_true (bytes_eq one other) (λ same.
    let e : one ≡ other = (bytes_eq-Decides one other).0 same in
    let f : true ≡ false = sym is ∙ (ap (λ n. p (slice_index n 0)) (sym e) ∙ is_not) in
    true≢false f)

-- a name is found among the rows that begin as it does
pub found_among : {V : Type 0} (p : ℕ → Bool) (rows : List (List ℕ × V)) (name : List ℕ) → p (slice_index name 0) ≡ true → first_named (kept p rows) name ≡ first_named rows name
unfolding kept first_named
found_among p [] name h = refl
found_among p (row ∷ rows) name h = elim (cases_Bool (p (slice_index row.0 0))) [
  | inl same ↦ ap (λ b. first_named (cond b (row ∷ kept p rows) (kept p rows)) name) same
      ∙ ap (cond (bytes_eq row.0 name) (Some row.1)) (found_among p rows name h)
  | inr other ↦ ap (λ b. first_named (cond b (row ∷ kept p rows) (kept p rows)) name) other
      ∙ (found_among p rows name h
      ∙ sym (cond-false (bytes_eq row.0 name) (Some row.1) (first_named rows name) (begins_otherwise p row.0 name other h)))
]

-- a name is found among the rows that begin with its first byte
pub found_with : {V : Type 0} (b first : ℕ) (rows : List (List ℕ × V)) (name : List ℕ) → first ≡ b → first ≡ slice_index name 0
    → first_named (kept (λ n. n == b) rows) name ≡ first_named rows name
found_with b first rows name is begins = found_among (λ n. n == b) rows name (grind (arith, is, begins))
