-- Cells over words.
use Rattle.std.proofs.Common.{◌≡◌, ◌≢◌, ℕ, zero, suc, ◌<◌, cond, eqb, List, [], ◌∷◌, set, Some, refl, ap, sym, ◌∙◌, arith, eq-eqb, inl, inr}
use Rattle.std.proofs.lemmas.Bool.{cases_eq, ne_eqb}
use Rattle.std.specs.List.{slice_get}
use Rattle.bank_laws.specs.Banks.{WordBytes, with_word_bytes}
use Rattle.explore_sites.specs.Cells.{values_over}
use Rattle.explore_sites.specs.declared.cell.Cell.{Cell}

-- the first cell at an address
pub value_there : (base : ℕ → WordBytes) (cells : List Cell) (i a : ℕ) (cell : Cell) → slice_get cells i ≡ Some cell → cell.address ≡ a
    → ((k : ℕ) (c : Cell) → k < i → slice_get cells k ≡ Some c → c.address ≢ a) → values_over base cells a ≡ cell.bytes
unfolding values_over
value_there base [] i a cell there is first = absurd (cc)
value_there base (c ∷ cells) zero a cell there is first =
    let same : c ≡ cell = cc in
    rw (eq-eqb c.address a (ap (λ (x : Cell). x.address) same ∙ is)) (ap (λ (x : Cell). x.bytes) same)
value_there base (c ∷ cells) (suc i) a cell there is first =
    rw (ne_eqb c.address a (first zero c (omega arith) refl))
    (value_there base cells i a cell there is (λ k d below e. first (suc k) d (omega (arith, below)) e))

-- no cell is at an address
pub value_else : (base : ℕ → WordBytes) (cells : List Cell) (a : ℕ)
    → ((k : ℕ) (c : Cell) → slice_get cells k ≡ Some c → c.address ≢ a) → values_over base cells a ≡ base a
unfolding values_over
value_else base [] a none = refl
value_else base (c ∷ cells) a none =
    rw (ne_eqb c.address a (none zero c refl)) (value_else base cells a (λ k d e. none (suc k) d e))

put_each : (base : ℕ → WordBytes) (cells : List Cell) (i a : ℕ) (v : WordBytes) (cell new : Cell) (x : ℕ)
    → slice_get cells i ≡ Some cell → cell.address ≡ a → new.address ≡ a → new.bytes ≡ v
    → ((k : ℕ) (c : Cell) → k < i → slice_get cells k ≡ Some c → c.address ≢ a)
    → values_over base (set cells i new) x ≡ cond (eqb x a) v (values_over base cells x)
unfolding values_over
put_each base [] i a v cell new x there is at has first = absurd (cc)
put_each base (c ∷ cells) zero a v cell new x there is at has first =
    let same : c ≡ cell = cc in
    let old : c.address ≡ a = ap (λ (y : Cell). y.address) same ∙ is in
    elim (cases_eq x a) [
      | inl here ↦ rw (eq-eqb x a here) (rw (eq-eqb new.address x (at ∙ sym here)) has)
      | inr off ↦ rw (ne_eqb x a off) (rw (ne_eqb new.address x (λ e. off (sym e ∙ at))) (rw (ne_eqb c.address x (λ e. off (sym e ∙ old))) refl))
    ]
put_each base (c ∷ cells) (suc i) a v cell new x there is at has first =
    let rest : values_over base (set cells i new) x ≡ cond (eqb x a) v (values_over base cells x)
    = put_each base cells i a v cell new x there is at has (λ k d below e. first (suc k) d (omega (arith, below)) e) in
    elim (cases_eq c.address x) [
      | inl here ↦ rw (eq-eqb c.address x here) (rw (ne_eqb x a (λ e. first zero c (omega arith) refl (here ∙ e))) refl)
      | inr off ↦ rw (ne_eqb c.address x off) rest
    ]

-- the first cell at an address gets new bytes
pub put_there : (base : ℕ → WordBytes) (cells : List Cell) (i a : ℕ) (v : WordBytes) (cell new : Cell)
    → slice_get cells i ≡ Some cell → cell.address ≡ a → new.address ≡ a → new.bytes ≡ v
    → ((k : ℕ) (c : Cell) → k < i → slice_get cells k ≡ Some c → c.address ≢ a)
    → values_over base (set cells i new) ≡ with_word_bytes (values_over base cells) a v
put_there base cells i a v cell new there is at has first = λ j x. put_each base cells i a v cell new x there is at has first j
