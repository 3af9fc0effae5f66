-- Rows that stand one behind another.
use Rattle.std.proofs.Common.{◌≡◌, ◌≢◌, ℕ, zero, suc, ◌-◌, ◌<◌, ◌≤◌, List, [], ◌∷◌, ◌++◌, length, get_or, take, drop, Some, refl, ap, sym, ◌∙◌, arith, OnOk, OnErr}
use Rattle.std.specs.List.{slice_get}
use Rattle.std.specs.declared.result.Result.{Result}
use Rattle.std.specs.declared.result.Result.TheVariants.{Ok, Err}
use Rattle.std.proofs.lemmas.List.{length-append, length-drop, drop-append-le, take-append-le, drop_at, take_all}
use Rattle.explore_table.specs.Rows.{rows_from, AreEnds, row_begin}

-- as many rows as ends
pub length_rows : (at : ℕ) (ends words : List ℕ) → length (rows_from at ends words) ≡ length ends
unfolding rows_from
length_rows at [] words = refl
length_rows at (end ∷ ends) words = ap suc (length_rows end ends words)

-- what a row has
pub row_there : (at : ℕ) (ends words : List ℕ) (k : ℕ) → k < length ends
    → slice_get (rows_from at ends words) k ≡ Some (take (get_or ends k 0 - row_begin at ends k) (drop (row_begin at ends k) words))
unfolding rows_from row_begin
row_there at [] words k h = absurd (omega (arith, h))
row_there at (end ∷ ends) words zero h = refl
row_there at (end ∷ ends) words (suc zero) h = row_there end ends words zero (omega (arith, h))
row_there at (end ∷ ends) words (suc (suc k)) h = row_there end ends words (suc k) (omega (arith, h))

-- the ends don't fall
begins_within : (at : ℕ) (ends : List ℕ) (count : ℕ) → AreEnds at ends count → at ≤ count
unfolding AreEnds
begins_within at [] count e = omega (arith, e)
begins_within at (end ∷ ends) count e =
    let up = e.0 in let rest = begins_within end ends count e.1 in omega (arith, up, rest)

pub row_up : (at : ℕ) (ends : List ℕ) (count k : ℕ) → AreEnds at ends count → k < length ends
    → row_begin at ends k ≤ get_or ends k 0
unfolding AreEnds row_begin
row_up at [] count k e h = absurd (omega (arith, h))
row_up at (end ∷ ends) count zero e h = e.0
row_up at (end ∷ ends) count (suc zero) e h = row_up end ends count zero e.1 (omega (arith, h))
row_up at (end ∷ ends) count (suc (suc k)) e h = row_up end ends count (suc k) e.1 (omega (arith, h))

pub row_within : (at : ℕ) (ends : List ℕ) (count k : ℕ) → AreEnds at ends count → k < length ends → get_or ends k 0 ≤ count
unfolding AreEnds
row_within at [] count k e h = absurd (omega (arith, h))
row_within at (end ∷ ends) count zero e h = begins_within end ends count e.1
row_within at (end ∷ ends) count (suc k) e h = row_within end ends count k e.1 (omega (arith, h))

-- ---- one row more
pub ends_more : (at : ℕ) (ends : List ℕ) (count more : ℕ) → AreEnds at ends count → count ≤ more → AreEnds at (ends ++ more ∷ []) more
unfolding AreEnds
ends_more at [] count more e up = (omega (arith, e, up), refl)
ends_more at (end ∷ ends) count more e up = (e.0, ends_more end ends count more e.1 up)

pub rows_more : (at : ℕ) (ends words row : List ℕ) → AreEnds at ends (length words)
    → rows_from at (ends ++ length (words ++ row) ∷ []) (words ++ row) ≡ rows_from at ends words ++ row ∷ []
unfolding AreEnds rows_from
rows_more at [] words row e =
    ap (λ (r : List ℕ). r ∷ []) (ap (take (length (words ++ row) - at)) (drop_at words row at (sym e))
    ∙ take_all (length (words ++ row) - at) row (let n = length-append words row in omega (arith, n, e)))
rows_more at (end ∷ ends) words row e =
    let rest = begins_within end ends (length words) e.1 in
    let up = e.0 in
    let less = length-drop at words in
    ap (λ (r : List ℕ). take (end - at) r ∷ rows_from end (ends ++ length (words ++ row) ∷ []) (words ++ row))
    (drop-append-le at words row (omega (arith, up, rest)))
    ∙ ap (λ (r : List ℕ). r ∷ rows_from end (ends ++ length (words ++ row) ∷ []) (words ++ row))
    (take-append-le (end - at) (drop at words) row (omega (arith, less, up, rest)))
    ∙ ap (λ (rs : List (List ℕ)). take (end - at) (drop at words) ∷ rs) (rows_more end ends words row e.1)

-- ---- where a row begins, by its number
pub begin_first : (ends : List ℕ) (k : ℕ) → k ≡ 0 → 0 ≡ row_begin 0 ends k
unfolding row_begin
begin_first ends k e = sym (ap (row_begin 0 ends) e)

pub begin_behind : (at : ℕ) (ends : List ℕ) (k : ℕ) → k ≢ 0 → get_or ends (k - 1) 0 ≡ row_begin at ends k
unfolding row_begin
begin_behind at ends zero some = absurd (some refl)
begin_behind at ends (suc k) some = ap (λ i. get_or ends i 0) (before k)
  where
    before : (k : ℕ) → suc k - 1 ≡ k
    before k = omega arith

-- ---- the same, by what the code knows
pub rows_none : (ends words : List ℕ) → ends ≡ [] → rows_from 0 ends words ≡ []
unfolding rows_from
rows_none ends words none = rw none refl

pub ends_none : (ends words : List ℕ) → ends ≡ [] → words ≡ [] → AreEnds 0 ends (length words)
unfolding AreEnds
ends_none ends words none no_words = rw none (rw no_words refl)

module _ {T E : Type 0} (ends words row more_ends more_words : List ℕ) (e : AreEnds 0 ends (length words)) where
  pub ends_after : (result : Result T E) → OnOk result (more_words ≡ words ++ row) → OnOk result (more_ends ≡ ends ++ length more_words ∷ [])
      → OnErr result (more_words ≡ words) → OnErr result (more_ends ≡ ends) → AreEnds 0 more_ends (length more_words)
  ends_after (Ok x) words_are ends_are same_words same_ends =
      rw ends_are (ends_more 0 ends (length words) (length more_words) e
      (let n = ap (λ (ws : List ℕ). length ws) words_are ∙ length-append words row in omega (arith, n)))
  ends_after (Err x) words_are ends_are same_words same_ends = rw same_ends (rw same_words e)

  pub rows_after : (result : Result T E) (rows : List (List ℕ)) → rows_from 0 ends words ≡ rows → OnOk result (more_words ≡ words ++ row)
      → OnOk result (more_ends ≡ ends ++ length more_words ∷ [])
      → OnOk result (rows_from 0 more_ends more_words ≡ rows ++ row ∷ [])
  rows_after (Ok x) rows is words_are ends_are =
      rw ends_are (rw words_are (rows_more 0 ends words row e ∙ ap (λ (rs : List (List ℕ)). rs ++ row ∷ []) is))
  rows_after (Err x) rows is words_are ends_are = tt
