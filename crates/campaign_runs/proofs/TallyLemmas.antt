-- Tallies, seed by seed.
use Rattle.std.proofs.Common.{◌≡◌, ℕ, ◌+◌, ◌^◌, ◌<◌, ◌≤◌, Bool, true, false, List, [], ◌∷◌, ◌++◌, map, length, Option, Some, None, if◌then◌else◌, refl, arith, ap, sym, ◌∙◌, true≢false}
use Rattle.std.specs.Map.{lookup}
use Rattle.std.specs.Option.{IfSome}
use Rattle.indexmap.specs.IndexMap.{insert_entry}
use Rattle.campaign_runs.specs.Ending.{EndingValue, ending_of, same_ending}
use Rattle.campaign_runs.specs.Tally.{TallyRow, add_seed, count_after, tally_count, first_one, how_many, one_more, tally_row, seeds_in, seeds_with, tally_onto}
use Rattle.campaign_runs.specs.declared.ending.Ending.{Ending}
use Rattle.campaign_runs.specs.Runs.{SeedEnding}
use Rattle.campaign_runs.specs.declared.tally.SeedCount.{SeedCount}
use Rattle.campaign_runs.proofs.EndingLemmas.{endings_equal}

-- ---- what the map does
module _ {Z : Type 0} (eq : Ending Z → Ending Z → Bool) (agrees : (a b : Ending Z) → eq a b ≡ same_ending (ending_of a) (ending_of b))
    (key : Ending Z) (seed : ℕ) where
  abbrev put : SeedEnding
  put = record { seed = seed; ending = ending_of key }

  -- the entries after the count of an ending is put into the map
  pub rows_put : (entries : List (Ending Z × SeedCount))
      → map tally_row (insert_entry eq entries key (count_after (lookup (eq key) entries) seed)) ≡ add_seed (record { seed = seed; ending = ending_of key }) (map tally_row entries)
  rows_put [] = refl
  rows_put (e ∷ es) = by (eq key e.0) refl (rows_put es)
    where
      by : (b : Bool) → eq key e.0 ≡ b
          → map tally_row (insert_entry eq es key (count_after (lookup (eq key) es) seed)) ≡ add_seed put (map tally_row es)
          → map tally_row (insert_entry eq (e ∷ es) key (count_after (lookup (eq key) (e ∷ es)) seed)) ≡ add_seed put (map tally_row (e ∷ es))
      by true same rest =
          ap (λ b. map tally_row (if b then (e.0, count_after (if b then Some e.1 else lookup (eq key) es) seed) ∷ es
          else e ∷ insert_entry eq es key (count_after (if b then Some e.1 else lookup (eq key) es) seed))) same
          ∙ ap (λ b. if b then record { ending = ending_of e.0; count = one_more e.1 } ∷ map tally_row es else tally_row e ∷ add_seed put (map tally_row es)) (sym same ∙ agrees key e.0)
      by false other rest =
          ap (λ b. map tally_row (if b then (e.0, count_after (if b then Some e.1 else lookup (eq key) es) seed) ∷ es
          else e ∷ insert_entry eq es key (count_after (if b then Some e.1 else lookup (eq key) es) seed))) other
          ∙ ap (λ rows. tally_row e ∷ rows) rest
          ∙ ap (λ b. if b then record { ending = ending_of e.0; count = one_more e.1 } ∷ map tally_row es else tally_row e ∷ add_seed put (map tally_row es)) (sym other ∙ agrees key e.0)

  -- and so where they are known by what the map says
  pub rows_after : (old new : List (Ending Z × SeedCount)) (count : SeedCount)
      → new ≡ insert_entry eq old key count → count ≡ count_after (lookup (eq key) old) seed
      → map tally_row new ≡ add_seed (record { seed = seed; ending = ending_of key }) (map tally_row old)
  rows_after old new count is counted =
      ap (map tally_row) is ∙ ap (λ n. map tally_row (insert_entry eq old key n)) counted ∙ rows_put old

-- ---- laws
-- seeds that are counted block by block
pub tally_onto-append : (rows : List TallyRow) (before block : List SeedEnding) → tally_onto rows (before ++ block) ≡ tally_onto (tally_onto rows before) block
tally_onto-append rows [] block = refl
tally_onto-append rows (one ∷ more) block = tally_onto-append (add_seed one rows) more block

-- one seed more is counted once
pub seeds_in-add : (one : SeedEnding) (rows : List TallyRow) → seeds_in (add_seed one rows) ≡ seeds_in rows + 1
seeds_in-add one [] = refl
seeds_in-add one (row ∷ rows) = by (same_ending one.ending row.ending) refl (seeds_in-add one rows)
  where
    by : (b : Bool) → same_ending one.ending row.ending ≡ b → seeds_in (add_seed one rows) ≡ seeds_in rows + 1
        → seeds_in (add_seed one (row ∷ rows)) ≡ row.count.seeds + seeds_in rows + 1
    by true same rest =
        ap (λ b. seeds_in (if b then record { ending = row.ending; count = one_more row.count } ∷ rows else row ∷ add_seed one rows)) same
        ∙ omega arith
    by false other rest =
        ap (λ b. seeds_in (if b then record { ending = row.ending; count = one_more row.count } ∷ rows else row ∷ add_seed one rows)) other
        ∙ ap (λ n. row.count.seeds + n) rest ∙ omega arith

pub seeds_in-onto : (rows : List TallyRow) (all : List SeedEnding) → seeds_in (tally_onto rows all) ≡ seeds_in rows + length all
seeds_in-onto rows [] = omega arith
seeds_in-onto rows (one ∷ more) =
    seeds_in-onto (add_seed one rows) more ∙ ap (λ n. n + length more) (seeds_in-add one rows) ∙ omega arith

-- the count of an ending is no more than that of all
pub count_within : {Z : Type 0} (test : Ending Z → Bool) (entries : List (Ending Z × SeedCount)) (count : SeedCount)
    → lookup test entries ≡ Some count → count.seeds ≤ seeds_in (map tally_row entries)
count_within test [] count there = absurd (none≢some there)
  where
    none≢some : None ≡ Some count → ⊥
    none≢some e = true≢false (ap (λ (o : Option SeedCount). elim o [ None ↦ true | Some c ↦ false ]) e)
count_within test (e ∷ es) count there = by (test e.0) refl (count_within test es count)
  where
    by : (b : Bool) → test e.0 ≡ b → (lookup test es ≡ Some count → count.seeds ≤ seeds_in (map tally_row es)) → count.seeds ≤ seeds_in (map tally_row (e ∷ es))
    by true found rest =
        let is : Some e.1 ≡ Some count = ap (λ b. if b then Some e.1 else lookup test es) (sym found) ∙ there in
        let same : e.1.seeds ≡ count.seeds = ap (λ (o : Option SeedCount). elim o [ None ↦ 0 | Some c ↦ c.seeds ]) is in
        omega (arith, same)
    by false other rest =
        let within = rest (ap (λ b. if b then Some e.1 else lookup test es) (sym other) ∙ there) in
        omega (arith, within)

-- so one more fits, where one more than all fits
pub fits_from : {Z : Type 0} (test : Ending Z → Bool) (entries : List (Ending Z × SeedCount)) (found : Option SeedCount)
    → found ≡ lookup test entries → seeds_in (map tally_row entries) + 1 < 2 ^ 64 → IfSome found (λ count. count.seeds + 1 < 2 ^ 64)
fits_from test entries None is room = tt
fits_from test entries (Some count) is room = omega (arith, count_within test entries count (sym is), room)

-- ---- the row of an ending
abbrev told : ℕ → ℕ → Option SeedCount
told seeds first = Some (record { seeds = seeds; first = first })

abbrev told_once_more : Option SeedCount → ℕ → Option SeedCount
told_once_more before seed = Some (count_after before seed)

module _ (ending : EndingValue) where
  -- the row once more seeds are counted
  abbrev told_after : Option SeedCount → List SeedEnding → Option SeedCount
  told_after None all = seeds_with ending all
  told_after (Some count) all = told (count.seeds + how_many ending all) count.first

  -- a seed of this ending
  count_in-same : (one : SeedEnding) → same_ending ending one.ending ≡ true
      → (rows : List TallyRow) → tally_count ending (add_seed one rows) ≡ Some (count_after (tally_count ending rows) one.seed)
  count_in-same one same [] = ap (λ b. if b then Some (first_one one.seed) else None) same
  count_in-same one same (row ∷ rows) = by (same_ending ending row.ending) refl (count_in-same one same rows)
    where
      is : ending ≡ one.ending
      is = endings_equal ending one.ending same

      by : (b : Bool) → same_ending ending row.ending ≡ b
          → tally_count ending (add_seed one rows) ≡ Some (count_after (tally_count ending rows) one.seed)
          → tally_count ending (add_seed one (row ∷ rows)) ≡ Some (count_after (tally_count ending (row ∷ rows)) one.seed)
      by true at rest =
          ap (λ b. tally_count ending (if b then record { ending = row.ending; count = one_more row.count } ∷ rows else row ∷ add_seed one rows))
          (ap (λ o. same_ending o row.ending) (sym is) ∙ at)
          ∙ ap (λ b. if b then Some (one_more row.count) else tally_count ending rows) at
          ∙ ap (λ b. told_once_more (if b then Some row.count else tally_count ending rows) one.seed) (sym at)
      by false other rest =
          ap (λ b. tally_count ending (if b then record { ending = row.ending; count = one_more row.count } ∷ rows else row ∷ add_seed one rows))
          (ap (λ o. same_ending o row.ending) (sym is) ∙ other)
          ∙ ap (λ b. if b then Some row.count else tally_count ending (add_seed one rows)) other
          ∙ rest
          ∙ ap (λ b. told_once_more (if b then Some row.count else tally_count ending rows) one.seed) (sym other)

  -- a seed of another
  count_in-other : (one : SeedEnding) → same_ending ending one.ending ≡ false
      → (rows : List TallyRow) → tally_count ending (add_seed one rows) ≡ tally_count ending rows
  count_in-other one other [] = ap (λ b. if b then Some (first_one one.seed) else None) other
  count_in-other one other (row ∷ rows) = by (same_ending one.ending row.ending) refl (count_in-other one other rows)
    where
      by : (b : Bool) → same_ending one.ending row.ending ≡ b → tally_count ending (add_seed one rows) ≡ tally_count ending rows
          → tally_count ending (add_seed one (row ∷ rows)) ≡ tally_count ending (row ∷ rows)
      by true at rest =
          let elsewhere : same_ending ending row.ending ≡ false
          = ap (same_ending ending) (sym (endings_equal one.ending row.ending at)) ∙ other in
          ap (λ b. tally_count ending (if b then record { ending = row.ending; count = one_more row.count } ∷ rows else row ∷ add_seed one rows)) at
          ∙ ap (λ b. if b then Some (one_more row.count) else tally_count ending rows) elsewhere
          ∙ ap (λ b. if b then Some row.count else tally_count ending rows) (sym elsewhere)
      by false apart rest =
          ap (λ b. tally_count ending (if b then record { ending = row.ending; count = one_more row.count } ∷ rows else row ∷ add_seed one rows)) apart
          ∙ ap (λ (o : Option SeedCount). if same_ending ending row.ending then Some row.count else o) rest

  pub count_in-onto : (all : List SeedEnding) (rows : List TallyRow) → tally_count ending (tally_onto rows all) ≡ told_after (tally_count ending rows) all
  count_in-onto [] rows = none_more (tally_count ending rows)
    where
      none_more : (before : Option SeedCount) → before ≡ told_after before []
      none_more None = refl
      none_more (Some count) = ap (λ n. told n count.first) (omega arith)
  count_in-onto (one ∷ more) rows = by (same_ending ending one.ending) refl (count_in-onto more (add_seed one rows))
    where
      reordered : (m n : ℕ) → m + 1 + n ≡ m + (1 + n)
      reordered m n = omega arith

      told_same : (before : Option SeedCount) → same_ending ending one.ending ≡ true
          → told_after (told_once_more before one.seed) more ≡ told_after before (one ∷ more)
      told_same None same =
          ap (λ b. if b then told (1 + how_many ending more) one.seed else seeds_with ending more) (sym same)
      told_same (Some count) same =
          ap (λ n. told n count.first) (reordered count.seeds (how_many ending more))
          ∙ ap (λ b. told (count.seeds + (if b then 1 + how_many ending more else how_many ending more)) count.first) (sym same)

      told_other : (before : Option SeedCount) → same_ending ending one.ending ≡ false → told_after before more ≡ told_after before (one ∷ more)
      told_other None other =
          ap (λ b. if b then told (1 + how_many ending more) one.seed else seeds_with ending more) (sym other)
      told_other (Some count) other =
          ap (λ b. told (count.seeds + (if b then 1 + how_many ending more else how_many ending more)) count.first) (sym other)

      by : (b : Bool) → same_ending ending one.ending ≡ b
          → tally_count ending (tally_onto (add_seed one rows) more) ≡ told_after (tally_count ending (add_seed one rows)) more
          → tally_count ending (tally_onto (add_seed one rows) more) ≡ told_after (tally_count ending rows) (one ∷ more)
      by true same rest =
          rest
          ∙ ap (λ before. told_after before more) (count_in-same one same rows)
          ∙ told_same (tally_count ending rows) same
      by false other rest =
          rest
          ∙ ap (λ before. told_after before more) (count_in-other one other rows)
          ∙ told_other (tally_count ending rows) other
