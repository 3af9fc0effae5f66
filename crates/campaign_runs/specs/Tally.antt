-- Tallies: the number of seeds of each ending, and the first of them.
use Rattle.std.specs.Prelude.{ℕ, ◌+◌, List, [], ◌∷◌, map, Option, Some, None, if◌then◌else◌}
use Rattle.campaign_runs.specs.Ending.{EndingValue, ending_of, same_ending}
use Rattle.campaign_runs.specs.Runs.{SeedEnding}
use Rattle.campaign_runs.specs.declared.ending.Ending.{Ending}
use Rattle.campaign_runs.specs.declared.tally.SeedCount.{SeedCount}
use Rattle.campaign_runs.specs.declared.tally.Tally.{Tally}

-- an ending, the number of its seeds and the first of them
pub record TallyRow : Type 0 where
  pub ending : EndingValue
  pub count : SeedCount

-- a seed is the first with its ending
abbrev pub first_one : ℕ → SeedCount
first_one seed = record { seeds = 1; first = seed }

-- one more seed has an ending
abbrev pub one_more : SeedCount → SeedCount
one_more count = record { seeds = count.seeds + 1; first = count.first }

-- the count of an ending with one more seed
abbrev pub count_after : Option SeedCount → ℕ → SeedCount
count_after None seed = first_one seed
count_after (Some count) seed = one_more count

-- a seed is counted in the row of its ending; a new ending gets a row after the others
abbrev pub add_seed : SeedEnding → List TallyRow → List TallyRow
add_seed one [] = record { ending = one.ending; count = first_one one.seed } ∷ []
add_seed one (row ∷ rows) = if same_ending one.ending row.ending
    then record { ending = row.ending; count = one_more row.count } ∷ rows
    else row ∷ add_seed one rows

-- seeds are counted one after another, into existing rows
abbrev pub tally_onto : List TallyRow → List SeedEnding → List TallyRow
tally_onto rows [] = rows
tally_onto rows (one ∷ more) = tally_onto (add_seed one rows) more

-- the tally of seeds
abbrev pub tally_of : List SeedEnding → List TallyRow
tally_of all = tally_onto [] all

-- the rows of the code's tally as `TallyRow`s
abbrev pub tally_row : {Z : Type 0} → Ending Z × SeedCount → TallyRow
tally_row entry = record { ending = ending_of entry.0; count = entry.1 }

abbrev pub tally_rows : {Z : Type 0} → Tally Z → List TallyRow
tally_rows tally = map tally_row tally.rows.entries

-- number of seeds in all rows
abbrev pub seeds_in : List TallyRow → ℕ
seeds_in [] = 0
seeds_in (row ∷ rows) = row.count.seeds + seeds_in rows

-- ---- the count in a tally, and the true one
-- the count in the row of an ending, if there is one
abbrev pub tally_count : EndingValue → List TallyRow → Option SeedCount
tally_count ending [] = None
tally_count ending (row ∷ rows) = if same_ending ending row.ending then Some row.count else tally_count ending rows

-- number of the seeds with an ending
abbrev pub how_many : EndingValue → List SeedEnding → ℕ
how_many ending [] = 0
how_many ending (one ∷ more) =
    if same_ending ending one.ending then 1 + how_many ending more else how_many ending more

-- number of the seeds with an ending, and the first of them, if there is one
abbrev pub seeds_with : EndingValue → List SeedEnding → Option SeedCount
seeds_with ending [] = None
seeds_with ending (one ∷ more) = if same_ending ending one.ending
    then Some (record { seeds = 1 + how_many ending more; first = one.seed })
    else seeds_with ending more
