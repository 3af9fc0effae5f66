-- Whether the run of a seed hangs, where that is decided.
use Rattle.std.specs.Prelude.{ℕ, Bool, true, false, List, ◌++◌, codes, Option, Some, None}
use Rattle.machine.specs.World.{World}
use Rattle.cmd_form.specs.declared.form.Form.{Form}
use Rattle.cmd_form.specs.declared.form.Form.TheVariants.{Text, Json}
use Rattle.outcome.specs.declared.run_outcome.Outcome.{Outcome}
use Rattle.property_judge.specs.declared.judged.Judged.{Judged}
use Rattle.run_hangs.specs.Asked.{hangs_if}
use Rattle.campaign_runs.specs.Ending.{EndingValue, ending_with}
use Rattle.campaign_runs.specs.Words.{ending_seeing, words_seen}
use Rattle.campaign_runs.specs.declared.campaign.Campaign.{Campaign}

-- what a line of a report says of it, or an object
abbrev pub hang_text : Form → Bool → List ℕ
hang_text Text true = codes " hangs yes"
hang_text Text false = codes " hangs no"
hang_text Json true = codes ",\"hangs\":true"
hang_text Json false = codes ",\"hangs\":false"

-- words with what was decided behind them, if it was
abbrev pub words_deciding : Form → Option Bool → List ℕ → List ℕ
words_deciding form None words = words
words_deciding form (Some hangs) words = words ++ hang_text form hangs

-- an ending with what was decided, if it was
abbrev pub ending_deciding : Form → Option Bool → EndingValue → EndingValue
ending_deciding form hangs ending = record {
  outcome = ending.outcome;
  properties = ending.properties;
  hangs = hangs;
  words = words_deciding form hangs ending.words;
}

-- the ending of a run of n harts with this outcome and these properties that left this world, with
-- the words of memory that the campaign names; it is decided whether the run hangs, if the campaign
-- asks for that, by as many further steps as it has choices
abbrev pub ending_left : Campaign → ℕ → Outcome → List Judged → World → EndingValue
ending_left campaign harts outcome judged world =
    ending_deciding campaign.form (hangs_if campaign.hangs harts campaign.steps world)
    (ending_seeing campaign.form (words_seen campaign.report campaign.words world)
    (ending_with campaign.form campaign.report outcome judged world.harts))
