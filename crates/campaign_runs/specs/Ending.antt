-- How a run ended, in the detail that a report distinguishes.
use Rattle.std.specs.Prelude.{ℕ, ◌+◌, Bool, true, false, ◌==◌, ◌&&◌, ◌||◌, List, [], ◌∷◌, ◌++◌, Option, Some, None, codes, string_bytes}
use Rattle.std.specs.Fmt.{decimal}
use Rattle.std.specs.List.{flat_map}
use Rattle.std.specs.Str.{bytes_eq}
use Rattle.hart_step.specs.Hart.{HartValue}
use Rattle.hart_step.specs.declared.hart.HartState.{HartState}
use Rattle.hart_step.specs.declared.hart.HartState.TheVariants.{Running, Exited, Faulted}
use Rattle.isa_names.specs.Digits.{word_text}
use Rattle.outcome.specs.Ends.{a0_of, a1_of, cause_name}
use Rattle.outcome.specs.Expect.{breaks, fails}
use Rattle.outcome.specs.declared.expect.Exit.{Exit}
use Rattle.outcome.specs.declared.run_outcome.Outcome.{Outcome}
use Rattle.property_judge.specs.declared.judged.Judged.{Judged}
use Rattle.object_library.specs.declared.verdict.Verdict.{Verdict}
use Rattle.object_library.specs.declared.verdict.Verdict.TheVariants.{Kept, Broken}
use Rattle.cmd_form.specs.declared.form.Form.{Form}
use Rattle.cmd_form.specs.declared.form.Form.TheVariants.{Text, Json}
use Rattle.campaign_runs.specs.Members.{ending_members}
use Rattle.campaign_runs.specs.Properties.{property_words, verdict_on_each}
use Rattle.campaign_runs.specs.declared.campaign.Report.{Report}
use Rattle.campaign_runs.specs.declared.campaign.Report.TheVariants.{Lines, Failures, Summary, Outcomes, Causes}
use Rattle.campaign_runs.specs.declared.ending.Ending.{Ending}

-- the outcome of a run, the verdict on its properties, whether it hangs, if that was decided, and
-- what else a line of the report says in the report's form
pub record EndingValue : Type 0 where
  pub outcome : Outcome
  pub properties : Option Verdict
  pub hangs : Option Bool
  pub words : List ℕ

-- the code's ending as an `EndingValue`
abbrev pub ending_of : {Z : Type 0} → Ending Z → EndingValue
ending_of ending =
    record { outcome = ending.outcome; properties = ending.properties; hangs = ending.hangs; words = string_bytes ending.words }

-- the registers of a hart that has exited: ` 0:a0=00000001 0:a1=00000000`
abbrev pub result_words : ℕ → HartState → HartValue → List ℕ
result_words number Running hart = []
result_words number (Faulted cause) hart = []
result_words number (Exited status) hart =
    codes " " ++ (decimal number ++ (codes ":a0=" ++ (word_text (a0_of hart)
    ++ (codes " " ++ (decimal number ++ (codes ":a1=" ++ word_text (a1_of hart)))))))

-- those of harts that are numbered from a number on
abbrev pub results_from : ℕ → List HartValue → List ℕ
results_from number [] = []
results_from number (hart ∷ harts) =
    result_words number hart.state hart ++ results_from (number + 1) harts

-- the cause and the place of a hart's fault: ` Break at 00010038`
abbrev pub fault_words : HartState → HartValue → List ℕ
fault_words Running hart = []
fault_words (Exited status) hart = []
fault_words (Faulted cause) hart =
    codes " " ++ (cause_name cause ++ (codes " at " ++ word_text hart.pc))

-- those of harts, in their order and without their numbers
abbrev pub faults_of : List HartValue → List ℕ
faults_of harts = flat_map (λ hart. fault_words hart.state hart) harts

-- what a line of a report says of harts
abbrev pub ending_words : Report → List HartValue → List ℕ
ending_words Lines harts = []
ending_words Failures harts = []
ending_words Summary harts = []
ending_words Outcomes harts = results_from 0 harts
ending_words Causes harts = faults_of harts

-- the same with what it says of properties before, or what an object of the report says of both
abbrev pub words_of_ending : Form → Report → List Judged → List HartValue → List ℕ
words_of_ending Text report judged harts = property_words judged ++ ending_words report harts
words_of_ending Json report judged harts = ending_members report judged harts

-- the ending of a run with this outcome that left these properties and harts, of which it isn't
-- decided whether it hangs
abbrev pub ending_with : Form → Report → Outcome → List Judged → List HartValue → EndingValue
ending_with form report outcome judged harts = record {
  outcome = outcome;
  properties = verdict_on_each judged;
  hangs = None;
  words = words_of_ending form report judged harts;
}

-- whether a rule or a property is broken
abbrev pub ending_breaks : EndingValue → Bool
ending_breaks ending = breaks ending.properties || breaks ending.outcome.verdict

-- whether a run has failed otherwise than by a hang: a property is broken, or its outcome is a failure
abbrev pub ending_faults : Exit → EndingValue → Bool
ending_faults exit ending = breaks ending.properties || fails exit ending.outcome

-- whether it was decided that a run hangs
abbrev pub does_hang : Option Bool → Bool
does_hang None = false
does_hang (Some hangs) = hangs

-- whether a run has failed: otherwise, or since it hangs
abbrev pub ending_fails : Exit → EndingValue → Bool
ending_fails exit ending = ending_faults exit ending || does_hang ending.hangs

-- whether two verdicts are the same
abbrev pub same_verdict : Option Verdict → Option Verdict → Bool
same_verdict None None = true
same_verdict (Some Kept) (Some Kept) = true
same_verdict (Some Broken) (Some Broken) = true
same_verdict a b = false

-- whether two outcomes are the same
abbrev pub same_outcome : Outcome → Outcome → Bool
same_outcome a b =
    (a.exited == b.exited) && (a.faulted == b.faulted) && (a.running == b.running) && same_verdict a.verdict b.verdict

-- whether two answers to the question if a run hangs are the same
abbrev pub same_hang : Option Bool → Option Bool → Bool
same_hang None None = true
same_hang (Some true) (Some true) = true
same_hang (Some false) (Some false) = true
same_hang a b = false

-- whether two endings are the same
abbrev pub same_ending : EndingValue → EndingValue → Bool
same_ending a b =
    same_outcome a.outcome b.outcome && same_verdict a.properties b.properties && same_hang a.hangs b.hangs
    && bytes_eq a.words b.words
