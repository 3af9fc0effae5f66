-- What reports say of words of memory, and reports that name none.
use Rattle.std.proofs.Common.{◌≡◌, ℕ, List, [], ◌++◌, codes, refl, ap, ◌∙◌, append_assoc}
use Rattle.std.specs.Fmt.{decimal}
use Rattle.std.proofs.lemmas.List.{append-nil}
use Rattle.machine.specs.World.{World}
use Rattle.cmd_form.specs.declared.form.Form.{Form}
use Rattle.cmd_form.specs.declared.form.Form.TheVariants.{Text, Json}
use Rattle.campaign_runs.specs.Ending.{EndingValue}
use Rattle.campaign_runs.specs.Words.{ending_seeing, no_named_words, object_of_word, words_seen}
use Rattle.campaign_runs.specs.declared.words.SeenWord.{SeenWord}
use Rattle.campaign_runs.specs.declared.campaign.Report.{Report}
use Rattle.campaign_runs.specs.declared.campaign.Report.TheVariants.{Lines, Failures, Summary, Outcomes, Causes}
use Rattle.campaign_runs.specs.declared.words.Words.{Words}

join : (old a d b e c : List ℕ) → ((old ++ a) ++ (d ++ (b ++ e))) ++ c ≡ old ++ (a ++ (d ++ (b ++ (e ++ c))))
join old a d b e c = simp append_assoc

-- the parts of a word's object, one behind another
pub object_joined : (old opened valued whole : List ℕ) (seen : SeenWord) → opened ≡ old ++ codes "{\"address\":"
    → valued ≡ opened ++ (decimal seen.address ++ (codes ",\"value\":" ++ decimal seen.value)) → whole ≡ valued ++ codes "}"
    → whole ≡ old ++ object_of_word seen
unfolding object_of_word
object_joined old opened valued whole seen a b c =
    c ∙ ap (λ text. text ++ codes "}") (b ∙ ap (λ text. text ++ (decimal seen.address ++ (codes ",\"value\":" ++ decimal seen.value))) a)
    ∙ join old (codes "{\"address\":") (decimal seen.address) (codes ",\"value\":") (decimal seen.value) (codes "}")

-- an ending gets nothing where no word is seen
seeing_none : (form : Form) (ending : EndingValue) → ending_seeing form [] ending ≡ ending
seeing_none Text ending = λ i. record {
  outcome = ending.outcome;
  properties = ending.properties;
  hangs = ending.hangs;
  words = append-nil ending.words i;
}
seeing_none Json ending = λ i. record {
  outcome = ending.outcome;
  properties = ending.properties;
  hangs = ending.hangs;
  words = append-nil ending.words i;
}

pub unnamed_none : (form : Form) (report : Report) (world : World) (ending : EndingValue)
    → ending_seeing form (words_seen report no_named_words world) ending ≡ ending
unnamed_none form Lines world ending = seeing_none form ending
unnamed_none form Failures world ending = seeing_none form ending
unnamed_none form Summary world ending = seeing_none form ending
unnamed_none form Outcomes world ending = seeing_none form ending
unnamed_none form Causes world ending = seeing_none form ending

pub others_none : (form : Form) (report : Report) (words : Words) (world : World) (ending : EndingValue)
    → (report ≡ Outcomes → ⊥) → ending_seeing form (words_seen report words world) ending ≡ ending
others_none form Lines words world ending other = seeing_none form ending
others_none form Failures words world ending other = seeing_none form ending
others_none form Summary words world ending other = seeing_none form ending
others_none form Outcomes words world ending other = absurd (other refl)
others_none form Causes words world ending other = seeing_none form ending
