-- Words of memory that outcomes also differ by.
use Rattle.std.specs.Prelude.{ℕ, List, [], ◌∷◌, ◌++◌, codes, map, Option, Some, None}
use Rattle.std.specs.Fmt.{decimal}
use Rattle.std.specs.List.{flat_map}
use Rattle.isa_names.specs.Digits.{word_text}
use Rattle.machine.specs.World.{World}
use Rattle.property_judge.specs.Property.{word_read}
use Rattle.cmd_form.specs.declared.form.Form.{Form}
use Rattle.cmd_form.specs.declared.form.Form.TheVariants.{Text, Json}
use Rattle.campaign_runs.specs.Ending.{EndingValue}
use Rattle.campaign_runs.specs.Members.{elements_text}
use Rattle.campaign_runs.specs.declared.campaign.Report.{Report}
use Rattle.campaign_runs.specs.declared.campaign.Report.TheVariants.{Lines, Failures, Summary, Outcomes, Causes}
use Rattle.campaign_runs.specs.declared.words.SeenWord.{SeenWord}
use Rattle.campaign_runs.specs.declared.words.Words.{Words}

-- no word
abbrev pub no_named_words : Words
no_named_words = record { first = None; second = None; third = None; fourth = None }

-- the word at an address in a world, if there is one; 0 if no load reads it
abbrev pub seen_word : World → Option ℕ → List SeenWord
seen_word world None = []
seen_word world (Some address) = record { address = address; value = word_read world.memory address } ∷ []

-- the words that a report of a run names, in order, in the world that the run left: a report of
-- outcomes names each, others none
abbrev pub words_seen : Report → Words → World → List SeenWord
words_seen Lines words world = []
words_seen Failures words world = []
words_seen Summary words world = []
words_seen Outcomes words world =
    seen_word world words.first ++ (seen_word world words.second
    ++ (seen_word world words.third ++ seen_word world words.fourth))
words_seen Causes words world = []

-- what a line says of a word: ` 00011040=00000002`
abbrev pub text_of_word : SeenWord → List ℕ
text_of_word seen = codes " " ++ (word_text seen.address ++ (codes "=" ++ word_text seen.value))

-- a word as an object: `{"address":69696,"value":2}`
unfoldable pub object_of_word : SeenWord → List ℕ
object_of_word seen =
    codes "{\"address\":" ++ (decimal seen.address ++ (codes ",\"value\":" ++ (decimal seen.value ++ codes "}")))

-- what an object of a report says of words, in order, if there are some
abbrev pub words_member : List SeenWord → List ℕ
words_member [] = []
words_member (seen ∷ more) = codes ",\"words\":[" ++ (elements_text (map object_of_word (seen ∷ more)) ++ codes "]")

-- what a report says of words: in a line ` 00011040=00000002 00011044=00000000`, or as a member
abbrev pub text_of_words : Form → List SeenWord → List ℕ
text_of_words Text seen = flat_map text_of_word seen
text_of_words Json seen = words_member seen

-- an ending with that behind its words
abbrev pub ending_seeing : Form → List SeenWord → EndingValue → EndingValue
ending_seeing form seen ending = record {
  outcome = ending.outcome;
  properties = ending.properties;
  hangs = ending.hangs;
  words = ending.words ++ text_of_words form seen;
}
