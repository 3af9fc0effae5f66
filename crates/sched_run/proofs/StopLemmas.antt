-- What a text has before its first bad item.
use Rattle.std.proofs.Common.{◌≡◌, ℕ, ◌+◌, ◌^◌, ◌<◌, true, List, [], ◌∷◌, ◌++◌, length, take, Some, Ok, Err, refl, arith, ap, sym, ◌∙◌, append_assoc, append-nil, length-append}
use Rattle.std.proofs.Math.Seq.{take-append_seam}
use Rattle.std.specs.List.{slice_split}
use Rattle.machine.specs.World.{World}
use Rattle.machine.specs.declared.choice.Choice.{Choice}
use Rattle.text_items.specs.Items.{is_blank, items_of_parts}
use Rattle.text_items.specs.Spelling.{is_end, Spells, Spoils}
use Rattle.text_items.proofs.ItemLemmas.{items_of_blank, items_of_item}
use Rattle.sched_text.specs.declared.run.Run.{Run}
use Rattle.sched_text.specs.declared.choice_text.ChoiceFault.{ChoiceFault}
use Rattle.sched_text.specs.Runs.{equal_choices, expanded_runs}
use Rattle.sched_text.specs.Grammar.{SpellsRuns, SpoilsChoices}
use Rattle.sched_text.specs.Reading.{run_of, choices_read}
use Rattle.sched_text.proofs.ItemLemmas.{run_named, named_plain, named_some}
use Rattle.sched_text.proofs.Agreement.{spoils_of, choices_of-spelled, no_run_read, no_hart_read}
use Rattle.sched_run.specs.Harts.{Harts}
use Rattle.sched_run.specs.Leads.{bad_item_at, LeadsBefore}
use Rattle.sched_run.specs.Left.{LeftChoices, none_left, behind_choices, item_then, left_of_items}
use Rattle.sched_run.proofs.RunLemmas.{SoFar, item_bad}

-- a text that begins at an offset is cut where its bad item begins; what is before it spells these
-- choices
record Front (harts at : ℕ) (text : List ℕ) (fault : ChoiceFault) (left : LeftChoices) : Type 0 where
  before : List ℕ
  rest : List ℕ
  runs : List Run
  cut : text ≡ before ++ rest
  spelled : SpellsRuns harts before runs
  choices : left.choices ≡ expanded_runs runs
  place : bad_item_at fault ≡ at + length before

abbrev choices_of : LeftChoices → List Choice
choices_of left = left.choices

end_of_front : (whole before rest : List ℕ) → whole ≡ before ++ rest → is_end whole ≡ true → is_end before ≡ true
end_of_front whole [] rest cut end = refl
end_of_front whole (b ∷ bs) rest cut end = sym (ap is_end cut) ∙ end

module _ (harts : ℕ) (few : harts < 2 ^ 32) where
  bad_in_front : (at : ℕ) (text rest : List ℕ) (fault : ChoiceFault) → bad_item_at fault ≡ at → run_of harts at text ≡ Err fault
      → left_of_items harts (items_of_parts at (slice_split is_blank (text ++ rest))) ≡ item_then (run_of harts at text) (left_of_items harts (items_of_parts (at + length text) (slice_split is_blank rest)))
      → Front harts at (text ++ rest) fault (left_of_items harts (items_of_parts at (slice_split is_blank (text ++ rest))))
  unfolding expanded_runs
  bad_in_front at text rest fault place bad first = record {
    before = [];
    rest = text ++ rest;
    runs = [];
    cut = refl;
    spelled = Spells.nothing;
    choices = ap choices_of (first ∙ ap (λ r. item_then r (left_of_items harts (items_of_parts (at + length text) (slice_split is_blank rest)))) bad);
    place = omega (arith, place);
  }

  front_of : (at : ℕ) (text : List ℕ) (fault : ChoiceFault) → SpoilsChoices harts at text fault
      → Front harts at text fault (left_of_items harts (items_of_parts at (slice_split is_blank text)))
  unfolding expanded_runs
  front_of _ _ _ (Spoils.blank at b text fault h more) =
      let f = front_of (at + 1) text fault more in
      let place = f.place in
      record {
        before = b ∷ f.before;
        rest = f.rest;
        runs = f.runs;
        cut = ap (λ xs. b ∷ xs) f.cut;
        spelled = Spells.blank b f.before f.runs h f.spelled;
        choices = ap (λ items. (left_of_items harts items).choices) (items_of_blank at b text h) ∙ f.choices;
        place = omega (arith, place);
      }
  front_of _ _ _ (Spoils.item at text rest value fault names there end more) =
      let f = front_of (at + length text) rest fault more in
      let place = f.place in
      let later = left_of_items harts (items_of_parts (at + length text) (slice_split is_blank rest)) in
      record {
        before = text ++ f.before;
        rest = f.rest;
        runs = value ∷ f.runs;
        cut = ap (λ xs. text ++ xs) f.cut ∙ sym (append_assoc text f.before f.rest);
        spelled = Spells.item text f.before value f.runs names there (end_of_front rest f.before f.rest f.cut end) f.spelled;
        choices =
            ap (λ items. (left_of_items harts items).choices) (items_of_item at text rest (named_some text value names) (named_plain text value names) end)
            ∙ ap (λ r. (item_then r later).choices) (run_named text value names harts at few there)
            ∙ ap (λ cs. equal_choices value ++ cs) f.choices;
        place = omega (arith, place, length-append text f.before);
      }
  front_of _ _ _ (Spoils.no_item at text rest some plain end none) =
      bad_in_front at text rest _ refl (no_run_read harts at text few none) (ap (left_of_items harts) (items_of_item at text rest some plain end))
  front_of _ _ _ (Spoils.not_there at text rest value names absent end) =
      bad_in_front at text rest _ refl (no_hart_read harts at text value few names absent)
      (ap (left_of_items harts) (items_of_item at text rest (named_some text value names) (named_plain text value names) end))

-- a bad item is left, and the choices before it were taken
pub stopped : (harts : ℕ) (text : List ℕ) (left : LeftChoices) (old now : World) (chosen : Harts) (fault : ChoiceFault) → harts < 2 ^ 32
    → left ≡ none_left (Some fault) → SoFar harts text left old now chosen → LeadsBefore harts text fault old now
stopped harts text left old now chosen fault few bad s =
    let spoiled : SpoilsChoices harts 0 text fault = spoils_of harts text fault few (item_bad harts text left old now chosen fault bad s) in
    let f = front_of harts few 0 text fault spoiled in
    let whole = s.read ∙ ap (behind_choices s.done) bad in
    let done : s.done ≡ expanded_runs f.runs = sym (append-nil s.done) ∙ sym (ap choices_of whole) ∙ f.choices in
    let there = f.place in
    let place : bad_item_at fault ≡ length f.before = omega (arith, there) in
    let before : take (bad_item_at fault) text ≡ f.before = ap (λ k. take k text) place ∙ ap (take (length f.before)) f.cut ∙ take-append_seam f.before f.rest in
    record {
      choices = s.done;
      read = ap (choices_read harts) before ∙ choices_of-spelled harts f.before s.done few (record { runs = f.runs; spelled = f.spelled; in_order = done });
      led = s.led;
    }
