-- The tests of a judge. `Rules` has the properties that they decide.
use Rattle.std.specs.Prelude.{ℕ, Bool, true, false, not, ◌&&◌, ◌||◌, ◌==◌, List, [], ◌∷◌, Option, Some, None, slice_get, if◌then◌else◌}
use Rattle.std.specs.List.{list_all, list_any}
use Rattle.hart_step.specs.Hart.{HartValue}
use Rattle.machine.specs.declared.choice.Choice.{Choice}
use Rattle.object_library.specs.declared.kind.Kind.{Kind}
use Rattle.object_library.specs.declared.kind.Kind.TheVariants.{Swap, Add, LrSc, AdoptCommit, Rounds}
use Rattle.object_library.specs.declared.verdict.Verdict.{Verdict}
use Rattle.object_library.specs.declared.verdict.Verdict.TheVariants as verdict
use Rattle.object_library.specs.Rules.{is_exited, is_faulted, value_of, flag_of}

-- whether there is a number, and it is this one
abbrev pub holds : Option ℕ → ℕ → Bool
holds None value = false
holds (Some number) value = number == value

-- whether a value is the input of a chosen hart
abbrev pub is_proposed : List ℕ → List Choice → ℕ → Bool
is_proposed inputs choices value = list_any (λ c. holds (slice_get inputs c.hart) value) choices

-- whether there are two equal numbers, or neither exists
abbrev pub is_like : Option ℕ → Option ℕ → Bool
is_like None None = true
is_like None (Some b) = false
is_like (Some a) None = false
is_like (Some a) (Some b) = a == b

-- the hart that was chosen first
abbrev pub first_chosen : List Choice → ℕ
first_chosen [] = 0
first_chosen (c ∷ choices) = c.hart

-- whether all chosen harts have the first one's input
abbrev pub are_alike : List ℕ → List Choice → Bool
are_alike inputs choices =
    list_all (λ d. is_like (slice_get inputs (first_chosen choices)) (slice_get inputs d.hart)) choices

-- whether hart k, if it has exited, has hart h's value
abbrev pub agrees : HartValue → HartValue → Bool
agrees h k = not (is_exited k.state) || (value_of h == value_of k)

-- whether a hart, if it has exited, has decided on a proposed value that all others have
abbrev pub decides : List ℕ → List Choice → List HartValue → HartValue → Bool
decides inputs choices harts h =
    not (is_exited h.state)
    || ((is_proposed inputs choices (value_of h) && (flag_of h == 1)) && list_all (agrees h) harts)

-- whether a hart, if it has exited, has a proposed value and either commits, and all others have
-- its value, or adopts, and the chosen harts have different inputs
abbrev pub adopts_or_commits : Bool → List ℕ → List Choice → List HartValue → HartValue → Bool
adopts_or_commits alike inputs choices harts h =
    not (is_exited h.state)
    || (is_proposed inputs choices (value_of h)
    && (((flag_of h == 1) && list_all (agrees h) harts) || ((flag_of h == 0) && not alike)))

-- whether no hart has faulted, and each passes a test
abbrev pub each_sound : (HartValue → Bool) → List HartValue → Bool
each_sound test harts = list_all (λ h. not (is_faulted h.state) && test h) harts

-- whether the harts satisfy consensus
abbrev pub is_consensus : List ℕ → List Choice → List HartValue → Bool
is_consensus inputs choices harts = each_sound (decides inputs choices harts) harts

-- whether the harts satisfy adopt-commit
abbrev pub is_adopt_commit : List ℕ → List Choice → List HartValue → Bool
is_adopt_commit inputs choices harts =
    each_sound (adopts_or_commits (are_alike inputs choices) inputs choices harts) harts

-- whether the rule of a kind holds
abbrev pub is_kept : Kind → List ℕ → List Choice → List HartValue → Bool
is_kept Swap inputs choices harts = is_consensus inputs choices harts
is_kept Add inputs choices harts = is_consensus inputs choices harts
is_kept LrSc inputs choices harts = is_consensus inputs choices harts
is_kept AdoptCommit inputs choices harts = is_adopt_commit inputs choices harts
is_kept Rounds inputs choices harts = is_adopt_commit inputs choices harts

-- the verdict on harts
abbrev pub verdict_of : Kind → List ℕ → List Choice → List HartValue → Verdict
verdict_of kind inputs choices harts = if is_kept kind inputs choices harts then verdict.Kept else verdict.Broken
