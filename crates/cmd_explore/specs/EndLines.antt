-- The lines of how runs end.
use Rattle.std.specs.Prelude.{◌≡◌, ℕ, ◌+◌, List, [], ◌∷◌, ◌++◌, codes, map, Option, Some, None}
use Rattle.std.specs.Fmt.{decimal}
use Rattle.std.specs.List.{flat_map}
use Rattle.std.specs.List.Sorted.{IsPermutation, IsSorted}
use Rattle.std.specs.Cmp.Lexicographic.{slice_cmp}
use Rattle.std.specs.Ordering.{nat_cmp}
use Rattle.isa_names.specs.Digits.{word_text}
use Rattle.object_library.specs.declared.verdict.Verdict.{Verdict}
use Rattle.object_library.specs.Names.{verdict_name}
use Rattle.explore_space.specs.Ends.{EndValue}
use Rattle.explore_space.specs.declared.run_end.Returned.{Returned}

-- what harts have in a0 and a1, from a number on: ` 0:a0=00000001 0:a1=00000000` for each
abbrev pub returned_words : ℕ → List Returned → List ℕ
returned_words number [] = []
returned_words number (one ∷ more) =
    codes " " ++ (decimal number ++ (codes ":a0=" ++ (word_text one.a0
    ++ (codes " " ++ (decimal number ++ (codes ":a1=" ++ (word_text one.a1
    ++ returned_words (number + 1) more)))))))

-- a verdict's word, if a rule is judged
abbrev pub judged_word : Option Verdict → List ℕ
judged_word None = []
judged_word (Some verdict) = codes " " ++ verdict_name verdict

-- an end's line: the number of harts that have exited, have faulted, and run
abbrev pub ends_line : EndValue → List ℕ
ends_line end =
    codes "ends exited " ++ (decimal end.outcome.exited ++ (codes " faulted " ++ (decimal end.outcome.faulted
    ++ (codes " running " ++ (decimal end.outcome.running ++ (judged_word end.outcome.verdict ++ (returned_words 0 end.returned ++ 10 ∷ [])))))))

-- a text is the lines of ends, sorted as texts
pub record IsEndsText (ends : List EndValue) (text : List ℕ) : Type 0 where
  pub lines : List (List ℕ)
  pub are : IsPermutation (map ends_line ends) lines
  pub sorted : IsSorted (slice_cmp nat_cmp) lines
  pub text_is : text ≡ flat_map (λ line. line) lines
