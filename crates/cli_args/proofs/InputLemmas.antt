-- How the inputs of a text go on from its front.
use Rattle.std.proofs.Common.{not, get_or, append_assoc, ⊎_elim, ◌≡◌, ℕ, ◌+◌, ◌<◌, ◌≤◌, Bool, true, false, List, [], ◌∷◌, ◌++◌, length, take, drop, Option, Some, None, refl, arith, rules, ap, sym, ◌∙◌}
use Rattle.std.proofs.lemmas.Grind.{common_steps}
use Rattle.std.proofs.lemmas.Bool.{cases_lt}
use Rattle.std.proofs.lemmas.List.Sums.{prefix_len_passes}
use Rattle.std.proofs.lemmas.List.Splits.{slice_split_first, slice_split_none}
use Rattle.std.specs.List.{slice_split, position_or_len}
use Rattle.cli_args.specs.Inputs.{ends_part, input_of, input_then, inputs_of, inputs_of_parts, inputs_then}

no_comma : (b : Bool) → not b ≡ true → b ≡ false
no_comma true h = sym h
no_comma false h = refl

-- a text without commas is a single part
pub part_of_one : (xs : List ℕ) → position_or_len ends_part xs ≡ length xs → slice_split ends_part xs ≡ take (position_or_len ends_part xs) xs ∷ []
part_of_one xs e =
    let plain : (k d : ℕ) → k < length xs → ends_part (get_or xs k d) ≡ false
    = λ k d lt. no_comma (ends_part (get_or xs k d)) (prefix_len_passes (λ b. not (ends_part b)) xs k d (omega (arith, e))) in
    let whole : take (position_or_len ends_part xs) xs ≡ xs = search (rules, common_steps, e) in
    slice_split_none ends_part xs plain ∙ ap (λ part. part ∷ []) (sym whole)

inputs_then-more : (inputs : List ℕ) (input : ℕ) (r : Option (List ℕ))
    → inputs_then inputs (inputs_then (input ∷ []) r) ≡ inputs_then (inputs ++ input ∷ []) r
inputs_then-more inputs input None = refl
inputs_then-more inputs input (Some more) = ap Some (sym (append_assoc inputs (input ∷ []) more))

-- reading has come so far in a text, with a part before the next comma or the end
module _ (text rest : List ℕ) (end : ℕ) (old : List ℕ) (place : end ≡ position_or_len ends_part rest)
    (so_far : inputs_of text ≡ inputs_then old (inputs_of_parts (slice_split ends_part rest))) where
  next : (parts : List (List ℕ)) → slice_split ends_part rest ≡ take (position_or_len ends_part rest) rest ∷ parts
      → inputs_of text ≡ inputs_then old (input_then (input_of (take end rest)) (inputs_of_parts parts))
  next parts e =
      so_far ∙ ap (λ parts. inputs_then old (inputs_of_parts parts)) e
      ∙ ap (λ n. inputs_then old (input_then (input_of (take n rest)) (inputs_of_parts parts))) (sym place)

  read_next : (parts : List (List ℕ)) → slice_split ends_part rest ≡ take (position_or_len ends_part rest) rest ∷ parts
      → (input : Option ℕ) → input_of (take end rest) ≡ input
      → inputs_of text ≡ inputs_then old (input_then input (inputs_of_parts parts))
  read_next parts e input read = next parts e ∙ ap (λ input. inputs_then old (input_then input (inputs_of_parts parts))) read

  pub bad_input : input_of (take end rest) ≡ None → end ≤ length rest → inputs_of text ≡ None
  bad_input read within = ⊎_elim
      (λ (lt : position_or_len ends_part rest < length rest). read_next _ (slice_split_first ends_part rest 0 lt) None read)
      (λ (ge : length rest ≤ position_or_len ends_part rest). read_next [] (part_of_one rest (omega arith)) None read)
      (cases_lt (position_or_len ends_part rest) (length rest))

  pub last_input : (input : ℕ) → input_of (take end rest) ≡ Some input → end ≡ length rest → inputs_of text ≡ Some (old ++ input ∷ [])
  last_input input read whole =
      read_next [] (part_of_one rest (sym place ∙ whole)) (Some input) read

  pub goes_on : (input : ℕ) → input_of (take end rest) ≡ Some input → end < length rest
      → inputs_of text ≡ inputs_then (old ++ input ∷ []) (inputs_of_parts (slice_split ends_part (drop (end + 1) rest)))
  goes_on input read lt =
      let more : position_or_len ends_part rest < length rest = omega arith in
      read_next _ (slice_split_first ends_part rest 0 more) (Some input) read
      ∙ ap (λ n. inputs_then old (inputs_then (input ∷ []) (inputs_of_parts (slice_split ends_part (drop (n + 1) rest))))) (sym place)
      ∙ inputs_then-more old input (inputs_of_parts (slice_split ends_part (drop (end + 1) rest)))
