use Rattle.std.proofs.Common.{ℕ, List, map, string_bytes, ap, ◌∙◌, subst}
use Rattle.std.specs.List.{flat_map}
use Rattle.std.specs.List.Sorted.{IsPermutation}
use Rattle.std.proofs.lemmas.List.Sorted.{IsPermutation-map}
use Rattle.cmd_explore.specs.EndLines.{ends_line}
use Rattle.cmd_explore.proofs.LineLemmas.{joined_bytes, sorted_bytes}
use Rattle.cmd_explore.proofs.end_lines.ends_text.Goals as goal

pub returns : goal.returns
returns g c = record {
  lines = map string_bytes c.sort.new.self.items;
  are = subst (λ (xs : List (List ℕ)). IsPermutation xs (map string_bytes c.sort.new.self.items))
      (c.in_ok-lines.ensures ∙ ap (map ends_line) c.as_slice.ensures)
      (IsPermutation-map string_bytes c.in_ok-lines.lines.items c.sort.new.self.items c.sort.ensures.permutation);
  sorted = sorted_bytes c.sort.new.self.items c.in_ok-sort.ensures.sorted;
  text_is = c.in_ok-text.ensures ∙ ap (flat_map string_bytes) c.as_slice-2.ensures.value ∙ joined_bytes c.sort.new.self.items;
}
