use Rattle.std.proofs.Common.{rules}
use Rattle.std.proofs.lemmas.List.Sorted.{IsNonDecreasingBy-from_sort_by_key, answers_always}
use Rattle.elf_read.specs.Symbol.{SymbolValue}
use Rattle.cmd_run.proofs.info.by_address.Goals as goal

pub returns : goal.returns
returns g c = record {
  same = c.in_ok-sort_by_key.ensures.permutation;
  rising = IsNonDecreasingBy-from_sort_by_key (λ (s : SymbolValue). s.address) _ c.in_ok-sort_by_key.ensures.sorted (λ a r q k. search rules);
  stable = c.in_ok-sort_by_key.ensures.stable (λ (s : SymbolValue). s.address) (answers_always _ _ _ (λ f a r q k. search rules));
}
