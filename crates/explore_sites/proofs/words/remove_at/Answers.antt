use Rattle.std.proofs.Common.{rules}
use Rattle.std.proofs.lemmas.Fn.{filter_same}
use Rattle.explore_sites.proofs.CanonLemmas.{without_shown, without_canonical}
use Rattle.explore_sites.proofs.words.remove_at.Goals as goal

pub returns : goal.returns
returns g c = record {
  words = λ base. without_shown base _ _ c.args.address
      (filter_same _ _ _ (λ x b f' k. search rules) _ _ c.retain.ensures.filtered);
  canonical = λ image. without_canonical image _ _ c.args.address
      (filter_same _ _ _ (λ x b f' k. search rules) _ _ c.retain.ensures.filtered);
}
