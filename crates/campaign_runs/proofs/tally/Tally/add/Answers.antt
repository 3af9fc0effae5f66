use Rattle.std.proofs.Common.{refl, ap, ◌∙◌}
use Rattle.campaign_runs.specs.Ending.{ending_of}
use Rattle.campaign_runs.specs.Tally.{count_after}
use Rattle.campaign_runs.proofs.HangLemmas.{endings_agree}
use Rattle.campaign_runs.proofs.TallyLemmas.{fits_from, rows_after}
use Rattle.campaign_runs.proofs.tally.Tally.add.Goals as goal

pub count_after-count-requires : goal.count_after-count-requires
count_after-count-requires g c =
    fits_from _ c.args.self.now.rows.entries c.copied.result (c.copied.ensures ∙ c.get.ensures.value) c.requires

pub returns : goal.returns
returns g c =
    rows_after _ (λ a b. endings_agree _ refl refl refl refl (ending_of a) (ending_of b)) c.args.ending c.args.seed c.args.self.now.rows.entries c.insert.new.self.entries _ c.in_ok-insert.ensures.entries
    (c.count_after-count.ensures ∙ ap (λ o. count_after o c.args.seed) (c.copied.ensures ∙ c.get.ensures.value))
