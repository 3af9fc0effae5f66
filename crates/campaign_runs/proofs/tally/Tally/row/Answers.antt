use Rattle.std.proofs.Common.{ap, sym, ◌∙◌}
use Rattle.std.proofs.lemmas.Option.{slice_get-map}
use Rattle.std.specs.Option.{option_map}
use Rattle.campaign_runs.specs.Tally.{tally_row}
use Rattle.campaign_runs.proofs.tally.Tally.row.Goals as goal

pub returns : goal.returns
returns g c =
    slice_get-map tally_row c.args.self.now.rows.entries c.args.place
    ∙ ap (option_map tally_row) (sym c.get_index.ensures.entry ∙ ap (option_map _) c.unwrap.ensures)
