use Rattle.std.proofs.Common.{◌∙◌, sym}
use Rattle.bank_order.proofs.RisingLemmas.{test_is_rising, rising_passes}
use Rattle.bank_order.proofs.rising.is_rising.Goals as goal

pub returns : goal.returns
returns c = (λ e. test_is_rising c.args.log.now (sym c.rises.ensures ∙ e), λ r. c.rises.ensures ∙ rising_passes c.args.log.now r)
