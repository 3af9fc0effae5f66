use Rattle.std.proofs.Common.{rules, ◌≡◌, ◌<◌, length, slice_index_or, arith}
use Rattle.std.proofs.lemmas.Option.{slice_get_within}
use Rattle.bank_hart_log.specs.HartLog.{HartLogValue, IsOfHart}
use Rattle.bank_merge.proofs.MatchLemmas.{seen_more}
use Rattle.bank_merge.proofs.seen.see_harts.Goals as goal

pub logs-init : goal.logs-init
logs-init g c = λ k x low at. absurd (omega (arith, low))

pub logs-preserved : goal.logs-preserved
logs-preserved g c =
    let xs = c.args.logs.now in
    let x = c.log-item.result in
    let low : c.logs.log-index < length xs = search rules in
    let is : x ≡ slice_index_or xs c.logs.log-index x = search rules in
    seen_more (λ (v : HartLogValue). IsOfHart v) xs c.logs.log-index x low is c.logs.invariant c.each_hart_log_is_walked.ensures

pub returns : goal.returns
returns g c = λ k x at. let low = slice_get_within c.args.logs.now k x at in c.logs.invariant k x (omega (arith, low)) at
