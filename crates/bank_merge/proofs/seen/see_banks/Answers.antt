use Rattle.std.proofs.Common.{rules, ◌≡◌, ◌<◌, length, slice_index_or, arith}
use Rattle.std.proofs.lemmas.Option.{slice_get_within}
use Rattle.bank_memory.specs.BankLog.{BankLog, IsOfBank}
use Rattle.bank_merge.proofs.MatchLemmas.{seen_more}
use Rattle.bank_merge.proofs.seen.see_banks.Goals as goal

pub banks-init : goal.banks-init
banks-init g c = λ k x low at. absurd (omega (arith, low))

pub banks-preserved : goal.banks-preserved
banks-preserved g c =
    let xs = c.args.banks.now in
    let x = c.bank-item.result in
    let low : c.banks.bank-index < length xs = search rules in
    let is : x ≡ slice_index_or xs c.banks.bank-index x = search rules in
    seen_more (λ (v : BankLog). IsOfBank v) xs c.banks.bank-index x low is c.banks.invariant c.each_bank_is_logged.ensures

pub returns : goal.returns
returns g c = λ k x at. let low = slice_get_within c.args.banks.now k x at in c.banks.invariant k x (omega (arith, low)) at
