use Rattle.std.proofs.Common.{rules, ◌≡◌, ◌<◌, ◌/◌, ◌%◌, List, Some, None, length, slice_index_or, refl, sym, subst}
use Rattle.bank_laws.specs.declared.access.LoggedAccess.{LoggedAccess}
use Rattle.bank_laws.specs.Merged.{most_banks}
use Rattle.bank_merge.specs.AccessOrder.{bank_logs, IsBehind}
use Rattle.bank_merge.proofs.PlaceLemmas.{log_here, passed, stopped}
use Rattle.bank_merge.proofs.places.pass.Goals as goal

pub returns-in-Some : goal.returns-in-Some
returns-in-Some g c =
    let p = c.args.access.now.word / 4 % 16 in
    let there : p < length c.args.banks.now = search rules in
    let inside : p < length c.args.places.now = search rules in
    let is : c.index-banks-bank.result ≡ slice_index_or c.args.banks.now p c.index-banks-bank.result = search rules in
    let here = log_here c.args.banks.now p c.index-banks-bank.result c.log.result.now there is c.log.ensures in
    passed (bank_logs c.args.banks.now) c.args.hart c.args.places.now c.args.access.now p refl c.in-Some.place inside
    (subst (λ (log : List LoggedAccess). IsBehind log c.args.hart (slice_index_or c.args.places.now p 0) c.args.access.now (Some c.in-Some.place)) (sym here) c.in-Some.ensures)

pub returns-in-None : goal.returns-in-None
returns-in-None g c =
    let p = c.args.access.now.word / 4 % 16 in
    let low : p < most_banks = search rules in
    let there : p < length c.args.banks.now = search rules in
    let is : c.index-banks-bank.result ≡ slice_index_or c.args.banks.now p c.index-banks-bank.result = search rules in
    let here = log_here c.args.banks.now p c.index-banks-bank.result c.log.result.now there is c.log.ensures in
    stopped (bank_logs c.args.banks.now) c.args.hart c.args.places.now c.args.access.now p refl low
    (subst (λ (log : List LoggedAccess). IsBehind log c.args.hart (slice_index_or c.args.places.now p 0) c.args.access.now None) (sym here) c.in-None.ensures)
