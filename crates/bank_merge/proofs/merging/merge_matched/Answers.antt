use Rattle.bank_merge.proofs.MergeLemmas.{ends_of, own_of}
use Rattle.bank_merge.proofs.OwnLemmas.{own_are_logged}
use Rattle.bank_merge.proofs.merging.merge_matched.Goals as goal

pub choices_of-requires-clause-own : goal.choices_of-requires-clause-own
choices_of-requires-clause-own g c = own_of c.args.logs.now c.args.banks.now c.requires.one c.see_harts.ensures c.see_banks.ensures

pub returns-clause-ends : goal.returns-clause-ends
returns-clause-ends g c =
    ends_of c.args.logs.now c.args.banks.now c.in_ok-choices.choices.items c.see_harts.ensures c.see_banks.ensures c.requires.matched c.in_ok-choices.ensures.leads

pub returns-clause-own : goal.returns-clause-own
returns-clause-own g c =
    own_are_logged c.args.logs.now c.in_ok-choices.choices.items
    (own_of c.args.logs.now c.args.banks.now c.requires.one c.see_harts.ensures c.see_banks.ensures) c.requires.rising c.in_ok-choices.ensures.merged
