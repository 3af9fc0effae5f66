use Rattle.std.proofs.Common.{rules, ◌<◌, length, sym, ◌∙◌}
use Rattle.bank_merge.proofs.PlaceLemmas.{found_it, found_other}
use Rattle.bank_merge.proofs.places.place_behind.Goals as goal

pub returns-then-is_same : goal.returns-then-is_same
returns-then-is_same c =
    let low : c.accesses.place < length c.args.log.now = search rules in
    found_it c.args.log.now c.args.hart c.args.from c.accesses.place _ low (sym c.is_of.ensures ∙ c.if-is_of.true) c.accesses.invariant c.args.access.now (c.is_same.ensures.0 c.if-is_same.true)

pub returns-then-is_of : goal.returns-then-is_of
returns-then-is_of c =
    let low : c.accesses.place < length c.args.log.now = search rules in
    found_other c.args.log.now c.args.hart c.args.from c.accesses.place _ low (sym c.is_of.ensures ∙ c.if-is_of.true) c.accesses.invariant c.args.access.now
    (λ e. let t = c.is_same.ensures.1 e in let f = c.if-is_same.false in cc (t, f))
