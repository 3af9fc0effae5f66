use Rattle.std.proofs.Common.{◌-◌, ap, sym, ◌∙◌, arith, Some}
use Rattle.std.proofs.lemmas.Bool.Decides.{Decides-eqb}
use Rattle.std.proofs.lemmas.Slice.Eq.{slice_eq-Decides}
use Rattle.explore_table.proofs.LinkLemmas.{before_less, key_is, sought_first, sought_next, sought_none}
use Rattle.explore_table.proofs.finding.find_linked.Goals as goal

pub links-init : goal.links-init
links-init g c =
    let first = sought_first c.args.rows.now c.args.befores.now c.args.heads.now c.args.key.now c.bucket_of.result c.requires
    c.bucket_of.ensures.bucket c.bucket_of.ensures.within in
    let within = first.within in
    let even = c.requires.all.even in
    record { sought = first; within = within; linked = omega (arith, within, even) }

pub returns-then-eq-clause-found : goal.returns-then-eq-clause-found
returns-then-eq-clause-found g c =
    c.row.ensures ∙ ap Some ((slice_eq-Decides Decides-eqb _ _ _ c.eq.ensures).0 c.if-eq.true)

pub links-smaller : goal.links-smaller
links-smaller g c =
    before_less c.args.rows.now c.args.befores.now c.args.heads.now c.args.key.now c.links.link c.requires c.links.invariant.sought
    c.links-test.true

pub links-preserved : goal.links-preserved
links-preserved g c =
    let next = sought_next c.args.rows.now c.args.befores.now c.args.heads.now c.args.key.now c.links.link c.requires
    c.links.invariant.sought c.links-test.true
    (λ e. let same = (slice_eq-Decides Decides-eqb _ _ _ c.eq.ensures).1
    (sym (key_is c.args.rows.now (c.links.link - 1) c.row.result.now c.row.ensures) ∙ e) in let differs = c.if-eq.false in cc) in
    let within = next.within in
    let even = c.requires.all.even in
    record { sought = next; within = within; linked = omega (arith, within, even) }

pub returns-clause-absent : goal.returns-clause-absent
returns-clause-absent g c = sought_none _ c.args.rows.now c.args.key.now c.links.link c.links.invariant.sought c.links-test.false
