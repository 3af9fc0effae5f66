use Rattle.std.proofs.Common.{[], ◌∷◌, ◌++◌, length, take, ap, sym, ◌∙◌, subst, arith}
use Rattle.std.proofs.lemmas.List.{take_all, take_more}
use Rattle.std.proofs.lemmas.Option.{slice_get_within, get_or_from_slice_get}
use Rattle.explore_space.specs.Ends.{AreEndsAt, FitsHarts, ends_in}
use Rattle.explore_space.proofs.EndLemmas.{at_none}
use Rattle.explore_space.proofs.ending.ends_at_keys.Goals as goal

pub keys-init : goal.keys-init
keys-init g c =
    subst (AreEndsAt c.args.rule c.args.inputs.now c.args.harts.now []) (sym c.new-ends.ensures)
    (at_none c.args.rule c.args.inputs.now c.args.harts.now)

pub add_end_at-requires-clause-fits : goal.add_end_at-requires-clause-fits
add_end_at-requires-clause-fits g c =
    let keys = c.args.keys.now in
    let key = c.key.result.now in
    subst (FitsHarts (length c.args.inputs.now) (length c.args.harts.now)) (get_or_from_slice_get keys c.keys.number key key c.key.ensures)
    (c.requires.fit c.keys.number key (slice_get_within keys c.keys.number key c.key.ensures))

pub keys-preserved : goal.keys-preserved
keys-preserved g c =
    let keys = c.args.keys.now in
    let key = c.key.result.now in
    subst (λ ks. AreEndsAt c.args.rule c.args.inputs.now c.args.harts.now ks (ends_in c.add_end_at.new.ends))
    (sym (take_more keys c.keys.number key (slice_get_within keys c.keys.number key c.key.ensures)
    ∙ ap (λ k. take c.keys.number keys ++ k ∷ []) (get_or_from_slice_get keys c.keys.number key key c.key.ensures)))
    (c.in_ok-add_end_at.ensures (take c.keys.number keys) c.keys.invariant)

pub returns : goal.returns
returns g c =
    let end = c.keys-test.false in
    let len = c.len-number-end.ensures in
    subst (λ ks. AreEndsAt c.args.rule c.args.inputs.now c.args.harts.now ks (ends_in c.keys.ends))
    (take_all c.keys.number c.args.keys.now (omega (arith, end, len))) c.keys.invariant
