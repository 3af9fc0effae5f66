use Rattle.std.proofs.Common.{◌≢◌, length, refl, arith}
use Rattle.std.proofs.lemmas.Bool.Decides.{when_false}
use Rattle.std.proofs.lemmas.Option.{slice_get_read}
use Rattle.hart_step.specs.Hart.{hart_of}
use Rattle.hart_step.specs.declared.hart.Hart.{Hart}
use Rattle.explore_space.specs.Hashes.{hash_of_hart}
use Rattle.explore_space.proofs.KeptLemmas.{hashed_more}
use Rattle.explore_space.proofs.SameLemmas.{all_so_far, apart_more, none_so_far}
use Rattle.explore_space.proofs.parts.add_hart.Goals as goal

pub harts-init : goal.harts-init
harts-init g c = none_so_far (λ (known : Hart). hart_of known ≢ hart_of c.args.hart) c.args.harts.now.items

pub harts-preserved : goal.harts-preserved
harts-preserved g c =
    let low = c.harts-test.true in
    let count = c.len-id-end.ensures in
    let long = c.args.harts.now.ok.0 in
    all_so_far (λ (known : Hart). hart_of known ≢ hart_of c.args.hart) c.args.harts.now.items c.harts.id c.index.result.now
    (slice_get_read c.args.harts.now.items (length c.args.harts.now.items) c.harts.id c.index.result.now refl (omega (arith, low, count, long))
    c.index.ensures) (when_false _ _ c.if-is_same_hart.false c.is_same_hart.ensures) c.harts.invariant

pub returns-clause-once : goal.returns-clause-once
returns-clause-once g c =
    let past = c.harts-test.false in
    let count = c.len-id-end.ensures in
    let long = c.args.harts.now.ok.0 in
    apart_more (λ (one : Hart) (other : Hart). hart_of one ≢ hart_of other) c.args.harts.now.items c.push.new.self.items c.args.hart c.harts.id
    c.in_ok-push.ensures.items (omega (arith, past, count, long)) c.harts.invariant

pub returns-clause-hashed : goal.returns-clause-hashed
returns-clause-hashed g c = λ hashes there.
    hashed_more (λ (h : Hart). hash_of_hart (hart_of h)) hashes c.args.harts.now.items c.push.new.self.items c.args.hart c.in_ok-push.ensures.items there
