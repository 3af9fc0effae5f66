use Rattle.std.proofs.Common.{length, refl, arith}
use Rattle.std.proofs.lemmas.Option.{slice_get_read}
use Rattle.image.specs.Image.{ImageValue}
use Rattle.explore_sites.specs.Cells.{AreCanonical}
use Rattle.explore_space.specs.Hashes.{hash_of_shared}
use Rattle.explore_space.specs.Places.{AreUnlike}
use Rattle.explore_space.specs.declared.shared.Shared.{Shared}
use Rattle.explore_space.proofs.KeptLemmas.{differ_more, hashed_more}
use Rattle.explore_space.proofs.SameLemmas.{all_so_far, none_so_far}
use Rattle.explore_space.proofs.parts.add_shared.Goals as goal

pub shareds-init : goal.shareds-init
shareds-init g c = none_so_far (λ (known : Shared _). (image : ImageValue) → AreCanonical image known.cells.items
    → AreCanonical image c.args.shared.cells.items → AreUnlike image known c.args.shared) c.args.shareds.now.items

pub shareds-preserved : goal.shareds-preserved
shareds-preserved g c =
    let low = c.shareds-test.true in
    let count = c.len-id-end.ensures in
    let long = c.args.shareds.now.ok.0 in
    all_so_far (λ (known : Shared _). (image : ImageValue) → AreCanonical image known.cells.items
    → AreCanonical image c.args.shared.cells.items → AreUnlike image known c.args.shared) c.args.shareds.now.items c.shareds.id c.index.result.now
    (slice_get_read c.args.shareds.now.items (length c.args.shareds.now.items) c.shareds.id c.index.result.now refl
    (omega (arith, low, count, long)) c.index.ensures) (c.is_same_shared.ensures.unlike c.if-is_same_shared.false) c.shareds.invariant

pub returns-clause-once : goal.returns-clause-once
returns-clause-once g c =
    let past = c.shareds-test.false in
    let count = c.len-id-end.ensures in
    let long = c.args.shareds.now.ok.0 in
    λ image canonical.
    differ_more image c.args.shareds.now.items c.args.shared c.push.new.self.items c.in_ok-push.ensures.items canonical
    (λ differ. record {
      each = λ k y low e. c.shareds.invariant.each k y (omega (arith, past, count, long, low)) e image (differ.1 k y e) canonical;
    })

pub returns-clause-hashed : goal.returns-clause-hashed
returns-clause-hashed g c = λ hashes there.
    hashed_more hash_of_shared hashes c.args.shareds.now.items c.push.new.self.items c.args.shared c.in_ok-push.ensures.items there
