use Rattle.std.proofs.Common.{rules, ◌≡◌, ◌<◌, ◌≤◌, length, true, false, slice_index_or, arith, inl, inr}
use Rattle.bank_order.specs.Logs.{borrowed_segments}
use Rattle.bank_order.specs.Weaving.{comes_first, woven}
use Rattle.bank_order.proofs.WeavingLemmas.{seen_at, seen_low, seen_past, seen_push, seen_rest, take_first, take_second, take_rest}
use Rattle.std.specs.Prelude.{◌⊎◌}
use Rattle.bank_order.proofs.weaving.weave.Goals.{then-segments-test+else-j-second, else-segments-test}
use Rattle.bank_order.proofs.weaving.weave.Goals as goal

pub segments-preserved-then-comes_first : goal.segments-preserved-then-comes_first
segments-preserved-then-comes_first g c =
    let low : c.segments.i < length c.args.first.now = search rules in
    let below : c.segments.j < length c.args.second.now = search rules in
    let x = c.index-first-i.result in
    let y = c.index-second-j.result in
    let z = c.index-first-i-then-comes_first.result in
    let ix : x ≡ slice_index_or c.args.first.now c.segments.i x = search rules in
    let iy : y ≡ slice_index_or c.args.second.now c.segments.j y = search rules in
    let iz : z ≡ slice_index_or c.args.first.now c.segments.i z = search rules in
    let test : comes_first x.now y.now ≡ true = search rules in (
      omega (arith, low),
      omega (arith, below),
      take_first (borrowed_segments c.args.first.now) (borrowed_segments c.args.second.now) (borrowed_segments c.segments.out.items) (borrowed_segments c.push.new.self.items) (woven (borrowed_segments c.args.first.now) (borrowed_segments c.args.second.now))
          c.segments.i c.segments.j x.now y.now z.now (seen_low c.args.first.now c.segments.i low) (seen_low c.args.second.now c.segments.j below)
          (seen_at c.args.first.now c.segments.i x low ix) (seen_at c.args.second.now c.segments.j y below iy) (seen_at c.args.first.now c.segments.i z low iz) test
          c.segments.invariant.2 (seen_push c.segments.out.items c.push.new.self.items z c.in_ok-push.ensures.items),
    )

pub segments-preserved : goal.segments-preserved
segments-preserved g c =
    let low : c.segments.i < length c.args.first.now = search rules in
    let below : c.segments.j < length c.args.second.now = search rules in
    let x = c.index-first-i.result in
    let y = c.index-second-j.result in
    let z = c.index-second-j-else-comes_first.result in
    let ix : x ≡ slice_index_or c.args.first.now c.segments.i x = search rules in
    let iy : y ≡ slice_index_or c.args.second.now c.segments.j y = search rules in
    let iz : z ≡ slice_index_or c.args.second.now c.segments.j z = search rules in
    let test : comes_first x.now y.now ≡ false = search rules in (
      omega (arith, low),
      omega (arith, below),
      take_second (borrowed_segments c.args.first.now) (borrowed_segments c.args.second.now) (borrowed_segments c.segments.out.items) (borrowed_segments c.push-else-comes_first.new.self.items) (woven (borrowed_segments c.args.first.now) (borrowed_segments c.args.second.now))
          c.segments.i c.segments.j x.now y.now z.now (seen_low c.args.first.now c.segments.i low) (seen_low c.args.second.now c.segments.j below)
          (seen_at c.args.first.now c.segments.i x low ix) (seen_at c.args.second.now c.segments.j y below iy) (seen_at c.args.second.now c.segments.j z below iz) test
          c.segments.invariant.2 (seen_push c.segments.out.items c.push-else-comes_first.new.self.items z c.in_ok-push-2.ensures.items),
    )

pub returns : goal.returns
returns g c =
    let past : (length (borrowed_segments c.args.first.now) ≤ c.segments.i) ⊎ (length (borrowed_segments c.args.second.now) ≤ c.segments.j) = elim c.segments-test.branch [
      | then-segments-test+else-j-second w ↦ inr (seen_past c.args.second.now c.segments.j (search rules))
      | else-segments-test w ↦ inl (seen_past c.args.first.now c.segments.i (search rules))
    ] in
    take_rest (borrowed_segments c.args.first.now) (borrowed_segments c.args.second.now) (borrowed_segments c.segments.out.items) (borrowed_segments c.push_from.new.out.items) (borrowed_segments c.push_from-2.new.out.items)
    (woven (borrowed_segments c.args.first.now) (borrowed_segments c.args.second.now))
    c.segments.i c.segments.j past c.segments.invariant.2
    (seen_rest c.segments.out.items c.push_from.new.out.items c.args.first.now c.segments.i c.in_ok-push_from.ensures)
    (seen_rest c.push_from.new.out.items c.push_from-2.new.out.items c.args.second.now c.segments.j c.in_ok-push_from-2.ensures)
