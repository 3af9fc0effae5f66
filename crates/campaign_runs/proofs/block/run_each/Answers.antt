use Rattle.std.proofs.Common.{◌≡◌, ◌<◌, ◌^◌, ◌+◌, ◌-◌, ap, ◌∙◌, arith}
use Rattle.std.specs.List.{range_with_len}
use Rattle.rayon.specs.Numbers.{nat_range}
use Rattle.rayon.proofs.ToStd.{nat_range-All}
use Rattle.campaign_runs.proofs.RunLemmas.{all-listed}
use Rattle.campaign_runs.proofs.block.run_each.Goals as goal

-- each place is below the number of seeds, so its seed is a number of 64 bits
pub collect-requires-clause-ready : goal.collect-requires-clause-ready
collect-requires-clause-ready g c κs within =
    let ends = c.into_par_iter.ensures in
    let inside = nat_range-All (λ i. g.S.SeedRuns.IsReady c.args.runs.now × (c.args.block.first + i < 2 ^ 64)) 0 c.args.block.count
    (λ i low high. (c.requires.ready, omega (arith, high, c.requires.fits))) in
    rw (c.map.ensures.base, c.map.ensures.f, c.with_min_len.ensures.base, ends.0, ends.1) (λ k d lt. (inside k d lt, λ y p. tt))

pub returns : goal.returns
returns g c =
    let ends = c.into_par_iter.ensures in
    let whole : c.args.block.count - 0 ≡ c.args.block.count = omega arith in
    let h = c.in_ok-ends.ensures in
    let chain = rw (c.map.ensures.base, c.map.ensures.f, c.with_min_len.ensures.base) at h.1 in
    let places = chain.1 ∙ (λ i. nat_range (ends.0 i) (ends.1 i)) ∙ ap (range_with_len 0) whole in
    all-listed (g.S.SeedRuns.endings c.args.runs.now) c.args.block.first
    c.args.block.count c.in_ok-ends.ends chain.0 h.0 places chain.2 h.2
