use Rattle.std.proofs.Common.{arith, refl}
use Rattle.std.proofs.lemmas.Option.{slice_get_read}
use Rattle.mem_paged.proofs.RightLemmas.{spans_read}
use Rattle.mem_paged.proofs.BuildLemmas.{run_mapped}
use Rattle.mem_paged.proofs.building.Building.set.Goals as goal

pub returns-clause-memory : goal.returns-clause-memory
returns-clause-memory g c =
    let building = c.args.self.now in
    run_mapped building.directory building.rights.items building.pages.items c.args.place c.args.address c.args.count c.args.first c.args.rights.0 c.args.bytes.now _
    c.index_mut.result.now _ c.index_mut-2.result.now _ c.requires.placed
    (spans_read building.rights.items _ c.args.place c.index_mut.result.now building.rights.ok.0 (omega (arith, c.requires.inside, c.requires.even.rights)) c.index_mut.ensures.value)
    (slice_get_read building.pages.items _ c.args.place c.index_mut-2.result.now building.pages.ok.0 (omega (arith, c.requires.inside, c.requires.even.pages)) c.index_mut-2.ensures.value)
    (omega (arith, c.requires.inside, c.requires.even.rights, building.rights.ok.0)) (omega (arith, c.requires.inside, c.requires.even.pages, building.pages.ok.0)) c.requires.in_page
    c.in_ok-put.ensures refl refl refl c.fill.ensures
