use Rattle.std.proofs.Common.{Some, ap, ◌∙◌, sym}
use Rattle.mem_paged.specs.Directory.{DirectoryValue, page_place}
use Rattle.mem_paged.proofs.DirectoryLemmas.{place-added}
use Rattle.mem_paged.proofs.BuildLemmas.{page_added, zero_page}
use Rattle.mem_paged.proofs.building.Building.add_page.Goals as goal

pub returns-clause-placed : goal.returns-clause-placed
returns-clause-placed g c =
    ap (λ (d : DirectoryValue). page_place d c.args.number) c.in_ok-place.ensures.added ∙ place-added _ _ c.requires.from c.requires.to ∙ sym (ap Some c.in_ok-place.ensures.place)

pub returns-clause-memory : goal.returns-clause-memory
returns-clause-memory g c =
    rw (c.in_ok-push.ensures.items, c.in_ok-push-2.ensures.items, c.in_ok-place.ensures.added)
    (page_added c.args.self.now.directory c.args.self.now.rights.items c.args.self.now.pages.items c.args.number _ _ c.requires.new c.requires.from c.requires.to
    (sym c.args.self.now.rights.ok.0 ∙ c.requires.even.rights) (sym c.args.self.now.pages.ok.0 ∙ c.requires.even.pages) c.new.ensures.items zero_page)
