use Rattle.std.proofs.Common.{◌≡◌, List, subst, sym}
use Rattle.explore_sites.specs.Cells.{AreCanonical}
use Rattle.explore_sites.specs.declared.cell.Cell.{Cell}
use Rattle.explore_sites.proofs.stepping.step_site.Goals as goal
use Rattle.explore_sites.proofs.stepping.step_site.Goals.{then-not-refuse+then-holds_mark+in_ok-put_word-in-StoreConditional, else-not-refuse}

pub returns-after-not-refuse-clause-canonical : goal.returns-after-not-refuse-clause-canonical
returns-after-not-refuse-clause-canonical g c = λ are.
    elim c.if-not-refuse.branch [
      | then-not-refuse+then-holds_mark+in_ok-put_word-in-StoreConditional w ↦
          let same : c.if-not-refuse.cells.items ≡ w.put_word-then-holds_mark.new.cells.items = cc in
          subst (AreCanonical c.args.image.now) (sym {A = List Cell} same) (w.in_ok-put_word-in-StoreConditional.ensures.canonical are)
      | else-not-refuse w ↦
          let same : c.if-not-refuse.cells.items ≡ c.args.cells.now.items = cc in
          subst (AreCanonical c.args.image.now) (sym {A = List Cell} same) are
    ]
