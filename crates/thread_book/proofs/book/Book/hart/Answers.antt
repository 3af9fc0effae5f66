use Rattle.std.proofs.Common.{◌∙◌, ap, arith, length}
use Rattle.machine.specs.World.{World}
use Rattle.thread_book.specs.Book.{BookValue}
use Rattle.thread_book.proofs.RunLemmas.{replayed-harts}
use Rattle.thread_book.proofs.book.Book.hart.Goals as goal

pub hart-requires : goal.hart-requires
hart-requires g c =
    let b = c.self.inside in
    let long = ap (λ (w : World). length w.harts) c.self.invariant.replay ∙ replayed-harts b.image b.inputs b.history.items in
    let same = ap (λ (v : BookValue). length v.inputs) c.self.view_is in
    omega (arith, long, same, c.requires)
