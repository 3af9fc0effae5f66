use Rattle.std.proofs.Common.{◌<◌, [], ◌∷◌, ◌++◌, length, sym, ap, ◌∙◌, arith}
use Rattle.std.specs.Arc.{arc_value}
use Rattle.mem_store.specs.Image.{segments_memory}
use Rattle.machine.specs.State.{state}
use Rattle.history.specs.History.{entry}
use Rattle.thread_book.specs.Book.{BookValue, book_code}
use Rattle.thread_book.proofs.PresentLemmas.{kept_code, kept_more, presented}
use Rattle.thread_book.proofs.book.Book.present.Goals as goal

pub enter-requires-clause-code : goal.enter-requires-clause-code
enter-requires-clause-code g c =
    let b = c.self.inside in
    ap segments_memory (c.if-not-is_current.ensures.1 ∙ sym (ap (λ (v : BookValue). book_code v) c.self.view_is))
    ∙ kept_code b.image b.inputs b.history.items (arc_value b.code) (state b.machine) c.self.invariant

pub invariant_of-self-2 : goal.invariant_of-self-2
invariant_of-self-2 g c =
    let b = c.self.inside in
    let s = c.args.segment.now in
    kept_more b.image b.inputs b.history.items c.push.new.self.items (arc_value b.code) (state b.machine) (state c.enter.new.machine) (entry s.hart s.local s.refuse) c.self.invariant
    (omega (arith, c.hart-number.ensures))
    (c.in-Ok.ensures.items ∙ ap (λ e. b.history.items ++ e ∷ []) c.entry.ensures.entry) c.enter.ensures

pub returns-clause-ok : goal.returns-clause-ok
returns-clause-ok g c =
    let b = c.self.inside in
    let s = c.args.segment.now in
    let there : s.hart < length c.args.self.now.inputs =
    omega (arith, c.hart-number.ensures, ap (λ (v : BookValue). length v.inputs) c.self.view_is) in
    presented c.args.self.now _ s c.restart.new.self c.hart-number.result c.hart.result.now there c.if-not-is_current.ensures c.entry.ensures.walked
    (ap (λ h. record { image = b.image; inputs = b.inputs; history = h }) (c.in-Ok.ensures.items ∙ ap (λ e. b.history.items ++ e ∷ []) c.entry.ensures.entry)
    ∙ ap (λ (v : BookValue). record v { history = v.history ++ entry s.hart s.local s.refuse ∷ [] }) c.self.view_is)
    c.hart-number.ensures c.hart.ensures c.restart.ensures
