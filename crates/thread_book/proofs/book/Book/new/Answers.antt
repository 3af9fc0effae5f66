use Rattle.std.proofs.Common.{◌<◌, List, length, sym, ap, subst, ◌∙◌}
use Rattle.std.proofs.lemmas.List.Elements.{All-nil}
use Rattle.mem_store.specs.Image.{segments_memory}
use Rattle.history.specs.declared.entry.Entry.{Entry}
use Rattle.thread_book.specs.Book.{IsSoundBook, replayed}
use Rattle.thread_book.proofs.RunLemmas.{replayed-none}
use Rattle.thread_book.proofs.book.Book.new.Goals as goal

pub invariant_of-result : goal.invariant_of-result
invariant_of-result g c = record {
  sound = subst (λ (es : List Entry). IsSoundBook (record { image = c.args.image; inputs = c.args.inputs; history = es })) (sym c.new-3.ensures.items)
      (record { image = c.segments.ensures.sound; inputs = c.words.ensures.startable; entries = All-nil (λ (e : Entry). e.hart < length c.args.inputs) });
  replay =
      c.in_ok-machine.ensures.begun
      ∙ sym (ap (replayed c.args.image c.args.inputs) c.new-3.ensures.items ∙ replayed-none c.args.image c.args.inputs);
  code_is = c.in_ok-code-2.ensures.ok ∙ c.in_ok-code.ensures.segments;
  memory = ap segments_memory c.in_ok-code-2.ensures.ok ∙ c.in_ok-code.ensures.memory;
}
