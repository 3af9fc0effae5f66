use Rattle.std.proofs.Common.{arith, ap, ◌∙◌}
use Rattle.std.specs.List.{prefix_len, position_or_len}
use Rattle.text_items.specs.Items.{is_blank}
use Rattle.text_items.proofs.ItemLemmas.{no_item, first_from}
use Rattle.text_items.proofs.items.find_item.Goals as goal

pub returns-then-begin-end-clause-none : goal.returns-then-begin-end-clause-none
returns-then-begin-end-clause-none c =
    no_item c.args.from c.args.text.now c.blank_len.result c.item_len.result
    (c.blank_len.ensures.count ∙ ap (prefix_len is_blank) c.split_at.ensures.back)
    (c.item_len.ensures.count ∙ ap (position_or_len is_blank) c.split_at-2.ensures.back)
    (omega arith)

pub returns-clause-some : goal.returns-clause-some
returns-clause-some c = record {
  after_from = omega arith;
  nonempty = omega arith;
  within = omega arith;
  first = first_from c.args.from c.args.text.now c.blank_len.result c.item_len.result
      (c.blank_len.ensures.count ∙ ap (prefix_len is_blank) c.split_at.ensures.back)
      (c.item_len.ensures.count ∙ ap (position_or_len is_blank) c.split_at-2.ensures.back)
      (omega arith);
}
