use Rattle.std.proofs.Common.{length, arith, ap, sym, ◌∙◌, drop, drop-drop}
use Rattle.std.specs.List.{prefix_len, position_or_len}
use Rattle.text_items.specs.Items.{is_blank}
use Rattle.text_items.proofs.ItemLemmas.{first_from}
use Rattle.text_items.proofs.items.next_item.Goals as goal

-- one blank and one byte are at the front
pub returns-then-is_short-clause-some : goal.returns-then-is_short-clause-some
returns-then-is_short-clause-some c =
    let short = c.if-is_short.true in
    let back = c.split_at.ensures.back in
    let within = c.is_short.ensures.within short in
    record {
      after_from = omega arith;
      nonempty = omega arith;
      within = omega (arith, within, ap length back);
      first = first_from c.args.from c.args.text.now 1 1
          (sym (c.is_short.ensures.blanks short) ∙ ap (prefix_len is_blank) back)
          (sym (c.is_short.ensures.bytes short) ∙ ap (λ xs. position_or_len is_blank (drop 1 xs)) back
          ∙ ap (position_or_len is_blank) (drop-drop 1 c.args.from c.args.text.now))
          (omega arith);
    }
