use Rattle.std.proofs.Common.{◌≡◌, ◌+◌, vec_len, arith, ap, sym, ◌∙◌}
use Rattle.text_items.specs.Items.{items_from}
use Rattle.program_open.specs.HexText.{words_named, words_before}
use Rattle.program_open.specs.HexText.{most_words}
use Rattle.program_open.proofs.HexLemmas.{goes_on}
use Rattle.program_open.proofs.hex.read_hex.Goals as goal

pub items-preserved : goal.items-preserved
items-preserved g c =
    let first = c.in-Some.ensures.some in
    let room : vec_len c.items.words ≡ most_words → ⊥ = λ full. omega arith in (
      first.within,
      omega (arith, c.in-Ok.ensures.len),
      goes_on c.items.from c.in-Some.begin c.in-Some.end (vec_len c.items.words) c.args.bytes.now c.items.words.items first c.items.invariant.2 room c.in-Some-read_word.word (sym c.in-Some-read_word.ensures)
          ∙ ap (λ words. words_before words (words_named (vec_len c.items.words + 1) (items_from c.in-Some.end c.args.bytes.now))) (sym c.in-Ok.ensures.items)
          ∙ ap (λ number. words_before c.push.new.self.items (words_named number (items_from c.in-Some.end c.args.bytes.now))) (let e : vec_len c.items.words + 1 ≡ vec_len c.push.new.self = omega (arith, c.in-Ok.ensures.len) in e),
    )
