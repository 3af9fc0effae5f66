use Rattle.std.proofs.Common.{◌≡◌, ◌-◌, ◌≤◌, length, vec_len}
use Rattle.text_items.specs.Items.{items_from}
use Rattle.program_open.specs.HexText.{hex_words, words_named, words_before}
use Rattle.program_open.specs.HexText.{most_words}
use Rattle.program_open.proofs.hex.read_hex.Given as goal

abbrev pub invariant-items : goal.invariant-items
invariant-items g l =
    (l.from ≤ length l.bytes)
    × (vec_len l.words ≤ most_words)
    × (hex_words l.bytes ≡ words_before l.words.items (words_named (vec_len l.words) (items_from l.from l.bytes)))

abbrev pub decreases-items : goal.decreases-items
decreases-items g l = length l.bytes - l.from
