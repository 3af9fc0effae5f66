use Rattle.std.proofs.Common.{rules, ◌≡◌, ◌<◌, ◌+◌, ◌*◌, ◌++◌, [], string_bytes, slice_index, length}
use Rattle.isa_disasm.specs.Listing.{word_entry, word_of_bytes}
use Rattle.isa_disasm.proofs.ListingLemmas.{one_word}
use Rattle.isa_disasm.proofs.lines.push_words.Goals as goal

pub words-preserved : goal.words-preserved
words-preserved g c =
    let base = c.args.base in
    let index = c.words.index in
    let bytes = c.args.bytes.now in
    let word = c.word_at.result in
    let text = string_bytes c.words.text in
    let longer = string_bytes c.push_str.new.self in
    let room : 4 * index + 3 < length bytes = search rules in
    let is_word : word ≡ word_of_bytes (slice_index bytes (4 * index)) (slice_index bytes (4 * index + 1)) (slice_index bytes (4 * index + 2)) (slice_index bytes (4 * index + 3)) = search rules in
    let is_longer : longer ≡ text ++ word_entry (base + 4 * index) word [] = search rules in
    one_word text longer _ bytes base index word room is_word is_longer c.words.invariant
