use Rattle.std.proofs.Common.{◌≡◌, ◌++◌, drop}
use Rattle.gdb_replies.specs.Digits.{words_text}
use Rattle.gdb_replies.specs.Fronts.{BeginsWith}
use Rattle.gdb_replies.proofs.registers.push_words.Given as goal

-- the text so far, and then the words that are left
abbrev pub invariant-words : goal.invariant-words
invariant-words g l = record {
  text : l.out.items ++ words_text (drop l.word-index l.words) ≡ l.initial.out.items ++ words_text l.words;
  kept : BeginsWith l.out.items l.initial.out.items;
}
