use Rattle.std.proofs.Common.{ap, sym, ◌∙◌, arith}
use Rattle.std.specs.List.{slice_index}
use Rattle.explore_table.specs.Buckets.{mixed}
use Rattle.explore_space.proofs.HashLemmas.{row_more, row_none}
use Rattle.explore_space.proofs.hash.hash_of_row.Goals as goal

pub words-init : goal.words-init
words-init c = (sym (row_none c.args.start (slice_index c.args.row.now)), omega arith)

pub words-preserved : goal.words-preserved
words-preserved c = (
  c.mixed-hash.ensures
      ∙ ap (λ h. mixed h (slice_index c.args.row.now c.words.word-index)) c.words.invariant.0
      ∙ sym (row_more c.args.start (slice_index c.args.row.now) c.words.word-index),
  (let low = c.words-test.true in omega (arith, low)),
)
