use Rattle.std.proofs.Common.{ap, sym, ◌∙◌, arith}
use Rattle.std.specs.List.{slice_index}
use Rattle.explore_table.specs.Buckets.{mixed}
use Rattle.explore_space.proofs.HashLemmas.{row_more, row_none}
use Rattle.explore_space.proofs.hash.hash_of_bytes.Goals as goal

pub bytes-init : goal.bytes-init
bytes-init c = (sym (row_none c.args.start (slice_index c.args.bytes.now)), omega arith)

pub bytes-preserved : goal.bytes-preserved
bytes-preserved c = (
  c.mixed-hash.ensures ∙ ap (mixed c.bytes.hash) c.from.ensures
      ∙ ap (λ h. mixed h (slice_index c.args.bytes.now c.bytes.byte-index)) c.bytes.invariant.0
      ∙ sym (row_more c.args.start (slice_index c.args.bytes.now) c.bytes.byte-index),
  (let low = c.bytes-test.true in omega (arith, low)),
)
