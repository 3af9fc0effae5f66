use Rattle.std.proofs.Common.{◌+◌, drop, ◌/◌, ◌%◌, ◌^◌, sym, ap, ◌∙◌, arith}
use Rattle.explore_table.specs.Buckets.{hash_from}
use Rattle.explore_table.proofs.HashLemmas.{hash_more, hash_done}
use Rattle.explore_table.proofs.hash.bucket_of.Goals as goal

pub words-preserved : goal.words-preserved
words-preserved c =
    ap (λ n. hash_from n (drop (c.words.word-index + 1) c.args.key.now)) c.mixed-hash.ensures
    ∙ hash_more c.words.hash c.args.key.now c.words.word-index c.words-test.true ∙ c.words.invariant

pub returns-clause-bucket : goal.returns-clause-bucket
returns-clause-bucket c =
    ap (λ n. n / 2 ^ 32 % c.args.buckets)
    (sym (hash_done c.words.hash c.args.key.now c.words.word-index (omega (arith, c.words-test.false))) ∙ c.words.invariant)
