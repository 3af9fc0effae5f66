use Rattle.std.proofs.Common.{◌≡◌, drop}
use Rattle.explore_table.specs.Buckets.{hash_from}
use Rattle.explore_table.proofs.hash.bucket_of.Given as goal

-- what is left goes on to the hash of all
abbrev pub invariant-words : goal.invariant-words
invariant-words l = hash_from l.hash (drop l.word-index l.key) ≡ hash_from 0 l.key
