-- Sorted addresses, and the words that are watched.
use Rattle.std.specs.Prelude.{ℕ, List, []}
use Rattle.std.specs.Ordering.{nat_cmp}
use Rattle.std.specs.BTreeMap.{is_at}
use Rattle.std.specs.BTreeSet.{insert_key}
use Rattle.std.specs.Set.{remove_key}
use Rattle.debug_session.specs.declared.stop.WatchKind.{WatchKind}
use Rattle.debug_session.specs.declared.stop.WatchKind.TheVariants.{Change, Read, Access}
use Rattle.debug_session.specs.declared.watches.Watches.{Watches}

-- sorted addresses with one more at its place, unless it is among them
abbrev pub with_address : List ℕ → ℕ → List ℕ
with_address addresses a = insert_key nat_cmp addresses a

-- sorted addresses without one
abbrev pub without_address : List ℕ → ℕ → List ℕ
without_address addresses a = remove_key (is_at (nat_cmp a)) addresses

-- the sorted addresses of words that are watched for changes, for reads, and for any access
pub record WatchedWords : Type 0 where
  pub changes : List ℕ
  pub reads : List ℕ
  pub accesses : List ℕ

-- the words that the code watches
abbrev pub watched_words : {Z : Type 0} → Watches Z → WatchedWords
watched_words ws = record {
  changes = ws.changes.keys;
  reads = ws.reads.keys;
  accesses = ws.accesses.keys;
}

-- no words
abbrev pub no_words : WatchedWords
no_words = record { changes = []; reads = []; accesses = [] }

-- with one more word that is watched in this way
abbrev pub with_watched : WatchKind → WatchedWords → ℕ → WatchedWords
with_watched Change ws a = record ws { changes = with_address ws.changes a }
with_watched Read ws a = record ws { reads = with_address ws.reads a }
with_watched Access ws a = record ws { accesses = with_address ws.accesses a }

-- without a word, in whatever way it is watched
abbrev pub without_watched : WatchedWords → ℕ → WatchedWords
without_watched ws a = record {
  changes = without_address ws.changes a;
  reads = without_address ws.reads a;
  accesses = without_address ws.accesses a;
}
