-- Watched words stay aligned.
use Rattle.std.proofs.Common.{◌≡◌, ℕ, ◌-◌, ◌%◌, List, Result, Ok, Err, OnOk, OnErr, arith}
use Rattle.std.specs.List.{All}
use Rattle.std.specs.Ordering.{nat_cmp}
use Rattle.std.specs.BTreeMap.{is_at}
use Rattle.std.specs.BTreeSet.{insert_key}
use Rattle.std.specs.Set.{remove_key}
use Rattle.std.proofs.lemmas.Map.Views.{All-insert_key, All-remove_key}

pub aligned_after : {T E : Type 0} (old new : List ℕ) (address : ℕ) (r : Result T E) → OnOk r (new ≡ insert_key nat_cmp old (address - address % 4)) → OnErr r (new ≡ old)
    → All (λ a. a % 4 ≡ 0) old → All (λ a. a % 4 ≡ 0) new
aligned_after old new address (Ok x) ok err all =
    rw ok (All-insert_key nat_cmp (address - address % 4) (λ a. a % 4 ≡ 0) old all (omega arith))
aligned_after old new address (Err e) ok err all = rw err all

pub aligned_without : (old new : List ℕ) (address : ℕ) → new ≡ remove_key (is_at (nat_cmp address)) old
    → All (λ a. a % 4 ≡ 0) old → All (λ a. a % 4 ≡ 0) new
aligned_without old new address e all = rw e (All-remove_key (is_at (nat_cmp address)) (λ a. a % 4 ≡ 0) old all)
