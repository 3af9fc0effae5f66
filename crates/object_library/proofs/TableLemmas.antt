-- Each word of an object's text is an instruction.
use Rattle.std.proofs.Common.{◌≡◌, ℕ, zero, suc, ◌<◌, Bool, true, false, ◌&&◌, List, [], ◌∷◌, length, get_or, refl, arith}
use Rattle.std.specs.List.{list_all}
use Rattle.std.specs.Option.{is_some}
use Rattle.isa_table.specs.Decoded.{decoded}
use Rattle.object_library.specs.Images.{words_of}
use Rattle.object_library.specs.declared.kind.Kind.{Kind}
use Rattle.object_library.specs.declared.kind.Kind.TheVariants.{Swap, Add, LrSc, AdoptCommit, Rounds}

pub all_decode : (kind : Kind) → list_all (λ w. is_some (decoded w)) (words_of kind) ≡ true
unfolding decoded
all_decode Swap = refl
all_decode Add = refl
all_decode LrSc = refl
all_decode AdoptCommit = refl
all_decode Rounds = refl

-- each element of a list that passes a test passes it
split : (a b : Bool) → (a && b) ≡ true → (a ≡ true) × (b ≡ true)
split true true e = (refl, refl)
split true false e = absurd (cc)
split false b e = absurd (cc)

pub passes : (test : ℕ → Bool) (ws : List ℕ) (i d : ℕ) → list_all test ws ≡ true → i < length ws → test (get_or ws i d) ≡ true
passes test [] i d all lt = absurd (omega arith)
passes test (w ∷ ws) zero d all lt = (split (test w) (list_all test ws) all).0
passes test (w ∷ ws) (suc i) d all lt = passes test ws i d (split (test w) (list_all test ws) all).1 (omega arith)
