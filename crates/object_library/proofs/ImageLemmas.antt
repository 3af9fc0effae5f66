-- The bytes of words one word at a time, and the images of the objects.
use Rattle.std.proofs.Common.{◌≡◌, ℕ, zero, suc, ◌+◌, ◌/◌, ◌%◌, ◌^◌, ◌<◌, List, [], ◌∷◌, ◌++◌, length, get_or, take, Result, Ok, refl, sym, ◌∙◌, ap, arith}
use Rattle.image.specs.Image.{ImageValue, image_or_fault, image_fault, Gives}
use Rattle.image.specs.Spans.{space_fault}
use Rattle.image.specs.declared.fault.ElfFault.{ElfFault}
use Rattle.object_library.specs.Images.{bytes_of, image_of}
use Rattle.object_library.specs.declared.kind.Kind.{Kind}
use Rattle.object_library.specs.declared.kind.Kind.TheVariants.{Swap, Add, LrSc, AdoptCommit, Rounds}

-- the bytes of one word
abbrev pub four : ℕ → List ℕ
four w = w % 256 ∷ w / 2 ^ 8 % 256 ∷ w / 2 ^ 16 % 256 ∷ w / 2 ^ 24 % 256 ∷ []

one_more : (ws : List ℕ) (i d : ℕ) → i < length ws → bytes_of (take (suc i) ws) ≡ bytes_of (take i ws) ++ four (get_or ws i d)
one_more [] i d lt = absurd (omega arith)
one_more (w ∷ ws) zero d lt = refl
one_more (w ∷ ws) (suc i) d lt =
    ap (λ (t : List ℕ). w % 256 ∷ w / 2 ^ 8 % 256 ∷ w / 2 ^ 16 % 256 ∷ w / 2 ^ 24 % 256 ∷ t) (one_more ws i d (omega arith))

-- one word more
pub bytes_more : (ws : List ℕ) (i d : ℕ) → i < length ws → bytes_of (take (i + 1) ws) ≡ bytes_of (take i ws) ++ four (get_or ws i d)
bytes_more ws i d lt = let e : i + 1 ≡ suc i = omega arith in rw e (one_more ws i d lt)

-- the segments of an object pass all checks
pub is_sound : (kind : Kind) → image_or_fault 0x00010000 (image_of kind).segments ≡ Ok (image_of kind)
unfolding image_or_fault image_fault space_fault
is_sound Swap = refl
is_sound Add = refl
is_sound LrSc = refl
is_sound AdoptCommit = refl
is_sound Rounds = refl

pub image_made : (kind : Kind) (image : ImageValue) → Gives (Ok image) (image_or_fault 0x00010000 (image_of kind).segments) → image ≡ image_of kind
image_made kind image given =
    let same : ◌≡◌ {A = Result ImageValue ElfFault} (Ok (image_of kind)) (Ok image) = sym (is_sound kind) ∙ given in
    sym (cc)
