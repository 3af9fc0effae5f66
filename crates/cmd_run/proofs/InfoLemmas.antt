-- An image that is the object of no kind.
use Rattle.image.specs.Image.{ImageValue}
use Rattle.object_library.specs.declared.kind.Kind.TheVariants.{Swap, Add, LrSc, AdoptCommit, Rounds}
use Rattle.object_library.specs.Images.{image_of, IsSame}
use Rattle.cmd_run.specs.Info.{NamesLibrary}
use Rattle.std.proofs.Common.{None}

-- a kind after another
pub names_none : (image : ImageValue) → (IsSame image (image_of Swap) → ⊥) → (IsSame image (image_of Add) → ⊥)
    → (IsSame image (image_of LrSc) → ⊥) → (IsSame image (image_of AdoptCommit) → ⊥) → (IsSame image (image_of Rounds) → ⊥) → NamesLibrary image None
names_none image swap add lrsc adopt rounds Swap = swap
names_none image swap add lrsc adopt rounds Add = add
names_none image swap add lrsc adopt rounds LrSc = lrsc
names_none image swap add lrsc adopt rounds AdoptCommit = adopt
names_none image swap add lrsc adopt rounds Rounds = rounds
