-- Runs and their harts.
use Rattle.std.proofs.Common.{◌≡◌, ℕ, ◌+◌, ◌<◌, List, length, get_or, take, drop, Some, ◌∙◌, sym, ap, refl}
use Rattle.std.specs.List.{All, slice_get}
use Rattle.std.proofs.lemmas.List.Elements.{All-take, All-drop}
use Rattle.std.proofs.lemmas.Option.{slice_get_read}
use Rattle.image.specs.Image.{ImageValue}
use Rattle.machine.specs.World.{World, step}
use Rattle.machine.specs.Start.{started}
use Rattle.machine.specs.declared.choice.Choice.{Choice}
use Rattle.machine.proofs.WorldLemmas.{run_more, run_none}
use Rattle.machine.proofs.RunLaws.{length-started, run_length}
use Rattle.machine.specs.State.{reached}

-- a hart for each input, at each position
pub reached-harts : (image : ImageValue) (inputs : List ℕ) (choices : List Choice) (k : ℕ) → length (reached image inputs choices k).harts ≡ length inputs
reached-harts image inputs choices k = run_length (started image inputs) (take k choices) ∙ length-started image inputs

-- each choice names a hart of the start
pub started_all : (image : ImageValue) (inputs : List ℕ) (choices : List Choice) (w : World) → w ≡ started image inputs
    → All (λ c. c.hart < length inputs) choices → All (λ c. c.hart < length w.harts) choices
started_all image inputs choices w is all = rw (is, length-started image inputs) all

-- each of some choices names a hart of the world at a position
pub part_all : (image : ImageValue) (inputs : List ℕ) (choices : List Choice) (k n : ℕ) (w : World) → w ≡ reached image inputs choices k
    → All (λ c. c.hart < length inputs) choices → All (λ c. c.hart < length w.harts) (take n (drop k choices))
part_all image inputs choices k n w is all =
    rw (is, reached-harts image inputs choices k)
    (All-take (λ (c : Choice). c.hart < length inputs) n (drop k choices) (All-drop (λ (c : Choice). c.hart < length inputs) k choices all))

-- a choice names a hart of the world at a position
pub one_hart : (image : ImageValue) (inputs : List ℕ) (choices : List Choice) (k i : ℕ) (w : World) (c : Choice) → w ≡ reached image inputs choices k
    → All (λ c. c.hart < length inputs) choices → i < length choices → c ≡ get_or choices i c → c.hart < length w.harts
one_hart image inputs choices k i w c is all inside read =
    let there : (get_or choices i c).hart < length inputs = all i c inside in
    rw (is, reached-harts image inputs choices k) (rw (← read) at there)

-- the world one position further
pub reached-next : (image : ImageValue) (inputs : List ℕ) (choices : List Choice) (i : ℕ) (v w : World) (c : Choice) → i < length choices → c ≡ get_or choices i c
    → v ≡ reached image inputs choices i → w ≡ step v c → w ≡ reached image inputs choices (i + 1)
reached-next image inputs choices i v w c inside read was is =
    is ∙ ap (λ (u : World). step u c) was ∙ ap (step (reached image inputs choices i)) read ∙ sym (run_more (started image inputs) choices i c inside)

-- the choice at an index
pub read_choice : (choices : List Choice) (i : ℕ) (c : Choice) → i < length choices → c ≡ get_or choices i c → slice_get choices i ≡ Some c
read_choice choices i c inside read = slice_get_read choices (length choices) i c refl inside read

-- the start is position 0
pub start_reached : (image : ImageValue) (inputs : List ℕ) (choices : List Choice) (w : World) → w ≡ started image inputs → w ≡ reached image inputs choices 0
start_reached image inputs choices w is = is ∙ sym (run_none (started image inputs))
