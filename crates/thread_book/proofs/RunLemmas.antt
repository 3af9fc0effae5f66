-- The world that a history leads to, and one more entry of it: the hart after its local steps, and
-- then one step.
use Rattle.std.proofs.Common.{◌≡◌, ℕ, zero, suc, false, List, [], ◌∷◌, ◌++◌, length, Some, refl, ap, sym, ◌∙◌, append_assoc}
use Rattle.std.specs.Prelude.{replicate, slice_get}
use Rattle.std.proofs.lemmas.List.{append-nil}
use Rattle.image.specs.Image.{ImageValue}
use Rattle.mem_store.specs.Image.{image_memory}
use Rattle.hart_step.specs.Hart.{HartValue}
use Rattle.hart_local.specs.CodeMemory.{code_in}
use Rattle.hart_local.specs.LocalStep.{walk}
use Rattle.machine.specs.World.{World, step, run}
use Rattle.machine.specs.Start.{started}
use Rattle.machine.specs.declared.choice.Choice.{Choice}
use Rattle.machine.proofs.WorldLemmas.{run_append, run_none}
use Rattle.machine.proofs.RunLaws.{run_length, length-started}
use Rattle.hart_local.specs.LocalRuns.{plain_choices, with_walked_hart}
use Rattle.hart_local.proofs.RunLemmas.{run_of_walk, code_of_run}
use Rattle.history.specs.declared.entry.Entry.{Entry}
use Rattle.history.specs.History.{choice, entry_choices, expanded}
use Rattle.thread_book.specs.Book.{replayed}

-- ---- histories
pub expanded-append : (xs ys : List Entry) → expanded (xs ++ ys) ≡ expanded xs ++ expanded ys
unfolding expanded
expanded-append [] ys = refl
expanded-append (e ∷ xs) ys =
    ap (λ l. entry_choices e ++ l) (expanded-append xs ys) ∙ sym (append_assoc (entry_choices e) (expanded xs) (expanded ys))

expanded-one : (e : Entry) → expanded (e ∷ []) ≡ entry_choices e
unfolding expanded
expanded-one e = append-nil (entry_choices e)

-- one entry more
pub expanded-more : (entries : List Entry) (e : Entry) → expanded (entries ++ e ∷ []) ≡ expanded entries ++ entry_choices e
expanded-more entries e = expanded-append entries (e ∷ []) ∙ ap (λ l. expanded entries ++ l) (expanded-one e)

-- no entry
pub replayed-none : (image : ImageValue) (inputs : List ℕ) → replayed image inputs [] ≡ started image inputs
unfolding replayed expanded
replayed-none image inputs = run_none (started image inputs)

-- the world after one entry more
pub replayed-more : (image : ImageValue) (inputs : List ℕ) (history : List Entry) (e : Entry)
    → replayed image inputs (history ++ e ∷ []) ≡ run (replayed image inputs history) (entry_choices e)
unfolding replayed
replayed-more image inputs history e =
    ap (run (started image inputs)) (expanded-more history e)
    ∙ run_append (started image inputs) (expanded history) (entry_choices e)

-- a hart for each input
pub replayed-harts : (image : ImageValue) (inputs : List ℕ) (history : List Entry) → length (replayed image inputs history).harts ≡ length inputs
unfolding replayed
replayed-harts image inputs history = run_length (started image inputs) (expanded history) ∙ length-started image inputs

-- the code is that of the image
pub replayed-code : (image : ImageValue) (inputs : List ℕ) (history : List Entry)
    → code_in (replayed image inputs history).memory ≡ code_in (image_memory image)
unfolding replayed
replayed-code image inputs history = code_of_run image inputs (expanded history)

-- ---- local steps
-- the choices before an entry's last
locals_are : (h n : ℕ) → replicate n (choice h false) ≡ plain_choices h n
locals_are h zero = refl
locals_are h (suc n) = ap (λ (cs : List Choice). choice h false ∷ cs) (locals_are h n)

-- an entry is its hart after the local steps, and then one step
pub run_entry : (w : World) (e : Entry) (v u : HartValue) → slice_get w.harts e.hart ≡ Some v
    → walk (code_in w.memory) e.local v ≡ Some u
    → run w (entry_choices e) ≡ step (with_walked_hart w e.hart u) (choice e.hart e.refuse)
unfolding run
run_entry w e v u there walked =
    run_append w (replicate e.local (choice e.hart false)) (choice e.hart e.refuse ∷ [])
    ∙ ap (λ x. step x (choice e.hart e.refuse))
    (ap (run w) (locals_are e.hart e.local) ∙ run_of_walk w e.hart e.local v u there walked)
