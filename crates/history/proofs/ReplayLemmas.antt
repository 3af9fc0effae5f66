-- Runs of equal choices, of entries, and of entries one more at a time.
use Rattle.std.proofs.Common.{◌≡◌, ℕ, zero, suc, ◌+◌, ◌<◌, false, List, [], ◌∷◌, ◌++◌, length, get_or, take, refl, ap, sym, ◌∙◌, arith, append_assoc, append-nil}
use Rattle.std.specs.Prelude.{replicate}
use Rattle.std.proofs.lemmas.List.{take_more}
use Rattle.machine.specs.World.{World, step, run}
use Rattle.machine.specs.declared.choice.Choice.{Choice}
use Rattle.machine.proofs.WorldLemmas.{run_append, run_none}
use Rattle.history.specs.declared.entry.Entry.{Entry}
use Rattle.history.specs.History.{choice, entry_choices, expanded}

run_one : (w : World) (c : Choice) → run w (c ∷ []) ≡ step w c
unfolding run
run_one w c = refl

equal_more : (w : World) (n : ℕ) (c : Choice) → run w (replicate (suc n) c) ≡ step (run w (replicate n c)) c
unfolding run
equal_more w zero c = refl
equal_more w (suc n) c = equal_more (step w c) n c

-- one equal choice more
pub plain_more : (w old new : World) (n : ℕ) (c : Choice) → old ≡ run w (replicate n c) → new ≡ step old c → new ≡ run w (replicate (n + 1) c)
plain_more w old new n c so_far is =
    let e : n + 1 ≡ suc n = omega arith in
    is ∙ ap (λ v. step v c) so_far ∙ sym (equal_more w n c) ∙ ap (λ k. run w (replicate k c)) (sym e)

-- an entry's local steps were done, and then its last step
pub entry_done : (w old new : World) (e : Entry) → old ≡ run w (replicate e.local (choice e.hart false))
    → new ≡ step old (choice e.hart e.refuse) → new ≡ run w (entry_choices e)
entry_done w old new e locals last =
    last ∙ ap (λ v. step v (choice e.hart e.refuse)) locals
    ∙ sym (run_one (run w (replicate e.local (choice e.hart false))) (choice e.hart e.refuse))
    ∙ sym (run_append w (replicate e.local (choice e.hart false)) (choice e.hart e.refuse ∷ []))

expanded-append : (xs ys : List Entry) → expanded (xs ++ ys) ≡ expanded xs ++ expanded ys
unfolding expanded
expanded-append [] ys = refl
expanded-append (e ∷ xs) ys =
    ap (λ (cs : List Choice). entry_choices e ++ cs) (expanded-append xs ys) ∙ sym (append_assoc (entry_choices e) (expanded xs) (expanded ys))

expanded-one : (e : Entry) → expanded (e ∷ []) ≡ entry_choices e
unfolding expanded
expanded-one e = append-nil (entry_choices e)

-- the choices of one entry more
pub expanded_more : (history : List Entry) (i : ℕ) (d : Entry) → i < length history
    → expanded (take (i + 1) history) ≡ expanded (take i history) ++ entry_choices (get_or history i d)
expanded_more history i d inside =
    ap expanded (take_more history i d inside) ∙ expanded-append (take i history) (get_or history i d ∷ [])
    ∙ ap (λ (cs : List Choice). expanded (take i history) ++ cs) (expanded-one (get_or history i d))

-- the run of one entry more
pub entries_more : (w : World) (history : List Entry) (i : ℕ) (d : Entry) → i < length history
    → run w (expanded (take (i + 1) history)) ≡ run (run w (expanded (take i history))) (entry_choices (get_or history i d))
entries_more w history i d inside =
    ap (run w) (expanded_more history i d inside) ∙ run_append w (expanded (take i history)) (entry_choices (get_or history i d))

pub entries_none : (w : World) → run w (expanded []) ≡ w
unfolding expanded
entries_none w = run_none w
