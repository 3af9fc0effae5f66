-- The lines of harts, one more at a time.
use Rattle.std.proofs.Common.{◌≡◌, ℕ, ◌+◌, ◌<◌, ◌≤◌, List, ◌∷◌, ◌++◌, drop, map, length, get_or, Option, ◌∙◌, sym, ap}
use Rattle.std.proofs.lemmas.List.{at_drop_more, drop_all}
use Rattle.hart_reservations.specs.Marks.{Marks}
use Rattle.hart_step.specs.Hart.{hart_of}
use Rattle.hart_step.specs.declared.hart.Hart.{Hart}
use Rattle.debug_text.proofs.TextLemmas.{lines_more, lines_end}
use Rattle.gdb_monitor.specs.Texts.{hart_entry, hart_entries}

-- a hart more
pub next_hart : (reserved : Marks) (text new all : List ℕ) (harts : List Hart) (i : ℕ)
    (hart : Hart) (word : Option ℕ) → i < length harts → hart ≡ get_or harts i hart
    → word ≡ reserved i → new ≡ text ++ hart_entry i hart.state word
    → text ++ hart_entries reserved i (map hart_of (drop i harts)) ≡ all
    → new ++ hart_entries reserved (i + 1) (map hart_of (drop (i + 1) harts)) ≡ all
next_hart reserved text new all harts i hart word inside is held pushed so_far =
    let left : List ℕ = hart_entries reserved (i + 1) (map hart_of (drop (i + 1) harts)) in
    let lines : List Hart → List ℕ = λ l. hart_entries reserved i (map hart_of l) in
    lines_more text new (hart_entry i hart.state word) (lines (drop i harts)) left all pushed
    (at_drop_more lines harts i hart inside
    ∙ ap (λ (h : Hart). lines (h ∷ drop (i + 1) harts)) (sym is)
    ∙ ap (λ (o : Option ℕ). hart_entry i hart.state o ++ left) (sym held))
    so_far

-- no hart is left
pub last_hart : (reserved : Marks) (text all : List ℕ) (harts : List Hart) (i : ℕ)
    → length harts ≤ i → text ++ hart_entries reserved i (map hart_of (drop i harts)) ≡ all
    → text ≡ all
last_hart reserved text all harts i ended so_far =
    lines_end text (hart_entries reserved i (map hart_of (drop i harts))) all
    (ap (λ (l : List Hart). hart_entries reserved i (map hart_of l)) (drop_all i harts ended))
    so_far
