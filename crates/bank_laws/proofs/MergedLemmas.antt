-- Matching logs are one run of the program.
use Rattle.std.proofs.Common.{◌≡◌, ℕ, zero, suc, ◌+◌, ◌%◌, ◌<◌, ◌≤◌, Bool, false, List, [], ◌∷◌, ◌++◌, length, get_or, Option, Some, None, refl, ap, sym, subst, ◌∙◌, arith, inl, inr, ⊎_elim}
use Rattle.std.specs.Prelude.{replicate, slice_index}
use Rattle.std.specs.List.{All, AllByRecursion, slice_get}
use Rattle.std.proofs.lemmas.Bool.{cases_lt}
use Rattle.std.proofs.lemmas.Option.{slice_get-get_or}
use Rattle.image.specs.Image.{ImageValue}
use Rattle.mem_store.specs.Memory.{Memory}
use Rattle.mem_store.specs.Image.{image_memory}
use Rattle.hart_step.specs.Hart.{HartValue}
use Rattle.hart_step.specs.Laws.{Keeps, IsAligned}
use Rattle.hart_step.proofs.Kept.{keeps-same}
use Rattle.machine.specs.World.{World, run}
use Rattle.machine.specs.Start.{first_hart, first_harts, started}
use Rattle.machine.proofs.RunLaws.{run-keeps, run-aligned, run_length, length-started}
use Rattle.bank_laws.specs.declared.access.LoggedAccess.{LoggedAccess}
use Rattle.bank_laws.specs.Banks.{BankState, after_log}
use Rattle.bank_laws.specs.Runs.{TableWorld, Turn, table_run}
use Rattle.bank_laws.specs.Segments.{LoggedSegment, HartSlot, TellsWorld, turn, turns_of, segment_turns}
use Rattle.bank_laws.specs.Order.{In, Rises, Earlier, AreLogs, IsMatched, IsMerged}
use Rattle.bank_laws.proofs.MergeLemmas.{logs_merge}
use Rattle.bank_laws.specs.Table.{table}
use Rattle.bank_laws.specs.Worlds.{ShowsWorld}
use Rattle.bank_laws.specs.Merged.{bank_of, first_slot, first_bank, segment_choices, EndsIn}
use Rattle.bank_laws.proofs.WorldLemmas.{run_shows}

-- ---- the start
first_hart_there : (entry n from : ℕ) (inputs : List ℕ) (k : ℕ) (h : HartValue) → slice_get (first_harts entry n from inputs) k ≡ Some h
    → first_hart entry n (from + k) (slice_index inputs k) ≡ h
first_hart_there entry n from [] k h e = absurd (let r : ◌≡◌ {A = Option HartValue} None (Some h) = e in cc)
first_hart_there entry n from (x ∷ inputs) zero h e =
    ap (λ (i : ℕ). first_hart entry n i x) (omega arith) ∙ same e
  where
    same : ◌≡◌ {A = Option HartValue} (Some (first_hart entry n from x)) (Some h) → first_hart entry n from x ≡ h
    same q = cc
first_hart_there entry n from (x ∷ inputs) (suc k) h e =
    ap (λ (i : ℕ). first_hart entry n i (slice_index inputs k)) (omega arith) ∙ first_hart_there entry n (from + 1) inputs k h e

-- the world of words in which a program begins
abbrev first_world : ImageValue → List ℕ → TableWorld HartValue
first_world image inputs = record { harts = λ h. (first_slot image inputs h).hart; shared = first_bank image }

start_shows : (image : ImageValue) (inputs : List ℕ) → ShowsWorld (first_world image inputs) (started image inputs)
unfolding started
start_shows image inputs = record {
  harts = λ k h there. ap (λ (i : ℕ). first_hart image.entry (length inputs) i (slice_index inputs k)) (omega arith) ∙ first_hart_there image.entry (length inputs) 0 inputs k h there;
  values = λ x ax. refl;
  marks = refl;
}

start_tells : (image : ImageValue) (inputs : List ℕ) → TellsWorld bank_of (first_world image inputs) (first_slot image inputs) (λ b. first_bank image)
start_tells image inputs = record { harts = λ k. refl; rest = record { values = λ x. refl; marks = λ h. refl } }

start_memory : (image : ImageValue) (inputs : List ℕ) → (started image inputs).memory ≡ image_memory image
unfolding started
start_memory image inputs = refl

-- ---- the turns of harts that exist
turns_there : (n count h : ℕ) (refuse : Bool) → h < n → AllByRecursion (λ (c : Turn). c.hart < n) (replicate count (turn h false) ++ turn h refuse ∷ [])
turns_there n zero h refuse low = (low, tt)
turns_there n (suc count) h refuse low = (low, turns_there n count h refuse low)

all_append : (P : Turn → Type 0) (xs ys : List Turn) → AllByRecursion P xs → AllByRecursion P ys → AllByRecursion P (xs ++ ys)
all_append P [] ys a b = b
all_append P (x ∷ xs) ys a b = (a.0, all_append P xs ys a.1 b)

all_there : (n : ℕ) (es : List LoggedSegment) → ((e : LoggedSegment) → In e es → e.hart < n) → AllByRecursion (λ (c : Turn). c.hart < n) (segment_turns es)
all_there n [] f = tt
all_there n (e ∷ es) f = all_append (λ (c : Turn). c.hart < n) (turns_of e) (segment_turns es) (turns_there n e.local e.hart e.refuse (f e (inl refl))) (all_there n es (λ x i. f x (inr i)))

hart_there : (n : ℕ) (logs : ℕ → List LoggedSegment) (e : LoggedSegment) → ((h : ℕ) → n ≤ h → logs h ≡ []) → In e (logs e.hart) → e.hart < n
hart_there n logs e none i =
    ⊎_elim (λ (l : e.hart < n). l)
    (λ (l : n ≤ e.hart). absurd (nothing (subst (λ (log : List LoggedSegment). In e log) (none e.hart l) i)))
    (cases_lt e.hart n)
  where
    nothing : In e [] → ⊥
    nothing j = j

-- ---- the end
run_nothing : (w : World) → run w [] ≡ w
unfolding run
run_nothing w = refl

ends_in : (image : ImageValue) (inputs : List ℕ) (w : World) (t : TableWorld HartValue) (ends : ℕ → HartSlot HartValue) (banks : ℕ → BankState)
    → length w.harts ≡ length inputs → w.memory.rights ≡ (image_memory image).rights → ShowsWorld t w → TellsWorld bank_of t ends banks
    → EndsIn image inputs w ends banks
ends_in image inputs w t ends banks count rights shows tells = record {
  count = count;
  harts = λ h low.
      let there = slice_get-get_or w.harts h (t.harts h) (omega (arith, low, count)) in
      there ∙ ap Some (sym (shows.harts h (get_or w.harts h (t.harts h)) there) ∙ tells.harts h);
  rights = rights;
  bytes = λ x ax. sym (shows.values x ax) ∙ tells.rest.values x;
  reserved = λ h. ap (λ (r : ℕ → Option ℕ). r h) (sym shows.marks) ∙ tells.rest.marks h;
}

pub one_run : (image : ImageValue) (inputs : List ℕ) (ends : ℕ → HartSlot HartValue) (logs : ℕ → List LoggedSegment) (banks : ℕ → List LoggedAccess) (es : List LoggedSegment)
    → image.entry % 4 ≡ 0 → ((h : ℕ) → length inputs ≤ h → logs h ≡ [])
    → AreLogs bank_of (table (image_memory image)) (first_slot image inputs) ends (λ b. first_bank image) logs banks
    → ((h : ℕ) → Rises Earlier (logs h)) → IsMatched bank_of logs banks → IsMerged logs es
    → EndsIn image inputs (run (started image inputs) (segment_choices es)) ends (λ b. after_log (first_bank image) (banks b))
one_run image inputs ends logs banks es entry none are rise matched merged =
    let m = image_memory image in
    let w = started image inputs in
    let count : length w.harts ≡ length inputs = length-started image inputs in
    let inside : AllByRecursion (λ (c : Turn). c.hart < length w.harts) (segment_turns es) =
    all_there (length w.harts) es (λ e i. subst (λ (n : ℕ). e.hart < n) (sym count) (hart_there (length inputs) logs e none (merged.taken e i))) in
    let aligned : All IsAligned w.harts = subst (λ (u : World). All IsAligned u.harts) (run_nothing w) (run-aligned image inputs [] entry) in
    let keeps = subst (λ (z : Memory). Keeps z w.memory) (start_memory image inputs) (keeps-same w.memory) in
    let shows = run_shows m (segment_turns es) w (first_world image inputs) keeps aligned inside (start_shows image inputs) in
    let tells = logs_merge bank_of (table m) (first_world image inputs) (first_slot image inputs) ends (λ b. first_bank image) logs banks es are rise matched merged (start_tells image inputs) in
    ends_in image inputs (run w (segment_choices es)) (table_run (table m) (first_world image inputs) (segment_turns es)) ends (λ b. after_log (first_bank image) (banks b))
    (run_length w (segment_choices es) ∙ count)
    ((run-keeps w (segment_choices es)).rights ∙ ap (λ (z : Memory). z.rights) (start_memory image inputs))
    shows tells
