-- Quiet steps leave the words that belong to no hart as they are, and all rights.
use Rattle.std.proofs.Common.{◌≡◌, ℕ, suc, ◌%◌, ◌<◌, Bool, true, false, not, ◌==◌, List, [], ◌∷◌, length, get_or, Option, Some, None, refl, ap, sym, ◌∙◌, subst, inl, inr, arith}
use Rattle.std.specs.Prelude.{if◌then◌else◌, slice_index, Result, Ok, Err}
use Rattle.std.specs.List.{All, slice_get}
use Rattle.std.proofs.lemmas.Bool.{cases_eq, ne_eqb}
use Rattle.std.proofs.lemmas.Option.{slice_get-get_or}
use Rattle.mem_store.specs.Memory.{granted, number_at, to_load}
use Rattle.mem_store.specs.Access.{loaded}
use Rattle.mem_store.specs.declared.store.AccessFault.{AccessFault}
use Rattle.mem_store.specs.declared.store.AccessFault.TheVariants as access
use Rattle.hart_reservations.specs.Marks.{word_of}
use Rattle.hart_step.specs.Hart.{HartValue}
use Rattle.hart_step.specs.Laws.{IsAligned}
use Rattle.machine.specs.World.{World, step, run}
use Rattle.machine.specs.declared.choice.Choice.{Choice}
use Rattle.machine.proofs.RunLaws.{run-keeps}
use Rattle.property_judge.specs.Property.{word_read}
use Rattle.bank_laws.specs.Runs.{TableWorld, Turn, table_run, table_step}
use Rattle.bank_laws.specs.Table.{needed_code, planned, table}
use Rattle.bank_laws.specs.Words.{bytes_at}
use Rattle.bank_laws.specs.Worlds.{ShowsWorld}
use Rattle.bank_laws.proofs.WordLemmas.{SameFour, index_at, number_in_word}
use Rattle.bank_laws.proofs.WorldLemmas.{run_shows}
use Rattle.explore_laws.specs.Covering.{WorldCovers}
use Rattle.explore_laws.specs.Quiet.{AreAligned, AreQuiet}
use Rattle.explore_laws.proofs.QuietLemmas.{step_aligned}
use Rattle.explore_sites.specs.Own.{Owners, alone_by, alone_in, is_clear_code, is_other, unrefused}
use Rattle.explore_sites.proofs.LoneLemmas.{never_refused}
use Rattle.explore_sites.proofs.OrderLemmas.{alone_parts, alone_there, idle, keeps_itself, run_one, table_shows, table_world}
use Rattle.explore_sites.proofs.OwnLemmas.{code_still, known_code, own_leaves, step_is}
use Rattle.explore_space.specs.Habits.{Habits, quiet_by_habit}
use Rattle.explore_space.proofs.HabitLemmas.{quiet_alone}

-- ---- one step
step_shown : (w : World) (c : Choice) → All IsAligned w.harts → c.hart < length w.harts
    → ShowsWorld (table_step (table w.memory) (table_world w) c.hart c.refuse) (step w c)
step_shown w c aligned inside =
    let turns : List Turn = record { hart = c.hart; refuse = c.refuse } ∷ [] in
    subst (λ (u : World). ShowsWorld (table_run (table w.memory) (table_world w) turns) u) (run_one w c)
    (run_shows w.memory turns w (table_world w) (keeps_itself w.memory) aligned (inside, tt) (table_shows w))

not_next : (h : ℕ) → h ≡ suc h → ⊥
not_next h e = omega (arith, e)

-- a word without an owner is as far from the step of a hart that is alone as another hart's
pub alone_leaves : (owners : Owners) (w : World) (h y : ℕ) → All IsAligned w.harts → alone_in owners w h ≡ true
    → owners y ≡ None → y % 4 ≡ 0 → bytes_at (step w (unrefused h)).memory.bytes y ≡ bytes_at w.memory.bytes y
alone_leaves owners w h y aligned alone free at =
    let m = w.memory in
    let v = get_or w.harts h idle in
    let inside = alone_there owners w h alone in
    let here : slice_get w.harts h ≡ Some v = slice_get-get_or w.harts h idle inside in
    let stands = alone_parts owners m h v (ap (alone_by owners w h) (sym here) ∙ alone) in
    let p = planned m v [] in
    let clear : is_clear_code owners (suc h) (Some y) ≡ true = ap (λ o. not (is_other o (suc h))) free in
    sym ((step_shown w (unrefused h) aligned inside).values y at)
    ∙ ap (λ (t : TableWorld HartValue). t.shared.values y)
    (step_is (table m) (table_world w) h false v [] refl
    (known_code (table m) (needed_code v.state m v.pc) (λ x. bytes_at m.bytes x) stands.code))
    ∙ code_still (table m) (table_world w) h false v [] p (Some y)
    (own_leaves owners m h (suc h) p (Some y) (not_next h) stands.touch clear)

-- ---- lists of quiet choices
pub quiet_leaves : (habits : Habits) (w : World) (choices : List Choice) (y : ℕ) → AreAligned w
    → AreQuiet (quiet_by_habit habits) w choices → habits.owners y ≡ None → y % 4 ≡ 0
    → bytes_at (run w choices).memory.bytes y ≡ bytes_at w.memory.bytes y
unfolding run
quiet_leaves habits w [] y aligned are free at = refl
quiet_leaves habits w (c ∷ choices) y aligned are free at =
    let alone = quiet_alone habits w c.hart are.0 in
    quiet_leaves habits (step w c) choices y (step_aligned w c aligned) are.1 free at
    ∙ ap (λ (x : World). bytes_at x.memory.bytes y) (never_refused habits.owners w c.hart alone c.refuse)
    ∙ alone_leaves habits.owners w c.hart y aligned alone free at

pub covers_leaves : (habits : Habits) (s w : World) (y : ℕ) → AreAligned w → WorldCovers (quiet_by_habit habits) s w
    → habits.owners y ≡ None → y % 4 ≡ 0 → bytes_at s.memory.bytes y ≡ bytes_at w.memory.bytes y
covers_leaves habits s w y aligned covers free at =
    ap (λ (x : World). bytes_at x.memory.bytes y) (sym covers.leads)
    ∙ quiet_leaves habits w covers.choices y aligned covers.are_quiet free at

pub covers_rights : (habits : Habits) (s w : World) → WorldCovers (quiet_by_habit habits) s w → s.memory.rights ≡ w.memory.rights
covers_rights habits s w covers =
    ap (λ (x : World). x.memory.rights) (sym covers.leads) ∙ (run-keeps w covers.choices).rights

-- ---- the word that a property reads
whole_word : (a : ℕ) → a % 4 ≡ 0 → a ≡ word_of a
whole_word a even = omega (arith, even)

byte_same : (b d : ℕ → ℕ) (a : ℕ) → bytes_at b a ≡ bytes_at d a → SameFour b d a
byte_same b d a same i low = sym (index_at b a i low) ∙ ap (λ v. slice_index v i) same ∙ index_at d a i low

number_same : (b d : ℕ → ℕ) (a : ℕ) → a % 4 ≡ 0 → bytes_at b a ≡ bytes_at d a → number_at b 4 a ≡ number_at d 4 a
number_same b d a even same =
    number_in_word b d 4 a (omega (arith, even)) (subst (λ x. SameFour b d x) (whole_word a even) (byte_same b d a same))

-- what a load reads, by its tests and the number
abbrev load_by : Bool → Bool → ℕ → Result ℕ AccessFault
load_by even may n = if even then (if may then Ok n else Err access.Access) else Err access.Misaligned

loads_same : (g f : ℕ → Option ℕ) (b d : ℕ → ℕ) (a : ℕ) → g ≡ f → (a % 4 ≡ 0 → bytes_at b a ≡ bytes_at d a)
    → loaded (record { rights = g; bytes = b }) 4 a ≡ loaded (record { rights = f; bytes = d }) 4 a
loads_same g f b d a rights same =
    ap (λ (x : ℕ → Option ℕ). loaded (record { rights = x; bytes = b }) 4 a) rights
    ∙ elim (cases_eq (a % 4) 0) [
      | inl even ↦
          ap (load_by (a % 4 == 0) (granted to_load (record { rights = f; bytes = b }) 4 a)) (number_same b d a even (same even))
      | inr odd ↦ rw (ne_eqb (a % 4) 0 odd) refl
    ]

pub covers_word : (habits : Habits) (s w : World) (a : ℕ) → AreAligned w → WorldCovers (quiet_by_habit habits) s w
    → habits.owners a ≡ None → word_read s.memory a ≡ word_read w.memory a
covers_word habits s w a aligned covers free =
    let same : loaded s.memory 4 a ≡ loaded w.memory 4 a
    = loads_same s.memory.rights w.memory.rights s.memory.bytes w.memory.bytes a (covers_rights habits s w covers)
    (λ even. covers_leaves habits s w a aligned covers free even) in
    rw same refl
