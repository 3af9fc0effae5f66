-- The choices of segments, one after another, and where their run leads.
use Rattle.std.proofs.Common.{◌≡◌, ℕ, zero, suc, ◌+◌, ◌≤◌, false, List, [], ◌∷◌, ◌++◌, ◌<◌, drop, length, map, refl, ap, sym, ◌∙◌, subst, arith, append_assoc}
use Rattle.std.specs.Prelude.{replicate, slice_index_or}
use Rattle.std.proofs.lemmas.List.{map-append}
use Rattle.machine.specs.World.{run}
use Rattle.machine.specs.Start.{started}
use Rattle.machine.specs.declared.choice.Choice.{Choice}
use Rattle.bank_laws.specs.Banks.{after_log}
use Rattle.bank_laws.specs.Segments.{LoggedSegment, turn, turns_of, segment_turns}
use Rattle.bank_laws.specs.Order.{Rises, Earlier, IsMerged}
use Rattle.bank_laws.specs.Worlds.{choice_of_turn}
use Rattle.bank_laws.specs.Merged.{segment_choices, first_bank, EndsIn}
use Rattle.bank_laws.proofs.MergedLemmas.{one_run}
use Rattle.bank_order.specs.Weaving.{log_of}
use Rattle.bank_order.specs.Merged.{choice_by, plain_steps, choices_of_one, LeadsToLogged}

map_plain : (h n : ℕ) → map choice_of_turn (replicate n (turn h false)) ≡ plain_steps h n
map_plain h zero = refl
map_plain h (suc n) = ap (λ (l : List Choice). choice_by h false ∷ l) (map_plain h n)

one_segment : (e : LoggedSegment) → map choice_of_turn (turns_of e) ≡ choices_of_one e
one_segment e =
    map-append choice_of_turn (replicate e.local (turn e.hart false)) (turn e.hart e.refuse ∷ [])
    ∙ ap (λ (l : List Choice). l ++ choice_by e.hart e.refuse ∷ []) (map_plain e.hart e.local)

pub more_segments : (e : LoggedSegment) (es : List LoggedSegment) → segment_choices (e ∷ es) ≡ choices_of_one e ++ segment_choices es
more_segments e es = map-append choice_of_turn (turns_of e) (segment_turns es) ∙ ap (λ (l : List Choice). l ++ segment_choices es) (one_segment e)

past_none : (logs : List (List LoggedSegment)) (h : ℕ) → length logs ≤ h → log_of logs h ≡ []
past_none [] h past = refl
past_none (log ∷ logs) zero past = absurd (omega (arith, past))
past_none (log ∷ logs) (suc h) past = past_none logs h (omega (arith, past))

pub leads : (logs : List (List LoggedSegment)) (es : List LoggedSegment) (choices : List Choice) → IsMerged (log_of logs) es → choices ≡ segment_choices es
    → ((h : ℕ) → Rises Earlier (log_of logs h)) → LeadsToLogged logs choices
leads logs es choices merged are rise = λ image inputs ends banks entry few logged matched.
    subst (λ (c : List Choice). EndsIn image inputs (run (started image inputs) c) ends (λ b. after_log (first_bank image) (banks b))) (sym are)
    (one_run image inputs ends (log_of logs) banks es entry (λ h past. past_none logs h (omega (arith, few, past))) logged rise matched merged)

-- one plain choice more
pub plain_more : (h k : ℕ) → plain_steps h (k + 1) ≡ plain_steps h k ++ choice_by h false ∷ []
plain_more h zero = refl
plain_more h (suc k) = let e : suc k + 1 ≡ suc (k + 1) = omega arith in ap (plain_steps h) e ∙ ap (λ (l : List Choice). choice_by h false ∷ l) (plain_more h k)

pub push_more : (out more : List Choice) (first : List Choice) (h k : ℕ) → out ≡ first ++ plain_steps h k → more ≡ out ++ choice_by h false ∷ [] → more ≡ first ++ plain_steps h (k + 1)
push_more out more first h k so_far pushed =
    pushed ∙ ap (λ (l : List Choice). l ++ choice_by h false ∷ []) so_far ∙ append_assoc first (plain_steps h k) (choice_by h false ∷ [])
    ∙ ap (λ (l : List Choice). first ++ l) (sym (plain_more h k))

-- the choices of one segment more
pub segments_more : (out more : List Choice) (es : List LoggedSegment) (rest : List LoggedSegment) (e : LoggedSegment) (all : List Choice)
    → es ≡ e ∷ rest → out ++ segment_choices es ≡ all → more ≡ out ++ choices_of_one e → more ++ segment_choices rest ≡ all
segments_more out more es rest e all is so_far pushed =
    ap (λ (l : List Choice). l ++ segment_choices rest) pushed ∙ append_assoc out (choices_of_one e) (segment_choices rest)
    ∙ ap (λ (l : List Choice). out ++ l) (sym (more_segments e rest)) ∙ ap (λ (l : List LoggedSegment). out ++ segment_choices l) (sym is) ∙ so_far

pub drop_is : {A : Type 0} (es : List A) (i : ℕ) (e : A) → i < length es → e ≡ slice_index_or es i e → drop i es ≡ e ∷ drop (i + 1) es
drop_is [] i e low is = absurd (omega (arith, low))
drop_is {A} (x ∷ es) zero e low is = ap (λ (y : A). y ∷ es) (sym is)
drop_is (x ∷ es) (suc i) e low is =
    let same : suc (i + 1) ≡ suc i + 1 = omega arith in
    drop_is es i e (omega (arith, low)) is ∙ ap (λ (k : ℕ). e ∷ drop k (x ∷ es)) same
