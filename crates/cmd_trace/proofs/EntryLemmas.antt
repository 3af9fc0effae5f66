-- What is written of choices, one more at a time.
use Rattle.std.proofs.Common.{◌≡◌, ℕ, suc, ◌+◌, ◌-◌, ◌<◌, ◌≤◌, List, [], ◌∷◌, ◌++◌, length, take, drop, map, get_or, Option, Some, refl, ap, ap₂, sym, subst, ◌∙◌, arith}
use Rattle.std.proofs.lemmas.List.{take_all, drop_more, drop_all, map-append, append-nil, append_assoc, length-map}
use Rattle.std.specs.List.{slice_get}
use Rattle.std.specs.Option.{option_map}
use Rattle.std.proofs.lemmas.Option.{slice_get-map, slice_get_read, get_or_from_slice_get}
use Rattle.hart_reservations.specs.Marks.{Marks}
use Rattle.hart_step.specs.Hart.{HartValue, hart_of}
use Rattle.hart_step.specs.declared.hart.Hart.{Hart}
use Rattle.machine.specs.declared.choice.Choice.{Choice}
use Rattle.trace_steps.specs.Explains.{Followed, explained, explains, follow}
use Rattle.trace_steps.specs.declared.explaining.Explained.{Explained}
use Rattle.trace_text.specs.Head.{then_of}
use Rattle.trace_text.specs.declared.head.HartThen.{HartThen}
use Rattle.cmd_trace.specs.Trace.{choice_entry, entries, harts_from}
use Rattle.cmd_trace.specs.Page.{PageValue}

entries_nothing : (page : PageValue) (k : ℕ) (f : Followed) → entries page k (explains f k []) ≡ []
unfolding entries explains
entries_nothing page k f = refl

entries_one : (page : PageValue) (k : ℕ) (f : Followed) (c : Choice) (more : List Choice)
    → entries page k (explains f k (c ∷ more))
    ≡ choice_entry page (explained f c) k ++ entries page (k + 1) (explains (follow f k c) (k + 1) more)
unfolding entries explains
entries_one page k f c more = refl

-- one more choice is traced
pub entries_more : (page : PageValue) (from i n : ℕ) (now new : Followed) (left more : List Choice) (c : Choice) (t : Explained) → i < n
    → left ≡ c ∷ more → t ≡ explained now c → new ≡ follow now (from + i) c
    → entries page (from + i) (explains now (from + i) (take (n - i) left))
    ≡ choice_entry page t (from + i) ++ entries page (from + (i + 1)) (explains new (from + (i + 1)) (take (n - (i + 1)) more))
entries_more page from i n now new left more c t below is tells_it stepping =
    let rest : n - i ≡ suc (n - (i + 1)) = omega (arith, below) in
    let place : from + i + 1 ≡ from + (i + 1) = omega arith in
    ap₂ (λ (m : ℕ) (l : List Choice). entries page (from + i) (explains now (from + i) (take m l))) rest is
    ∙ entries_one page (from + i) now c (take (n - (i + 1)) more)
    ∙ ap₂ (λ (u : Explained) (k : ℕ). choice_entry page u (from + i) ++ entries page k (explains (follow now (from + i) c) k (take (n - (i + 1)) more)))
    (sym tells_it) place
    ∙ ap (λ (f : Followed). choice_entry page t (from + i) ++ entries page (from + (i + 1)) (explains f (from + (i + 1)) (take (n - (i + 1)) more)))
    (sym stepping)

-- no choice is left
pub entries_none : (page : PageValue) (k m : ℕ) (f : Followed) (left : List Choice) → left ≡ []
    → entries page k (explains f k (take m left)) ≡ []
entries_none page k m f left none =
    ap (λ (l : List Choice). entries page k (explains f k (take m l))) none
    ∙ ap (λ (l : List Choice). entries page k (explains f k l)) (take_all m [] (omega arith)) ∙ entries_nothing page k f

-- all choices that are to be traced were traced
pub entries_end : (page : PageValue) (k i n : ℕ) (f : Followed) (left : List Choice) → n ≤ i → entries page k (explains f k (take (n - i) left)) ≡ []
entries_end page k i n f left past =
    let none : n - i ≡ 0 = omega (arith, past) in
    ap (λ (m : ℕ). entries page k (explains f k (take m left))) none ∙ entries_nothing page k f

-- ---- harts, each with the word that it has reserved
pub hart_more : (r : Marks) (i : ℕ) (harts : List HartValue) (all : List (HartValue × Option ℕ)) (old new : List HartThen) (t : HartThen) (h : HartValue)
    → i < length harts → (get_or harts i h ≡ h) → then_of t ≡ (h, r i) → new ≡ old ++ t ∷ []
    → map then_of old ++ harts_from r i (drop i harts) ≡ all → map then_of new ++ harts_from r (i + 1) (drop (i + 1) harts) ≡ all
hart_more r i harts all old new t h inside read is pushed left =
    ap (λ (l : List HartThen). map then_of l ++ harts_from r (i + 1) (drop (i + 1) harts)) pushed
    ∙ ap (λ (l : List (HartValue × Option ℕ)). l ++ harts_from r (i + 1) (drop (i + 1) harts)) (map-append then_of old (t ∷ []))
    ∙ append_assoc (map then_of old) (then_of t ∷ []) (harts_from r (i + 1) (drop (i + 1) harts))
    ∙ ap (λ (x : HartValue × Option ℕ). map then_of old ++ (x ∷ harts_from r (i + 1) (drop (i + 1) harts))) is
    ∙ ap (λ (l : List HartValue). map then_of old ++ harts_from r i l) (sym (drop_more harts i h inside ∙ ap (λ (x : HartValue). x ∷ drop (i + 1) harts) read))
    ∙ left

pub harts_end : (r : Marks) (i : ℕ) (harts : List HartValue) (all : List (HartValue × Option ℕ)) (shown : List HartThen) → length harts ≤ i
    → map then_of shown ++ harts_from r i (drop i harts) ≡ all → map then_of shown ≡ all
harts_end r i harts all shown past left =
    sym (ap (λ (l : List HartValue). map then_of shown ++ harts_from r i l) (drop_all i harts past) ∙ append-nil (map then_of shown)) ∙ left

pub read_hart : (ends : List Hart) (harts : List HartValue) (i : ℕ) (x : Hart) → map hart_of ends ≡ harts → i < length ends → x ≡ get_or ends i x
    → get_or harts i (hart_of x) ≡ hart_of x
read_hart ends harts i x shown inside is =
    get_or_from_slice_get harts i (hart_of x) (hart_of x)
    (subst (λ (hs : List HartValue). slice_get hs i ≡ Some (hart_of x)) shown
    (slice_get-map hart_of ends i ∙ ap (λ o. option_map hart_of o) (slice_get_read ends (length ends) i x refl inside is)))

pub within_harts : (ends : List Hart) (harts : List HartValue) (i : ℕ) → map hart_of ends ≡ harts → i < length ends → i < length harts
within_harts ends harts i shown inside = subst (λ n. i < n) (sym (length-map ends hart_of) ∙ ap length shown) inside
