-- The tests of a judge decide the rules.
use Rattle.std.proofs.Common.{◌≡◌, ℕ, zero, suc, ◌+◌, ◌<◌, Bool, true, false, not, ◌&&◌, ◌||◌, ◌==◌, List, [], ◌∷◌, length, get_or, Option, Some, None, refl, sym, ap, ◌∙◌, ◌⊎◌, inl, inr, arith, eq-eqb, eqb-true, map, take, take_all, ◌≤◌}
use Rattle.std.specs.List.{All, list_all, slice_get}
use Rattle.std.specs.Bool.{Decides}
use Rattle.std.proofs.lemmas.Bool.Decides.{Decides-and, Decides-or, Decides-not, Decides-like, Decides-by_and}
use Rattle.std.proofs.lemmas.List.{get_or-map, length-map}
use Rattle.std.proofs.lemmas.List.Folds.{list_all_more, list_all_at}
use Rattle.hart_step.specs.Hart.{HartValue, hart_of}
use Rattle.hart_step.specs.declared.hart.Hart.{Hart}
use Rattle.machine.specs.declared.choice.Choice.{Choice}
use Rattle.object_library.specs.declared.kind.Kind.{Kind}
use Rattle.object_library.specs.declared.kind.Kind.TheVariants.{Swap, Add, LrSc, AdoptCommit, Rounds}
use Rattle.machine.specs.Chosen.{chosen}
use Rattle.object_library.specs.Rules.{is_exited, is_faulted, value_of, flag_of, HasExited, IsProposed, AreAlike, KeepsConsensus, KeepsAdoptCommit, KeepsRule}
use Rattle.object_library.specs.Judging.{holds, is_like, is_proposed, are_alike, agrees, decides, adopts_or_commits, is_consensus, is_adopt_commit, is_kept}

-- ---- tests of one thing
is-decides : (b : Bool) → Decides b (b ≡ true)
is-decides b = (λ e. e, λ e. e)

isnt-decides : (b : Bool) → Decides (not b) (b ≡ false)
isnt-decides true = (λ e. absurd (cc), λ e. absurd (cc))
isnt-decides false = (λ e. refl, λ e. refl)

pub eqb-decides : (a b : ℕ) → Decides (a == b) (a ≡ b)
eqb-decides a b = (λ e. eqb-true a b e, λ e. eq-eqb a b e)

if-decides : {P Q : Type 0} (x y : Bool) → Decides x P → Decides y Q → Decides (not x || y) (P → Q)
if-decides true y d k = (λ e p. k.0 e, λ f. k.1 (f (d.0 refl)))
if-decides false y d k = (λ e p. absurd (let q : false ≡ true = d.1 p in cc), λ f. refl)

holds-decides : (o : Option ℕ) (v : ℕ) → Decides (holds o v) (o ≡ Some v)
holds-decides None v = (λ e. absurd (cc), λ e. absurd (cc))
holds-decides (Some x) v = Decides-like (x == v) (λ (e : x ≡ v). ap (λ (n : ℕ). Some n) e) (λ (e : ◌≡◌ {A = Option ℕ} (Some x) (Some v)). let q : x ≡ v = cc in q) (eqb-decides x v)

like-decides : (o p : Option ℕ) → Decides (is_like o p) (o ≡ p)
like-decides None None = (λ e. refl, λ e. refl)
like-decides None (Some b) = (λ e. absurd (cc), λ e. absurd (cc))
like-decides (Some a) None = (λ e. absurd (cc), λ e. absurd (cc))
like-decides (Some a) (Some b) = Decides-like (a == b) (λ (e : a ≡ b). ap (λ (n : ℕ). Some n) e) (λ (e : ◌≡◌ {A = Option ℕ} (Some a) (Some b)). let q : a ≡ b = cc in q) (eqb-decides a b)

all-decides : {X : Type 0} (test : X → Bool) (P : X → Type 0) → ((x : X) → Decides (test x) (P x)) → (xs : List X) → Decides (list_all test xs) (All P xs)
all-decides test P each xs = Decides-by_and test P (list_all test) each refl (λ x xs. refl) xs

-- ---- values that were proposed
proposed-decides : (inputs : List ℕ) (v : ℕ) (choices : List Choice) → Decides (is_proposed inputs choices v) (IsProposed inputs choices v)
proposed-decides inputs v [] = (λ e. absurd (cc), λ p. absurd (let lt = p.1.1 in omega arith))
proposed-decides inputs v (c ∷ choices) =
    Decides-like (is_proposed inputs (c ∷ choices) v) to from
    (Decides-or (holds (slice_get inputs c.hart) v) (is_proposed inputs choices v) (holds-decides (slice_get inputs c.hart) v) (proposed-decides inputs v choices))
  where
    to : (slice_get inputs c.hart ≡ Some v) ⊎ IsProposed inputs choices v → IsProposed inputs (c ∷ choices) v
    to (inl e) = (c.hart, (0, omega arith, refl), e)
    to (inr p) = let lt = p.1.1 in (p.0, (suc p.1.0, omega arith, p.1.2), p.2)

    at : (k i : ℕ) → i < length (chosen (c ∷ choices)) → get_or (chosen (c ∷ choices)) i k ≡ k → slice_get inputs k ≡ Some v → (slice_get inputs c.hart ≡ Some v) ⊎ IsProposed inputs choices v
    at k zero lt e s = inl (ap (λ (m : ℕ). slice_get inputs m) e ∙ s)
    at k (suc i) lt e s = inr (k, (i, omega arith, e), s)

    from : IsProposed inputs (c ∷ choices) v → (slice_get inputs c.hart ≡ Some v) ⊎ IsProposed inputs choices v
    from p = at p.0 p.1.0 p.1.1 p.1.2 p.2

-- ---- harts with one input
abbrev Like : List ℕ → Choice → List Choice → Type 0
Like inputs c choices = All (λ (d : Choice). slice_get inputs c.hart ≡ slice_get inputs d.hart) choices

alike-decides : (inputs : List ℕ) (choices : List Choice) → Decides (are_alike inputs choices) (AreAlike inputs choices)
alike-decides inputs [] = (λ e j k a b. absurd (let lt = a.1 in omega arith), λ f. refl)
alike-decides inputs (c ∷ choices) =
    Decides-like (are_alike inputs (c ∷ choices)) to from
    (all-decides (λ d. is_like (slice_get inputs c.hart) (slice_get inputs d.hart)) (λ d. slice_get inputs c.hart ≡ slice_get inputs d.hart)
    (λ d. like-decides (slice_get inputs c.hart) (slice_get inputs d.hart)) (c ∷ choices))
  where
    first : Like inputs c (c ∷ choices) → (k i : ℕ) → i < length (chosen (c ∷ choices)) → get_or (chosen (c ∷ choices)) i k ≡ k → slice_get inputs c.hart ≡ slice_get inputs k
    first all k i lt e =
        let short : length (chosen (c ∷ choices)) ≡ length (c ∷ choices) = length-map (c ∷ choices) (λ d. d.hart) in
        let small : i < length (c ∷ choices) = omega arith in
        all i c small ∙ ap (λ (m : ℕ). slice_get inputs m) (sym (get_or-map (λ d. d.hart) (c ∷ choices) i c k small) ∙ e)

    to : Like inputs c (c ∷ choices) → AreAlike inputs (c ∷ choices)
    to all j k a b = sym (first all j a.0 a.1 a.2) ∙ first all k b.0 b.1 b.2

    from : AreAlike inputs (c ∷ choices) → Like inputs c (c ∷ choices)
    from alike i d lt =
        let short : length (chosen (c ∷ choices)) ≡ length (c ∷ choices) = length-map (c ∷ choices) (λ d. d.hart) in
        alike c.hart (get_or (c ∷ choices) i d).hart (0, omega arith, refl) (i, omega arith, get_or-map (λ d. d.hart) (c ∷ choices) i d _ lt)

-- ---- the rules at one hart
agrees-decides : (h k : HartValue) → Decides (agrees h k) (HasExited k → value_of h ≡ value_of k)
agrees-decides h k = if-decides (is_exited k.state) (value_of h == value_of k) (is-decides (is_exited k.state)) (eqb-decides (value_of h) (value_of k))

module _ (inputs : List ℕ) (choices : List Choice) (harts : List HartValue) where
  AllHave : HartValue → Type 0
  AllHave h = All (λ k. HasExited k → value_of h ≡ value_of k) harts

  all-have : (h : HartValue) → Decides (list_all (agrees h) harts) (AllHave h)
  unfolding AllHave
  all-have h = all-decides (agrees h) (λ k. HasExited k → value_of h ≡ value_of k) (agrees-decides h) harts

  DecidesAt : HartValue → Type 0
  DecidesAt h = HasExited h → (IsProposed inputs choices (value_of h) × (flag_of h ≡ 1)) × AllHave h

  decides-at : (h : HartValue) → Decides (decides inputs choices harts h) (DecidesAt h)
  unfolding DecidesAt
  decides-at h =
      if-decides (is_exited h.state) ((is_proposed inputs choices (value_of h) && (flag_of h == 1)) && list_all (agrees h) harts) (is-decides (is_exited h.state))
      (Decides-and (is_proposed inputs choices (value_of h) && (flag_of h == 1)) (list_all (agrees h) harts)
      (Decides-and (is_proposed inputs choices (value_of h)) (flag_of h == 1) (proposed-decides inputs (value_of h) choices) (eqb-decides (flag_of h) 1)) (all-have h))

  consensus-decides : Decides (is_consensus inputs choices harts) (KeepsConsensus inputs choices harts)
  unfolding DecidesAt AllHave
  consensus-decides =
      Decides-like (is_consensus inputs choices harts)
      (λ each. record {
        valid = λ i d lt e. ((each i d lt).1 e).0.0;
        agreed = λ i d lt j u small e f. ((each i d lt).1 e).1 j u small f;
        decided = λ i d lt e. ((each i d lt).1 e).0.1;
        sound = λ i d lt. (each i d lt).0;
      })
      (λ kept i d lt. (kept.sound i d lt, λ e. ((kept.valid i d lt e, kept.decided i d lt e), λ j u small f. kept.agreed i d lt j u small e f)))
      (all-decides (λ h. not (is_faulted h.state) && decides inputs choices harts h) (λ h. (is_faulted h.state ≡ false) × DecidesAt h)
      (λ h. Decides-and (not (is_faulted h.state)) (decides inputs choices harts h) (isnt-decides (is_faulted h.state)) (decides-at h)) harts)

  CommitsAt : HartValue → Type 0
  CommitsAt h =
      HasExited h → IsProposed inputs choices (value_of h) × (((flag_of h ≡ 1) × AllHave h) ⊎ ((flag_of h ≡ 0) × (AreAlike inputs choices → ⊥)))

  commits-at : (h : HartValue) → Decides (adopts_or_commits (are_alike inputs choices) inputs choices harts h) (CommitsAt h)
  unfolding CommitsAt
  commits-at h =
      if-decides (is_exited h.state)
      (is_proposed inputs choices (value_of h) && (((flag_of h == 1) && list_all (agrees h) harts) || ((flag_of h == 0) && not (are_alike inputs choices))))
      (is-decides (is_exited h.state))
      (Decides-and (is_proposed inputs choices (value_of h)) (((flag_of h == 1) && list_all (agrees h) harts) || ((flag_of h == 0) && not (are_alike inputs choices)))
      (proposed-decides inputs (value_of h) choices)
      (Decides-or ((flag_of h == 1) && list_all (agrees h) harts) ((flag_of h == 0) && not (are_alike inputs choices))
      (Decides-and (flag_of h == 1) (list_all (agrees h) harts) (eqb-decides (flag_of h) 1) (all-have h))
      (Decides-and (flag_of h == 0) (not (are_alike inputs choices)) (eqb-decides (flag_of h) 0) (Decides-not (are_alike inputs choices) (alike-decides inputs choices)))))

  Answer : HartValue → Type 0
  Answer h = ((flag_of h ≡ 1) × AllHave h) ⊎ ((flag_of h ≡ 0) × (AreAlike inputs choices → ⊥))

  answered : (h : HartValue) → Answer h → (flag_of h ≡ 0) ⊎ (flag_of h ≡ 1)
  unfolding Answer
  answered h (inl a) = inr a.0
  answered h (inr a) = inl a.0

  committed : (h : HartValue) → Answer h → flag_of h ≡ 1 → AllHave h
  unfolding Answer
  committed h (inl a) one = a.1
  committed h (inr a) one = absurd (let z = a.0 in omega arith)

  convergent : (h : HartValue) → Answer h → AreAlike inputs choices → flag_of h ≡ 1
  unfolding Answer
  convergent h (inl a) alike = a.0
  convergent h (inr a) alike = absurd (a.1 alike)

  answers : (h : HartValue) → (flag_of h ≡ 0) ⊎ (flag_of h ≡ 1) → (flag_of h ≡ 1 → AllHave h) → (AreAlike inputs choices → flag_of h ≡ 1) → Answer h
  unfolding Answer
  answers h (inl z) all one = inr (z, λ alike. absurd (let o = one alike in omega arith))
  answers h (inr o) all one = inl (o, all o)

  adopt_commit-decides : Decides (is_adopt_commit inputs choices harts) (KeepsAdoptCommit inputs choices harts)
  unfolding CommitsAt AllHave Answer
  adopt_commit-decides =
      Decides-like (is_adopt_commit inputs choices harts)
      (λ each. record {
        valid = λ i d lt e. ((each i d lt).1 e).0;
        answered = λ i d lt e. answered (get_or harts i d) ((each i d lt).1 e).1;
        committed = λ i d lt j u small e f one. committed (get_or harts i d) ((each i d lt).1 e).1 one j u small f;
        convergent = λ alike i d lt e. convergent (get_or harts i d) ((each i d lt).1 e).1 alike;
        sound = λ i d lt. (each i d lt).0;
      })
      (λ kept i d lt. (
        kept.sound i d lt,
        λ e. (kept.valid i d lt e, answers (get_or harts i d) (kept.answered i d lt e) (λ one j u small f. kept.committed i d lt j u small e f one) (λ alike. kept.convergent alike i d lt e)),
      ))
      (all-decides (λ h. not (is_faulted h.state) && adopts_or_commits (are_alike inputs choices) inputs choices harts h) (λ h. (is_faulted h.state ≡ false) × CommitsAt h)
      (λ h. Decides-and (not (is_faulted h.state)) (adopts_or_commits (are_alike inputs choices) inputs choices harts h) (isnt-decides (is_faulted h.state)) (commits-at h)) harts)

-- by kind
pub kept-decides : (kind : Kind) (inputs : List ℕ) (choices : List Choice) (harts : List HartValue) → Decides (is_kept kind inputs choices harts) (KeepsRule kind inputs choices harts)
kept-decides Swap inputs choices harts = consensus-decides inputs choices harts
kept-decides Add inputs choices harts = consensus-decides inputs choices harts
kept-decides LrSc inputs choices harts = consensus-decides inputs choices harts
kept-decides AdoptCommit inputs choices harts = adopt_commit-decides inputs choices harts
kept-decides Rounds inputs choices harts = adopt_commit-decides inputs choices harts

pub kept_if : (kind : Kind) (inputs : List ℕ) (choices : List Choice) (harts : List HartValue) → is_kept kind inputs choices harts ≡ true → KeepsRule kind inputs choices harts
kept_if kind inputs choices harts = (kept-decides kind inputs choices harts).0

pub broken_if : (kind : Kind) (inputs : List ℕ) (choices : List Choice) (harts : List HartValue) → is_kept kind inputs choices harts ≡ false → KeepsRule kind inputs choices harts → ⊥
broken_if kind inputs choices harts e kept = let q : false ≡ true = sym e ∙ (kept-decides kind inputs choices harts).1 kept in absurd (cc)

-- ---- a test of the code's harts, one after another
pub passed_one_more : (test : HartValue → Bool) (harts : List Hart) (i : ℕ) (d : Hart) → i < length harts → list_all (λ h. test (hart_of h)) (take i harts) ≡ true
    → test (hart_of (get_or harts i d)) ≡ true → list_all (λ h. test (hart_of h)) (take (i + 1) harts) ≡ true
passed_one_more test harts i d lt before here = list_all_more (λ h. test (hart_of h)) harts i d lt ∙ rw (before, here) refl

map_test : (test : HartValue → Bool) (harts : List Hart) → list_all test (map hart_of harts) ≡ list_all (λ h. test (hart_of h)) harts
map_test test [] = refl
map_test test (h ∷ harts) = ap (λ (b : Bool). test (hart_of h) && b) (map_test test harts)

pub fails_at : (test : HartValue → Bool) (harts : List Hart) (i : ℕ) (d : Hart) → i < length harts → test (hart_of (get_or harts i d)) ≡ false → list_all test (map hart_of harts) ≡ false
fails_at test harts i d lt no_ = map_test test harts ∙ list_all_at (λ h. test (hart_of h)) harts i d lt no_

pub passes_all : (test : HartValue → Bool) (harts : List Hart) (i : ℕ) → length harts ≤ i → list_all (λ h. test (hart_of h)) (take i harts) ≡ true → list_all test (map hart_of harts) ≡ true
passes_all test harts i le all = map_test test harts ∙ sym (ap (λ (hs : List Hart). list_all (λ h. test (hart_of h)) hs) (take_all i harts le)) ∙ all
