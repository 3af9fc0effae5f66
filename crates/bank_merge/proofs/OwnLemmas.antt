-- How often the choices of merged logs choose each hart.
use Rattle.std.proofs.Common.{◌≡◌, ℕ, zero, suc, ◌+◌, ◌<◌, ◌==◌, Bool, true, false, List, [], ◌∷◌, ◌++◌, refl, ap, sym, ◌∙◌, subst, arith, inl, inr, ⊎_elim, append_assoc, eq-eqb, eqb-true}
use Rattle.std.specs.Prelude.{if◌then◌else◌}
use Rattle.std.specs.List.{AllByRecursion}
use Rattle.machine.specs.Chosen.{own}
use Rattle.machine.specs.declared.choice.Choice.{Choice}
use Rattle.bank_laws.specs.Segments.{LoggedSegment, segments_of_hart}
use Rattle.bank_laws.specs.Order.{In, Rises, Ahead, Earlier, IsMerged}
use Rattle.bank_laws.specs.Merged.{segment_choices}
use Rattle.bank_laws.proofs.MergeLemmas.{merged_once}
use Rattle.bank_order.specs.Merged.{choice_by, choices_in, choices_of_one, plain_steps, IsMergeOf}
use Rattle.bank_order.specs.Weaving.{log_of}
use Rattle.bank_order.proofs.ChoiceLemmas.{more_segments}
use Rattle.bank_order.proofs.MergedLemmas.{each_in, rises_ahead}
use Rattle.bank_hart_log.specs.HartLog.{HartLogValue}
use Rattle.bank_merge.specs.Logs.{hart_log, segments_of_all, StampsRise}
use Rattle.bank_merge.specs.Merge.{OwnAreLogged}

-- ---- the choices of segments
own_plain : (k n h : ℕ) (cs : List Choice) → own (plain_steps k n ++ cs) h ≡ (if k == h then n else 0) + own cs h
own_plain k zero h cs = by (k == h)
  where
    by : (b : Bool) → own cs h ≡ (if b then 0 else 0) + own cs h
    by true = omega arith
    by false = omega arith
own_plain k (suc n) h cs = by (k == h) (own (plain_steps k n ++ cs) h) (own cs h) (own_plain k n h cs)
  where
    by : (b : Bool) (x y : ℕ) → x ≡ (if b then n else 0) + y → (if b then 1 else 0) + x ≡ (if b then suc n else 0) + y
    by true x y e = omega (arith, e)
    by false x y e = omega (arith, e)

own_segment : (e : LoggedSegment) (h : ℕ) (cs : List Choice) → own (choices_of_one e ++ cs) h ≡ (if e.hart == h then e.local + 1 else 0) + own cs h
own_segment e h cs =
    ap (λ (l : List Choice). own l h) (append_assoc (plain_steps e.hart e.local) (choice_by e.hart e.refuse ∷ []) cs)
    ∙ own_plain e.hart e.local h (choice_by e.hart e.refuse ∷ cs) ∙ by (e.hart == h) (own cs h)
  where
    by : (b : Bool) (y : ℕ) → (if b then e.local else 0) + ((if b then 1 else 0) + y) ≡ (if b then e.local + 1 else 0) + y
    by true y = omega arith
    by false y = omega arith

own_segments : (h : ℕ) (es : List LoggedSegment) → own (segment_choices es) h ≡ choices_in (segments_of_hart h es)
own_segments h [] = refl
own_segments h (e ∷ es) =
    ap (λ (l : List Choice). own l h) (more_segments e es) ∙ own_segment e h (segment_choices es)
    ∙ by (e.hart == h) (own (segment_choices es) h) (own_segments h es)
  where
    by : (b : Bool) (x : ℕ) → x ≡ choices_in (segments_of_hart h es)
        → (if b then e.local + 1 else 0) + x ≡ choices_in (if b then e ∷ segments_of_hart h es else segments_of_hart h es)
    by true x q = omega (arith, q)
    by false x q = omega (arith, q)

-- ---- the segments of one hart among those of all
mine_in : (h : ℕ) (es : List LoggedSegment) (e : LoggedSegment) → In e (segments_of_hart h es) → In e es × (e.hart ≡ h)
mine_in h [] e i = absurd i
mine_in h (x ∷ es) e i = by (x.hart == h) refl (λ j. mine_in h es e j) i
  where
    by : (b : Bool) → (x.hart == h) ≡ b → (In e (segments_of_hart h es) → In e es × (e.hart ≡ h))
        → In e (if b then x ∷ segments_of_hart h es else segments_of_hart h es) → In e (x ∷ es) × (e.hart ≡ h)
    by true t rest (inl q) = (inl q, ap (λ (y : LoggedSegment). y.hart) q ∙ eqb-true x.hart h t)
    by true t rest (inr j) = let r = rest j in (inr r.0, r.1)
    by false t rest j = let r = rest j in (inr r.0, r.1)

in_mine : (h : ℕ) (es : List LoggedSegment) (e : LoggedSegment) → In e es → e.hart ≡ h → In e (segments_of_hart h es)
in_mine h [] e i own_hart = absurd i
in_mine h (x ∷ es) e (inl q) own_hart =
    subst (λ (b : Bool). In e (if b then x ∷ segments_of_hart h es else segments_of_hart h es))
    (sym (eq-eqb x.hart h (ap (λ (y : LoggedSegment). y.hart) (sym q) ∙ own_hart))) (inl q)
in_mine h (x ∷ es) e (inr j) own_hart = by (x.hart == h) (in_mine h es e j own_hart)
  where
    by : (b : Bool) → In e (segments_of_hart h es) → In e (if b then x ∷ segments_of_hart h es else segments_of_hart h es)
    by true k = inr k
    by false k = k

mine_all : (P : LoggedSegment → Type 0) (h : ℕ) (es : List LoggedSegment) → AllByRecursion P es → AllByRecursion P (segments_of_hart h es)
mine_all P h [] all = tt
mine_all P h (x ∷ es) all = by (x.hart == h) (mine_all P h es all.1)
  where
    by : (b : Bool) → AllByRecursion P (segments_of_hart h es) → AllByRecursion P (if b then x ∷ segments_of_hart h es else segments_of_hart h es)
    by true rest = (all.0, rest)
    by false rest = rest

mine_rise : (h : ℕ) (es : List LoggedSegment) → Rises Ahead es → Rises Ahead (segments_of_hart h es)
mine_rise h [] r = tt
mine_rise h (x ∷ es) r = by (x.hart == h) (mine_rise h es r.1)
  where
    by : (b : Bool) → Rises Ahead (segments_of_hart h es) → Rises Ahead (if b then x ∷ segments_of_hart h es else segments_of_hart h es)
    by true rest = (mine_all (Ahead x) h es r.0, rest)
    by false rest = rest

-- the logs without those of other harts
abbrev only : (ℕ → List LoggedSegment) → ℕ → ℕ → List LoggedSegment
only logs h k = if k == h then logs h else []

only_in : (logs : ℕ → List LoggedSegment) (h k : ℕ) (e : LoggedSegment) → In e (only logs h k) → In e (logs h)
only_in logs h k e i = by (k == h) i
  where
    by : (b : Bool) → In e (if b then logs h else []) → In e (logs h)
    by true j = j
    by false j = absurd j

in_only : (logs : ℕ → List LoggedSegment) (h k : ℕ) (e : LoggedSegment) → k ≡ h → In e (logs h) → In e (only logs h k)
in_only logs h k e same i = subst (λ (b : Bool). In e (if b then logs h else [])) (sym (eq-eqb k h same)) i

-- the merged segments of a hart are its log
mine_are : (logs : ℕ → List LoggedSegment) (es : List LoggedSegment) (h : ℕ) → AllByRecursion (λ e. e.hart ≡ h) (logs h) → Rises Earlier (logs h)
    → IsMerged logs es → segments_of_hart h es ≡ logs h
mine_are logs es h own_log rising m =
    let hart_is : (e : LoggedSegment) → In e (logs h) → e.hart ≡ h = λ e i. each_in (λ (s : LoggedSegment). s.hart ≡ h) (logs h) e own_log i in
    merged_once (only logs h) (segments_of_hart h es) (logs h)
    (record {
      order = mine_rise h es m.order;
      taken = λ e i. let is = mine_in h es e i in
          in_only logs h e.hart e is.1 (subst (λ (k : ℕ). In e (logs k)) is.1 (m.taken e is.0));
      complete = λ k e i. let there = only_in logs h k e i in in_mine h es e (m.complete h e there) (hart_is e there);
    })
    (record {
      order = rises_ahead (logs h) rising;
      taken = λ e i. in_only logs h e.hart e (hart_is e i) i;
      complete = λ k e i. only_in logs h k e i;
    })

-- ---- the choices of all logs
pub own_are_logged : (logs : List HartLogValue) (choices : List Choice) → ((h : ℕ) → AllByRecursion (λ e. e.hart ≡ h) (hart_log logs h)) → StampsRise logs
    → IsMergeOf (segments_of_all logs) choices → OwnAreLogged logs choices
own_are_logged logs choices own_log rising m h =
    ap (λ (l : List Choice). own l h) m.are ∙ own_segments h m.segments
    ∙ ap choices_in (mine_are (log_of (segments_of_all logs)) m.segments h (own_log h) (rising h) m.merged)
