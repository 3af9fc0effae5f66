-- What holds under the lock: when nothing was done yet, after one entry more, and once all tickets
-- are spent.
use Rattle.std.proofs.Common.{◌≡◌, ◌≢◌, ◌⊎◌, ℕ, zero, suc, ◌+◌, ◌<◌, ◌≤◌, ◌==◌, ◌||◌, Bool, true, false, List, [], ◌∷◌, ◌++◌, length, set, Option, Some, None, refl, ap, sym, ◌∙◌, subst, arith, inl, inr, append_assoc, append-nil}
use Rattle.std.specs.Prelude.{replicate, if◌then◌else◌, slice_get, slice_index, option_map, ◌-◌, unwrap_or, nat_lt}
use Rattle.std.specs.Option.{IfSome}
use Rattle.std.proofs.lemmas.List.{length-set, get_or-set_same, get_or-set_other, length-replicate, length-append}
use Rattle.std.specs.List.{All}
use Rattle.std.proofs.lemmas.List.Elements.{All-nil, All-cons, All-append}
use Rattle.std.proofs.lemmas.Bool.Decides.{nat_tests}
use Rattle.image.specs.Image.{ImageValue}
use Rattle.mem_store.specs.Image.{segments_memory}
use Rattle.hart_step.specs.Hart.{hart_of}
use Rattle.hart_local.specs.LocalStep.{class_of}
use Rattle.hart_local.specs.declared.stepping.Class.TheVariants.{Shared}
use Rattle.hart_step.specs.declared.hart.Hart.{Hart}
use Rattle.machine.specs.World.{World}
use Rattle.machine.specs.Start.{first_harts, started}
use Rattle.machine.specs.declared.choice.Choice.{Choice}
use Rattle.history.specs.declared.entry.Entry.{Entry}
use Rattle.history.specs.History.{entry, entry_choices, expanded}
use Rattle.thread_book.specs.Book.{BookValue, IsSoundBook, world_of, hart_in_book}
use Rattle.thread_book.specs.Segment.{SegmentState}
use Rattle.thread_book.specs.Present.{IsPresented}
use Rattle.thread_book.proofs.RunLemmas.{expanded-more, replayed-none}
use Rattle.machine.specs.Chosen.{own}
use Rattle.thread_run.specs.Own.{own_choices}
use Rattle.thread_gate.specs.Plan.{is_planned}
use Rattle.thread_gate.specs.Stopped.{is_stopped}
use Rattle.thread_run.specs.Plan.{IsFlagged}
use Rattle.thread_run.specs.Total.{all_choices, Allows, IsUsedUp, IsRoom}
use Rattle.thread_run.specs.Outcome.{has_stopped, HasEnded, IsWithin, IsOutcome}
use Rattle.thread_run.specs.Whole.{AreWhole}
use Rattle.thread_run.specs.Running.{is_done, IsRunning}
use Rattle.thread_run.proofs.OwnLemmas.{expanded-none, own-append, own-none, own_same, own_other, others_stay, entry_length}
use Rattle.thread_run.proofs.WholeLemmas.{entry_whole, whole_more}
use Rattle.thread_run.proofs.TicketLemmas.{none_open, all_open, eq_or_not, ticket_counts}

or_false : (a b : Bool) → a ≡ false → b ≡ false → (a || b) ≡ false
or_false a b p q = ap (λ x. x || b) p ∙ q

not_yet : (m b : ℕ) → m < b → (m == b) ≡ false
not_yet m b l = grind (arith, nat_tests)

-- ---- the results of the commit's calls, in the run's terms
pub planned_as : (refuse : Bool) (plan plan' : List (ℕ × ℕ)) (h h' made local local' : ℕ) → refuse ≡ is_planned plan h (made + local)
    → plan ≡ plan' → h ≡ h' → local ≡ local' → refuse ≡ is_planned plan' h' (made + local')
planned_as refuse plan plan' h h' made local local' is plans harts locals = is ∙ (λ i. is_planned (plans i) (harts i) (made + locals i))

pub done_as : (done : Bool) (slot slot' : Hart) (made local local' budget budget' : ℕ) → done ≡ (is_stopped slot.state || (made + local + 1 == budget))
    → slot ≡ slot' → local ≡ local' → budget ≡ budget' → done ≡ (is_stopped slot'.state || (made + local' + 1 == budget'))
done_as done slot slot' made local local' budget budget' is slots locals budgets =
    is ∙ (λ i. is_stopped (slots i).state || (made + locals i + 1 == budgets i))

pub well_as : (well : Bool) (local local' limit left room room' : ℕ) → well ≡ (nat_lt (local + 1) limit || local + 1 == left || local + 1 == room)
    → well ≡ true → local ≡ local' → room ≡ room' → (nat_lt (local' + 1) limit || local' + 1 == left || local' + 1 == room') ≡ true
well_as well local local' limit left room room' is holds locals rooms =
    sym (is ∙ (λ i. nat_lt (locals i + 1) limit || locals i + 1 == left || locals i + 1 == rooms i)) ∙ holds

-- ---- what is left of the total
-- a total of which something is left is not used up
not_used : (total room : Option ℕ) (count choices left : ℕ) → IsRoom total count room → choices ≤ unwrap_or room left → 0 < choices → IsUsedUp total count → ⊥
not_used None room count choices left r le some used = used
not_used (Some n) None count choices left r le some used = r
not_used (Some n) (Some room) count choices left r le some used = absurd (omega (arith, r, le, some, used))

-- nothing is left of a total
pub none_left : (total room : Option ℕ) (count left : ℕ) → IsRoom total count room → 0 < left → unwrap_or room left ≡ 0 → IsUsedUp total count
none_left None None count left r some none = absurd (omega (arith, some, none))
none_left None (Some room) count left r some none = r
none_left (Some n) None count left r some none = absurd r
none_left (Some n) (Some room) count left r some none = omega (arith, r, none)

-- less is left after so many choices more
less_left : (total room : Option ℕ) (count more choices left : ℕ) → IsRoom total count room → choices ≤ unwrap_or room left → more ≡ count + choices
    → IsRoom total more (option_map (λ n. n - choices) room)
less_left None None count more choices left r le is = tt
less_left None (Some room) count more choices left r le is = r
less_left (Some n) None count more choices left r le is = r
less_left (Some n) (Some room) count more choices left r le is = omega (arith, r, le, is)

-- what is left was allowed
allowed : (total room : Option ℕ) (count : ℕ) → IsRoom total count room → Allows total count
allowed None room count r = tt
allowed (Some n) None count r = absurd r
allowed (Some n) (Some room) count r = omega (arith, r)

-- an entry may take what is left for it
pub may_take : (room : Option ℕ) (choices left : ℕ) → choices ≤ unwrap_or room left → IfSome room (λ n. choices ≤ n)
may_take None choices left le = tt
may_take (Some room) choices left le = le

all_room : (total : Option ℕ) → IsRoom total 0 total
all_room None = tt
all_room (Some n) = omega arith

-- ---- one entry more
flagged_more : (plan : List (ℕ × ℕ)) (before : List Choice) (entries : List Entry) (e : Entry) → IsFlagged plan before entries
    → e.refuse ≡ is_planned plan e.hart (own (before ++ expanded entries) e.hart + e.local) → IsFlagged plan before (entries ++ e ∷ [])
unfolding expanded
flagged_more plan before [] e f is = (is ∙ ap (λ l. is_planned plan e.hart (own l e.hart + e.local)) (append-nil before), tt)
flagged_more plan before (x ∷ entries) e f is = (
  f.0,
  flagged_more plan (before ++ entry_choices x) entries e f.1
      (is ∙ ap (λ l. is_planned plan e.hart (own l e.hart + e.local)) (sym (append_assoc before (entry_choices x) (expanded entries)))),
)

-- a seat's segment was taken in
pub run_on : (image : ImageValue) (inputs : List ℕ) (budget : ℕ) (total : Option ℕ) (plan : List (ℕ × ℕ)) (b b' : BookValue) (s t : SegmentState) (counts : List ℕ) (room : Option ℕ) (made tickets left own_left : ℕ) (done : Bool)
    → IsRunning image inputs budget total plan b counts room tickets
    → s.hart < length counts
    → made ≡ slice_index counts s.hart
    → IsSoundBook b
    → IsPresented b s b' t
    → (class_of (segments_memory s.code) (hart_of s.reached) ≡ Shared) ⊎ (made + s.local + 1 ≡ budget) ⊎ IsUsedUp total (all_choices b + s.local + 1)
    → s.local + 1 ≤ unwrap_or room own_left
    → s.refuse ≡ is_planned plan s.hart (made + s.local)
    → is_stopped s.slot.state ≡ false
    → made + s.local + 1 ≤ budget
    → done ≡ (is_stopped t.slot.state || (made + s.local + 1 == budget))
    → left + (if done then 1 else 0) ≡ tickets
    → IsRunning image inputs budget total plan b' (set counts s.hart (made + s.local + 1)) (option_map (λ n. n - (s.local + 1)) room) left
run_on image inputs budget total plan b b' s t counts room made tickets left own_left done r here was sound p ends roomy flag running fits is spent =
    let h = s.hart in
    let e = entry h s.local s.refuse in
    let now = made + s.local + 1 in
    let inside : h < length inputs = omega (arith, r.long) in
    let history : b'.history ≡ b.history ++ e ∷ [] = ap (λ (x : BookValue). x.history) p.book in
    let choices : expanded b'.history ≡ expanded b.history ++ entry_choices e = ap expanded history ∙ expanded-more b.history e in
    let counted = λ (j : ℕ). ap (λ l. own l j) choices ∙ own-append (expanded b.history) (entry_choices e) j in
    let mine : own_choices b' h ≡ now = omega (arith, counted h, own_same s.local h s.refuse, r.counted h inside, was) in
    let before : own_choices b h ≡ made = omega (arith, r.counted h inside, was) in
    let theirs : (j : ℕ) → j ≢ h → own_choices b' j ≡ own_choices b j = λ j apart. omega (arith, counted j, own_other s.local h j s.refuse apart) in
    let in_all : all_choices b' ≡ all_choices b + (s.local + 1) = ap (λ (cs : List Choice). length cs) choices ∙ length-append (expanded b.history) (entry_choices e) ∙ ap (λ n. all_choices b + n) (entry_length s.local h s.refuse) in
    let slot : hart_in_book b' h ≡ Some (hart_of t.slot) = ap (hart_in_book b') (sym p.segment.hart) ∙ p.segment.current.0 in
    let kept : (j : ℕ) → j ≢ h → hart_in_book b' j ≡ hart_in_book b j
    = λ j apart. ap (λ (w : World). slice_get w.harts j) p.world ∙ others_stay (entry_choices e) (world_of b) j (own_other s.local h j s.refuse apart) in
    let was_open : is_done budget b h ≡ false =
    or_false _ _ (ap has_stopped p.current.0 ∙ running) (ap (λ n. n == budget) before ∙ not_yet made budget (omega arith)) in
    let is_now : is_done budget b' h ≡ done =
    (λ i. has_stopped (slot i) || (mine i == budget)) ∙ sym is in
    let others : (j : ℕ) → j ≢ h → is_done budget b j ≡ is_done budget b' j =
    λ j apart. sym (λ i. has_stopped (kept j apart i) || (theirs j apart i == budget)) in
    record {
      same_image = ap (λ (x : BookValue). x.image) p.book ∙ r.same_image;
      same_inputs = ap (λ (x : BookValue). x.inputs) p.book ∙ r.same_inputs;
      long = length-set counts h now ∙ r.long;
      counted = λ j l. elim (eq_or_not j h) [
        | inl same ↦ ap (λ k. slice_index (set counts h now) k) same ∙ get_or-set_same counts h now 0 here ∙ sym mine ∙ ap (own_choices b') (sym same)
        | inr apart ↦ get_or-set_other counts h j now 0 apart ∙ r.counted j l ∙ sym (theirs j apart)
      ];
      spent = λ j l. elim (eq_or_not j h) [
        | inl same ↦ omega (arith, ap (λ k. slice_index (set counts h now) k) same ∙ get_or-set_same counts h now 0 here)
        | inr apart ↦ omega (arith, get_or-set_other counts h j now 0 apart, r.spent j l)
      ];
      flagged = subst (λ es. IsFlagged plan [] es) (sym history) (flagged_more plan [] b.history e r.flagged (flag ∙ ap (λ n. is_planned plan h (n + s.local)) (sym before)));
      within = subst (λ es. All (IsWithin (length inputs) budget) es) (sym history)
          (All-append (IsWithin (length inputs) budget) b.history (e ∷ []) r.within
          (All-cons (IsWithin (length inputs) budget) e [] (inside, omega arith) (All-nil (IsWithin (length inputs) budget))));
      whole = subst (λ es. AreWhole image inputs budget total [] es) (sym history)
          (whole_more image inputs budget total [] b.history e r.whole (entry_whole image inputs budget total b b' s t made r.same_image r.same_inputs sound p before ends));
      left = less_left total room (all_choices b) (all_choices b') (s.local + 1) own_left r.left roomy in_all;
      to_do = elim r.to_do [
        | inl used ↦ absurd (not_used total room (all_choices b) (s.local + 1) own_left r.left roomy (omega arith) used)
        | inr all ↦ inr (ticket_counts done (is_done budget b) (is_done budget b') (length inputs) h left tickets inside was_open is_now others spent all)
      ];
    }

-- a hart is done since the total is used up
pub run_used_up : (image : ImageValue) (inputs : List ℕ) (budget : ℕ) (total : Option ℕ) (plan : List (ℕ × ℕ)) (b : BookValue) (counts : List ℕ) (room : Option ℕ) (tickets left own_left : ℕ)
    → IsRunning image inputs budget total plan b counts room tickets → 0 < own_left → unwrap_or room own_left ≡ 0
    → IsRunning image inputs budget total plan b counts room left
run_used_up image inputs budget total plan b counts room tickets left own_left r some none = record {
  same_image = r.same_image;
  same_inputs = r.same_inputs;
  long = r.long;
  counted = r.counted;
  spent = r.spent;
  flagged = r.flagged;
  within = r.within;
  whole = r.whole;
  left = r.left;
  to_do = inl (none_left total room (all_choices b) own_left r.left some none);
}

-- ---- the end
-- a hart that needs no further choice has ended
done_is : (b : BookValue) (budget : ℕ) (total : Option ℕ) (h : ℕ) → is_done budget b h ≡ true → own_choices b h ≤ budget → HasEnded b budget total h
done_is b budget total h e le = go (has_stopped (hart_in_book b h)) (own_choices b h) refl refl e
  where
    go : (stopped : Bool) (n : ℕ) → has_stopped (hart_in_book b h) ≡ stopped → own_choices b h ≡ n → (stopped || (n == budget)) ≡ true → HasEnded b budget total h
    go true n s is t = inl (s, le)
    go false n s is t = inr (inl (is ∙ (let same : n ≡ budget = grind (arith, nat_tests) in same)))

-- all tickets are spent
pub run_ended : (image : ImageValue) (inputs : List ℕ) (budget : ℕ) (total : Option ℕ) (plan : List (ℕ × ℕ)) (b : BookValue) (counts : List ℕ) (room : Option ℕ) (tickets : ℕ)
    → IsRunning image inputs budget total plan b counts room tickets → tickets ≡ 0 → IsOutcome image inputs budget total plan b
run_ended image inputs budget total plan b counts room tickets r none = record {
  same_image = r.same_image;
  same_inputs = r.same_inputs;
  ended = λ h l. elim r.to_do [
    | inl used ↦ inr (inr used)
    | inr all ↦ done_is b budget total h (none_open (is_done budget b) (length inputs) h (sym all ∙ none) l) (omega (arith, r.counted h l, r.spent h l))
  ];
  flagged = r.flagged;
  within = r.within;
  in_all = allowed total room (all_choices b) r.left;
  whole = r.whole;
}

-- ---- the beginning
zeros : (n h : ℕ) → slice_index (replicate n 0) h ≡ 0
zeros zero h = refl
zeros (suc n) zero = refl
zeros (suc n) (suc h) = zeros n h

first_runs : (entry n k : ℕ) (inputs : List ℕ) (h : ℕ) → has_stopped (slice_get (first_harts entry n k inputs) h) ≡ false
first_runs entry n k [] h = refl
first_runs entry n k (x ∷ inputs) zero = refl
first_runs entry n k (x ∷ inputs) (suc h) = first_runs entry n (k + 1) inputs h

-- a book with an empty history
abbrev pub begun : ImageValue → List ℕ → BookValue
begun image inputs = record { image = image; inputs = inputs; history = [] }

all_run : (image : ImageValue) (inputs : List ℕ) (h : ℕ) → has_stopped (hart_in_book (begun image inputs) h) ≡ false
unfolding started
all_run image inputs h =
    ap (λ (w : World). has_stopped (slice_get w.harts h)) (replayed-none image inputs) ∙ first_runs image.entry (length inputs) 0 inputs h

none_owned : (image : ImageValue) (inputs : List ℕ) (h : ℕ) → own_choices (begun image inputs) h ≡ 0
none_owned image inputs h = ap (λ (cs : List Choice). own cs h) expanded-none ∙ own-none h

none_in_all : (image : ImageValue) (inputs : List ℕ) → all_choices (begun image inputs) ≡ 0
none_in_all image inputs = ap (λ (cs : List Choice). length cs) expanded-none

run_begun : (image : ImageValue) (inputs : List ℕ) (budget : ℕ) (total : Option ℕ) (plan : List (ℕ × ℕ)) → 0 < budget
    → IsRunning image inputs budget total plan (begun image inputs) (replicate (length inputs) 0) total (length inputs)
run_begun image inputs budget total plan some = record {
  same_image = refl;
  same_inputs = refl;
  long = length-replicate (length inputs) 0;
  counted = λ h l. zeros (length inputs) h ∙ sym (none_owned image inputs h);
  spent = λ h l. omega (arith, zeros (length inputs) h);
  flagged = tt;
  within = All-nil (IsWithin (length inputs) budget);
  whole = tt;
  left = subst (λ (n : ℕ). IsRoom total n total) (sym (none_in_all image inputs)) (all_room total);
  to_do = inr (sym (all_open (is_done budget (begun image inputs)) (length inputs)
      (λ h l. or_false _ _ (all_run image inputs h) (ap (λ n. n == budget) (none_owned image inputs h) ∙ not_yet 0 budget some))));
}

-- nothing was done yet
pub run_begun_as : (image : ImageValue) (inputs : List ℕ) (budget : ℕ) (total : Option ℕ) (plan : List (ℕ × ℕ)) (b : BookValue) (counts : List ℕ) (room : Option ℕ) (tickets : ℕ)
    → 0 < budget → b ≡ begun image inputs → counts ≡ replicate (length inputs) 0 → room ≡ total → tickets ≡ length inputs
    → IsRunning image inputs budget total plan b counts room tickets
run_begun_as image inputs budget total plan b counts room tickets some is none rooms all =
    subst (λ (x : BookValue). IsRunning image inputs budget total plan x counts room tickets) (sym is)
    (subst (λ (x : List ℕ). IsRunning image inputs budget total plan (begun image inputs) x room tickets) (sym none)
    (subst (λ (x : Option ℕ). IsRunning image inputs budget total plan (begun image inputs) (replicate (length inputs) 0) x tickets) (sym rooms)
    (subst (λ (x : ℕ). IsRunning image inputs budget total plan (begun image inputs) (replicate (length inputs) 0) total x) (sym all)
    (run_begun image inputs budget total plan some))))

-- a run without choices
pub not_run : (image : ImageValue) (inputs : List ℕ) (budget : ℕ) (total : Option ℕ) (plan : List (ℕ × ℕ)) (b : BookValue)
    → (budget ≡ 0) ⊎ IsUsedUp total 0 → b ≡ begun image inputs → IsOutcome image inputs budget total plan b
not_run image inputs budget total plan b none is = subst (λ (x : BookValue). IsOutcome image inputs budget total plan x) (sym is) (record {
  same_image = refl;
  same_inputs = refl;
  ended = λ h l. elim none [
    | inl unspent ↦ inr (inl (none_owned image inputs h ∙ sym unspent))
    | inr used ↦ inr (inr (subst (λ (n : ℕ). IsUsedUp total n) (sym (none_in_all image inputs)) used))
  ];
  flagged = tt;
  within = All-nil (IsWithin (length inputs) budget);
  in_all = subst (λ (n : ℕ). Allows total n) (sym (none_in_all image inputs)) (allowed total total 0 (all_room total));
  whole = tt;
})

-- a run is identified by the image and the inputs that its book was made of
pub outcome_of : (image : ImageValue) (inputs : List ℕ) (budget : ℕ) (total : Option ℕ) (plan : List (ℕ × ℕ)) (b after : BookValue) → b ≡ begun image inputs
    → IsOutcome b.image b.inputs budget total plan after → IsOutcome image inputs budget total plan after
outcome_of image inputs budget total plan b after is o = subst (λ (x : BookValue). IsOutcome x.image x.inputs budget total plan after) is o
