-- The harts that a history chooses, entry by entry.
use Rattle.std.proofs.Common.{◌≡◌, ℕ, zero, suc, ◌+◌, ◌<◌, Bool, true, false, ◌||◌, ◌==◌, List, [], ◌∷◌, ◌++◌, length, get_or, take, refl, ap, sym, ◌∙◌, eqb-true}
use Rattle.std.specs.Prelude.{replicate}
use Rattle.machine.specs.Chosen.{is_chosen, ChooseAlike}
use Rattle.machine.specs.declared.choice.Choice.{Choice}
use Rattle.history.specs.declared.entry.Entry.{Entry}
use Rattle.history.specs.History.{choice, entry_choices, expanded}
use Rattle.history.proofs.ReplayLemmas.{expanded_more}

any-append : (a b : List Choice) (k : ℕ) → is_chosen (a ++ b) k ≡ (is_chosen a k || is_chosen b k)
any-append [] b k = refl
any-append (c ∷ a) b k = go (c.hart == k) (any-append a b k)
  where
    go : (x : Bool) → is_chosen (a ++ b) k ≡ (is_chosen a k || is_chosen b k) → (x || is_chosen (a ++ b) k) ≡ ((x || is_chosen a k) || is_chosen b k)
    go true e = refl
    go false e = e

or-none : (x : Bool) → (x || false) ≡ x
or-none true = refl
or-none false = refl

or-same : (x : Bool) → (x || x) ≡ x
or-same true = refl
or-same false = refl

-- an entry chooses its hart alone
plain-then : (n h : ℕ) (refuse : Bool) (k : ℕ) → is_chosen (replicate n (choice h false) ++ choice h refuse ∷ []) k ≡ (h == k)
plain-then zero h refuse k = or-none (h == k)
plain-then (suc n) h refuse k = ap (λ x. (h == k) || x) (plain-then n h refuse k) ∙ or-same (h == k)

-- the harts of one entry more
chosen_more : (history : List Entry) (i : ℕ) (d : Entry) (k : ℕ) → i < length history
    → is_chosen (expanded (take (i + 1) history)) k ≡ (is_chosen (expanded (take i history)) k || ((get_or history i d).hart == k))
chosen_more history i d k inside =
    let e = get_or history i d in
    ap (λ cs. is_chosen cs k) (expanded_more history i d inside) ∙ any-append (expanded (take i history)) (entry_choices e) k
    ∙ ap (λ x. is_chosen (expanded (take i history)) k || x) (plain-then e.local e.hart e.refuse k)

-- and so of a list that had the harts of the entries before it
pub entry_more : (history : List Entry) (i : ℕ) (d : Entry) (old new : List Choice) → i < length history
    → ((k : ℕ) → is_chosen new k ≡ (is_chosen old k || ((get_or history i d).hart == k))) → ChooseAlike old (expanded (take i history))
    → ChooseAlike new (expanded (take (i + 1) history))
entry_more history i d old new inside more so_far k =
    more k ∙ ap (λ x. x || ((get_or history i d).hart == k)) (so_far k) ∙ sym (chosen_more history i d k inside)

pub none_chosen : (k : ℕ) → is_chosen (expanded []) k ≡ false
unfolding expanded
none_chosen k = refl

turn-more : (a : List Choice) (c : Choice) (k : ℕ) → is_chosen (a ++ c ∷ []) k ≡ (is_chosen a k || (c.hart == k))
turn-more a c k = any-append a (c ∷ []) k ∙ ap (λ x. is_chosen a k || x) (or-none (c.hart == k))

-- a hart's choice is added
pub added : (old new : List Choice) (c : Choice) → new ≡ old ++ c ∷ [] → (k : ℕ) → is_chosen new k ≡ (is_chosen old k || (c.hart == k))
added old new c e k = ap (λ choices. is_chosen choices k) e ∙ turn-more old c k

-- a hart's choice is there
pub there : (old : List Choice) (h : ℕ) → is_chosen old h ≡ true → (k : ℕ) → is_chosen old k ≡ (is_chosen old k || (h == k))
there old h among k = go (h == k) refl
  where
    whole : (x : Bool) → x ≡ true → x ≡ (x || true)
    whole true e = refl
    whole false e = absurd (cc)

    go : (y : Bool) → (h == k) ≡ y → is_chosen old k ≡ (is_chosen old k || y)
    go true e = whole (is_chosen old k) (ap (is_chosen old) (sym (eqb-true h k e)) ∙ among)
    go false e = sym (or-none (is_chosen old k))
