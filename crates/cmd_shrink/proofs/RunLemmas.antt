-- Where runs begin and end, and which exchanges were tried.
use Rattle.std.proofs.Common.{◌≡◌, ◌⊎◌, ℕ, ◌+◌, ◌-◌, ◌<◌, ◌≤◌, List, length, sym, subst, ◌∙◌, inl, inr, arith}
use Rattle.std.proofs.lemmas.Bool.{cases_lt}
use Rattle.machine.specs.declared.choice.Choice.{Choice}
use Rattle.cmd_shrink.specs.Switches.{hart_chosen_at, IsRun, AreNext, StaySo, switches, exchanged}

module _ (choices : List Choice) where
  -- a run doesn't begin within another
  no_beginning : (i j k to : ℕ) → IsRun i to choices → IsRun j k choices → i < j → j < to → ⊥
  no_beginning i j k to outer inner after before =
      let p : j - 1 + 1 ≡ j = omega (arith, after) in
      let here = outer.one j (omega (arith, after)) before in
      let last = outer.one (j - 1) (omega (arith, after)) (omega (arith, after, before)) in
      inner.begins (j - 1) p (last ∙ sym here)

  -- nor does one end there
  no_end : (i j from to : ℕ) → IsRun from to choices → IsRun i j choices → from < j → j < to → ⊥
  no_end i j from to outer inner after before =
      let some = inner.some in
      let here = outer.one j (omega (arith, after)) before in
      let last = outer.one (j - 1) (omega (arith, after)) (omega (arith, after, before)) in
      let own = inner.one (j - 1) (omega (arith, some)) (omega (arith, some)) in
      inner.ends (here ∙ sym last ∙ own)

  -- two runs that end at one place begin at one
  same_beginning : (i from j : ℕ) → IsRun i j choices → IsRun from j choices → i ≡ from
  same_beginning i from j one other = by (cases_lt i from) (cases_lt from i)
    where
      by : (i < from) ⊎ (from ≤ i) → (from < i) ⊎ (i ≤ from) → i ≡ from
      by (inl lt) o = absurd (no_beginning i from j j one other lt other.some)
      by (inr le) (inl lt) = absurd (no_beginning from i j j other one lt one.some)
      by (inr le) (inr ge) = omega (arith, le, ge)

  -- two runs that begin at one place end at one
  same_end : (j k to : ℕ) → IsRun j k choices → IsRun j to choices → k ≡ to
  same_end j k to one other = by (cases_lt k to) (cases_lt to k)
    where
      by : (k < to) ⊎ (to ≤ k) → (to < k) ⊎ (k ≤ to) → k ≡ to
      by (inl lt) o = let some = one.some in absurd (one.ends (other.one k (omega (arith, some)) lt))
      by (inr le) (inl lt) = let some = other.some in absurd (other.ends (one.one to (omega (arith, some)) lt))
      by (inr le) (inr ge) = omega (arith, le, ge)

  -- where a run ends, another one may begin
  pub next_begins : (from middle : ℕ) → IsRun from middle choices → (k : ℕ) → k + 1 ≡ middle → hart_chosen_at k choices ≡ hart_chosen_at middle choices → ⊥
  next_begins from middle run k is same =
      let some = run.some in
      run.ends (sym same ∙ run.one k (omega (arith, some, is)) (omega (arith, is)))

  -- no exchange of neighbouring runs, of which the second begins before a place, fails and gives
  -- fewer switches
  abbrev pub Tried : (List Choice → Type 0) → ℕ → Type 0
  Tried Fails place =
      (i j k : ℕ) → j < place → IsRun i j choices → IsRun j k choices → switches (exchanged i j k choices) < switches choices
      → Fails (exchanged i j k choices) → ⊥

  module _ (Fails : List Choice → Type 0) where
    -- no run ends before the first does
    pub tried_first : (middle : ℕ) → IsRun 0 middle choices → Tried Fails middle
    tried_first middle first i j k before one other fewer fails =
        let some = one.some in no_end i j 0 middle first one (omega (arith, some)) before

    pub tried_more : (from middle to : ℕ) → IsRun from middle choices → IsRun middle to choices → Tried Fails middle
        → (switches (exchanged from middle to choices) < switches choices → Fails (exchanged from middle to choices) → ⊥)
        → Tried Fails to
    tried_more from middle to first second so_far here i j k before one other = by (cases_lt j middle) (cases_lt middle j)
      where
        at : j ≡ middle → switches (exchanged i j k choices) < switches choices → Fails (exchanged i j k choices) → ⊥
        at e =
            let one_here = subst (λ m. IsRun i m choices) e one in
            let other_here = subst (λ m. IsRun m k choices) e other in
            let begins = same_beginning i from middle one_here first in
            let ends = same_end middle k to other_here second in
            subst (λ a. switches (exchanged a j k choices) < switches choices → Fails (exchanged a j k choices) → ⊥) (sym begins)
            (subst (λ b. switches (exchanged from b k choices) < switches choices → Fails (exchanged from b k choices) → ⊥) (sym e)
            (subst (λ c. switches (exchanged from middle c choices) < switches choices → Fails (exchanged from middle c choices) → ⊥)
            (sym ends) here))

        by : (j < middle) ⊎ (middle ≤ j) → (middle < j) ⊎ (j ≤ middle) → switches (exchanged i j k choices) < switches choices
            → Fails (exchanged i j k choices) → ⊥
        by (inl lt) o = so_far i j k lt one other
        by (inr le) (inl lt) = absurd (no_end i j middle to second one lt before)
        by (inr le) (inr ge) = at (omega (arith, le, ge))

    pub tried_all : (place : ℕ) → length choices ≤ place → Tried Fails place
        → (i j k : ℕ) → IsRun i j choices → IsRun j k choices → StaySo Fails i j k choices
    tried_all place past all i j k one other =
        let some = other.some in
        let within = other.within in
        all i j k (omega (arith, some, within, past)) one other

    -- an empty list has no runs
    pub tried_none : length choices ≡ 0 → (i j k : ℕ) → IsRun i j choices → IsRun j k choices → StaySo Fails i j k choices
    tried_none none i j k one other =
        let some = one.some in
        let within = one.within in
        absurd (omega (arith, some, within, none))

  -- behind a run the next one of its hart may begin
  pub next_run_begins : (from to next : ℕ) → IsRun from to choices → to ≤ next
      → ((k : ℕ) → to ≤ k → k < next → hart_chosen_at k choices ≡ hart_chosen_at from choices → ⊥) → hart_chosen_at next choices ≡ hart_chosen_at from choices
      → (k : ℕ) → k + 1 ≡ next → hart_chosen_at k choices ≡ hart_chosen_at next choices → ⊥
  next_run_begins from to next run behind others same k is equal = by (cases_lt k to)
    where
      by : (k < to) ⊎ (to ≤ k) → ⊥
      by (inl lt) =
          let e : next ≡ to = omega (arith, lt, is, behind) in run.ends (subst (λ x. hart_chosen_at x choices ≡ hart_chosen_at from choices) e same)
      by (inr le) = others k le (omega (arith, is)) (equal ∙ same)

  -- neither move of a run up to the next one of its hart, and back, that gives fewer switches, fails
  abbrev pub Stay : (List Choice → Type 0) → ℕ → ℕ → ℕ → ℕ → Type 0
  Stay Fails i j m n = StaySo Fails i j m choices × StaySo Fails j m n choices

  -- the same for the runs that begin before a place
  abbrev pub Moved : (List Choice → Type 0) → ℕ → Type 0
  Moved Fails place = (i j m n : ℕ) → i < place → AreNext i j m n choices → Stay Fails i j m n

  module _ (Fails : List Choice → Type 0) where
    -- what is known of the next run is so of each
    pub only_next : (from to next end : ℕ) → to ≤ next
        → ((k : ℕ) → to ≤ k → k < next → hart_chosen_at k choices ≡ hart_chosen_at from choices → ⊥) → hart_chosen_at next choices ≡ hart_chosen_at from choices
        → IsRun next end choices → StaySo Fails from to next choices → StaySo Fails to next end choices
        → (m n : ℕ) → AreNext from to m n choices → Stay Fails from to m n
    only_next from to next end behind others same run up back m n are = by (cases_lt m next) (cases_lt next m)
      where
        at : m ≡ next → Stay Fails from to m n
        at e =
            let here = subst (λ x. IsRun x n choices) e are.next in
            let f = same_end next n end here run in
            subst (λ x. Stay Fails from to x n) (sym e) (subst (λ y. Stay Fails from to next y) (sym f) (up, back))

        by : (m < next) ⊎ (next ≤ m) → (next < m) ⊎ (m ≤ next) → Stay Fails from to m n
        by (inl lt) o = absurd (others m are.behind lt are.same)
        by (inr le) (inl lt) = absurd (are.others next behind lt same)
        by (inr le) (inr ge) = at (omega (arith, le, ge))

    -- there is no next run
    pub no_next : (from to next : ℕ) → ((k : ℕ) → to ≤ k → k < next → hart_chosen_at k choices ≡ hart_chosen_at from choices → ⊥)
        → length choices ≤ next → (m n : ℕ) → AreNext from to m n choices → Stay Fails from to m n
    no_next from to next others past m n are =
        let run = are.next in
        let some = run.some in
        let within = run.within in
        absurd (others m are.behind (omega (arith, some, within, past)) are.same)

    pub moved_none : Moved Fails 0
    moved_none i j m n before are = absurd (omega (arith, before))

    pub moved_more : (from to : ℕ) → IsRun from to choices → Moved Fails from
        → ((m n : ℕ) → AreNext from to m n choices → Stay Fails from to m n) → Moved Fails to
    moved_more from to run so_far here i j m n before are = by (cases_lt i from) (cases_lt from i)
      where
        at : i ≡ from → Stay Fails i j m n
        at e =
            let f = same_end from j to (subst (λ x. IsRun x j choices) e are.run) run in
            let moved = subst (λ y. AreNext from y m n choices) f (subst (λ x. AreNext x j m n choices) e are) in
            subst (λ x. Stay Fails x j m n) (sym e) (subst (λ y. Stay Fails from y m n) (sym f) (here m n moved))

        by : (i < from) ⊎ (from ≤ i) → (from < i) ⊎ (i ≤ from) → Stay Fails i j m n
        by (inl lt) o = so_far i j m n lt are
        by (inr le) (inl lt) = absurd (no_beginning from i j to run are.run lt before)
        by (inr le) (inr ge) = at (omega (arith, le, ge))

    pub moved_all : (place : ℕ) → length choices ≤ place → Moved Fails place
        → (i j m n : ℕ) → AreNext i j m n choices → Stay Fails i j m n
    moved_all place past all i j m n are =
        let run = are.run in
        let some = run.some in
        let within = run.within in
        all i j m n (omega (arith, some, within, past)) are
