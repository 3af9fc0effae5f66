-- What is left as it was by an exchange of neighbouring runs.
use Rattle.std.proofs.Common.{◌≡◌, ◌⊎◌, ℕ, suc, ◌+◌, ◌-◌, ◌<◌, ◌≤◌, ◌==◌, Bool, true, false, List, [], ◌∷◌, ◌++◌, length, get_or, take, drop, Option, Some, None, eqb-true, take-append-drop, refl, sym, subst, ap, ◌∙◌, inl, inr, arith}
use Rattle.std.proofs.lemmas.Bool.{cases_eq}
use Rattle.std.proofs.lemmas.List.{drop-drop}
use Rattle.std.proofs.lemmas.List.Edits.{split_between, length-between, get_or-between}
use Rattle.std.proofs.lemmas.List.Elements.{filter-append}
use Rattle.std.proofs.lemmas.Option.{slice_get-get_or}
use Rattle.std.specs.List.{All, between}
use Rattle.machine.specs.declared.choice.Choice.{Choice}
use Rattle.cmd_shrink.specs.Less.{weight_of, weight, choices_of_hart}
use Rattle.cmd_shrink.specs.Switches.{hart_chosen_at, IsRun, ShareNoHart, switches, exchanged, Settles}

weight-append : (one other : List Choice) → weight (one ++ other) ≡ weight one + weight other
unfolding weight
weight-append [] other = let e : 0 + weight other ≡ weight other = omega arith in sym e
weight-append (c ∷ one) other =
    let rest = weight-append one other in
    let e : weight_of c.refuse + weight (one ++ other) ≡ weight_of c.refuse + weight one + weight other = omega (arith, rest) in e

-- what parts in the other order weigh
swapped_weight : (before one other after : List Choice) → weight (before ++ (other ++ (one ++ after))) ≡ weight (before ++ (one ++ (other ++ after)))
swapped_weight before one other after =
    let a = weight-append before (other ++ (one ++ after)) in
    let b = weight-append other (one ++ after) in
    let c = weight-append one after in
    let d = weight-append before (one ++ (other ++ after)) in
    let e = weight-append one (other ++ after) in
    let f = weight-append other after in
    omega (arith, a, b, c, d, e, f)

-- a hart has no choice among those of another
none_of : (hart : ℕ) (o : Option ℕ) (list : List Choice) → All (λ c. Some c.hart ≡ o) list → (Some hart ≡ o → ⊥)
    → choices_of_hart hart list ≡ []
none_of hart o [] all not = refl
none_of hart o (c ∷ list) all not =
    by (c.hart == hart) refl (none_of hart o list (λ k e lt. all (suc k) e (omega (arith, lt))) not)
  where
    by : (b : Bool) → (c.hart == hart) ≡ b → choices_of_hart hart list ≡ [] → choices_of_hart hart (c ∷ list) ≡ []
    by true is rest = absurd (not (subst (λ h. Some h ≡ o) (eqb-true c.hart hart is) (all 0 c (omega arith))))
    by false is rest = rw is rest

-- nor has it choices among those of others
none_in : (hart : ℕ) (o : Option ℕ) (list : List Choice) → All (λ c. Some c.hart ≡ o → ⊥) list → Some hart ≡ o → choices_of_hart hart list ≡ []
none_in hart o [] all same = refl
none_in hart o (c ∷ list) all same =
    by (c.hart == hart) refl (none_in hart o list (λ k e lt. all (suc k) e (omega (arith, lt))) same)
  where
    by : (b : Bool) → (c.hart == hart) ≡ b → choices_of_hart hart list ≡ [] → choices_of_hart hart (c ∷ list) ≡ []
    by true is rest = absurd (all 0 c (omega arith) (ap Some (eqb-true c.hart hart is) ∙ same))
    by false is rest = rw is rest

same_or_not : (hart : ℕ) (o : Option ℕ) → (Some hart ≡ o) ⊎ (Some hart ≡ o → ⊥)
same_or_not hart None = inr (λ e. absurd (cc))
same_or_not hart (Some h) = by (cases_eq hart h)
  where
    by : (hart ≡ h) ⊎ (hart ≡ h → ⊥) → (Some hart ≡ Some h) ⊎ (Some hart ≡ Some h → ⊥)
    by (inl e) = inl (ap Some e)
    by (inr ne) = inr (λ e. let same : hart ≡ h = cc in ne same)

-- parts of which one is empty
swapped : (one other after : List Choice) → (one ≡ []) ⊎ (other ≡ []) → other ++ (one ++ after) ≡ one ++ (other ++ after)
swapped one other after (inl e) = rw e refl
swapped one other after (inr e) = rw e refl

-- a hart's choices of four parts
of_parts : (hart : ℕ) (before one other after : List Choice) → choices_of_hart hart (before ++ (one ++ (other ++ after)))
    ≡ choices_of_hart hart before ++ (choices_of_hart hart one ++ (choices_of_hart hart other ++ choices_of_hart hart after))
of_parts hart before one other after =
    let is_of = λ (c : Choice). c.hart == hart in
    filter-append is_of before (one ++ (other ++ after))
    ∙ ap (λ l. choices_of_hart hart before ++ l) (filter-append is_of one (other ++ after)
    ∙ ap (λ l. choices_of_hart hart one ++ l) (filter-append is_of other after))

-- a hart's choices of parts in the other order
swapped_of : (hart : ℕ) (before one other after : List Choice) → (choices_of_hart hart one ≡ []) ⊎ (choices_of_hart hart other ≡ [])
    → choices_of_hart hart (before ++ (other ++ (one ++ after))) ≡ choices_of_hart hart (before ++ (one ++ (other ++ after)))
swapped_of hart before one other after which =
    of_parts hart before other one after
    ∙ ap (λ l. choices_of_hart hart before ++ l) (swapped (choices_of_hart hart one) (choices_of_hart hart other) (choices_of_hart hart after) which)
    ∙ sym (of_parts hart before one other after)

module _ (given : List Choice) where
  -- the choices of a run are of its hart
  all_of_run : (i j : ℕ) → IsRun i j given → All (λ c. Some c.hart ≡ hart_chosen_at i given) (between i j given)
  all_of_run i j run k d lt =
      let within = run.within in
      let size = length-between given i j within in
      let there : i + k < j = omega (arith, lt, size) in
      let inside : i + k < length given = omega (arith, there, within) in
      let is = get_or-between given i j k d there in
      let at : hart_chosen_at (i + k) given ≡ Some (get_or given (i + k) d).hart = rw (slice_get-get_or given (i + k) d inside) refl in
      ap (λ (c : Choice). Some c.hart) is ∙ sym at ∙ run.one (i + k) (omega arith) there

  -- what stands behind a place
  behind : (j k : ℕ) → j ≤ k → drop j given ≡ between j k given ++ drop k given
  behind j k order =
      let e : j + (k - j) ≡ k = omega (arith, order) in
      sym (take-append-drop (k - j) (drop j given))
      ∙ ap (λ l. take (k - j) (drop j given) ++ l) (drop-drop (k - j) j given ∙ ap (λ n. drop n given) e)

  -- the parts of a list
  parts : (i j k : ℕ) → i ≤ j → j ≤ k → given ≡ take i given ++ (between i j given ++ (between j k given ++ drop k given))
  parts i j k first second =
      split_between given i j first ∙ ap (λ l. take i given ++ (between i j given ++ l)) (behind j k second)

  -- each hart is in one of two neighbouring runs at most
  pub apart_runs : (i j k : ℕ) → IsRun i j given → IsRun j k given → ShareNoHart i j k given
  apart_runs i j k first second hart = by (same_or_not hart (hart_chosen_at i given))
    where
      by : (Some hart ≡ hart_chosen_at i given) ⊎ (Some hart ≡ hart_chosen_at i given → ⊥)
          → (choices_of_hart hart (between i j given) ≡ []) ⊎ (choices_of_hart hart (between j k given) ≡ [])
      by (inl e) = inr (none_of hart (hart_chosen_at j given) (between j k given) (all_of_run j k second) (λ f. first.ends (sym f ∙ e)))
      by (inr ne) = inl (none_of hart (hart_chosen_at i given) (between i j given) (all_of_run i j first) ne)

  -- choices of other harts
  all_others : (i j m : ℕ) → m ≤ length given → ((k : ℕ) → j ≤ k → k < m → hart_chosen_at k given ≡ hart_chosen_at i given → ⊥)
      → All (λ c. Some c.hart ≡ hart_chosen_at i given → ⊥) (between j m given)
  all_others i j m within others k d lt same =
      let size = length-between given j m within in
      let there : j + k < m = omega (arith, lt, size) in
      let inside : j + k < length given = omega (arith, there, within) in
      let is = get_or-between given j m k d there in
      let at : hart_chosen_at (j + k) given ≡ Some (get_or given (j + k) d).hart = rw (slice_get-get_or given (j + k) d inside) refl in
      others (j + k) (omega arith) there (at ∙ sym (ap (λ (c : Choice). Some c.hart) is) ∙ same)

  -- a run and choices of other harts behind it
  pub apart_up : (i j m : ℕ) → IsRun i j given → m ≤ length given
      → ((k : ℕ) → j ≤ k → k < m → hart_chosen_at k given ≡ hart_chosen_at i given → ⊥) → ShareNoHart i j m given
  apart_up i j m run within others hart = by (same_or_not hart (hart_chosen_at i given))
    where
      by : (Some hart ≡ hart_chosen_at i given) ⊎ (Some hart ≡ hart_chosen_at i given → ⊥)
          → (choices_of_hart hart (between i j given) ≡ []) ⊎ (choices_of_hart hart (between j m given) ≡ [])
      by (inl e) = inr (none_in hart (hart_chosen_at i given) (between j m given) (all_others i j m within others) e)
      by (inr ne) = inl (none_of hart (hart_chosen_at i given) (between i j given) (all_of_run i j run) ne)

  -- the same and the next run
  pub apart_back : (i j m n : ℕ) → IsRun m n given → hart_chosen_at m given ≡ hart_chosen_at i given
      → ((k : ℕ) → j ≤ k → k < m → hart_chosen_at k given ≡ hart_chosen_at i given → ⊥) → ShareNoHart j m n given
  apart_back i j m n next same others hart = by (same_or_not hart (hart_chosen_at i given))
    where
      within : m ≤ length given
      within = let some = next.some in let all = next.within in omega (arith, some, all)

      by : (Some hart ≡ hart_chosen_at i given) ⊎ (Some hart ≡ hart_chosen_at i given → ⊥)
          → (choices_of_hart hart (between j m given) ≡ []) ⊎ (choices_of_hart hart (between m n given) ≡ [])
      by (inl e) = inl (none_in hart (hart_chosen_at i given) (between j m given) (all_others i j m within others) e)
      by (inr ne) = inr (none_of hart (hart_chosen_at m given) (between m n given) (all_of_run m n next) (λ f. ne (f ∙ same)))

  module _ (Fails : List Choice → Type 0) (i j k : ℕ) (list counted tested : List Choice) where
    -- an exchange of neighbouring parts that have no hart in common
    pub settles : i ≤ j → j ≤ k → ShareNoHart i j k given → list ≡ exchanged i j k given → counted ≡ list → tested ≡ list
        → switches counted < switches given → Fails tested → Settles Fails list given
    settles first second apart is counts tests fewer fails =
        let whole = parts i j k first second in
        record {
          same = λ hart. ap (choices_of_hart hart) is
              ∙ swapped_of hart (take i given) (between i j given) (between j k given) (drop k given) (apart hart)
              ∙ sym (ap (choices_of_hart hart) whole);
          fails = subst Fails tests fails;
          weighs = ap weight is ∙ swapped_weight (take i given) (between i j given) (between j k given) (drop k given)
              ∙ sym (ap weight whole);
          fewer = subst (λ l. switches l < switches given) counts fewer;
        }
