-- The run of the merged logs of threads over banks.
use Rattle.std.proofs.Common.{◌≡◌, ℕ, zero, suc, ◌+◌, ◌<◌, false, List, [], ◌∷◌, ◌++◌, length, map, drop, Some, None, refl, ap, sym, subst, ◌∙◌, inl, inr, ⊎_elim, arith, append_assoc}
use Rattle.std.specs.Prelude.{◌⊎◌, replicate, slice_get, slice_index_or, option_map}
use Rattle.std.specs.List.{All}
use Rattle.std.proofs.lemmas.List.{length-map, map-append}
use Rattle.std.proofs.lemmas.List.Elements.{All-nil, All-cons, All-replicate, All-append, All-map}
use Rattle.std.proofs.lemmas.Option.{slice_get-map}
use Rattle.image.specs.Image.{ImageValue}
use Rattle.hart_step.specs.Hart.{HartValue, hart_of}
use Rattle.hart_step.specs.declared.hart.Hart.{Hart}
use Rattle.machine.specs.World.{World}
use Rattle.machine.specs.declared.choice.Choice.{Choice}
use Rattle.bank_laws.specs.Banks.{BankState}
use Rattle.bank_laws.specs.Runs.{Turn}
use Rattle.bank_laws.specs.Segments.{LoggedSegment, turn, segment_turns, turns_of}
use Rattle.bank_laws.specs.Order.{In, Rises, Earlier}
use Rattle.bank_laws.specs.Worlds.{choice_of_turn}
use Rattle.bank_laws.specs.Merged.{EndsIn}
use Rattle.bank_order.specs.Weaving.{log_of}
use Rattle.bank_order.specs.Merged.{IsMergeOf}
use Rattle.bank_memory.specs.BankLog.{BankLog}
use Rattle.bank_hart_log.specs.HartLog.{HartLogValue, slot_in}
use Rattle.bank_merge.specs.Logs.{hart_log, segments_of_all, AreOf, AreOfOne, StampsRise}
use Rattle.bank_merge.specs.Merge.{slots}
use Rattle.bank_merge.proofs.MatchLemmas.{hart_at}
use Rattle.bank_threads.specs.Banked.{IsBanked}
use Rattle.bank_merge.proofs.ListLemmas.{drop_here}
use Rattle.bank_threads.proofs.ListLemmas.{same_all}
use Rattle.cmd_threads.specs.BankedAnswer.{hart_of_log}

-- ---- harts of logs, one after another
pub more_harts : (out more : List Hart) (logs : List HartLogValue) (i : ℕ) (l : HartLogValue) (h : Hart) → i < length logs → l ≡ slice_index_or logs i l
    → hart_of h ≡ hart_of_log l → more ≡ out ++ h ∷ []
    → map hart_of out ++ map hart_of_log (drop i logs) ≡ map hart_of_log logs → map hart_of more ++ map hart_of_log (drop (i + 1) logs) ≡ map hart_of_log logs
more_harts out more logs i l h low is same pushed so_far =
    ap (λ (hs : List Hart). map hart_of hs ++ map hart_of_log (drop (i + 1) logs)) pushed
    ∙ ap (λ (vs : List HartValue). vs ++ map hart_of_log (drop (i + 1) logs)) (map-append hart_of out (h ∷ []))
    ∙ append_assoc (map hart_of out) (hart_of h ∷ []) (map hart_of_log (drop (i + 1) logs))
    ∙ ap (λ (v : HartValue). map hart_of out ++ v ∷ map hart_of_log (drop (i + 1) logs)) same
    ∙ ap (λ (ls : List HartLogValue). map hart_of out ++ map hart_of_log ls) (sym (drop_here logs i l low is))
    ∙ so_far

-- ---- harts that merged choices name
in_log : (logs : List (List LoggedSegment)) (h : ℕ) (e : LoggedSegment) → In e (log_of logs h) → h < length logs
in_log [] h e i = absurd i
in_log (log ∷ logs) zero e i = omega arith
in_log (log ∷ logs) (suc h) e i = let low = in_log logs h e i in omega (arith, low)

turns_within : (n : ℕ) (es : List LoggedSegment) → ((e : LoggedSegment) → In e es → e.hart < n) → All (λ t. t.hart < n) (segment_turns es)
turns_within n [] there = All-nil (λ (t : Turn). t.hart < n)
turns_within n (e ∷ es) there =
    let P : Turn → Type 0 = λ t. t.hart < n in
    let low : e.hart < n = there e (inl refl) in
    All-append P (turns_of e) (segment_turns es)
    (All-append P (replicate e.local (turn e.hart false)) (turn e.hart e.refuse ∷ []) (All-replicate P e.local (turn e.hart false) low)
    (All-cons P (turn e.hart e.refuse) [] low (All-nil P)))
    (turns_within n es (λ f i. there f (inr i)))

-- each choice of merged logs names a hart that has one
pub choices_within : (logs : List HartLogValue) (choices : List Choice) (n : ℕ) → length logs ≡ n → IsMergeOf (segments_of_all logs) choices → All (λ c. c.hart < n) choices
choices_within logs choices n count m =
    let P : Choice → Type 0 = λ c. c.hart < n in
    let long : length (segments_of_all logs) ≡ n = length-map logs (λ (l : HartLogValue). l.log) ∙ count in
    let there : (e : LoggedSegment) → In e m.segments → e.hart < n =
    λ e i. subst (λ (k : ℕ). e.hart < k) long (in_log (segments_of_all logs) e.hart e (m.merged.taken e i)) in
    subst (λ (cs : List Choice). All P cs) (sym m.are) (All-map P choice_of_turn (segment_turns m.segments) (turns_within n m.segments there))

-- ---- logs at their places
log_there : (logs : List HartLogValue) (k : ℕ) → (k < length logs → ⊥) ⊎ ((l : HartLogValue) × (slice_get logs k ≡ Some l) × (hart_log logs k ≡ l.log))
log_there [] k = inl (λ low. absurd (omega (arith, low)))
log_there (l ∷ logs) zero = inr (l, refl, refl)
log_there (l ∷ logs) (suc k) = ⊎_elim
    (λ (e : (k < length logs → ⊥)). inl (λ low. e (omega (arith, low))))
    (λ (p : (x : HartLogValue) × (slice_get logs k ≡ Some x) × (hart_log logs k ≡ x.log)). inr p)
    (log_there logs k)

module _ (image : ImageValue) (inputs : List ℕ) (budget : ℕ) (plan : List (ℕ × ℕ)) (logs : List HartLogValue) (banks : List BankLog) (b : IsBanked image inputs budget plan logs banks) where
  -- logs and banks are those of the program
  pub are_of : AreOf image inputs logs banks
  are_of = record {
    harts = b.harts;
    sixteen = b.sixteen;
    of_harts = λ h l at. let of = b.of_harts h l at in record { same_image = of.same_image; same_inputs = of.same_inputs; number = of.number };
    of_banks = b.of_banks;
  }

  pub are_of_one : AreOfOne logs banks
  are_of_one = record { image = image; inputs = inputs; are = are_of }

  -- the stamps of each log rise
  pub stamps_rise : StampsRise logs
  stamps_rise h = ⊎_elim
      (λ (e : hart_log logs h ≡ []). subst (λ (es : List LoggedSegment). Rises Earlier es) (sym e) tt)
      (λ (p : (l : HartLogValue) × (slice_get logs h ≡ Some l) × (hart_log logs h ≡ l.log)).
      subst (λ (es : List LoggedSegment). Rises Earlier es) (sym p.2) (b.of_harts h p.0 p.1).rising)
      (hart_at logs h)

  -- the slot of hart h is that of the log at its place
  slot_at : (h : ℕ) (l : HartLogValue) → slice_get logs h ≡ Some l → hart_log logs h ≡ l.log → (slots image inputs logs h).hart ≡ hart_of_log l
  slot_at h l at is = let of = b.of_harts h l at in
      λ i. (slot_in (sym of.same_image i) (sym of.same_inputs i) (sym of.number i) (is i)).hart

  -- the harts of a world that ends as logged are those of the logs
  pub harts_are : (w : World) (states : ℕ → BankState) → EndsIn image inputs w (slots image inputs logs) states → w.harts ≡ map hart_of_log logs
  harts_are w states ends =
      let long : length (map hart_of_log logs) ≡ length logs = length-map logs hart_of_log in
      let as_logs : length w.harts ≡ length logs = ends.count ∙ sym b.harts in
      same_all w.harts (map hart_of_log logs) (as_logs ∙ sym long) (λ k low.
      let inside : k < length logs = subst (λ (n : ℕ). k < n) as_logs low in
      ends.harts k (subst (λ (n : ℕ). k < n) b.harts inside) ∙ there k inside ∙ sym (slice_get-map hart_of_log logs k))
    where
      there : (k : ℕ) → k < length logs → Some (slots image inputs logs k).hart ≡ option_map hart_of_log (slice_get logs k)
      there k inside = ⊎_elim
          (λ (e : (k < length logs → ⊥)). absurd (e inside))
          (λ (p : (l : HartLogValue) × (slice_get logs k ≡ Some l) × (hart_log logs k ≡ l.log)). ap Some (slot_at k p.0 p.1 p.2) ∙ ap (option_map hart_of_log) (sym p.1))
          (log_there logs k)
