-- What a run leaves, from what was compared; and what merging makes of it.
use Rattle.std.proofs.Common.{◌≡◌, ℕ, zero, suc, ◌<◌, List, [], ◌∷◌, length, Some, subst, refl, sym, ◌∙◌, ⊎_elim, arith}
use Rattle.std.specs.Prelude.{slice_get}
use Rattle.std.proofs.lemmas.List.{length-map}
use Rattle.image.specs.Image.{ImageValue, IsSound}
use Rattle.bank_laws.specs.Segments.{LoggedSegment, accesses}
use Rattle.bank_merge.specs.AccessOrder.{bank_logs, own_log, hart_segments, HaveNoOthers, IsOrdered}
use Rattle.bank_merge.proofs.AccessOrderLemmas.{ordered_match}
use Rattle.bank_laws.specs.Order.{Rises, Earlier}
use Rattle.bank_laws.specs.Merged.{most_banks}
use Rattle.bank_memory.specs.BankLog.{BankLog}
use Rattle.bank_memory.proofs.EntryLemmas.{entry_aligned}
use Rattle.bank_hart_log.specs.HartLog.{HartLogValue}
use Rattle.bank_merge.specs.Logs.{hart_log, AreOf, IsBankOf, StampsRise}
use Rattle.bank_merge.specs.Merge.{AreMatched, RefusesLogs}
use Rattle.bank_merge.specs.declared.merging.MergeFault.{MergeFault}
use Rattle.bank_merge.specs.declared.merging.MergeFault.TheVariants.{Unmatched, OutOfOrder, Memory}
use Rattle.bank_merge.proofs.MatchLemmas.{hart_at}
use Rattle.bank_threads.specs.Banked.{IsBanked, IsHartOfRun}
use Rattle.bank_threads.specs.Ordered.{AreOrderedHarts}

abbrev Logs : ImageValue → List ℕ → ℕ → List (ℕ × ℕ) → List HartLogValue → Type 0
Logs image inputs budget plan logs = (length logs ≡ length inputs)
    × ((h : ℕ) (l : HartLogValue) → slice_get logs h ≡ Some l → IsHartOfRun image inputs budget plan h l)

abbrev Banks : ImageValue → List ℕ → List BankLog → Type 0
Banks image inputs banks = (length banks ≡ most_banks) × ((b : ℕ) (k : BankLog) → slice_get banks b ≡ Some k → IsBankOf image inputs b k)

-- the log of a hart that is there
there : (logs : List HartLogValue) (h : ℕ) → h < length logs → (l : HartLogValue) × (slice_get logs h ≡ Some l) × (own_log (hart_segments logs) h ≡ l.log)
there [] h low = absurd (omega (arith, low))
there (l ∷ logs) zero low = (l, refl, refl)
there (l ∷ logs) (suc h) low = there logs h (omega (arith, low))

-- logs whose accesses the banks' logs have in the same order match
pub ordered_matched : (image : ImageValue) (inputs : List ℕ) (budget : ℕ) (plan : List (ℕ × ℕ)) (logs : List HartLogValue) (banks : List BankLog)
    → length banks ≡ most_banks → AreOrderedHarts image inputs budget plan (bank_logs banks) logs → HaveNoOthers (bank_logs banks) (length logs) → AreMatched logs banks
ordered_matched image inputs budget plan logs banks sixteen harts no_others =
    let same : length (hart_segments logs) ≡ length logs = length-map logs (λ (l : HartLogValue). l.log) in
    ordered_match (hart_segments logs) (bank_logs banks) (length-map banks (λ (k : BankLog). k.log) ∙ sixteen) record {
      each = λ h low.
          let p = there logs h (omega (arith, low, same)) in
          subst (λ (es : List LoggedSegment). IsOrdered (bank_logs banks) h (accesses es)) (sym p.2) (harts.1 h p.0 p.1).1;
      no_others = subst (λ (n : ℕ). HaveNoOthers (bank_logs banks) n) (sym same) no_others;
    }

pub is_banked : (image : ImageValue) (inputs : List ℕ) (budget : ℕ) (plan : List (ℕ × ℕ)) (logs : List HartLogValue) (banks : List BankLog)
    → IsSound image.entry image.segments → Logs image inputs budget plan logs → Banks image inputs banks → AreMatched logs banks
    → IsBanked image inputs budget plan logs banks
is_banked image inputs budget plan logs banks sound ls bs matched = record {
  entry = entry_aligned image.entry image.segments sound;
  harts = ls.0;
  sixteen = bs.0;
  of_harts = ls.1;
  of_banks = bs.1;
  matched = matched;
}

-- the same of what the code sees
pub seen_banked : (image : ImageValue) (inputs : List ℕ) (budget : ℕ) (plan : List (ℕ × ℕ)) (logs logs_seen : List HartLogValue) (banks banks_seen : List BankLog)
    → logs_seen ≡ logs → banks_seen ≡ banks → IsBanked image inputs budget plan logs_seen banks_seen → IsBanked image inputs budget plan logs banks
seen_banked image inputs budget plan logs logs_seen banks banks_seen e f banked =
    subst (λ (ls : List HartLogValue). IsBanked image inputs budget plan ls banks) e
    (subst (λ (bs : List BankLog). IsBanked image inputs budget plan logs_seen bs) f banked)

-- ---- merging
pub are_of_one : (image : ImageValue) (inputs : List ℕ) (budget : ℕ) (plan : List (ℕ × ℕ)) (logs : List HartLogValue) (banks : List BankLog)
    → IsBanked image inputs budget plan logs banks → AreOf image inputs logs banks
are_of_one image inputs budget plan logs banks banked = record {
  harts = banked.harts;
  sixteen = banked.sixteen;
  of_harts = λ h l at. let of = banked.of_harts h l at in record { same_image = of.same_image; same_inputs = of.same_inputs; number = of.number };
  of_banks = banked.of_banks;
}

stamps_rise : (image : ImageValue) (inputs : List ℕ) (budget : ℕ) (plan : List (ℕ × ℕ)) (logs : List HartLogValue) (banks : List BankLog)
    → IsBanked image inputs budget plan logs banks → StampsRise logs
stamps_rise image inputs budget plan logs banks banked h = ⊎_elim
    (λ (e : hart_log logs h ≡ []). subst (λ (es : List LoggedSegment). Rises Earlier es) (sym e) tt)
    (λ (p : (l : HartLogValue) × (slice_get logs h ≡ Some l) × (hart_log logs h ≡ l.log)).
    subst (λ (es : List LoggedSegment). Rises Earlier es) (sym p.2) (banked.of_harts h p.0 p.1).rising)
    (hart_at logs h)

pub memory_alone : (image : ImageValue) (inputs : List ℕ) (budget : ℕ) (plan : List (ℕ × ℕ)) (logs : List HartLogValue) (banks : List BankLog)
    → IsBanked image inputs budget plan logs banks → (fault : MergeFault) → RefusesLogs logs banks fault → fault ≡ Memory
memory_alone image inputs budget plan logs banks banked Unmatched refused = absurd (refused banked.matched)
memory_alone image inputs budget plan logs banks banked OutOfOrder refused = absurd (refused.1 (stamps_rise image inputs budget plan logs banks banked))
memory_alone image inputs budget plan logs banks banked Memory refused = refl
