-- What merged logs lead to.
use Rattle.std.proofs.Common.{◌≡◌, ℕ, zero, suc, ◌%◌, ◌<◌, ◌≤◌, ◌+◌, Bool, true, false, List, [], ◌∷◌, ◌++◌, Some, drop, length, refl, ap, sym, ◌∙◌, subst, ⊎_elim, arith, append_assoc}
use Rattle.std.specs.Prelude.{◌↔◌, slice_get, slice_index_or}
use Rattle.std.specs.Borrow.{Bor}
use Rattle.std.specs.List.{AllByRecursion}
use Rattle.std.proofs.lemmas.Bool.{cases_lt}
use Rattle.std.proofs.lemmas.List.{length-map, map-append}
use Rattle.image.specs.Image.{ImageValue}
use Rattle.mem_store.specs.Image.{image_memory}
use Rattle.machine.specs.declared.choice.Choice.{Choice}
use Rattle.bank_laws.specs.declared.access.LoggedAccess.{LoggedAccess}
use Rattle.bank_laws.specs.Banks.{IsLogged}
use Rattle.bank_laws.specs.Segments.{LoggedSegment, Walks}
use Rattle.bank_laws.specs.Order.{Rises, Earlier, Before, AreLogs, IsMerged}
use Rattle.bank_laws.specs.Table.{table}
use Rattle.bank_laws.specs.Merged.{bank_of, most_banks, first_slot, first_bank, segment_choices}
use Rattle.bank_laws.proofs.MergeLemmas.{stamps_share_no_bank}
use Rattle.bank_order.specs.Logs.{segment_logs}
use Rattle.bank_order.specs.Weaving.{log_of, woven_with}
use Rattle.bank_order.proofs.MergedLemmas.{woven_is_merged}
use Rattle.bank_order.specs.Merged.{LeadsToLogged}
use Rattle.bank_order.proofs.ChoiceLemmas.{leads as all_lead}
use Rattle.bank_hart_log.specs.HartLog.{HartLogValue, IsOfHart, slot_in, image_table}
use Rattle.bank_memory.specs.BankLog.{BankLog, IsOfBank}
use Rattle.bank_merge.specs.Logs.{bank_log, hart_log, segments_of_all, AreNumbered, AreOf, AreOfOne, IsBankOf, StampsRise}
use Rattle.bank_merge.specs.Merge.{AreMatched, AreOneRun, EndsAsLogged, ShareNoBank, slots}
use Rattle.bank_merge.proofs.SetLemmas.{drop_item}
use Rattle.bank_merge.proofs.MatchLemmas.{bank_at, hart_at}

-- ---- the log at a place
hart_item : (logs : List HartLogValue) (i : ℕ) (x : HartLogValue) → i < length logs → x ≡ slice_index_or logs i x → hart_log logs i ≡ x.log
hart_item [] i x low is = absurd (omega (arith, low))
hart_item (l ∷ logs) zero x low is = ap (λ (y : HartLogValue). y.log) (sym is)
hart_item (l ∷ logs) (suc i) x low is = hart_item logs i x (omega (arith, low)) is

past_logs : (logs : List HartLogValue) (h : ℕ) → length logs ≤ h → hart_log logs h ≡ []
past_logs [] h past = refl
past_logs (l ∷ logs) zero past = absurd (omega (arith, past))
past_logs (l ∷ logs) (suc h) past = past_logs logs h (omega (arith, past))

-- ---- stamps
pub not_rising : (logs : List HartLogValue) (i : ℕ) (x : HartLogValue) (r : Bool) → i < length logs → x ≡ slice_index_or logs i x → r ≡ false
    → (Rises Earlier x.log → r ≡ true) → (false ≡ true) ↔ StampsRise logs
not_rising logs i x r low is test rises = (
  λ e. cc e,
  λ rise. sym test ∙ rises (subst (λ (es : List LoggedSegment). Rises Earlier es) (hart_item logs i x low is) (rise i)),
)

pub rising_more : (logs : List HartLogValue) (i : ℕ) (x : HartLogValue) → i < length logs → x ≡ slice_index_or logs i x → Rises Earlier x.log
    → ((h : ℕ) → h < i → Rises Earlier (hart_log logs h)) → (h : ℕ) → h < i + 1 → Rises Earlier (hart_log logs h)
rising_more logs i x low is rises so_far h below = ⊎_elim
    (λ (a : h < i). so_far h a)
    (λ (b : i ≤ h). let e : i ≡ h = omega (arith, below, b) in
    subst (λ (k : ℕ). Rises Earlier (hart_log logs k)) e (subst (λ (es : List LoggedSegment). Rises Earlier es) (sym (hart_item logs i x low is)) rises))
    (cases_lt h i)

pub all_rising : (logs : List HartLogValue) (i : ℕ) → length logs ≤ i → ((h : ℕ) → h < i → Rises Earlier (hart_log logs h)) → (true ≡ true) ↔ StampsRise logs
all_rising logs i full so_far = (
  λ e h. ⊎_elim
      (λ (a : h < i). so_far h a)
      (λ (b : i ≤ h). subst (λ (es : List LoggedSegment). Rises Earlier es) (sym (past_logs logs h (omega (arith, full, b)))) tt)
      (cases_lt h i),
  λ rise. refl,
)

-- ---- the logs that are referred to
pub more_logs : (out more : List (Bor (List LoggedSegment))) (logs : List HartLogValue) (i : ℕ) (x : HartLogValue) (v : Bor (List LoggedSegment))
    → i < length logs → x ≡ slice_index_or logs i x → v.now ≡ x.log → more ≡ out ++ v ∷ []
    → segment_logs out ++ segments_of_all (drop i logs) ≡ segments_of_all logs → segment_logs more ++ segments_of_all (drop (i + 1) logs) ≡ segments_of_all logs
more_logs out more logs i x v low is its pushed so_far =
    ap (λ (vs : List (Bor (List LoggedSegment))). segment_logs vs ++ segments_of_all (drop (i + 1) logs)) pushed
    ∙ ap (λ (l : List (List LoggedSegment)). l ++ segments_of_all (drop (i + 1) logs)) (map-append (λ (w : Bor (List LoggedSegment)). w.now) out (v ∷ []))
    ∙ append_assoc (segment_logs out) (v.now ∷ []) (segments_of_all (drop (i + 1) logs))
    ∙ ap (λ (es : List LoggedSegment). segment_logs out ++ es ∷ segments_of_all (drop (i + 1) logs)) its
    ∙ ap (λ (ls : List HartLogValue). segment_logs out ++ segments_of_all ls) (sym (drop_item logs i x low is))
    ∙ so_far

-- ---- what logs keep, by their places
module _ (image : ImageValue) (inputs : List ℕ) (logs : List HartLogValue) (banks : List BankLog) (are : AreOf image inputs logs banks)
    (walked : (h : ℕ) (l : HartLogValue) → slice_get logs h ≡ Some l → IsOfHart l) (kept : (b : ℕ) (k : BankLog) → slice_get banks b ≡ Some k → IsOfBank k) where
  hart_value : ℕ → HartLogValue
  hart_value h = record { image = image; inputs = inputs; hart = h; log = hart_log logs h }

  bank_value : ℕ → BankLog
  bank_value b = record { image = image; inputs = inputs; number = b; log = bank_log banks b }

  there : (h : ℕ) (l : HartLogValue) → slice_get logs h ≡ Some l → hart_log logs h ≡ l.log → IsOfHart (record { image = image; inputs = inputs; hart = h; log = hart_log logs h })
  there h l at is = let of = are.of_harts h l at in
      subst (λ (x : HartLogValue). IsOfHart x) (λ i. record { image = of.same_image i; inputs = of.same_inputs i; hart = of.number i; log = sym is i }) (walked h l at)

  bank_there : (b : ℕ) (k : BankLog) → slice_get banks b ≡ Some k → bank_log banks b ≡ k.log → IsOfBank (record { image = image; inputs = inputs; number = b; log = bank_log banks b })
  bank_there b k at is = let of = are.of_banks b k at in
      subst (λ (x : BankLog). IsOfBank x) (λ i. record { image = of.same_image i; inputs = of.same_inputs i; number = of.number i; log = sym is i }) (kept b k at)

  pub own_segments : (h : ℕ) → AllByRecursion (λ e. e.hart ≡ h) (hart_log logs h)
  own_segments h = ⊎_elim
      (λ (e : hart_log logs h ≡ []). subst (λ (es : List LoggedSegment). AllByRecursion (λ f. f.hart ≡ h) es) (sym e) tt)
      (λ (p : (l : HartLogValue) × (slice_get logs h ≡ Some l) × (hart_log logs h ≡ l.log)). (there h p.0 p.1 p.2).own)
      (hart_at logs h)

  walks : (h : ℕ) → Walks (table (image_memory image)) (first_slot image inputs h) (hart_log logs h) (slots image inputs logs h)
  walks h = ⊎_elim
      (λ (e : hart_log logs h ≡ []). subst (λ (es : List LoggedSegment). Walks (image_table image) (first_slot image inputs h) es (slot_in image inputs h es)) (sym e) refl)
      (λ (p : (l : HartLogValue) × (slice_get logs h ≡ Some l) × (hart_log logs h ≡ l.log)). (there h p.0 p.1 p.2).walks)
      (hart_at logs h)

  bank_keeps : (P : ℕ → List LoggedAccess → Type 0) → ((b : ℕ) → P b []) → ((b : ℕ) → IsOfBank (record { image = image; inputs = inputs; number = b; log = bank_log banks b }) → P b (bank_log banks b))
      → (b : ℕ) → P b (bank_log banks b)
  bank_keeps P none some b = ⊎_elim
      (λ (e : bank_log banks b ≡ []). subst (P b) (sym e) (none b))
      (λ (p : (k : BankLog) × (slice_get banks b ≡ Some k) × (bank_log banks b ≡ k.log)). some b (bank_there b p.0 p.1 p.2))
      (bank_at banks b)

  are_logs : AreLogs bank_of (table (image_memory image)) (first_slot image inputs) (slots image inputs logs) (λ b. first_bank image) (hart_log logs) (bank_log banks)
  are_logs = record {
    own = own_segments;
    walks = walks;
    of_bank = bank_keeps (λ b log. AllByRecursion (λ a. bank_of a.word ≡ b) log) (λ b. tt) (λ b k. k.of_bank);
    order = bank_keeps (λ b log. Rises Before log) (λ b. tt) (λ b k. k.order);
    logged = bank_keeps (λ b log. IsLogged (first_bank image) log) (λ b. tt) (λ b k. k.logged);
  }

pub own_of : (logs : List HartLogValue) (banks : List BankLog) → AreOfOne logs banks → ((h : ℕ) (l : HartLogValue) → slice_get logs h ≡ Some l → IsOfHart l)
    → ((b : ℕ) (k : BankLog) → slice_get banks b ≡ Some k → IsOfBank k) → (h : ℕ) → AllByRecursion (λ e. e.hart ≡ h) (hart_log logs h)
own_of logs banks one walked kept = own_segments one.image one.inputs logs banks one.are walked kept

-- the program of banks begins at an address of a word, as each bank's does
entry_of : (image : ImageValue) (inputs : List ℕ) (banks : List BankLog) → length banks ≡ most_banks
    → ((b : ℕ) (k : BankLog) → slice_get banks b ≡ Some k → IsBankOf image inputs b k)
    → ((b : ℕ) (k : BankLog) → slice_get banks b ≡ Some k → IsOfBank k) → image.entry % 4 ≡ 0
entry_of image inputs [] sixteen of kept = absurd (omega (arith, sixteen))
entry_of image inputs (k ∷ banks) sixteen of kept =
    subst (λ (m : ImageValue). m.entry % 4 ≡ 0) (of 0 k refl).same_image (kept 0 k refl).entry

-- segments of one stamp share no bank
pub are_apart : (logs : List HartLogValue) (banks : List BankLog) → AreOfOne logs banks → ((h : ℕ) (l : HartLogValue) → slice_get logs h ≡ Some l → IsOfHart l)
    → ((b : ℕ) (k : BankLog) → slice_get banks b ≡ Some k → IsOfBank k) → AreMatched logs banks → ShareNoBank logs
are_apart logs banks one walked kept matched h k e f ie jf harts stamps a c ia jc =
    let image = one.image in
    let inputs = one.inputs in
    stamps_share_no_bank bank_of (table (image_memory image)) (first_slot image inputs) (slots image inputs logs) (λ b. first_bank image) (hart_log logs) (bank_log banks)
    (are_logs image inputs logs banks one.are walked kept) matched e f h k ie jf stamps harts a c ia jc

pub numbered_of : (logs : List HartLogValue) (banks : List BankLog) → AreOfOne logs banks → AreNumbered banks
numbered_of logs banks one b k at = (one.are.of_banks b k at).number

pub ends_of : (logs : List HartLogValue) (banks : List BankLog) (choices : List Choice) → ((h : ℕ) (l : HartLogValue) → slice_get logs h ≡ Some l → IsOfHart l)
    → ((b : ℕ) (k : BankLog) → slice_get banks b ≡ Some k → IsOfBank k) → AreMatched logs banks → LeadsToLogged (segments_of_all logs) choices → EndsAsLogged logs banks choices
ends_of logs banks choices walked kept matched leads image inputs are =
    let few : length (segments_of_all logs) ≤ length inputs = (let e = length-map logs (λ (l : HartLogValue). l.log) in let f = are.harts in omega (arith, e, f)) in
    leads image inputs (slots image inputs logs) (bank_log banks) (entry_of image inputs banks are.sixteen are.of_banks kept) few (are_logs image inputs logs banks are walked kept) matched

-- the choices of the logs woven to one list
pub one_run : (logs : List HartLogValue) (banks : List BankLog) → AreOfOne logs banks → ((h : ℕ) (l : HartLogValue) → slice_get logs h ≡ Some l → IsOfHart l)
    → ((b : ℕ) (k : BankLog) → slice_get banks b ≡ Some k → IsOfBank k) → AreMatched logs banks → StampsRise logs → AreOneRun logs banks
one_run logs banks one walked kept matched rising =
    let all = segments_of_all logs in
    let segments = woven_with [] all in
    let merged : IsMerged (log_of all) segments = woven_is_merged all (own_of logs banks one walked kept) rising in
    record {
      choices = segment_choices segments;
      merged = record { segments = segments; merged = merged; are = refl };
      ends = ends_of logs banks (segment_choices segments) walked kept matched (all_lead all segments (segment_choices segments) merged refl rising);
    }

-- what is said of the logs is said of what refers to them
pub of_seen : (P : List (List LoggedSegment) → Type 0) (all : List (Bor (List LoggedSegment))) (logs : List HartLogValue) → segment_logs all ≡ segments_of_all logs
    → P (segments_of_all logs) → P (segment_logs all)
of_seen P all logs is p = subst P (sym is) p
