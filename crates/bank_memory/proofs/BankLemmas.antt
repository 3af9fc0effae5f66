-- A bank begins as its image, and logs accesses.
use Rattle.std.proofs.Common.{◌≡◌, ℕ, ◌≤◌, ◌==◌, Bool, true, false, List, [], ◌∷◌, ◌++◌, length, Option, Some, None, refl, ap, sym, ◌∙◌}
use Rattle.std.specs.Prelude.{if◌then◌else◌}
use Rattle.std.specs.List.{AllByRecursion}
use Rattle.std.specs.Ordering.{nat_cmp}
use Rattle.std.specs.Option.{unwrap_or}
use Rattle.std.specs.BTreeMap as tree
use Rattle.std.specs.BTreeMap.{BTreeMap}
use Rattle.image.specs.Image.{ImageValue, IsSound}
use Rattle.mem_store.specs.Image.{image_memory}
use Rattle.hart_reservations.specs.Marks.{Marks}
use Rattle.hart_reservations.specs.Limit.{most_harts}
use Rattle.bank_laws.specs.declared.access.LoggedAccess.{LoggedAccess}
use Rattle.bank_laws.specs.Banks.{WordBytes, BankState, is_store, with_word_bytes, marks_after, after_access, after_log, Finds, IsLogged}
use Rattle.bank_laws.specs.Words.{bytes_at}
use Rattle.bank_laws.specs.Merged.{bank_of, first_bank}
use Rattle.bank_memory.specs.BankLog.{FitsBank, IsOfBank}
use Rattle.bank_memory.specs.Stored.{value_in, StoresAt, BankHolds}
use Rattle.bank_memory.proofs.EntryLemmas.{entry_aligned}
use Rattle.bank_memory.proofs.OrderLemmas.{rises_push, rises_none, rises_is}

-- ---- one access more
after_push : (b : BankState) (log : List LoggedAccess) (a : LoggedAccess) → after_log b (log ++ a ∷ []) ≡ after_access (after_log b log) a
after_push b [] a = refl
after_push b (x ∷ log) a = after_push (after_access b x) log a

logged_push : (b : BankState) (log : List LoggedAccess) (a : LoggedAccess) → IsLogged b log → Finds (after_log b log) a → IsLogged b (log ++ a ∷ [])
logged_push b [] a l f = (f, tt)
logged_push b (x ∷ log) a l f = (l.0, logged_push (after_access b x) log a l.1 f)

all_push : (P : LoggedAccess → Type 0) (log : List LoggedAccess) (a : LoggedAccess) → AllByRecursion P log → P a → AllByRecursion P (log ++ a ∷ [])
all_push P [] a all p = (p, tt)
all_push P (x ∷ log) a all p = (all.0, all_push P log a all.1 p)

value_stored : (s t : Bool) (o : Option WordBytes) (first after v : WordBytes) → unwrap_or o first ≡ v
    → unwrap_or (if s then (if t then Some after else o) else o) first ≡ (if s then (if t then after else v) else v)
value_stored true true o first after v e = refl
value_stored true false o first after v e = e
value_stored false t o first after v e = e

if_apply : (s : Bool) (f g : ℕ → WordBytes) (x : ℕ) → (if s then f x else g x) ≡ (if s then f else g) x
if_apply true f g x = refl
if_apply false f g x = refl

values_push : (image : ImageValue) (old new : BTreeMap ℕ WordBytes) (b : BankState) (a : LoggedAccess) (x : ℕ)
    → value_in image old x ≡ b.values x → StoresAt true old new a → value_in image new x ≡ (after_access b a).values x
values_push image old new b a x e stores =
    let first = bytes_at (image_memory image).bytes x in
    ap (λ (o : Option WordBytes). unwrap_or o first) (stores x)
    ∙ value_stored (is_store a.kind) (x == a.word) (tree.get nat_cmp old x) first a.after (b.values x) e
    ∙ if_apply (is_store a.kind) (with_word_bytes b.values a.word a.after) b.values x

pub holds_push : (image : ImageValue) (inputs : List ℕ) (number : ℕ) (log : List LoggedAccess) (old new : BTreeMap ℕ WordBytes) (held held' : Marks) (a : LoggedAccess)
    → BankHolds image inputs number log old held → FitsBank (record { image = image; inputs = inputs; number = number; log = log }) a
    → StoresAt true old new a → held' ≡ marks_after a.kind held a.hart a.word → BankHolds image inputs number (log ++ a ∷ []) new held'
holds_push image inputs number log old new held held' a h f stores e = record {
  harts = h.harts;
  values = λ x. values_push image old new (after_log (first_bank image) log) a x (h.values x) stores ∙ ap (λ (s : BankState). s.values x) (sym (after_push (first_bank image) log a));
  marks = e ∙ ap (λ (n : Marks). marks_after a.kind n a.hart a.word) h.marks ∙ ap (λ (s : BankState). s.marks) (sym (after_push (first_bank image) log a));
  of_bank = all_push (λ (x : LoggedAccess). bank_of x.word ≡ number) log a h.of_bank f.bank;
  order = rises_push log a h.order f.follows;
  logged = logged_push (first_bank image) log a h.logged f.finds;
}

-- ---- out of memory
pub holds_still : (image : ImageValue) (inputs : List ℕ) (number : ℕ) (log : List LoggedAccess) (old new : BTreeMap ℕ WordBytes) (held : Marks) (a : LoggedAccess)
    → BankHolds image inputs number log old held → StoresAt false old new a → BankHolds image inputs number log new held
holds_still image inputs number log old new held a h stores = record {
  harts = h.harts;
  values = λ x. ap (λ (o : Option WordBytes). unwrap_or o (bytes_at (image_memory image).bytes x)) (stores x) ∙ h.values x;
  marks = h.marks;
  of_bank = h.of_bank;
  order = h.order;
  logged = h.logged;
}

-- ---- a bank as its program begins
nothing_there : (m : BTreeMap ℕ WordBytes) (x : ℕ) → tree.IsEmpty m → tree.get nat_cmp m x ≡ None
nothing_there m x e = rw e refl

pub holds_first : (image : ImageValue) (inputs : List ℕ) (number : ℕ) (changed : BTreeMap ℕ WordBytes) (held : Marks)
    → length inputs ≤ most_harts → tree.IsEmpty changed → held ≡ (λ h. None) → BankHolds image inputs number [] changed held
holds_first image inputs number changed held few empty none = record {
  harts = few;
  values = λ x. ap (λ (o : Option WordBytes). unwrap_or o (bytes_at (image_memory image).bytes x)) (nothing_there changed x empty);
  marks = none;
  of_bank = tt;
  order = rises_none;
  logged = tt;
}

-- ---- what every bank keeps
pub is_of_bank : (image : ImageValue) (inputs : List ℕ) (number : ℕ) (log : List LoggedAccess) (changed : BTreeMap ℕ WordBytes) (held : Marks)
    → IsSound image.entry image.segments → BankHolds image inputs number log changed held
    → IsOfBank (record { image = image; inputs = inputs; number = number; log = log })
is_of_bank image inputs number log changed held sound h = record {
  entry = entry_aligned image.entry image.segments sound;
  of_bank = h.of_bank;
  order = rises_is log h.order;
  logged = h.logged;
}
