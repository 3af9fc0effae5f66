-- An access keeps the shared state equal to that of banks and slots
use Rattle.std.proofs.Common.{◌≡◌, ℕ, ◌==◌, Bool, true, false, Some, None, refl, ap, sym, ◌∙◌, arith, ⊎_elim}
use Rattle.std.specs.Prelude.{if◌then◌else◌, Option}
use Rattle.std.proofs.lemmas.Bool.{eq-eqb, ne_eqb, cases_eq, eqb-true}
use Rattle.hart_reservations.specs.Marks.{names, with_mark, without_mark, ended}
use Rattle.bank_laws.specs.declared.access.LoggedAccess.{LoggedAccess}
use Rattle.bank_laws.specs.declared.access.LoggedKind.{LoggedKind}
use Rattle.bank_laws.specs.declared.access.LoggedKind.TheVariants.{CodeRead, Load, Store, LoadReserved, ConditionalStored, ConditionalFailed}
use Rattle.bank_laws.specs.Banks.{WordBytes, BankState, with_word_bytes, is_store, marks_after, after_touch, after_access, joined_mark, BanksTell, named_by_kind, named_after, banks_after}

value_stored : (s : Bool) (b : BankState) (m : ℕ → Option ℕ) (f : ℕ → WordBytes) (x : ℕ) (v : WordBytes) (y : ℕ) → (y ≡ x → s ≡ true) → f y ≡ b.values y → with_word_bytes f x v y ≡ (if s then record { values = with_word_bytes b.values x v; marks = m } else b).values y
value_stored true b m f x v y link e = ap (λ (o : WordBytes). if y == x then v else o) e
value_stored false b m f x v y link e = grind (arith, ne_eqb y x)

value_kept : (s : Bool) (b : BankState) (m : ℕ → Option ℕ) (n : WordBytes) (y : ℕ) → n ≡ b.values y → n ≡ (if s then record { values = b.values; marks = m } else b).values y
value_kept true b m n y e = e
value_kept false b m n y e = e

value_keeps : (s : Bool) (b : BankState) (f : ℕ → WordBytes) (x : ℕ) (v : WordBytes) (y : ℕ) (kind : LoggedKind) (h : ℕ) → (y ≡ x → s ≡ true) → f y ≡ b.values y → (if is_store kind then with_word_bytes f x v else f) y ≡ (if s then after_touch b kind h x v else b).values y
value_keeps s b f x v y CodeRead h link e = value_kept s b b.marks (f y) y e
value_keeps s b f x v y Load h link e = value_kept s b b.marks (f y) y e
value_keeps s b f x v y Store h link e = value_stored s b (ended b.marks h x) f x v y link e
value_keeps s b f x v y LoadReserved h link e = value_kept s b (with_mark b.marks h x) (f y) y e
value_keeps s b f x v y ConditionalStored h link e = value_stored s b (without_mark (ended b.marks h x) h) f x v y link e
value_keeps s b f x v y ConditionalFailed h link e = value_kept s b (without_mark b.marks h) (f y) y e

-- the mark as seen through a slot's named word
abbrev seen : Option ℕ → Option ℕ → Option ℕ
seen m None = None
seen m (Some y) = if names m y then Some y else None

mark_kept : (s : Bool) (b c : BankState) (n : Option ℕ) (k y : ℕ) → c.marks k ≡ b.marks k → n ≡ seen (b.marks k) (Some y) → n ≡ seen ((if s then c else b).marks k) (Some y)
mark_kept true b c n k y same e = e ∙ ap (λ m. seen m (Some y)) (sym same)
mark_kept false b c n k y same e = e

seen_all : (t : Bool) (y : ℕ) (m : Option ℕ) → names m y ≡ t → seen m (Some y) ≡ (if t then Some y else None)
seen_all t y m e = ap (λ (o : Bool). if o then Some y else None) e

end_apart : (s : Bool) (z x y : ℕ) → (z == y) ≡ false → (if names (seen (Some z) (Some y)) x then None else seen (Some z) (Some y)) ≡ seen (if s then (if names (Some z) x then None else Some z) else Some z) (Some y)
end_apart false z x y e = rw e
end_apart true z x y e = rw e (apart (z == x))
  where
    apart : (t : Bool) → None ≡ seen (if t then None else Some z) (Some y)
    apart true = refl
    apart false = sym (seen_all false y (Some z) e)

same_core : (s t : Bool) (y : ℕ) → (t ≡ true → s ≡ true) → (y == y) ≡ true → (if t then None else Some y) ≡ seen (if s then (if t then None else Some y) else Some y) (Some y)
same_core true true y link e = refl
same_core false true y link e = cc (link refl)
same_core true false y link e = sym (seen_all true y (Some y) e)
same_core false false y link e = sym (seen_all true y (Some y) e)

end_self : (s : Bool) (x y : ℕ) → (y ≡ x → s ≡ true) → (y == y) ≡ true → (if names (seen (Some y) (Some y)) x then None else seen (Some y) (Some y)) ≡ seen (if s then (if names (Some y) x then None else Some y) else Some y) (Some y)
end_self s x y link e = ap (λ (m : Option ℕ). if names m x then None else m) (seen_all true y (Some y) e) ∙ same_core s (y == x) y (λ t. link (eqb-true y x t)) e

end_same : (s : Bool) (z x y : ℕ) → (y ≡ x → s ≡ true) → z ≡ y → (z == y) ≡ true → (if names (seen (Some z) (Some y)) x then None else seen (Some z) (Some y)) ≡ seen (if s then (if names (Some z) x then None else Some z) else Some z) (Some y)
end_same s z x y link same e = rw same (end_self s x y link (eq-eqb y y refl))

-- a mark that another hart's store may clear
end_some : (s : Bool) (z x y : ℕ) → (y ≡ x → s ≡ true) → (if names (seen (Some z) (Some y)) x then None else seen (Some z) (Some y)) ≡ seen (if s then (if names (Some z) x then None else Some z) else Some z) (Some y)
end_some s z x y link = ⊎_elim (λ (e : z ≡ y). end_same s z x y link e (eq-eqb z y e)) (λ (n : z ≡ y → ⊥). end_apart s z x y (ne_eqb z y n)) (cases_eq z y)

end_mark : (s : Bool) (m : Option ℕ) (x y : ℕ) → (y ≡ x → s ≡ true) → (if names (seen m (Some y)) x then None else seen m (Some y)) ≡ seen (if s then (if names m x then None else m) else m) (Some y)
end_mark true None x y link = refl
end_mark false None x y link = refl
end_mark s (Some z) x y link = end_some s z x y link

mark_ended : (s : Bool) (b c : BankState) (n : Option ℕ) (k x y : ℕ) → (y ≡ x → s ≡ true) → c.marks k ≡ (if names (b.marks k) x then None else b.marks k) → n ≡ seen (b.marks k) (Some y) → (if names n x then None else n) ≡ seen ((if s then c else b).marks k) (Some y)
mark_ended true b c n k x y link is e = ap (λ (o : Option ℕ). if names o x then None else o) e ∙ end_mark true (b.marks k) x y link ∙ ap (λ (m : Option ℕ). seen m (Some y)) (sym is)
mark_ended false b c n k x y link is e = ap (λ (o : Option ℕ). if names o x then None else o) e ∙ end_mark false (b.marks k) x y link

if_not : {A : Type 0} (t : Bool) (x y : A) → t ≡ false → (if t then x else y) ≡ y
if_not t x y e = rw e

-- the mark of another hart k in the bank of word y, after hart h touched word x
other_keeps : (kind : LoggedKind) (s : Bool) (b : BankState) (f : ℕ → Option ℕ) (h x : ℕ) (v : WordBytes) (k y : ℕ) → (y ≡ x → s ≡ true) → f k ≡ seen (b.marks k) (Some y) → (k == h) ≡ false → marks_after kind f h x k ≡ seen ((if s then after_touch b kind h x v else b).marks k) (Some y)
other_keeps CodeRead s b f h x v k y link e ne = mark_kept s b (after_touch b CodeRead h x v) (f k) k y refl e
other_keeps Load s b f h x v k y link e ne = mark_kept s b (after_touch b Load h x v) (f k) k y refl e
other_keeps Store s b f h x v k y link e ne = if_not (k == h) (f k) _ ne ∙ mark_ended s b (after_touch b Store h x v) (f k) k x y link (if_not (k == h) (b.marks k) _ ne) e
other_keeps LoadReserved s b f h x v k y link e ne = if_not (k == h) (Some x) (f k) ne ∙ mark_kept s b (after_touch b LoadReserved h x v) (f k) k y (if_not (k == h) (Some x) (b.marks k) ne) e
other_keeps ConditionalStored s b f h x v k y link e ne = if_not (k == h) None _ ne ∙ if_not (k == h) (f k) _ ne ∙ mark_ended s b (after_touch b ConditionalStored h x v) (f k) k x y link (if_not (k == h) None _ ne ∙ if_not (k == h) (b.marks k) _ ne) e
other_keeps ConditionalFailed s b f h x v k y link e ne = if_not (k == h) None (f k) ne ∙ mark_kept s b (after_touch b ConditionalFailed h x v) (f k) k y (if_not (k == h) None (b.marks k) ne) e

other_none : (kind : LoggedKind) (f : ℕ → Option ℕ) (h x k : ℕ) → (k == h) ≡ false → f k ≡ None → marks_after kind f h x k ≡ None
other_none CodeRead f h x k ne e = e
other_none Load f h x k ne e = e
other_none Store f h x k ne e = if_not (k == h) (f k) _ ne ∙ ap (λ (o : Option ℕ). if names o x then None else o) e
other_none LoadReserved f h x k ne e = if_not (k == h) (Some x) (f k) ne ∙ e
other_none ConditionalStored f h x k ne e = if_not (k == h) None _ ne ∙ if_not (k == h) (f k) _ ne ∙ ap (λ (o : Option ℕ). if names o x then None else o) e
other_none ConditionalFailed f h x k ne e = if_not (k == h) None (f k) ne ∙ e

other_named : (bank_of : ℕ → ℕ) (banks : ℕ → BankState) (f : ℕ → Option ℕ) (a : LoggedAccess) (k : ℕ) (n : Option ℕ) → (k == a.hart) ≡ false → f k ≡ joined_mark bank_of banks k n → marks_after a.kind f a.hart a.word k ≡ joined_mark bank_of (banks_after bank_of banks a) k n
other_named bank_of banks f a k None ne e = other_none a.kind f a.hart a.word k ne e
other_named bank_of banks f a k (Some y) ne e = other_keeps a.kind (bank_of a.word == bank_of y) (banks (bank_of y)) f a.hart a.word a.after k y (λ q. eq-eqb (bank_of a.word) (bank_of y) (ap bank_of (sym q))) e ne

other_mark : (bank_of : ℕ → ℕ) (shared : BankState) (banks : ℕ → BankState) (named : ℕ → Option ℕ) (a : LoggedAccess) (k : ℕ) → BanksTell bank_of shared banks named → (k == a.hart) ≡ false → (after_access shared a).marks k ≡ joined_mark bank_of (banks_after bank_of banks a) k (named_after named a k)
other_mark bank_of shared banks named a k r ne = other_named bank_of banks shared.marks a k (named k) ne (r.marks k) ∙ ap (λ (n : Option ℕ). joined_mark bank_of (banks_after bank_of banks a) k n) (sym (if_not (k == a.hart) _ (named k) ne))

if_so : {A : Type 0} (t : Bool) (x y : A) → t ≡ true → (if t then x else y) ≡ x
if_so t x y e = rw e

-- the bank of a word, after hart h touched word x
abbrev one : (ℕ → ℕ) → (ℕ → BankState) → LoggedKind → ℕ → ℕ → WordBytes → ℕ → BankState
one bank_of banks kind h x v = λ b. if bank_of x == b then after_touch (banks b) kind h x v else banks b

own_kept : (bank_of : ℕ → ℕ) (banks : ℕ → BankState) (kind : LoggedKind) (h x : ℕ) (v : WordBytes) (n m : Option ℕ) → ((b : ℕ) → marks_after kind (banks b).marks h x h ≡ (banks b).marks h) → m ≡ joined_mark bank_of banks h n → m ≡ joined_mark bank_of (one bank_of banks kind h x v) h n
own_kept bank_of banks kind h x v None m same e = e
own_kept bank_of banks kind h x v (Some y) m same e = mark_kept (bank_of x == bank_of y) (banks (bank_of y)) (after_touch (banks (bank_of y)) kind h x v) m h y (same (bank_of y)) e

own_reserved : (s : Bool) (b : BankState) (h x : ℕ) (v : WordBytes) → s ≡ true → (h == h) ≡ true → Some x ≡ seen ((if s then after_touch b LoadReserved h x v else b).marks h) (Some x)
own_reserved true b h x v e q = sym (ap (λ (m : Option ℕ). seen m (Some x)) (if_so (h == h) (Some x) (b.marks h) q) ∙ seen_all true x (Some x) (eq-eqb x x refl))
own_reserved false b h x v e q = cc e

own_keeps : (kind : LoggedKind) (bank_of : ℕ → ℕ) (banks : ℕ → BankState) (f : ℕ → Option ℕ) (h x : ℕ) (v : WordBytes) (n : Option ℕ) → (h == h) ≡ true → f h ≡ joined_mark bank_of banks h n → marks_after kind f h x h ≡ joined_mark bank_of (one bank_of banks kind h x v) h (named_by_kind kind x n)
own_keeps CodeRead bank_of banks f h x v n q e = own_kept bank_of banks CodeRead h x v n (f h) (λ b. refl) e
own_keeps Load bank_of banks f h x v n q e = own_kept bank_of banks Load h x v n (f h) (λ b. refl) e
own_keeps Store bank_of banks f h x v n q e = if_so (h == h) (f h) _ q ∙ own_kept bank_of banks Store h x v n (f h) (λ b. if_so (h == h) ((banks b).marks h) _ q) e
own_keeps LoadReserved bank_of banks f h x v n q e = if_so (h == h) (Some x) (f h) q ∙ own_reserved (bank_of x == bank_of x) (banks (bank_of x)) h x v (eq-eqb (bank_of x) (bank_of x) refl) q
own_keeps ConditionalStored bank_of banks f h x v n q e = if_so (h == h) None _ q
own_keeps ConditionalFailed bank_of banks f h x v n q e = if_so (h == h) None (f h) q

own_mark : (bank_of : ℕ → ℕ) (shared : BankState) (banks : ℕ → BankState) (named : ℕ → Option ℕ) (a : LoggedAccess) (k : ℕ) → BanksTell bank_of shared banks named → k ≡ a.hart → (after_access shared a).marks k ≡ joined_mark bank_of (banks_after bank_of banks a) k (named_after named a k)
own_mark bank_of shared banks named a k r e = rw e (own_keeps a.kind bank_of banks shared.marks a.hart a.word a.after (named a.hart) (eq-eqb a.hart a.hart refl) (r.marks a.hart) ∙ ap (λ (n : Option ℕ). joined_mark bank_of (banks_after bank_of banks a) a.hart n) (sym (if_so (a.hart == a.hart) _ (named a.hart) (eq-eqb a.hart a.hart refl))))

pub access_keeps : (bank_of : ℕ → ℕ) (shared : BankState) (banks : ℕ → BankState) (named : ℕ → Option ℕ) (a : LoggedAccess) → BanksTell bank_of shared banks named → BanksTell bank_of (after_access shared a) (banks_after bank_of banks a) (named_after named a)
access_keeps bank_of shared banks named a r = record {
  values = λ y. value_keeps (bank_of a.word == bank_of y) (banks (bank_of y)) shared.values a.word a.after y a.kind a.hart (λ e. grind (arith, eq-eqb (bank_of a.word) (bank_of y), ap bank_of e)) (r.values y);
  marks = λ k. ⊎_elim (λ (e : k ≡ a.hart). own_mark bank_of shared banks named a k r e) (λ (n : k ≡ a.hart → ⊥). other_mark bank_of shared banks named a k r (ne_eqb k a.hart n)) (cases_eq k a.hart);
}
