-- Runs of entries
use Rattle.std.proofs.Common.{◌≡◌, ℕ, zero, suc, ◌&&◌, ◌==◌, Bool, true, false, List, [], ◌∷◌, ◌++◌, Some, None, refl, ap, sym, ◌∙◌, subst, ⊎_elim}
use Rattle.std.specs.Prelude.{if◌then◌else◌, Option, replicate}
use Rattle.std.proofs.Math.Path.{fun_ext}
use Rattle.std.proofs.lemmas.Bool.{eq-eqb, ne_eqb, cases_eq, eqb-true}
use Rattle.std.proofs.lemmas.List.Elements.{filter-append}
use Rattle.hart_reservations.specs.Marks.{names}
use Rattle.bank_laws.specs.declared.access.LoggedAccess.{LoggedAccess}
use Rattle.bank_laws.specs.declared.access.LoggedKind.TheVariants.{CodeRead}
use Rattle.bank_laws.specs.Banks.{WordBytes, BankState, after_touch, after_access, joined_mark, BanksTell, named_by_kind, named_after, banks_after, after_log, share_of, Finds, IsLogged}
use Rattle.bank_laws.specs.Runs.{Touch, StepTable, TableWorld, Turn, put_at, succeeds, kind_of, word_after, word_found, done, step_from, table_step, table_run}
use Rattle.bank_laws.specs.Segments.{LoggedSegment, turn, turns_of, segment_turns, accesses, segments_of_hart, HartSlot, code_reads, given_bytes, data_accesses, slot_after, answered, IsLastStep, TouchNothing, IsSegment, Walks, TellsWorld}
use Rattle.bank_laws.proofs.AccessLemmas.{access_keeps}

-- the accesses of a list, as the world finds them
abbrev AllFinds : BankState → (ℕ → Option ℕ) → List LoggedAccess → Type 0
AllFinds shared named [] = Unit {0}
AllFinds shared named (a ∷ xs) = (a.before ≡ shared.values a.word) × ((a.mark && names (named a.hart) a.word) ≡ names (shared.marks a.hart) a.word) × AllFinds (after_access shared a) (named_after named a) xs

abbrev fold_named : (ℕ → Option ℕ) → List LoggedAccess → ℕ → Option ℕ
fold_named named [] = named
fold_named named (a ∷ xs) = fold_named (named_after named a) xs

and_no : (b : Bool) → (b && false) ≡ false
and_no true = refl
and_no false = refl

agree_same : (t : Bool) (x : ℕ) → (t && (x == x)) ≡ names (if t then Some x else None) x
agree_same true x = refl
agree_same false x = refl

agree_apart : (b t : Bool) (y x : ℕ) → (y == x) ≡ false → (b && (y == x)) ≡ names (if t then Some y else None) x
agree_apart b true y x e = rw e (and_no b)
agree_apart b false y x e = rw e (and_no b)

-- if the slot names the word, its bank's mark is the world's
marks_agree : (bank_of : ℕ → ℕ) (banks : ℕ → BankState) (h x : ℕ) (n : Option ℕ) → (names ((banks (bank_of x)).marks h) x && names n x) ≡ names (joined_mark bank_of banks h n) x
marks_agree bank_of banks h x None = and_no (names ((banks (bank_of x)).marks h) x)
marks_agree bank_of banks h x (Some y) =
    ⊎_elim
    (λ (e : y ≡ x). rw e (agree_same (names ((banks (bank_of x)).marks h) x) x))
    (λ (n : y ≡ x → ⊥). agree_apart (names ((banks (bank_of x)).marks h) x) (names ((banks (bank_of y)).marks h) y) y x (ne_eqb y x n))
    (cases_eq y x)

tail_logged : (t : Bool) (b : BankState) (a : LoggedAccess) (xs : List LoggedAccess) → IsLogged b (if t then a ∷ xs else xs) → IsLogged (if t then after_access b a else b) xs
tail_logged true b a xs l = l.1
tail_logged false b a xs l = l

head_logged : (t : Bool) (b : BankState) (a : LoggedAccess) (xs : List LoggedAccess) → t ≡ true → IsLogged b (if t then a ∷ xs else xs) → Finds b a
head_logged true b a xs e l = l.0
head_logged false b a xs e l = cc e

tail_fold : (t : Bool) (b : BankState) (a : LoggedAccess) (xs : List LoggedAccess) → after_log (if t then after_access b a else b) xs ≡ after_log b (if t then a ∷ xs else xs)
tail_fold true b a xs = refl
tail_fold false b a xs = refl

same_tells : (bank_of : ℕ → ℕ) (shared : BankState) (banks banks' : ℕ → BankState) (named : ℕ → Option ℕ) → ((b : ℕ) → banks b ≡ banks' b) → BanksTell bank_of shared banks named → BanksTell bank_of shared banks' named
same_tells bank_of shared banks banks' named e r = subst (λ (f : ℕ → BankState). BanksTell bank_of shared f named) (fun_ext e) r

record Follows (bank_of : ℕ → ℕ) (shared : BankState) (banks : ℕ → BankState) (named : ℕ → Option ℕ) (xs : List LoggedAccess) : Type 0 where
  finds : AllFinds shared named xs
  rest : BanksTell bank_of (after_log shared xs) (λ b. after_log (banks b) (share_of bank_of b xs)) (fold_named named xs)

follows : (bank_of : ℕ → ℕ) (xs : List LoggedAccess) (shared : BankState) (banks : ℕ → BankState) (named : ℕ → Option ℕ) → BanksTell bank_of shared banks named → ((b : ℕ) → IsLogged (banks b) (share_of bank_of b xs)) → Follows bank_of shared banks named xs
follows bank_of [] shared banks named r l = record { finds = tt; rest = r }
follows bank_of (a ∷ xs) shared banks named r l =
    let own = bank_of a.word in
    let head : Finds (banks own) a = head_logged (own == own) (banks own) a (share_of bank_of own xs) (eq-eqb own own refl) (l own) in
    let next = follows bank_of xs (after_access shared a) (banks_after bank_of banks a) (named_after named a) (access_keeps bank_of shared banks named a r) (λ b. tail_logged (own == b) (banks b) a (share_of bank_of b xs) (l b)) in
    record {
      finds = (head.0 ∙ sym (r.values a.word), ap (λ (m : Bool). m && names (named a.hart) a.word) head.1 ∙ marks_agree bank_of banks a.hart a.word (named a.hart) ∙ ap (λ (m : Option ℕ). names m a.word) (sym (r.marks a.hart)), next.finds);
      rest = same_tells bank_of (after_log (after_access shared a) xs) (λ b. after_log (banks_after bank_of banks a b) (share_of bank_of b xs)) (λ b. after_log (banks b) (share_of bank_of b (a ∷ xs))) (fold_named (named_after named a) xs) (λ b. tail_fold (own == b) (banks b) a (share_of bank_of b xs)) next.rest;
    }

-- one step

-- what an entry's step logs
abbrev logs_of : {H : Type 0} → StepTable H → LoggedSegment → HartSlot H → WordBytes → Bool → WordBytes → Bool → List LoggedAccess
logs_of T e s c cm v m = code_reads e (T.need s.hart) c cm ++ data_accesses T e s (answered T s c) (T.plan s.hart (answered T s c)) v m

abbrev after_of : {H : Type 0} → StepTable H → LoggedSegment → HartSlot H → WordBytes → WordBytes → Bool → HartSlot H
after_of T e s c v m = slot_after T e.refuse s (answered T s c) (T.plan s.hart (answered T s c)) v m

-- the world after accesses of hart h that leave it as a slot
abbrev world_of : {H : Type 0} → TableWorld H → ℕ → HartSlot H → List LoggedAccess → TableWorld H
world_of w h s xs = record { harts = put_at w.harts h s.hart; shared = after_log w.shared xs }

-- a touch that finds the value v and succeeds or fails
abbrev did_at : {H : Type 0} → StepTable H → TableWorld H → ℕ → H → WordBytes → Touch → WordBytes → Bool → TableWorld H
did_at T w h s c t v ok = record {
  harts = put_at w.harts h (T.after s c v ok);
  shared = after_touch w.shared (kind_of t.act ok) h t.word (word_after T s c v (kind_of t.act ok));
}

done_is : {H : Type 0} (T : StepTable H) (w : TableWorld H) (named : ℕ → Option ℕ) (e : LoggedSegment) (s : HartSlot H) (c : WordBytes) (p : Option Touch) (v : WordBytes) (m : Bool) → named e.hart ≡ s.named → AllFinds w.shared named (data_accesses T e s c p v m) → done T w e.hart e.refuse s.hart c p ≡ world_of w e.hart (slot_after T e.refuse s c p v m) (data_accesses T e s c p v m)
done_is T w named e s c None v m same finds = refl
done_is T w named e s c (Some t) v m same finds =
    ap (λ (x : WordBytes). did_at T w e.hart s.hart c t x (succeeds t.act e.refuse (names (w.shared.marks e.hart) t.word))) (sym finds.0)
    ∙ ap (λ (b : Bool). did_at T w e.hart s.hart c t v (succeeds t.act e.refuse b)) (sym finds.1)
    ∙ ap (λ (n : Option ℕ). did_at T w e.hart s.hart c t v (succeeds t.act e.refuse (m && names n t.word))) same

if_same : {A : Type 0} (t : Bool) (x : A) → (if t then x else x) ≡ x
if_same true x = refl
if_same false x = refl

step_by : {H : Type 0} (T : StepTable H) (w : TableWorld H) (named : ℕ → Option ℕ) (e : LoggedSegment) (s : HartSlot H) (need : Option ℕ) (plan : WordBytes → Option Touch) (c : WordBytes) (cm : Bool) (v : WordBytes) (m : Bool) → named e.hart ≡ s.named → AllFinds w.shared named (code_reads e need c cm ++ data_accesses T e s (given_bytes need c) (plan (given_bytes need c)) v m) → done T w e.hart e.refuse s.hart (word_found need w.shared.values) (plan (word_found need w.shared.values)) ≡ world_of w e.hart (slot_after T e.refuse s (given_bytes need c) (plan (given_bytes need c)) v m) (code_reads e need c cm ++ data_accesses T e s (given_bytes need c) (plan (given_bytes need c)) v m)
step_by T w named e s None plan c cm v m same finds = done_is T w named e s [] (plan []) v m same finds
step_by T w named e s (Some x) plan c cm v m same finds =
    let kept : named e.hart ≡ (if e.hart == e.hart then named e.hart else named e.hart) = sym (if_same (e.hart == e.hart) (named e.hart)) in
    ap (λ (n : WordBytes). done T w e.hart e.refuse s.hart n (plan n)) (sym finds.0)
    ∙ done_is T w (named_after named (record { stamp = e.stamp; hart = e.hart; kind = CodeRead; word = x; before = c; after = c; mark = cm })) e s c (plan c) v m (sym kept ∙ same) finds.2

step_is : {H : Type 0} (T : StepTable H) (w : TableWorld H) (named : ℕ → Option ℕ) (e : LoggedSegment) (s : HartSlot H) (c : WordBytes) (cm : Bool) (v : WordBytes) (m : Bool) → w.harts e.hart ≡ s.hart → named e.hart ≡ s.named → AllFinds w.shared named (logs_of T e s c cm v m) → table_step T w e.hart e.refuse ≡ world_of w e.hart (after_of T e s c v m) (logs_of T e s c cm v m)
step_is T w named e s c cm v m here same finds =
    ap (λ (x : _). step_from T w e.hart e.refuse x (word_found (T.need x) w.shared.values)) here
    ∙ step_by T w named e s (T.need s.hart) (T.plan s.hart) c cm v m same finds

-- the words that the slots name

if_kept : {A : Type 0} (t : Bool) (x y : A) → (t ≡ true → x ≡ y) → x ≡ (if t then y else x)
if_kept true x y link = link refl
if_kept false x y link = refl

if_alike : {A : Type 0} (t : Bool) (x y z : A) → (t ≡ true → x ≡ y) → (if t then x else z) ≡ (if t then y else z)
if_alike true x y z link = link refl
if_alike false x y z link = refl

data_named : {H : Type 0} (T : StepTable H) (named : ℕ → Option ℕ) (e : LoggedSegment) (s : HartSlot H) (c : WordBytes) (p : Option Touch) (v : WordBytes) (m : Bool) (k : ℕ) → named e.hart ≡ s.named → fold_named named (data_accesses T e s c p v m) k ≡ put_at named e.hart (slot_after T e.refuse s c p v m).named k
data_named T named e s c None v m k same = if_kept (k == e.hart) (named k) s.named (λ t. ap named (eqb-true k e.hart t) ∙ same)
data_named T named e s c (Some t) v m k same =
    let kind = kind_of t.act (succeeds t.act e.refuse (m && names s.named t.word)) in
    if_alike (k == e.hart) (named_by_kind kind t.word (named k)) (named_by_kind kind t.word s.named) (named k) (λ q. ap (λ (n : Option ℕ). named_by_kind kind t.word n) (ap named (eqb-true k e.hart q) ∙ same))

step_named : {H : Type 0} (T : StepTable H) (named : ℕ → Option ℕ) (e : LoggedSegment) (s : HartSlot H) (need : Option ℕ) (c : WordBytes) (cm : Bool) (p : Option Touch) (v : WordBytes) (m : Bool) (k : ℕ) → named e.hart ≡ s.named → fold_named named (code_reads e need c cm ++ data_accesses T e s (given_bytes need c) p v m) k ≡ put_at named e.hart (slot_after T e.refuse s (given_bytes need c) p v m).named k
step_named T named e s None c cm p v m k same = data_named T named e s [] p v m k same
step_named T named e s (Some x) c cm p v m k same =
    let a : LoggedAccess = record { stamp = e.stamp; hart = e.hart; kind = CodeRead; word = x; before = c; after = c; mark = cm } in
    let kept : named_after named a ≡ named = fun_ext (λ j. if_same (j == e.hart) (named j)) in
    ap (λ (f : ℕ → Option ℕ). fold_named f (data_accesses T e s c p v m) k) kept ∙ data_named T named e s c p v m k same

place_part : {H : Type 0} (slots : ℕ → HartSlot H) (s' : HartSlot H) (t : Bool) (k : ℕ) → (if t then s'.named else (slots k).named) ≡ (if t then s' else slots k).named
place_part slots s' true k = refl
place_part slots s' false k = refl

place_hart : {H : Type 0} (f : ℕ → H) (slots : ℕ → HartSlot H) (s' : HartSlot H) (t : Bool) (k : ℕ) → f k ≡ (slots k).hart → (if t then s'.hart else f k) ≡ (if t then s' else slots k).hart
place_hart f slots s' true k e = refl
place_hart f slots s' false k e = e

same_named : (bank_of : ℕ → ℕ) (shared : BankState) (banks : ℕ → BankState) (named named' : ℕ → Option ℕ) → ((k : ℕ) → named k ≡ named' k) → BanksTell bank_of shared banks named → BanksTell bank_of shared banks named'
same_named bank_of shared banks named named' e r = subst (λ (f : ℕ → Option ℕ). BanksTell bank_of shared banks f) (fun_ext e) r

step_tells : {H : Type 0} (bank_of : ℕ → ℕ) (T : StepTable H) (e : LoggedSegment) (w : TableWorld H) (slots : ℕ → HartSlot H) (banks : ℕ → BankState) (s s' : HartSlot H) → slots e.hart ≡ s → TellsWorld bank_of w slots banks → IsLastStep T e s s' → ((b : ℕ) → IsLogged (banks b) (share_of bank_of b e.accesses)) → TellsWorld bank_of (table_step T w e.hart e.refuse) (put_at slots e.hart s') (λ b. after_log (banks b) (share_of bank_of b e.accesses))
step_tells {H} bank_of T e w slots banks s s' at_slot tells st logged =
    let named : ℕ → Option ℕ = λ k. (slots k).named in
    let same : named e.hart ≡ s.named = ap (λ (x : HartSlot H). x.named) at_slot in
    let here : w.harts e.hart ≡ s.hart = tells.harts e.hart ∙ ap (λ (x : HartSlot H). x.hart) at_slot in
    let f = follows bank_of e.accesses w.shared banks named tells.rest logged in
    let finds : AllFinds w.shared named (logs_of T e s st.code st.code_mark st.value st.mark) = subst (λ (l : List LoggedAccess). AllFinds w.shared named l) st.logs f.finds in
    let is : table_step T w e.hart e.refuse ≡ world_of w e.hart s' e.accesses =
    step_is T w named e s st.code st.code_mark st.value st.mark here same finds
    ∙ ap (λ (l : List LoggedAccess). world_of w e.hart (after_of T e s st.code st.value st.mark) l) (sym st.logs)
    ∙ ap (λ (z : HartSlot H). world_of w e.hart z e.accesses) (sym st.slot) in
    let names_are = λ (k : ℕ).
    ap (λ (l : List LoggedAccess). fold_named named l k) st.logs
    ∙ step_named T named e s (T.need s.hart) st.code st.code_mark (T.plan s.hart (answered T s st.code)) st.value st.mark k same
    ∙ ap (λ (z : HartSlot H). put_at named e.hart z.named k) (sym st.slot)
    ∙ place_part slots s' (k == e.hart) k in
    let told : TellsWorld bank_of (world_of w e.hart s' e.accesses) (put_at slots e.hart s') (λ b. after_log (banks b) (share_of bank_of b e.accesses)) = record {
      harts = λ k. place_hart w.harts slots s' (k == e.hart) k (tells.harts k);
      rest = same_named bank_of (after_log w.shared e.accesses) (λ b. after_log (banks b) (share_of bank_of b e.accesses)) (fold_named named e.accesses) (λ k. (put_at slots e.hart s' k).named) names_are f.rest;
    } in
    subst (λ (v : TableWorld H). TellsWorld bank_of v (put_at slots e.hart s') (λ b. after_log (banks b) (share_of bank_of b e.accesses))) (sym is) told

-- local steps

place_self : {A : Type 0} (f : ℕ → A) (h : ℕ) (x : A) → f h ≡ x → f ≡ put_at f h x
place_self f h x e = fun_ext (λ k. if_kept (k == h) (f k) x (λ t. ap f (eqb-true k h t) ∙ e))

place_at : {A : Type 0} (f : ℕ → A) (h : ℕ) (x : A) → put_at f h x h ≡ x
place_at f h x = rw (eq-eqb h h refl)

if_twice : {A : Type 0} (t : Bool) (x y z : A) → (if t then y else (if t then x else z)) ≡ (if t then y else z)
if_twice true x y z = refl
if_twice false x y z = refl

place_twice : {A : Type 0} (f : ℕ → A) (h : ℕ) (x y : A) → put_at (put_at f h x) h y ≡ put_at f h y
place_twice f h x y = fun_ext (λ k. if_twice (k == h) x y (f k))

abbrev moved : {H : Type 0} → TableWorld H → ℕ → H → TableWorld H
moved w h t = record { harts = put_at w.harts h t; shared = w.shared }

abbrev at_plan : {H : Type 0} → StepTable H → TableWorld H → ℕ → H → Option ℕ → TableWorld H
at_plan T w h s need = step_from T w h false s (word_found need w.shared.values)

local_is : {H : Type 0} (T : StepTable H) (w : TableWorld H) (h : ℕ) (s : H) → w.harts h ≡ s → T.need s ≡ None → T.plan s [] ≡ None → table_step T w h false ≡ moved w h (T.after s [] [] false)
local_is {H} T w h s here need plan =
    ap (λ (x : H). at_plan T w h x (T.need x)) here
    ∙ ap (λ (n : Option ℕ). at_plan T w h s n) need
    ∙ ap (λ (p : Option Touch). done T w h false s [] p) plan

moved_tells : {H : Type 0} (bank_of : ℕ → ℕ) (w : TableWorld H) (slots : ℕ → HartSlot H) (banks : ℕ → BankState) (h : ℕ) (s s' : HartSlot H) → slots h ≡ s → s'.named ≡ s.named → TellsWorld bank_of w slots banks → TellsWorld bank_of (moved w h s'.hart) (put_at slots h s') banks
moved_tells {H} bank_of w slots banks h s s' at_slot same tells = record {
  harts = λ k. place_hart w.harts slots s' (k == h) k (tells.harts k);
  rest = same_named bank_of w.shared banks (λ k. (slots k).named) (λ k. (put_at slots h s' k).named) (λ k. if_kept (k == h) (slots k).named s'.named (λ t. ap (λ (j : ℕ). (slots j).named) (eqb-true k h t) ∙ ap (λ (x : HartSlot H). x.named) at_slot ∙ sym same) ∙ place_part slots s' (k == h) k) tells.rest;
}

locals_tell : {H : Type 0} (bank_of : ℕ → ℕ) (T : StepTable H) (n : ℕ) (w : TableWorld H) (slots : ℕ → HartSlot H) (banks : ℕ → BankState) (h : ℕ) (s : HartSlot H) (t : H) → slots h ≡ s → TouchNothing T n s.hart t → TellsWorld bank_of w slots banks → TellsWorld bank_of (table_run T w (replicate n (turn h false))) (put_at slots h (record { hart = t; named = s.named })) banks
locals_tell {H} bank_of T zero w slots banks h s t at_slot locals tells =
    subst (λ (f : ℕ → HartSlot H). TellsWorld bank_of w f banks) (place_self slots h (record { hart = t; named = s.named }) (at_slot ∙ ap (λ (x : H). record { hart = x; named = s.named }) (sym locals))) tells
locals_tell {H} bank_of T (suc n) w slots banks h s t at_slot locals tells =
    let s1 : HartSlot H = record { hart = T.after s.hart [] [] false; named = s.named } in
    let here : w.harts h ≡ s.hart = tells.harts h ∙ ap (λ (x : HartSlot H). x.hart) at_slot in
    let is = local_is T w h s.hart here locals.0 locals.1 in
    let told = moved_tells bank_of w slots banks h s s1 at_slot refl tells in
    let rest = locals_tell bank_of T n (moved w h s1.hart) (put_at slots h s1) banks h s1 t (place_at slots h s1) locals.2 told in
    subst (λ (v : TableWorld H). TellsWorld bank_of (table_run T v (replicate n (turn h false))) (put_at slots h (record { hart = t; named = s.named })) banks) (sym is)
    (subst (λ (f : ℕ → HartSlot H). TellsWorld bank_of (table_run T (moved w h s1.hart) (replicate n (turn h false))) f banks) (place_twice slots h s1 (record { hart = t; named = s.named })) rest)

-- a segment, and all of them

run_append : {H : Type 0} (T : StepTable H) (w : TableWorld H) (xs ys : List Turn) → table_run T w (xs ++ ys) ≡ table_run T (table_run T w xs) ys
run_append T w [] ys = refl
run_append T w (x ∷ xs) ys = run_append T (table_step T w x.hart x.refuse) xs ys

segment_tells : {H : Type 0} (bank_of : ℕ → ℕ) (T : StepTable H) (e : LoggedSegment) (w : TableWorld H) (slots : ℕ → HartSlot H) (banks : ℕ → BankState) (s' : HartSlot H) → TellsWorld bank_of w slots banks → IsSegment T e (slots e.hart) s' → ((b : ℕ) → IsLogged (banks b) (share_of bank_of b e.accesses)) → TellsWorld bank_of (table_run T w (turns_of e)) (put_at slots e.hart s') (λ b. after_log (banks b) (share_of bank_of b e.accesses))
segment_tells {H} bank_of T e w slots banks s' tells seg logged =
    let s1 : HartSlot H = record { hart = seg.reached; named = (slots e.hart).named } in
    let walked = locals_tell bank_of T e.local w slots banks e.hart (slots e.hart) seg.reached refl seg.locals tells in
    let told = step_tells bank_of T e (table_run T w (replicate e.local (turn e.hart false))) (put_at slots e.hart s1) banks s1 s' (place_at slots e.hart s1) walked seg.steps logged in
    subst (λ (v : TableWorld H). TellsWorld bank_of v (put_at slots e.hart s') (λ b. after_log (banks b) (share_of bank_of b e.accesses))) (sym (run_append T w (replicate e.local (turn e.hart false)) (turn e.hart e.refuse ∷ [])))
    (subst (λ (f : ℕ → HartSlot H). TellsWorld bank_of (table_step T (table_run T w (replicate e.local (turn e.hart false))) e.hart e.refuse) f (λ b. after_log (banks b) (share_of bank_of b e.accesses))) (place_twice slots e.hart s1 s') told)

at_append : (bank_of : ℕ → ℕ) (b : ℕ) (xs ys : List LoggedAccess) → share_of bank_of b (xs ++ ys) ≡ share_of bank_of b xs ++ share_of bank_of b ys
at_append bank_of b xs ys = filter-append (λ (a : LoggedAccess). bank_of a.word == b) xs ys

front_logged : (b : BankState) (xs ys : List LoggedAccess) → IsLogged b (xs ++ ys) → IsLogged b xs
front_logged b [] ys l = tt
front_logged b (x ∷ xs) ys l = (l.0, front_logged (after_access b x) xs ys l.1)

back_logged : (b : BankState) (xs ys : List LoggedAccess) → IsLogged b (xs ++ ys) → IsLogged (after_log b xs) ys
back_logged b [] ys l = l
back_logged b (x ∷ xs) ys l = back_logged (after_access b x) xs ys l.1

fold_append : (b : BankState) (xs ys : List LoggedAccess) → after_log (after_log b xs) ys ≡ after_log b (xs ++ ys)
fold_append b [] ys = refl
fold_append b (x ∷ xs) ys = fold_append (after_access b x) xs ys

head_walks : {H : Type 0} (T : StepTable H) (t : Bool) (s s' : HartSlot H) (e : LoggedSegment) (es : List LoggedSegment) → t ≡ true → Walks T s (if t then e ∷ es else es) s' → Walks T s (e ∷ es) s'
head_walks T true s s' e es is w = w
head_walks T false s s' e es is w = cc is

tail_walks : {H : Type 0} (T : StepTable H) (t : Bool) (s s' : HartSlot H) (e : LoggedSegment) (es : List LoggedSegment) → t ≡ false → Walks T s (if t then e ∷ es else es) s' → Walks T s es s'
tail_walks T true s s' e es is w = cc is
tail_walks T false s s' e es is w = w

pub segments_run : {H : Type 0} (bank_of : ℕ → ℕ) (T : StepTable H) (es : List LoggedSegment) (w : TableWorld H) (slots slots' : ℕ → HartSlot H) (banks : ℕ → BankState) → TellsWorld bank_of w slots banks → ((h : ℕ) → Walks T (slots h) (segments_of_hart h es) (slots' h)) → ((b : ℕ) → IsLogged (banks b) (share_of bank_of b (accesses es))) → TellsWorld bank_of (table_run T w (segment_turns es)) slots' (λ b. after_log (banks b) (share_of bank_of b (accesses es)))
segments_run {H} bank_of T [] w slots slots' banks tells walks logged = subst (λ (f : ℕ → HartSlot H). TellsWorld bank_of w f banks) (fun_ext (λ k. sym (walks k))) tells
segments_run {H} bank_of T (e ∷ es) w slots slots' banks tells walks logged =
    let h = e.hart in
    let own = head_walks T (h == h) (slots h) (slots' h) e (segments_of_hart h es) (eq-eqb h h refl) (walks h) in
    let both : (b : ℕ) → IsLogged (banks b) (share_of bank_of b e.accesses ++ share_of bank_of b (accesses es)) = λ b. subst (λ (l : List LoggedAccess). IsLogged (banks b) l) (at_append bank_of b e.accesses (accesses es)) (logged b) in
    let told = segment_tells bank_of T e w slots banks own.0 tells own.1 (λ b. front_logged (banks b) (share_of bank_of b e.accesses) (share_of bank_of b (accesses es)) (both b)) in
    let walks' : (k : ℕ) → Walks T (put_at slots h own.0 k) (segments_of_hart k es) (slots' k) = λ k.
    ⊎_elim
    (λ (q : k ≡ h). rw q (subst (λ (x : HartSlot H). Walks T x (segments_of_hart h es) (slots' h)) (sym (place_at slots h own.0)) own.2))
    (λ (n : k ≡ h → ⊥). subst (λ (x : HartSlot H). Walks T x (segments_of_hart k es) (slots' k)) (if_kept (k == h) (slots k) own.0 (λ t. absurd (n (eqb-true k h t)))) (tail_walks T (h == k) (slots k) (slots' k) e (segments_of_hart k es) (ne_eqb h k (λ q. n (sym q))) (walks k)))
    (cases_eq k h) in
    let rest = segments_run bank_of T es (table_run T w (turns_of e)) (put_at slots h own.0) slots' (λ b. after_log (banks b) (share_of bank_of b e.accesses)) told walks' (λ b. back_logged (banks b) (share_of bank_of b e.accesses) (share_of bank_of b (accesses es)) (both b)) in
    subst (λ (f : ℕ → BankState). TellsWorld bank_of (table_run T w (segment_turns (e ∷ es))) slots' f) (fun_ext (λ b. fold_append (banks b) (share_of bank_of b e.accesses) (share_of bank_of b (accesses es)) ∙ ap (λ (l : List LoggedAccess). after_log (banks b) l) (sym (at_append bank_of b e.accesses (accesses es)))))
    (subst (λ (v : TableWorld H). TellsWorld bank_of v slots' (λ b. after_log (after_log (banks b) (share_of bank_of b e.accesses)) (share_of bank_of b (accesses es)))) (sym (run_append T w (turns_of e) (segment_turns es))) rest)
