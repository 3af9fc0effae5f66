-- The merged list has each hart's log and each bank's
use Rattle.std.proofs.Common.{◌≡◌, ℕ, ◌==◌, Bool, true, false, List, [], ◌∷◌, ◌++◌, Some, None, refl, ap, sym, ◌∙◌, subst, arith, inl, inr, ⊎_elim}
use Rattle.std.specs.Prelude.{if◌then◌else◌, Option, ◌⊎◌}
use Rattle.std.proofs.Math.Path.{fun_ext}
use Rattle.std.proofs.lemmas.Bool.{eq-eqb, eqb-true}
use Rattle.std.specs.List.{filter}
use Rattle.std.proofs.lemmas.List.Elements.{filter-append}
use Rattle.bank_laws.specs.declared.access.LoggedAccess.{LoggedAccess}
use Rattle.bank_laws.specs.Banks.{WordBytes, BankState, IsLogged, share_of, after_log}
use Rattle.bank_laws.specs.Runs.{Touch, StepTable, TableWorld, table_run, kind_of, Reads, Writes, Reserves, Tries, Act}
use Rattle.bank_laws.specs.Segments.{HartSlot, LoggedSegment, Walks, TellsWorld, segment_turns, accesses, segments_of_hart, code_reads, data_accesses, answered}
use Rattle.std.specs.List.{AllByRecursion}
use Rattle.bank_laws.specs.Order.{In, Rises, is_code_read, Before, Earlier, Ahead, IsMerged, IsMatched, AreLogs}
use Rattle.bank_laws.proofs.RunLemmas.{segments_run}

-- lists

each_in : {A : Type 0} (P : A → Type 0) (xs : List A) (a : A) → AllByRecursion P xs → In a xs → P a
each_in P [] a shared here = absurd here
each_in P (x ∷ xs) a shared (inl e) = subst P (sym e) shared.0
each_in P (x ∷ xs) a shared (inr i) = each_in P xs a shared.1 i

each_from : {A : Type 0} (P : A → Type 0) (xs : List A) → ((a : A) → In a xs → P a) → AllByRecursion P xs
each_from P [] f = tt
each_from P (x ∷ xs) f = (f x (inl refl), each_from P xs (λ a i. f a (inr i)))

-- two lists that rise and have the same elements are one
rises_same : {A : Type 0} (R : A → A → Type 0) → ((a c : A) → R a c → R c a → ⊥) → (xs ys : List A) → Rises R xs → Rises R ys → ((a : A) → In a xs → In a ys) → ((a : A) → In a ys → In a xs) → xs ≡ ys
rises_same R once [] [] rx ry f g = refl
rises_same R once [] (y ∷ ys) rx ry f g = absurd (g y (inl refl))
rises_same R once (x ∷ xs) [] rx ry f g = absurd (f x (inl refl))
rises_same {A} R once (x ∷ xs) (y ∷ ys) rx ry f g =
    let same : x ≡ y = first (f x (inl refl)) (g y (inl refl)) in
    ap (λ (a : A). a ∷ xs) same ∙ ap (λ (l : List A). y ∷ l) (rises_same R once xs ys rx.1 ry.1 (λ a i. later a i (f a (inr i)) same) (λ a i. sooner a i (g a (inr i)) same))
  where
    first : In x (y ∷ ys) → In y (x ∷ xs) → x ≡ y
    first (inl e) i = e
    first (inr j) (inl e) = sym e
    first (inr j) (inr i) = absurd (once x y (each_in (R x) xs y rx.0 i) (each_in (R y) ys x ry.0 j))

    later : (a : A) → In a xs → In a (y ∷ ys) → x ≡ y → In a ys
    later a i (inr j) same = j
    later a i (inl e) same = absurd (once x a (each_in (R x) xs a rx.0 i) (subst (λ (z : A). R z x) (same ∙ sym e) (subst (λ (z : A). R x z) (e ∙ sym same) (each_in (R x) xs a rx.0 i))))

    sooner : (a : A) → In a ys → In a (x ∷ xs) → x ≡ y → In a xs
    sooner a i (inr j) same = j
    sooner a i (inl e) same = absurd (once y a (each_in (R y) ys a ry.0 i) (subst (λ (z : A). R z y) (sym same ∙ sym e) (subst (λ (z : A). R y z) (e ∙ same) (each_in (R y) ys a ry.0 i))))

-- two elements of a list that rises
two_in : {A : Type 0} (R : A → A → Type 0) (xs : List A) (a c : A) → Rises R xs → In a xs → In c xs → (a ≡ c) ⊎ (R a c ⊎ R c a)
two_in R [] a c r i j = absurd i
two_in R (x ∷ xs) a c r (inl e) (inl k) = inl (e ∙ sym k)
two_in R (x ∷ xs) a c r (inl e) (inr j) = inr (inl (subst (λ (z : _). R z c) (sym e) (each_in (R x) xs c r.0 j)))
two_in R (x ∷ xs) a c r (inr i) (inl k) = inr (inr (subst (λ (z : _). R z a) (sym k) (each_in (R x) xs a r.0 i)))
two_in R (x ∷ xs) a c r (inr i) (inr j) = two_in R xs a c r.1 i j

in_left : {A : Type 0} (xs ys : List A) (a : A) → In a xs → In a (xs ++ ys)
in_left [] ys a i = absurd i
in_left (x ∷ xs) ys a (inl e) = inl e
in_left (x ∷ xs) ys a (inr i) = inr (in_left xs ys a i)

in_right : {A : Type 0} (xs ys : List A) (a : A) → In a ys → In a (xs ++ ys)
in_right [] ys a i = i
in_right (x ∷ xs) ys a i = inr (in_right xs ys a i)

in_either : {A : Type 0} (xs ys : List A) (a : A) → In a (xs ++ ys) → In a xs ⊎ In a ys
in_either [] ys a i = inr i
in_either (x ∷ xs) ys a (inl e) = inl (inl e)
in_either (x ∷ xs) ys a (inr i) = ⊎_elim (λ (j : In a xs). inl (inr j)) (λ (j : In a ys). inr j) (in_either xs ys a i)

rises_append : {A : Type 0} (R : A → A → Type 0) (xs ys : List A) → Rises R xs → Rises R ys → ((a c : A) → In a xs → In c ys → R a c) → Rises R (xs ++ ys)
rises_append R [] ys rx ry f = ry
rises_append {A} R (x ∷ xs) ys rx ry f = (each_from (R x) (xs ++ ys) (λ c i. ⊎_elim (λ (j : In c xs). each_in (R x) xs c rx.0 j) (λ (j : In c ys). f x c (inl refl) j) (in_either xs ys c i)), rises_append R xs ys rx.1 ry (λ a c i j. f a c (inr i) j))

-- filters
filter_in : {A : Type 0} (p : A → Bool) (xs : List A) (a : A) → In a (filter p xs) → In a xs × (p a ≡ true)
filter_in p [] a i = absurd i
filter_in {A} p (x ∷ xs) a i = at_test (λ (j : In a (filter p xs)). filter_in p xs a j) (p x) refl i
  where
    at_test : (In a (filter p xs) → In a xs × (p a ≡ true)) → (t : Bool) → p x ≡ t → In a (if t then x ∷ filter p xs else filter p xs) → In a (x ∷ xs) × (p a ≡ true)
    at_test more true q (inl e) = (inl e, ap p e ∙ q)
    at_test more true q (inr j) = (inr (more j).0, (more j).1)
    at_test more false q j = (inr (more j).0, (more j).1)

pub in_filter : {A : Type 0} (p : A → Bool) (xs : List A) (a : A) → In a xs → p a ≡ true → In a (filter p xs)
in_filter p [] a i q = absurd i
in_filter {A} p (x ∷ xs) a i q = at_test (λ (j : In a xs). in_filter p xs a j q) (p x) refl i
  where
    at_test : (In a xs → In a (filter p xs)) → (t : Bool) → p x ≡ t → In a (x ∷ xs) → In a (if t then x ∷ filter p xs else filter p xs)
    at_test more true e (inl k) = inl k
    at_test more true e (inr j) = inr (more j)
    at_test more false e (inl k) = cc (q, ap p k, e)
    at_test more false e (inr j) = more j

filter_rises : {A : Type 0} (R : A → A → Type 0) (p : A → Bool) (xs : List A) → Rises R xs → Rises R (filter p xs)
filter_rises R p [] r = tt
filter_rises {A} R p (x ∷ xs) r = at_test (filter_rises R p xs r.1) (p x)
  where
    at_test : Rises R (filter p xs) → (t : Bool) → Rises R (if t then x ∷ filter p xs else filter p xs)
    at_test more true = (each_from (R x) (filter p xs) (λ c i. each_in (R x) xs c r.0 (filter_in p xs c i).0), more)
    at_test more false = more

-- a hart's segments
of_hart_filter : (h : ℕ) (es : List LoggedSegment) → segments_of_hart h es ≡ filter (λ (e : LoggedSegment). e.hart == h) es
of_hart_filter h [] = refl
of_hart_filter h (e ∷ es) = ap (λ (l : List LoggedSegment). if e.hart == h then e ∷ l else l) (of_hart_filter h es)

earlier_once : (a c : LoggedSegment) → Earlier a c → Earlier c a → ⊥
earlier_once a c x y = omega arith

ahead_of_hart : (h : ℕ) (e f : LoggedSegment) → e.hart ≡ h → f.hart ≡ h → Ahead e f → Earlier e f
ahead_of_hart h e f x y (inl l) = l
ahead_of_hart h e f x y (inr both) = omega arith

rises_of_hart : (h : ℕ) (es : List LoggedSegment) → AllByRecursion (λ e. e.hart ≡ h) es → Rises Ahead es → Rises Earlier es
rises_of_hart h [] shared r = tt
rises_of_hart h (e ∷ es) shared r = (each_from (Earlier e) es (λ f i. ahead_of_hart h e f shared.0 (each_in (λ (x : LoggedSegment). x.hart ≡ h) es f shared.1 i) (each_in (Ahead e) es f r.0 i)), rises_of_hart h es shared.1 r.1)

harts_are : (logs : ℕ → List LoggedSegment) (es : List LoggedSegment) (h : ℕ) → AllByRecursion (λ e. e.hart ≡ h) (logs h) → Rises Earlier (logs h) → IsMerged logs es → segments_of_hart h es ≡ logs h
harts_are logs es h own rise merged =
    let p : LoggedSegment → Bool = λ e. e.hart == h in
    let mine : (e : LoggedSegment) → In e (filter p es) → e.hart ≡ h = λ e i. eqb-true e.hart h (filter_in p es e i).1 in
    of_hart_filter h es
    ∙ rises_same Earlier earlier_once (filter p es) (logs h)
    (rises_of_hart h (filter p es) (each_from (λ (e : LoggedSegment). e.hart ≡ h) (filter p es) mine) (filter_rises Ahead p es merged.order))
    rise
    (λ e i. subst (λ (k : ℕ). In e (logs k)) (mine e i) (merged.taken e (filter_in p es e i).0))
    (λ e i. in_filter p es e (merged.complete h e i) (eq-eqb e.hart h (each_in (λ (x : LoggedSegment). x.hart ≡ h) (logs h) e own i)))

-- what a segment logs
record IsShaped (e : LoggedSegment) : Type 0 where
  signed : AllByRecursion (λ a. (a.stamp ≡ e.stamp) × (a.hart ≡ e.hart)) e.accesses
  order : Rises Before e.accesses

not_code : (act : Act) (ok : Bool) → is_code_read (kind_of act ok) ≡ false
not_code Reads ok = refl
not_code Writes ok = refl
not_code Reserves ok = refl
not_code Tries true = refl
not_code Tries false = refl

abbrev Signed : LoggedSegment → List LoggedAccess → Type 0
Signed e xs = AllByRecursion (λ a. (a.stamp ≡ e.stamp) × (a.hart ≡ e.hart)) xs × Rises Before xs

shape_by : {H : Type 0} (T : StepTable H) (e : LoggedSegment) (s : HartSlot H) (need : Option ℕ) (n c : WordBytes) (cm : Bool) (p : Option Touch) (v : WordBytes) (m : Bool) → Signed e (code_reads e need c cm ++ data_accesses T e s n p v m)
shape_by T e s None n c cm None v m = (tt, tt)
shape_by T e s None n c cm (Some t) v m = (((refl, refl), tt), (tt, tt))
shape_by T e s (Some x) n c cm None v m = (((refl, refl), tt), (tt, tt))
shape_by T e s (Some x) n c cm (Some t) v m = (((refl, refl), ((refl, refl), tt)), ((inr (refl, refl, refl, not_code t.act _), tt), (tt, tt)))

shaped : {H : Type 0} (T : StepTable H) (s s' : HartSlot H) (es : List LoggedSegment) → Walks T s es s' → AllByRecursion IsShaped es
shaped T s s' [] w = tt
shaped {H} T s s' (e ∷ es) w =
    let st = w.1.steps in
    let t : HartSlot H = record { hart = w.1.reached; named = s.named } in
    let is : Signed e e.accesses = subst (λ (l : List LoggedAccess). Signed e l) (sym st.logs) (shape_by T e t (T.need t.hart) (answered T t st.code) st.code st.code_mark (T.plan t.hart (answered T t st.code)) st.value st.mark) in
    (record { signed = is.0; order = is.1 }, shaped T w.0 s' es w.2)

in_accesses : (es : List LoggedSegment) (a : LoggedAccess) → In a (accesses es) → (e : LoggedSegment) × In e es × In a e.accesses
in_accesses [] a i = absurd i
in_accesses (e ∷ es) a i = ⊎_elim (λ (j : In a e.accesses). (e, inl refl, j)) (λ (j : In a (accesses es)). let f = in_accesses es a j in (f.0, inr f.1, f.2)) (in_either e.accesses (accesses es) a i)

accesses_in : (es : List LoggedSegment) (a : LoggedAccess) (e : LoggedSegment) → In e es → In a e.accesses → In a (accesses es)
accesses_in [] a e i j = absurd i
accesses_in (f ∷ es) a e (inl k) j = in_left f.accesses (accesses es) a (subst (λ (x : LoggedSegment). In a x.accesses) k j)
accesses_in (f ∷ es) a e (inr i) j = in_right f.accesses (accesses es) a (accesses_in es a e i j)

before_once : (a c : LoggedAccess) → Before a c → Before c a → ⊥
before_once a c (inl x) (inl y) = omega arith
before_once a c (inl x) (inr y) = omega arith
before_once a c (inr x) (inl y) = omega arith
before_once a c (inr x) (inr y) = cc (x.2, y.3)

-- two segments of one stamp share no bank
apart : (bank : List LoggedAccess) (e f : LoggedSegment) (a c : LoggedAccess) → Rises Before bank → In a bank → In c bank → Ahead e f → a.stamp ≡ e.stamp → a.hart ≡ e.hart → c.stamp ≡ f.stamp → c.hart ≡ f.hart → Before a c
apart bank e f a c r i j (inl l) sa ha sc hc = inl (omega (arith, l, sa, sc))
apart bank e f a c r i j (inr both) sa ha sc hc =
    ⊎_elim
    (λ (same : a ≡ c). absurd (no_same same))
    (λ (o : Before a c ⊎ Before c a). ⊎_elim (λ (x : Before a c). x) (λ (x : Before c a). absurd (no_later x)) o)
    (two_in Before bank a c r i j)
  where
    no_same : a ≡ c → ⊥
    no_same same = let k : a.hart ≡ c.hart = ap (λ (x : LoggedAccess). x.hart) same in omega (arith, k, ha, hc, both.1)

    no_later : Before c a → ⊥
    no_later (inl x) = omega (arith, x, sa, sc, both.0)
    no_later (inr x) = omega (arith, x.1, ha, hc, both.1)

bank_rises : (bank_of : ℕ → ℕ) (b : ℕ) (bank : List LoggedAccess) (es : List LoggedSegment) → Rises Before bank → Rises Ahead es → AllByRecursion IsShaped es → ((a : LoggedAccess) → In a (share_of bank_of b (accesses es)) → In a bank) → Rises Before (share_of bank_of b (accesses es))
bank_rises bank_of b bank [] r ahead shapes ins = tt
bank_rises bank_of b bank (e ∷ es) r ahead shapes ins =
    let p : LoggedAccess → Bool = λ a. bank_of a.word == b in
    let parts = filter-append p e.accesses (accesses es) in
    let ins' : (a : LoggedAccess) → In a (filter p e.accesses ++ filter p (accesses es)) → In a bank = λ a i. ins a (subst (λ (l : List LoggedAccess). In a l) (sym parts) i) in
    subst (Rises Before) (sym parts)
    (rises_append Before (filter p e.accesses) (filter p (accesses es))
    (filter_rises Before p e.accesses shapes.0.order)
    (bank_rises bank_of b bank es r ahead.1 shapes.1 (λ a i. ins' a (in_right (filter p e.accesses) (filter p (accesses es)) a i)))
    (λ a c i j.
    let f = in_accesses es c (filter_in p (accesses es) c j).0 in
    let sa = each_in (λ (x : LoggedAccess). (x.stamp ≡ e.stamp) × (x.hart ≡ e.hart)) e.accesses a shapes.0.signed (filter_in p e.accesses a i).0 in
    let sc = each_in (λ (x : LoggedAccess). (x.stamp ≡ f.0.stamp) × (x.hart ≡ f.0.hart)) f.0.accesses c (each_in IsShaped es f.0 shapes.1 f.1).signed f.2 in
    apart bank e f.0 a c r (ins' a (in_left (filter p e.accesses) (filter p (accesses es)) a i)) (ins' c (in_right (filter p e.accesses) (filter p (accesses es)) c j)) (each_in (Ahead e) es f.0 ahead.0 f.1) sa.0 sa.1 sc.0 sc.1))

pub logs_merge : {H : Type 0} (bank_of : ℕ → ℕ) (T : StepTable H) (w : TableWorld H) (slots slots' : ℕ → HartSlot H) (start : ℕ → BankState) (logs : ℕ → List LoggedSegment) (banks : ℕ → List LoggedAccess) (es : List LoggedSegment) → AreLogs bank_of T slots slots' start logs banks → ((h : ℕ) → Rises Earlier (logs h)) → IsMatched bank_of logs banks → IsMerged logs es → TellsWorld bank_of w slots start → TellsWorld bank_of (table_run T w (segment_turns es)) slots' (λ b. after_log (start b) (banks b))
logs_merge {H} bank_of T w slots slots' start logs banks es are rise matched merged tells =
    let harts : (h : ℕ) → segments_of_hart h es ≡ logs h = λ h. harts_are logs es h (are.own h) (rise h) merged in
    let shapes : AllByRecursion IsShaped es = each_from IsShaped es (λ e i. each_in IsShaped (logs e.hart) e (shaped T (slots e.hart) (slots' e.hart) (logs e.hart) (are.walks e.hart)) (merged.taken e i)) in
    let mine : (b : ℕ) (a : LoggedAccess) → In a (share_of bank_of b (accesses es)) → In a (banks b) = λ b a i.
    let both = filter_in (λ (x : LoggedAccess). bank_of x.word == b) (accesses es) a i in
    let e = in_accesses es a both.0 in
    subst (λ (k : ℕ). In a (banks k)) (eqb-true (bank_of a.word) b both.1) (matched.in_bank e.0.hart a (accesses_in (logs e.0.hart) a e.0 (merged.taken e.0 e.1) e.2)) in
    let theirs : (b : ℕ) (a : LoggedAccess) → In a (banks b) → In a (share_of bank_of b (accesses es)) = λ b a i.
    let log = matched.in_log b a i in
    let e = in_accesses (logs log.0) a log.1 in
    in_filter (λ (x : LoggedAccess). bank_of x.word == b) (accesses es) a (accesses_in es a e.0 (merged.complete log.0 e.0 e.1) e.2) (eq-eqb (bank_of a.word) b (each_in (λ (x : LoggedAccess). bank_of x.word ≡ b) (banks b) a (are.of_bank b) i)) in
    let bank : (b : ℕ) → share_of bank_of b (accesses es) ≡ banks b = λ b.
    rises_same Before before_once (share_of bank_of b (accesses es)) (banks b) (bank_rises bank_of b (banks b) es (are.order b) merged.order shapes (mine b)) (are.order b) (mine b) (theirs b) in
    subst (λ (f : ℕ → BankState). TellsWorld bank_of (table_run T w (segment_turns es)) slots' f) (fun_ext (λ b. ap (λ (l : List LoggedAccess). after_log (start b) l) (bank b)))
    (segments_run bank_of T es w slots slots' start tells
    (λ h. subst (λ (l : List LoggedSegment). Walks T (slots h) l (slots' h)) (sym (harts h)) (are.walks h))
    (λ b. subst (λ (l : List LoggedAccess). IsLogged (start b) l) (sym (bank b)) (are.logged b)))

ahead_once : (e f : LoggedSegment) → Ahead e f → Ahead f e → ⊥
ahead_once e f (inl x) (inl y) = omega (arith, x, y)
ahead_once e f (inl x) (inr y) = omega (arith, x, y.0)
ahead_once e f (inr x) (inl y) = omega (arith, x.0, y)
ahead_once e f (inr x) (inr y) = omega (arith, x.1, y.1)

-- two merged lists are one
pub merged_once : (logs : ℕ → List LoggedSegment) (es fs : List LoggedSegment) → IsMerged logs es → IsMerged logs fs → es ≡ fs
merged_once logs es fs m n =
    rises_same Ahead ahead_once es fs m.order n.order
    (λ e i. n.complete e.hart e (m.taken e i))
    (λ e i. m.complete e.hart e (n.taken e i))

-- accesses of different harts in one bank's log have different stamps
stamps_apart : (bank : List LoggedAccess) (a c : LoggedAccess) → Rises Before bank → In a bank → In c bank → a.stamp ≡ c.stamp → (a.hart ≡ c.hart → ⊥) → ⊥
stamps_apart bank a c r i j stamps harts =
    ⊎_elim
    (λ (same : a ≡ c). harts (ap (λ (x : LoggedAccess). x.hart) same))
    (λ (o : Before a c ⊎ Before c a). ⊎_elim (λ (x : Before a c). not_before a c x stamps harts) (λ (x : Before c a). not_before c a x (sym stamps) (λ e. harts (sym e))) o)
    (two_in Before bank a c r i j)
  where
    not_before : (x y : LoggedAccess) → Before x y → x.stamp ≡ y.stamp → (x.hart ≡ y.hart → ⊥) → ⊥
    not_before x y (inl l) s n = omega (arith, l, s)
    not_before x y (inr b) s n = n b.1

pub stamps_share_no_bank : {H : Type 0} (bank_of : ℕ → ℕ) (T : StepTable H) (slots ends : ℕ → HartSlot H) (start : ℕ → BankState) (logs : ℕ → List LoggedSegment) (banks : ℕ → List LoggedAccess) → AreLogs bank_of T slots ends start logs banks → IsMatched bank_of logs banks → (e f : LoggedSegment) (h k : ℕ) → In e (logs h) → In f (logs k) → e.stamp ≡ f.stamp → (h ≡ k → ⊥) → (a c : LoggedAccess) → In a e.accesses → In c f.accesses → bank_of a.word ≡ bank_of c.word → ⊥
stamps_share_no_bank {H} bank_of T slots ends start logs banks are matched e f h k ie jf stamps harts a c ia jc same =
    let shape : (n : ℕ) (s : LoggedSegment) → In s (logs n) → IsShaped s = λ n s i. each_in IsShaped (logs n) s (shaped T (slots n) (ends n) (logs n) (are.walks n)) i in
    let signed : (n : ℕ) (s : LoggedSegment) (x : LoggedAccess) → In s (logs n) → In x s.accesses → (x.stamp ≡ s.stamp) × (x.hart ≡ s.hart) = λ n s x i j. each_in (λ (y : LoggedAccess). (y.stamp ≡ s.stamp) × (y.hart ≡ s.hart)) s.accesses x (shape n s i).signed j in
    let owned : (n : ℕ) (s : LoggedSegment) → In s (logs n) → s.hart ≡ n = λ n s i. each_in (λ (y : LoggedSegment). y.hart ≡ n) (logs n) s (are.own n) i in
    let sa = signed h e a ie ia in
    let sc = signed k f c jf jc in
    stamps_apart (banks (bank_of a.word)) a c (are.order (bank_of a.word))
    (matched.in_bank h a (accesses_in (logs h) a e ie ia))
    (subst (λ (b : ℕ). In c (banks b)) (sym same) (matched.in_bank k c (accesses_in (logs k) c f jf jc)))
    (sa.0 ∙ stamps ∙ sym sc.0)
    (λ q. harts (sym (owned h e ie) ∙ sym sa.1 ∙ q ∙ sc.1 ∙ owned k f jf))
