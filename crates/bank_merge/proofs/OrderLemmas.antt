-- Accesses that compare equal are the same.
use Rattle.std.proofs.Common.{◌≡◌, Bool, true, false, refl}
use Rattle.std.specs.declared.cmp.Ordering.{Ordering}
use Rattle.std.specs.declared.cmp.Ordering.TheVariants.{Less, Equal, Greater}
use Rattle.std.specs.Cmp.Lexicographic.{slice_cmp}
use Rattle.std.specs.Ordering.{nat_cmp, bool_cmp, ordering_then}
use Rattle.std.proofs.lemmas.Cmp.{tied_itself, nat_cmp_total, nat_list_cmp_total}
use Rattle.std.proofs.lemmas.Map.Lookups.{CmpEqualImpliesEq, exact_unsigned, exact_bytes}
use Rattle.bank_laws.specs.declared.access.LoggedAccess.{LoggedAccess}
use Rattle.bank_laws.specs.declared.access.LoggedKind.{LoggedKind}
use Rattle.bank_laws.specs.declared.access.LoggedKind.TheVariants.{CodeRead, Load, Store, LoadReserved, ConditionalStored, ConditionalFailed}
use Rattle.bank_laws.specs.contracts.access.LoggedKindOrd.TheImpl as kind_ord
use Rattle.bank_merge.specs.Matching.{access_cmp}

abbrev kind_cmp : LoggedKind → LoggedKind → Ordering
kind_cmp = (kind_ord.ghosts).cmp

both_equal : (x y : Ordering) → ordering_then x y ≡ Equal → (x ≡ Equal) × (y ≡ Equal)
both_equal Less y e = cc e
both_equal Equal y e = (refl, e)
both_equal Greater y e = cc e

exact_kind : (j k : LoggedKind) → kind_cmp j k ≡ Equal → j ≡ k
exact_kind CodeRead CodeRead e = refl
exact_kind CodeRead Load e = cc e
exact_kind CodeRead Store e = cc e
exact_kind CodeRead LoadReserved e = cc e
exact_kind CodeRead ConditionalStored e = cc e
exact_kind CodeRead ConditionalFailed e = cc e
exact_kind Load CodeRead e = cc e
exact_kind Load Load e = refl
exact_kind Load Store e = cc e
exact_kind Load LoadReserved e = cc e
exact_kind Load ConditionalStored e = cc e
exact_kind Load ConditionalFailed e = cc e
exact_kind Store CodeRead e = cc e
exact_kind Store Load e = cc e
exact_kind Store Store e = refl
exact_kind Store LoadReserved e = cc e
exact_kind Store ConditionalStored e = cc e
exact_kind Store ConditionalFailed e = cc e
exact_kind LoadReserved CodeRead e = cc e
exact_kind LoadReserved Load e = cc e
exact_kind LoadReserved Store e = cc e
exact_kind LoadReserved LoadReserved e = refl
exact_kind LoadReserved ConditionalStored e = cc e
exact_kind LoadReserved ConditionalFailed e = cc e
exact_kind ConditionalStored CodeRead e = cc e
exact_kind ConditionalStored Load e = cc e
exact_kind ConditionalStored Store e = cc e
exact_kind ConditionalStored LoadReserved e = cc e
exact_kind ConditionalStored ConditionalStored e = refl
exact_kind ConditionalStored ConditionalFailed e = cc e
exact_kind ConditionalFailed CodeRead e = cc e
exact_kind ConditionalFailed Load e = cc e
exact_kind ConditionalFailed Store e = cc e
exact_kind ConditionalFailed LoadReserved e = cc e
exact_kind ConditionalFailed ConditionalStored e = cc e
exact_kind ConditionalFailed ConditionalFailed e = refl

exact_bool : (x y : Bool) → bool_cmp x y ≡ Equal → x ≡ y
exact_bool true true e = refl
exact_bool true false e = cc e
exact_bool false true e = cc e
exact_bool false false e = refl

-- the parts are compared one after another
in_parts : (a b : LoggedAccess) → access_cmp a b ≡ ordering_then (nat_cmp a.stamp b.stamp) (ordering_then (nat_cmp a.hart b.hart)
    (ordering_then (kind_cmp a.kind b.kind) (ordering_then (nat_cmp a.word b.word)
    (ordering_then (slice_cmp nat_cmp a.before b.before) (ordering_then (slice_cmp nat_cmp a.after b.after) (bool_cmp a.mark b.mark))))))
in_parts a b = refl

pub exact : CmpEqualImpliesEq access_cmp
exact a b e =
    let p = both_equal (nat_cmp a.stamp b.stamp) _ e in
    let q = both_equal (nat_cmp a.hart b.hart) _ p.1 in
    let r = both_equal (kind_cmp a.kind b.kind) _ q.1 in
    let s = both_equal (nat_cmp a.word b.word) _ r.1 in
    let t = both_equal (slice_cmp nat_cmp a.before b.before) _ s.1 in
    let u = both_equal (slice_cmp nat_cmp a.after b.after) _ t.1 in
    let stamp = exact_unsigned a.stamp b.stamp p.0 in
    let hart = exact_unsigned a.hart b.hart q.0 in
    let kind = exact_kind a.kind b.kind r.0 in
    let word = exact_unsigned a.word b.word s.0 in
    let before = exact_bytes a.before b.before t.0 in
    let after = exact_bytes a.after b.after u.0 in
    let mark = exact_bool a.mark b.mark u.1 in
    λ i. record { stamp = stamp i; hart = hart i; kind = kind i; word = word i; before = before i; after = after i; mark = mark i }

then_equal : (x y : Ordering) → x ≡ Equal → y ≡ Equal → ordering_then x y ≡ Equal
then_equal Less y e f = cc e
then_equal Equal y e f = f
then_equal Greater y e f = cc e

tied_kind : (k : LoggedKind) → kind_cmp k k ≡ Equal
tied_kind CodeRead = refl
tied_kind Load = refl
tied_kind Store = refl
tied_kind LoadReserved = refl
tied_kind ConditionalStored = refl
tied_kind ConditionalFailed = refl

tied_bool : (b : Bool) → bool_cmp b b ≡ Equal
tied_bool true = refl
tied_bool false = refl

pub tied : (a : LoggedAccess) → access_cmp a a ≡ Equal
tied a =
    then_equal (nat_cmp a.stamp a.stamp) _ (tied_itself nat_cmp_total a.stamp)
    (then_equal (nat_cmp a.hart a.hart) _ (tied_itself nat_cmp_total a.hart)
    (then_equal (kind_cmp a.kind a.kind) _ (tied_kind a.kind)
    (then_equal (nat_cmp a.word a.word) _ (tied_itself nat_cmp_total a.word)
    (then_equal (slice_cmp nat_cmp a.before a.before) _ (tied_itself nat_list_cmp_total a.before)
    (then_equal (slice_cmp nat_cmp a.after a.after) _ (tied_itself nat_list_cmp_total a.after) (tied_bool a.mark))))))
