use Rattle.std.proofs.Common.{◌++◌, Bool, List, ap, sym, subst}
use Rattle.std.specs.Prelude.{option_to_list}
use Rattle.bank_laws.specs.declared.access.LoggedAccess.{LoggedAccess}
use Rattle.bank_laws.specs.Segments.{LoggedSegment}
use Rattle.bank_merge.specs.AccessOrder.{bank_logs, Passes}
use Rattle.bank_merge.proofs.PlaceLemmas.{both, not_first}
use Rattle.bank_merge.proofs.places.pass_segment.Goals as goal

pub returns-then-pass_if : goal.returns-then-pass_if
returns-then-pass_if g c =
    let banks = bank_logs c.args.banks.now in
    let h = c.args.hart in
    let old = c.args.places.now in
    let mid = c.pass_if.new.places in
    let new = c.pass_if-then-pass_if.new.places in
    let code = option_to_list c.segment.inside.code_read in
    let touch = option_to_list c.segment.inside.data_access in
    subst (λ (xs : List LoggedAccess). Passes banks h old new xs c.pass_if-then-pass_if.result) (ap (λ (s : LoggedSegment). s.accesses) c.segment.view_is)
    (both banks h old mid new code touch c.pass_if-then-pass_if.result
    (subst (λ (b : Bool). Passes banks h old mid code b) c.if-pass_if.true c.pass_if.ensures) c.pass_if-then-pass_if.ensures)

pub returns-else-pass_if : goal.returns-else-pass_if
returns-else-pass_if g c =
    let banks = bank_logs c.args.banks.now in
    let h = c.args.hart in
    let old = c.args.places.now in
    let mid = c.pass_if.new.places in
    let code = option_to_list c.segment.inside.code_read in
    let touch = option_to_list c.segment.inside.data_access in
    subst (λ (xs : List LoggedAccess). Passes banks h old mid xs c.pass_if.result) (ap (λ (s : LoggedSegment). s.accesses) c.segment.view_is)
    (subst (λ (b : Bool). Passes banks h old mid (code ++ touch) b) (sym c.if-pass_if.false)
    (not_first banks h old mid code touch (subst (λ (b : Bool). Passes banks h old mid code b) c.if-pass_if.false c.pass_if.ensures)))
