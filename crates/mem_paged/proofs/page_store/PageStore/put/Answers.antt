use Rattle.std.proofs.Common.{rules, ◌∙◌, sym, refl, arith}
use Rattle.mem_paged.proofs.StoreLemmas.{may_store, after_store, after_refusal}
use Rattle.mem_paged.proofs.CodeLemmas.{code_after}
use Rattle.mem_paged.proofs.page_store.PageStore.put.Goals as goal

pub returns-then-not-grants : goal.returns-then-not-grants
returns-then-not-grants g c = (
  (
    c.requires,
    sym (may_store c.args.self.now c.args.address c.in-Some.place _ c.deref.ensures c.in-Some.ensures.value c.in-Some.ensures.inside c.args.number _ _ _ _
        c.requires c.width.ensures c.deref-2.ensures c.index.ensures c.grants.ensures) ∙ c.if-not-grants.true,
  ),
  refl,
)

pub returns-in-Ok : goal.returns-in-Ok
returns-in-Ok g c = (
  c.requires,
  sym (may_store c.args.self.now c.args.address c.in-Some.place _ c.deref.ensures c.in-Some.ensures.value c.in-Some.ensures.inside c.args.number _ _ _ _
      c.requires c.width.ensures c.deref-2.ensures c.index.ensures c.grants.ensures) ∙ c.if-not-grants.false,
  after_store c.args.self.now c.args.address c.in-Some.place _ c.deref.ensures c.in-Some.ensures.value c.in-Some.ensures.inside c.args.number _
      c.requires c.in-Ok.ensures.writes,
)

pub returns-in-Err : goal.returns-in-Err
returns-in-Err g c = (
  (
    c.requires,
    sym (may_store c.args.self.now c.args.address c.in-Some.place _ c.deref.ensures c.in-Some.ensures.value c.in-Some.ensures.inside c.args.number _ _ _ _
        c.requires c.width.ensures c.deref-2.ensures c.index.ensures c.grants.ensures) ∙ c.if-not-grants.false,
    search rules,
  ),
  after_refusal c.args.self.now c.args.address c.in-Some.place _ c.deref.ensures c.in-Some.ensures.value c.in-Some.ensures.inside _ c.in-Err.ensures.writes,
)

pub invariant_of-self : goal.invariant_of-self
invariant_of-self g c = record {
  covered = omega (arith, c.write.ensures.count, c.args.self.now.covered);
  code_is = code_after c.args.self.now c.args.self.now.code.value c.args.address c.in-Some.place _ c.args.number _ _
      c.deref.ensures c.in-Some.ensures.value c.in-Some.ensures.inside c.requires
      (sym (may_store c.args.self.now c.args.address c.in-Some.place _ c.deref.ensures c.in-Some.ensures.value c.in-Some.ensures.inside c.args.number _ _ _ _
      c.requires c.width.ensures c.deref-2.ensures c.index.ensures c.grants.ensures) ∙ c.if-not-grants.false)
      c.write.ensures.writes c.args.self.now.code_is;
}
