-- A run fails in the way that is returned.
use Rattle.std.proofs.Common.{◌≡◌, ℕ, suc, ◌+◌, Bool, true, false, cond, List, [], ◌∷◌, length}
use Rattle.std.proofs.Common.{Option, Some, None, refl, sym, subst, ◌∙◌, arith}
use Rattle.std.specs.List.{slice_get}
use Rattle.image.specs.Image.{ImageValue}
use Rattle.hart_step.specs.Hart.{HartValue}
use Rattle.hart_step.specs.declared.hart.Cause.{Cause}
use Rattle.hart_step.specs.declared.hart.HartState.{HartState}
use Rattle.hart_step.specs.declared.hart.HartState.TheVariants.{Running, Exited, Faulted}
use Rattle.machine.specs.declared.choice.Choice.{Choice}
use Rattle.object_library.specs.declared.kind.Kind.{Kind}
use Rattle.object_library.specs.declared.verdict.Verdict.{Verdict}
use Rattle.object_library.specs.declared.verdict.Verdict.TheVariants as verdict
use Rattle.object_library.specs.Judging.{verdict_of}
use Rattle.outcome.specs.Expect.{hangs}
use Rattle.outcome.specs.declared.expect.Exit.{Exit}
use Rattle.outcome.specs.declared.expect.Exit.TheVariants.{May, Must}
use Rattle.outcome.specs.declared.expect.Expect.{Expect}
use Rattle.property_judge.specs.declared.property.Property.{Property}
use Rattle.run_hangs.specs.Hanging.{hangs_after, steps_for}
use Rattle.cmd_shrink.specs.Failure.{RunFailsSo, or_failure, lowest_fault, breaks_property, broken_property, failure_after, failure_by, failure_of, failure_or, failure_otherwise, harts_after, property_or}
use Rattle.cmd_shrink.specs.declared.failure.Failure.{Failure}
use Rattle.cmd_shrink.specs.declared.failure.Failure.TheVariants as failure

-- a failure is the fault of a hart, of harts that are numbered from a number on
record IsFault (n : ℕ) (harts : List HartValue) (how : Failure) : Type 0 where
  index : ℕ
  number : ℕ
  hart : HartValue
  cause : Cause
  numbered : number ≡ n + index
  is : how ≡ failure.Faulted number cause hart.pc
  here : slice_get harts index ≡ Some hart
  faulted : hart.state ≡ Faulted cause

later : (n : ℕ) (h : HartValue) (harts : List HartValue) (how : Failure) → IsFault (n + 1) harts how → IsFault n (h ∷ harts) how
later n h harts how f = record {
  index = suc f.index;
  number = f.number;
  hart = f.hart;
  cause = f.cause;
  numbered = omega (arith, f.numbered);
  is = f.is;
  here = f.here;
  faulted = f.faulted;
}

fault_first : (n : ℕ) (h : HartValue) (harts : List HartValue) (how : Failure) (s : HartState) → h.state ≡ s
    → (lowest_fault (n + 1) harts ≡ Some how → IsFault (n + 1) harts how) → or_failure (lowest_fault (n + 1) harts) n h.pc s ≡ Some how
    → IsFault n (h ∷ harts) how
fault_first n h harts how Running is others e = later n h harts how (others e)
fault_first n h harts how (Exited status) is others e = later n h harts how (others e)
fault_first n h harts how (Faulted cause) is others e = record {
  index = 0;
  number = n;
  hart = h;
  cause = cause;
  numbered = omega arith;
  is = cc;
  here = refl;
  faulted = is;
}

fault_found : (n : ℕ) (harts : List HartValue) (how : Failure) → lowest_fault n harts ≡ Some how → IsFault n harts how
fault_found n [] how e = absurd (cc)
fault_found n (h ∷ harts) how e = fault_first n h harts how h.state refl (fault_found (n + 1) harts how) e

module _ (image : ImageValue) (inputs : List ℕ) (choices : List Choice) (how : Failure) where
  fails_by_fault : IsFault 0 (harts_after image inputs choices) how → RunFailsSo how image inputs choices
  fails_by_fault f =
      let e : f.index ≡ f.number = omega (arith, f.numbered) in
      subst (λ x. RunFailsSo x image inputs choices) (sym f.is)
      (f.hart, subst (λ k. slice_get (harts_after image inputs choices) k ≡ Some f.hart) e f.here, (f.faulted, refl))

  fails_by_verdict : (kind : Kind) (v : Verdict) → verdict_of kind inputs choices (harts_after image inputs choices) ≡ v
      → failure_by kind v ≡ Some how → RunFailsSo how image inputs choices
  fails_by_verdict kind verdict.Kept is e = absurd (cc)
  fails_by_verdict kind verdict.Broken is e =
      let same : failure.Broken kind ≡ how = cc in
      subst (λ x. RunFailsSo x image inputs choices) same is

  fails_at_end : (rule : Option Kind) → failure_of rule inputs choices (harts_after image inputs choices) ≡ Some how
      → RunFailsSo how image inputs choices
  fails_at_end None e = fails_by_fault (fault_found 0 (harts_after image inputs choices) how e)
  fails_at_end (Some kind) e = fails_by_verdict kind (verdict_of kind inputs choices (harts_after image inputs choices)) refl e

  fails_by_hang : (exit : Exit) (b : Bool) → hangs_after (steps_for (length choices)) image inputs choices ≡ b
      → cond (hangs exit b) (Some (failure.Hangs (steps_for (length choices)))) None ≡ Some how → RunFailsSo how image inputs choices
  fails_by_hang May b is e = absurd (cc)
  fails_by_hang Must false is e = absurd (cc)
  fails_by_hang Must true is e =
      let same : failure.Hangs (steps_for (length choices)) ≡ how = cc in
      subst (λ x. RunFailsSo x image inputs choices) same is

  by_failure : (expect : Expect) (f : Option Failure) → failure_of expect.rule inputs choices (harts_after image inputs choices) ≡ f
      → failure_or expect.exit (steps_for (length choices)) (hangs_after (steps_for (length choices)) image inputs choices) f ≡ Some how
      → RunFailsSo how image inputs choices
  by_failure expect (Some f) is e =
      let same : failure_of expect.rule inputs choices (harts_after image inputs choices) ≡ Some how = is ∙ e in
      fails_at_end expect.rule same
  by_failure expect None is e = fails_by_hang expect.exit (hangs_after (steps_for (length choices)) image inputs choices) refl e

  fails_otherwise : (expect : Expect) → failure_otherwise expect image inputs choices ≡ Some how → RunFailsSo how image inputs choices
  fails_otherwise expect e =
      by_failure expect (failure_of expect.rule inputs choices (harts_after image inputs choices)) refl e

module _ (image : ImageValue) (inputs : List ℕ) (choices : List Choice) where
  broken_there : (properties : List Property) (property : Property) → broken_property properties image inputs choices ≡ Some property
      → breaks_property property image inputs choices ≡ true
  broken_there [] property e = absurd (cc)
  broken_there (first ∷ properties) property e = by (breaks_property first image inputs choices) refl (broken_there properties property) e
    where
      by : (b : Bool) → breaks_property first image inputs choices ≡ b
          → (broken_property properties image inputs choices ≡ Some property → breaks_property property image inputs choices ≡ true)
          → cond b (Some first) (broken_property properties image inputs choices) ≡ Some property
          → breaks_property property image inputs choices ≡ true
      by true is others e =
          let same : first ≡ property = cc in
          subst (λ p. breaks_property p image inputs choices ≡ true) same is
      by false is others e = others e

  by_property : (expect : Expect) (properties : List Property) (how : Failure) (broken : Option Property)
      → broken_property properties image inputs choices ≡ broken → property_or broken (failure_otherwise expect image inputs choices) ≡ Some how
      → RunFailsSo how image inputs choices
  by_property expect properties how (Some property) is e =
      let same : failure.BrokenProperty property ≡ how = cc in
      subst (λ x. RunFailsSo x image inputs choices) same (broken_there properties property is)
  by_property expect properties how None is e = fails_otherwise image inputs choices how expect e

pub fails_so : (expect : Expect) (properties : List Property) (image : ImageValue) (inputs : List ℕ) (choices : List Choice) (how : Failure)
    → failure_after expect properties image inputs choices ≡ Some how → RunFailsSo how image inputs choices
fails_so expect properties image inputs choices how e =
    by_property image inputs choices expect properties how (broken_property properties image inputs choices) refl e
