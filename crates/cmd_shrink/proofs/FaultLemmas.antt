-- Whether a hart at an index has faulted.
use Rattle.std.proofs.Common.{◌≡◌, ℕ, ◌<◌, ◌≤◌, List, length, get_or, map, option_map, Some, None, refl, sym, subst, ap, ◌∙◌}
use Rattle.std.proofs.lemmas.Option.{slice_get-map, slice_get_read, slice_get_past}
use Rattle.std.specs.List.{slice_get}
use Rattle.hart_step.specs.Hart.{hart_of}
use Rattle.hart_step.specs.declared.hart.Cause.{Cause}
use Rattle.hart_step.specs.declared.hart.Hart.{Hart}
use Rattle.cmd_shrink.specs.Failure.{HasFaulted, HasFaultedAt}

module _ (number : ℕ) (cause : Cause) (pc : ℕ) (harts : List Hart) where
  -- what is looked up among the harts
  looked_up : (hart : Hart) → number < length harts → hart ≡ get_or harts number hart → slice_get (map hart_of harts) number ≡ Some (hart_of hart)
  looked_up hart there read =
      slice_get-map hart_of harts number ∙ ap (option_map hart_of) (slice_get_read harts (length harts) number hart refl there read)

  pub fault_there : (hart : Hart) → number < length harts → hart ≡ get_or harts number hart → HasFaulted (hart_of hart) cause pc
      → HasFaultedAt number cause pc (map hart_of harts)
  fault_there hart there read faulted = (hart_of hart, looked_up hart there read, faulted)

  pub no_fault : (hart : Hart) → number < length harts → hart ≡ get_or harts number hart → (HasFaulted (hart_of hart) cause pc → ⊥)
      → HasFaultedAt number cause pc (map hart_of harts) → ⊥
  no_fault hart there read not (h, at, faulted) =
      let same = sym at ∙ looked_up hart there read in
      let e : h ≡ hart_of hart = cc in
      not (subst (λ v. HasFaulted v cause pc) e faulted)

  pub nobody : length harts ≤ number → HasFaultedAt number cause pc (map hart_of harts) → ⊥
  nobody past (h, at, faulted) =
      let e = sym at ∙ slice_get-map hart_of harts number ∙ ap (option_map hart_of) (slice_get_past harts number past) in
      let differs : Some h ≡ None = e in
      absurd (cc)
