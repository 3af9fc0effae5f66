-- Endings, compared as the code does it.
use Rattle.std.proofs.Common.{◌≡◌, Bool, true, false, ◌&&◌, ◌==◌, Option, Some, None, refl, ap, ap₂, ◌∙◌}
use Rattle.std.specs.Bool.{beq}
use Rattle.std.specs.Option.{option_eq}
use Rattle.std.specs.Str.{bytes_eq}
use Rattle.object_library.specs.declared.verdict.Verdict.{Verdict}
use Rattle.object_library.specs.declared.verdict.Verdict.TheVariants.{Kept, Broken}
use Rattle.campaign_runs.specs.Ending.{EndingValue, same_ending, same_hang, same_verdict}

hangs_agree : (a b : Option Bool) → option_eq beq a b ≡ same_hang a b
hangs_agree None None = refl
hangs_agree None (Some true) = refl
hangs_agree None (Some false) = refl
hangs_agree (Some true) None = refl
hangs_agree (Some false) None = refl
hangs_agree (Some true) (Some true) = refl
hangs_agree (Some true) (Some false) = refl
hangs_agree (Some false) (Some true) = refl
hangs_agree (Some false) (Some false) = refl

and_assoc : (a b c : Bool) → (a && (b && c)) ≡ ((a && b) && c)
and_assoc true b c = refl
and_assoc false b c = refl

-- an equality of verdicts
module _ (eq : Verdict → Verdict → Bool) (kept : eq Kept Kept ≡ true) (first : eq Kept Broken ≡ false) (second : eq Broken Kept ≡ false)
    (broken : eq Broken Broken ≡ true) where
  verdicts_agree : (a b : Option Verdict) → option_eq eq a b ≡ same_verdict a b
  verdicts_agree None None = refl
  verdicts_agree None (Some Kept) = refl
  verdicts_agree None (Some Broken) = refl
  verdicts_agree (Some Kept) None = refl
  verdicts_agree (Some Broken) None = refl
  verdicts_agree (Some Kept) (Some Kept) = kept
  verdicts_agree (Some Kept) (Some Broken) = first
  verdicts_agree (Some Broken) (Some Kept) = second
  verdicts_agree (Some Broken) (Some Broken) = broken

  -- the parts of endings, one after another
  parts_agree : (e f r v p h w vs ps hs : Bool) → v ≡ vs → p ≡ ps → h ≡ hs
      → ((e && (f && (r && v))) && (p && (h && w))) ≡ ((((((e && f) && r) && vs) && ps) && hs) && w)
  parts_agree e f r v p h w vs ps hs ve pe he =
      ap₂ (λ x y. (e && (f && (r && x))) && y) ve (ap₂ (λ x y. x && (y && w)) pe he)
      ∙ ap (λ x. x && (ps && (hs && w))) (and_assoc e f (r && vs) ∙ and_assoc (e && f) r vs)
      ∙ and_assoc (((e && f) && r) && vs) ps (hs && w) ∙ and_assoc ((((e && f) && r) && vs) && ps) hs w

  pub endings_agree : (a b : EndingValue)
      → (((a.outcome.exited == b.outcome.exited) && ((a.outcome.faulted == b.outcome.faulted) && ((a.outcome.running == b.outcome.running) && option_eq eq a.outcome.verdict b.outcome.verdict)))
      && (option_eq eq a.properties b.properties && (option_eq beq a.hangs b.hangs && bytes_eq a.words b.words))) ≡ same_ending a b
  endings_agree a b =
      parts_agree (a.outcome.exited == b.outcome.exited) (a.outcome.faulted == b.outcome.faulted) (a.outcome.running == b.outcome.running)
      (option_eq eq a.outcome.verdict b.outcome.verdict) (option_eq eq a.properties b.properties) (option_eq beq a.hangs b.hangs)
      (bytes_eq a.words b.words) (same_verdict a.outcome.verdict b.outcome.verdict) (same_verdict a.properties b.properties) (same_hang a.hangs b.hangs)
      (verdicts_agree a.outcome.verdict b.outcome.verdict) (verdicts_agree a.properties b.properties) (hangs_agree a.hangs b.hangs)
