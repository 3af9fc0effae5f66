-- How a run is opened, once its program, its inputs and its choice text were read.
use Rattle.std.proofs.Common.{◌≡◌, ℕ, ◌<◌, ◌≤◌, Bool, cond, ltb, List, ◌++◌, append-nil, Option, Some, None, IfSome, Ok, Err, arith, ne_eqb, le-ltb, ap, ◌∙◌}
use Rattle.std.specs.Io.KnownBytes.{Consumes, IsAtEnd}
use Rattle.hart_reservations.specs.Limit.{most_harts}
use Rattle.sched_text.specs.Reading.{choices_read}
use Rattle.image.specs.Image.{ImageValue}
use Rattle.program_open.specs.Opening.{Opened, after_program, opening, with_choices}
use Rattle.program_open.specs.Program.{program_of}
use Rattle.program_open.specs.declared.program.ProgramForm.{ProgramForm}
use Rattle.program_open.specs.declared.command_fault.CommandFault.TheVariants as fault

-- what follows a program that loads and a number of harts that a machine has
goes_on : (harts : ℕ) (next : ImageValue → Opened) (image : ImageValue) → 0 < harts → harts ≤ most_harts
    → after_program harts next (Ok image) ≡ next image
goes_on harts next image some few =
    ap by_none (ne_eqb harts 0 (λ none. omega (arith, some, none))) ∙ ap by_many (le-ltb most_harts harts few)
  where
    by_many : Bool → Opened
    by_many many = cond many (Err fault.TooManyHarts) (next image)

    by_none : Bool → Opened
    by_none none = cond none (Err fault.NoHarts) (by_many (ltb most_harts harts))

-- a run is opened by a program that loads, a number of harts that a machine has and the bytes of a
-- choice text
pub text_opens : (form : ProgramForm) (harts : ℕ) (image : ImageValue) (file text after : Option (List ℕ)) (bytes : List ℕ)
    → IfSome file (λ p. program_of form p ≡ Ok image) → 0 < harts → harts ≤ most_harts
    → Consumes text after bytes → IsAtEnd after
    → IfSome file (λ p. IfSome text (λ t. opening form harts p t ≡ with_choices image (choices_read harts bytes)))
unfolding opening
text_opens form harts image None text after bytes loads some few took end = tt
text_opens form harts image (Some p) None after bytes loads some few took end = tt
text_opens form harts image (Some p) (Some t) None bytes loads some few took end = absurd took
text_opens form harts image (Some p) (Some t) (Some rest) bytes loads some few took end =
    let whole : t ≡ bytes = took ∙ ap (λ r. bytes ++ r) end ∙ append-nil bytes in
    ap (after_program harts next) loads ∙ goes_on harts next image some few
    ∙ ap (λ xs. with_choices image (choices_read harts xs)) whole
  where
    next : ImageValue → Opened
    next i = with_choices i (choices_read harts t)
