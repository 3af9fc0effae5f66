-- What is sent in the session that was begun.
use Rattle.std.proofs.Common.{◌≡◌, ℕ, List, Option, IfSome, Ok, length, subst, ◌∙◌}
use Rattle.image.specs.Image.{ImageValue}
use Rattle.machine.specs.declared.choice.Choice.{Choice}
use Rattle.debug_session.specs.Session.{Session}
use Rattle.program_open.specs.Opening.{opening}
use Rattle.program_open.specs.declared.program.ProgramForm.TheVariants as form
use Rattle.cmd_debug.specs.Opening.{first_session, opened}
use Rattle.cmd_debug.proofs.OpeningLemmas.{in_session, same_inputs}
use Rattle.gdb_frames.specs.Items.{frames_of}
use Rattle.cmd_gdb.specs.Opening.{first_standing, BeginsOpened, ServesOpened}
use Rattle.cmd_gdb.specs.Serving.{BeginsServed, Served, ServerState}

module _ (inputs own : List ℕ) (image : ImageValue) (choices : List Choice) (s : Session)
    (w : ServerState) (file text packets k0 k1 : Option (List ℕ))
    (opens : IfSome file
    (λ p. IfSome text (λ t. opening form.Elf (length inputs) p t ≡ Ok (image, choices))))
    (begun : s ≡ first_session image own choices) (same : own ≡ inputs)
    (first : w ≡ first_standing s) where
  -- the whole
  pub served : IfSome packets (λ xs. Served w (frames_of xs) k0 k1)
      → IfSome file
      (λ p. IfSome text (λ t. IfSome packets (λ xs. ServesOpened (opened inputs p t) xs k0 k1)))
  served h =
      in_session (λ r xs. ServesOpened r xs k0 k1) inputs image choices s file text packets opens
      (begun ∙ same_inputs image own inputs choices same)
      (subst (λ v. IfSome packets (λ xs. Served v (frames_of xs) k0 k1)) first h)

  -- or a beginning
  pub begins : IfSome packets (λ xs. BeginsServed w (frames_of xs) k0 k1)
      → IfSome file
      (λ p. IfSome text (λ t. IfSome packets (λ xs. BeginsOpened (opened inputs p t) xs k0 k1)))
  begins h =
      in_session (λ r xs. BeginsOpened r xs k0 k1) inputs image choices s file text packets opens
      (begun ∙ same_inputs image own inputs choices same)
      (subst (λ v. IfSome packets (λ xs. BeginsServed v (frames_of xs) k0 k1)) first h)
