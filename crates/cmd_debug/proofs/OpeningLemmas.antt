-- How a session begins.
use Rattle.std.proofs.Common.{◌≡◌, ℕ, ◌<◌, ◌≤◌, Bool, cond, ltb, List, ◌++◌, append-nil, Option, Some, None, IfSome, Ok, Err, length, arith, ne_eqb, le-ltb, subst, sym, ap, ◌∙◌}
use Rattle.std.specs.Io.KnownBytes.{Consumes, IsAtEnd}
use Rattle.hart_reservations.specs.Limit.{most_harts}
use Rattle.sched_text.specs.Reading.{choices_read}
use Rattle.elf_read.specs.Symbol.{SymbolValue}
use Rattle.image.specs.Image.{ImageValue}
use Rattle.machine.specs.declared.choice.Choice.{Choice}
use Rattle.debug_session.specs.Session.{Session}
use Rattle.program_open.specs.Opening.{Opened, after_program, opening, with_choices}
use Rattle.program_open.specs.Program.{program_of}
use Rattle.program_open.specs.declared.program.ProgramForm.TheVariants as form
use Rattle.program_open.specs.declared.command_fault.CommandFault.TheVariants as fault
use Rattle.program_named.specs.Symbols.{program_symbols}
use Rattle.cmd_debug.specs.Opening.{session_after, first_session, opened, Opening}

-- what holds of the session that was begun holds of the one that the devices' bytes begin
pub in_session : (P : Opening → List ℕ → Type 0) (inputs : List ℕ) (image : ImageValue) (choices : List Choice) (s : Session) (file text commands : Option (List ℕ))
    → IfSome file (λ p. IfSome text (λ t. opening form.Elf (length inputs) p t ≡ Ok (image, choices)))
    → s ≡ first_session image inputs choices → IfSome commands (P (Ok s))
    → IfSome file (λ p. IfSome text (λ t. IfSome commands (P (opened inputs p t))))
unfolding opened
in_session P inputs image choices s None text commands opens begun h = tt
in_session P inputs image choices s (Some p) None commands opens begun h = tt
in_session P inputs image choices s (Some p) (Some t) commands opens begun h =
    subst (λ r. IfSome commands (P r)) (ap Ok begun ∙ sym (ap (session_after inputs) opens)) h

-- so does what holds of it and the symbols that were read
pub in_named_session : (P : List SymbolValue → Opening → List ℕ → Type 0) (inputs : List ℕ) (image : ImageValue) (choices : List Choice) (symbols slice : List SymbolValue) (s : Session) (file text commands : Option (List ℕ))
    → IfSome file (λ p. IfSome text (λ t. opening form.Elf (length inputs) p t ≡ Ok (image, choices)))
    → IfSome file (λ p. symbols ≡ program_symbols form.Elf p) → slice ≡ symbols
    → s ≡ first_session image inputs choices → IfSome commands (P slice (Ok s))
    → IfSome file (λ p. IfSome text (λ t. IfSome commands (P (program_symbols form.Elf p) (opened inputs p t))))
unfolding opened
in_named_session P inputs image choices symbols slice s None text commands opens named same begun h = tt
in_named_session P inputs image choices symbols slice s (Some p) None commands opens named same begun h = tt
in_named_session P inputs image choices symbols slice s (Some p) (Some t) commands opens named same begun h =
    subst (λ names. IfSome commands (P names (opened inputs p t))) (same ∙ named)
    (subst (λ r. IfSome commands (P slice r)) (ap Ok begun ∙ sym (ap (session_after inputs) opens)) h)

-- the same inputs begin the same session
pub same_inputs : (image : ImageValue) (xs ys : List ℕ) (choices : List Choice) → xs ≡ ys
    → first_session image xs choices ≡ first_session image ys choices
same_inputs image xs ys choices same = ap (λ inputs. first_session image inputs choices) same
