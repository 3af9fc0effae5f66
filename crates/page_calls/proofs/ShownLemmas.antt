-- A reply that tells what a command prints, or why it is refused.
use Rattle.std.proofs.Common.{◌≡◌, ◌≢◌, ℕ, List, [], Option, Some, IfSome, length, subst, take}
use Rattle.std.proofs.Common.{refl, sym, ◌∙◌, inl, inr}
use Rattle.byte_io.specs.declared.status.Status.{Status}
use Rattle.byte_io.specs.declared.status.Status.TheVariants.{Done}
use Rattle.cmd_shrink.specs.Shrink.{Shrinks, refusal}
use Rattle.cmd_explore.specs.declared.finding.Explored.{Explored}
use Rattle.explore_space.specs.declared.question.Question.{Question}
use Rattle.outcome.specs.declared.expect.Expect.{Expect}
use Rattle.page_calls.specs.Explored.{FoundEvery, IsFoundEvery, RefusesEvery, TellsExplored}
use Rattle.page_calls.specs.declared.reply.Reply.{Reply}
use Rattle.page_calls.specs.declared.reply.Reply.TheVariants.{Answered, Refused, NoRoom, NoMemory}
use Rattle.page_calls.specs.Replies.{TellsFault, TellsText}
use Rattle.page_calls.specs.Shown.{PrintsWell, TellsOne, TellsShrunk}
use Rattle.program_open.specs.CommandFaults.{IsRefusal, status_of_fault}
use Rattle.program_open.specs.Opening.{opening}
use Rattle.program_open.specs.declared.command_fault.CommandFault.{CommandFault}
use Rattle.program_open.specs.declared.command_fault.CommandFault.TheVariants as fault
use Rattle.program_open.specs.declared.program.ProgramForm.TheVariants as form

-- a fault of what was read isn't want of memory
pub not_memory : (why : CommandFault) → IsRefusal why → why ≢ fault.Memory
not_memory why refusal same = subst IsRefusal same refusal

-- whether a reply says anything
abbrev tells_something : Reply → Type 0
tells_something (Answered told) = Unit {0}
tells_something (Refused told) = Unit {0}
tells_something NoRoom = Unit {0}
tells_something NoMemory = ⊥

something : (reply : Reply) → tells_something reply → reply ≢ NoMemory
something reply one same = subst tells_something same one

module _ (Prints : List ℕ → Status → Type 0) (Refuses : CommandFault → Type 0) where
  -- the text that the command prints is told, with its status
  pub text_told : (text out : List ℕ) (status : Status) (reply : Reply) → Prints text status
      → TellsText text status out reply → TellsOne Prints Refuses out reply
  text_told text out status (Answered told) prints tells = (
    tells.0,
    subst (Prints (take told.length out)) (sym (tells.2))
        (subst (λ it. Prints it status) (sym (tells.1)) prints),
  )
  text_told text out status (Refused told) prints tells = absurd tells
  text_told text out status NoRoom prints tells =
      inl (record { text = text; status = status; prints = prints; longer = tells })
  text_told text out status NoMemory prints tells = tt

  -- the fault for which it is refused is told
  pub refusal_told : (out : List ℕ) (why : CommandFault) (reply : Reply)
      → (IsRefusal why → TellsFault (status_of_fault why) out reply)
      → (reply ≢ NoMemory → IsRefusal why) → (IsRefusal why → Refuses why)
      → TellsOne Prints Refuses out reply
  refusal_told out why (Answered told) tells other refuses =
      absurd (tells (other (something (Answered told) tt)))
  refusal_told out why (Refused told) tells other refuses =
      let is : IsRefusal why = other (something (Refused told) tt) in
      ((tells is).0, record { why = why; refuses = refuses is; status_is = sym ((tells is).1) })
  refusal_told out why NoRoom tells other refuses =
      let is : IsRefusal why = other (something NoRoom tt) in
      inr (status_of_fault why, record { why = why; refuses = refuses is; status_is = refl })
  refusal_told out why NoMemory tells other refuses = tt

module _ (expect : Expect) (inputs program choices : List ℕ) where
  -- a text that shrinks these choices
  abbrev IsText : List ℕ → Type 0
  IsText = Shrinks expect [] inputs (opening form.Elf (length inputs) program choices)

  -- why there is none, if the file has these bytes and the choice text those
  abbrev IsRefused : List ℕ → List ℕ → CommandFault → Type 0
  IsRefused file text why =
      refusal expect [] inputs (opening form.Elf (length inputs) file text) ≡ Some why

  -- a list that was shrunk is told
  pub shrunk_told : (text out : List ℕ) (status : Status) (reply : Reply) → IsText text
      → status ≡ Done → TellsText text status out reply
      → TellsShrunk expect inputs program choices out reply
  shrunk_told text out status reply prints done tells =
      text_told (PrintsWell IsText) (IsRefused program choices) text out status reply
      (prints, done) tells

  -- the fault for which there is none is told
  pub unshrunk_told : (file text : Option (List ℕ)) (out : List ℕ) (why : CommandFault)
      (reply : Reply) → file ≡ Some program → text ≡ Some choices
      → (IsRefusal why → TellsFault (status_of_fault why) out reply)
      → (reply ≢ NoMemory → IsRefusal why)
      → (IsRefusal why → IfSome file (λ p. IfSome text (λ c. IsRefused p c why)))
      → TellsShrunk expect inputs program choices out reply
  unshrunk_told file text out why reply read heard tells other refuses =
      refusal_told (PrintsWell IsText) (IsRefused program choices) out why reply tells other
      (λ is. subst (λ (held : Option (List ℕ)). IfSome held (λ c. IsRefused program c why)) heard
      (subst (λ (held : Option (List ℕ)). IfSome held (λ p. IfSome text (λ c. IsRefused p c why)))
      read (refuses is)))

module _ (Z : Type 0) (question : Question) (inputs program : List ℕ) where
  -- what is found of every schedule is told
  pub explored_told : (found : Explored Z) (text out : List ℕ) (reply : Reply)
      → FoundEvery question inputs program found → found.text.items ≡ text
      → TellsText text found.status out reply
      → TellsExplored Z question inputs program out reply
  explored_told found text out reply is same tells =
      text_told (IsFoundEvery Z question inputs program) (RefusesEvery question inputs program)
      text out found.status reply
      (record { found = found; is = is; text_is = same; status_is = refl }) tells

  -- the fault for which nothing is found is told
  pub unexplored_told : (out : List ℕ) (why : CommandFault) (reply : Reply)
      → (IsRefusal why → TellsFault (status_of_fault why) out reply)
      → (reply ≢ NoMemory → IsRefusal why)
      → (IsRefusal why → RefusesEvery question inputs program why)
      → TellsExplored Z question inputs program out reply
  unexplored_told = refusal_told (IsFoundEvery Z question inputs program)
      (RefusesEvery question inputs program)
