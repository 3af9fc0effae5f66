-- The outcomes of a line.
use Rattle.std.proofs.Common.{refl, ◌≡◌, ℕ, Bool, true, false, List, Ok, Err, ap, ◌∙◌}
use Rattle.std.proofs.lemmas.Str.{is_utf8-from_IsUtf8, IsUtf8-from_is_utf8}
use Rattle.std.specs.Str.{is_utf8, IsUtf8}
use Rattle.elf_read.specs.Symbol.{SymbolValue}
use Rattle.debug_session.specs.Session.{Session}
use Rattle.debug_text.specs.Reply.{Outcome, reply_to}
use Rattle.debug_text.specs.declared.fault.DebugFault.{DebugFault}
use Rattle.debug_text.specs.declared.fault.DebugFault.TheVariants.{BadCommand}
use Rattle.cmd_debug.specs.Talk.{fault_line, line_reply, outcome_to, settled}

told : (s after : Session) (text : List ℕ) (fault : DebugFault) → text ≡ fault_line fault → after ≡ s
    → ◌≡◌ {A = Outcome} (record { text = fault_line fault; after = s; ended = false }) (record { text = text; after = after; ended = false })
told s after text fault is same = rw (is, same) refl

other_bytes : (line : List ℕ) (b : Bool) → is_utf8 line ≡ b → (IsUtf8 line → ⊥) → is_utf8 line ≡ false
other_bytes line true e none = absurd (none (IsUtf8-from_is_utf8 line e))
other_bytes line false e none = e

-- a line that is no UTF-8
pub no_utf8 : (symbols : List SymbolValue) (s : Session) (line text : List ℕ) → (IsUtf8 line → ⊥) → text ≡ fault_line BadCommand → outcome_to symbols s line ≡ record { text = text; after = s; ended = false }
unfolding outcome_to
no_utf8 symbols s line text none is =
    let other : is_utf8 line ≡ false = other_bytes line (is_utf8 line) refl none in
    let reply : line_reply symbols s line ≡ Err BadCommand = rw other refl in
    ap (settled s) reply ∙ told s s text BadCommand is refl

-- a text
text_reply : (symbols : List SymbolValue) (s : Session) (line : List ℕ) → IsUtf8 line → line_reply symbols s line ≡ reply_to symbols s line
text_reply symbols s line utf8 =
    let text : is_utf8 line ≡ true = is_utf8-from_IsUtf8 line utf8 in
    rw text refl

-- it is obeyed
pub obeyed : (symbols : List SymbolValue) (s : Session) (line : List ℕ) (outcome : Outcome) → IsUtf8 line → reply_to symbols s line ≡ Ok outcome → outcome_to symbols s line ≡ outcome
unfolding outcome_to
obeyed symbols s line outcome utf8 e = ap (settled s) (text_reply symbols s line utf8 ∙ e)

-- or its command is refused
pub refused : (symbols : List SymbolValue) (s after : Session) (line text : List ℕ) (fault : DebugFault) → IsUtf8 line → reply_to symbols s line ≡ Err fault
    → text ≡ fault_line fault → after ≡ s
    → outcome_to symbols s line ≡ record { text = text; after = after; ended = false }
unfolding outcome_to
refused symbols s after line text fault utf8 e is same = ap (settled s) (text_reply symbols s line utf8 ∙ e) ∙ told s after text fault is same
