use Rattle.std.proofs.Common.{◌≡◌, ◌++◌, ◌-◌, string_bytes}
use Rattle.hart_step.specs.Hart.{hart_of}
use Rattle.debug_text.specs.Code.{code_from, code_text}
use Rattle.debug_text.proofs.code_text.code_text.Given as goal

-- the text so far, and then the words that are left
abbrev pub invariant-words : goal.invariant-words
invariant-words g l = string_bytes l.text ++ code_from l.symbols (g.S.Store.memory l.store) (hart_of l.hart).pc l.place (11 - l.counter)
    ≡ code_text l.symbols (g.S.Store.memory l.store) l.number (hart_of l.hart)
