-- A debugger after the machine that it lent is given back.
use Rattle.std.specs.Prelude.{◌≡◌, ℕ, Result, MatchResult, ⊤}
use Rattle.std.specs.Borrow.{follows_so, Fml, MutBor, RattleType}
use Rattle.std.specs.declared.alloc.Allocator as alloc
use mathlib.Core.Option.{none}
use Rattle.debug_session.specs.Session.{session, moved, steps_to}
use Rattle.debug_session.specs.declared.debugger.Debugger.{Debugger}
use Rattle.debug_session.specs.contracts.debugger.Debugger.{the_row}

-- it is at position k if there is one, else where it was; breakpoints and watches are as before
abbrev pub EndsMoved : (A : RattleType) (heap : alloc.Ghosts A.Denot) {M E : Type 0} → MutBor (Debugger A.Denot) → ℕ → Result M E → Fml
EndsMoved A heap d k result =
    follows_so (the_row A heap) (the_row A heap) d.ghost_name none (λ _ _. ⊤)
    (λ last. MatchResult result
    (λ _. (session last ≡ moved (session d.now) k) × (last.cost ≡ steps_to k))
    (λ _. (session last ≡ session d.now) × (last.cost ≡ d.now.cost)))
