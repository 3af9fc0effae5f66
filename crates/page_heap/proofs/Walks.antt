-- What the walks share: a signature's slots, what runs behind an arm, and parameters of which
-- nothing is left at the end. Assumes `Logic` where it takes one.
use Rattle.std.proofs.Common.{ℕ, zero, suc, List, [], ◌∷◌}
use seplogic.Ra.Ura.{Ura}
use mir.Syntax.{Body}
use prog.Wp.{Env, Calls, Loops, Wp, after_seq}
use base.Logic.{ent, emp, id⊢}
use base.Fml.{Fml, ftrue, fsep}
use types.Logic.{Logic, sem}
use types.Kit.{Post, any_q, post, ‵, ◌$◌, ◌∵◌, !, qed, use0, fjoin, done}
use denote.Steps.{nothing}
use denote.Builtin.{unit}
use denote.Signature.{Slot, plain}

abbrev pub slot_at : {n : ℕ} → ℕ → List (Slot n) → Slot n
slot_at k [] = plain (λ _. unit)
slot_at zero (s ∷ ss) = s
slot_at (suc k) (s ∷ ss) = slot_at k ss

-- what is left of k parameters at the end, where nothing is: a walk's last step asks for it
abbrev pub gone : ℕ → Fml
gone zero = ftrue
gone (suc k) = fsep ftrue (gone k)

module _ {M : Type 1} {𝓤 : Ura M} (𝓛 : Logic 𝓤) where
  open 𝓛 use {H}

  abbrev pub then_runs : Calls 𝓤 H → Loops 𝓤 H → Env 𝓤 H → Body → Post 𝓤 H → Post 𝓤 H
  then_runs C Λ E b q = any_q (after_seq 𝓤 H (Wp 𝓤 H C Λ E b (post 𝓤 H q)) (post 𝓤 H q))

  -- that is had for nothing
  pub all_gone : (k : ℕ) → ent 𝓤 (emp 𝓤) (sem 𝓛 (gone k))
  all_gone zero = id⊢ 𝓤 (emp 𝓤)
  all_gone (suc k) = qed 𝓛 [] ∵ use0 𝓛 (‵ (gone k)) (all_gone k) $ nothing ! $ fjoin ! $ done !
