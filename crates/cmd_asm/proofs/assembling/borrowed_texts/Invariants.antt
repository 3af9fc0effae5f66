use Rattle.std.proofs.Common.{◌≡◌, ◌++◌, drop, map, string_bytes}
use Rattle.cmd_asm.proofs.assembling.borrowed_texts.Given as goal

-- the texts so far, and those that are left
abbrev pub invariant-texts : goal.invariant-texts
invariant-texts g l =
    map (λ s. s.now) l.texts.items ++ map string_bytes (drop l.text-index l.owned) ≡ map string_bytes l.owned
