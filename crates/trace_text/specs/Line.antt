-- The line of a choice.
use Rattle.std.specs.Prelude.{ℕ, List, [], ◌∷◌, ◌++◌, codes, decimal}
use Rattle.trace_text.specs.Composites.{member, object}
use Rattle.trace_text.specs.Scalars.{flag_text, number_or_null}
use Rattle.trace_steps.specs.declared.told.Told.{Told}
use Rattle.trace_text.specs.Values.{text_value, access_value, register_value, end_value}

-- choice k, and what it did
unfoldable pub told_object : Told → ℕ → List ℕ
told_object told k = object (
    member (codes "choice") (decimal k)
    ∷ member (codes "hart") (decimal told.choice.hart)
    ∷ member (codes "refused") (flag_text told.choice.refuse)
    ∷ member (codes "pc") (decimal told.pc)
    ∷ member (codes "word") (number_or_null told.word)
    ∷ member (codes "text") (text_value told.pc told.word told.instr)
    ∷ member (codes "access") (access_value told.access)
    ∷ member (codes "register") (register_value told.written)
    ∷ member (codes "reserved") (number_or_null told.reserved)
    ∷ member (codes "next") (decimal told.next)
    ∷ member (codes "end") (end_value told.state)
    ∷ [])

-- the same, with LF behind it
unfoldable pub line_of : Told → ℕ → List ℕ
line_of told k = told_object told k ++ 10 ∷ []
