-- The answer, if the bytes of both devices are known.
use Rattle.std.proofs.Common.{◌≡◌, ℕ, List, Option, Some, None, sym, subst}
use Rattle.std.specs.Option.{IfSome}
use Rattle.program_open.specs.Answers.{Answer}

pub known_answer : (P : Answer → Type 0) (left more : Option (List ℕ)) (answer : List ℕ → List ℕ → Answer) (known : Answer)
    → IfSome left (λ p. IfSome more (λ c. answer p c ≡ known)) → P known → IfSome left (λ p. IfSome more (λ c. P (answer p c)))
known_answer P None more answer known is h = tt
known_answer P (Some p) None answer known is h = tt
known_answer P (Some p) (Some c) answer known is h = subst P (sym is) h
