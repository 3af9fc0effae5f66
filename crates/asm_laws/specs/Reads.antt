-- The statements of source texts, as a relation: a text is cut at the ends of statements, lines are
-- numbered, each part has its labels and its body, and the section of each is that of the last
-- change before it in its source. `asm_statement` says how they are read one after another; the
-- laws of src/reads.rt say that both are the same.
use Rattle.std.specs.Prelude.{◌≡◌, ℕ, ◌+◌, ◌==◌, ◌⊎◌, List, [], ◌∷◌, ◌++◌, Bool, true, false, if◌then◌else◌, Option, Some, None, Result, Ok, Err, map}
use Rattle.asm_lex.specs.Lexemes.{Lexeme, lexed}
use Rattle.asm_statement.specs.declared.fault.Fault.{Fault}
use Rattle.asm_statement.specs.declared.fault.FaultKind.{FaultKind}
use Rattle.asm_statement.specs.declared.fault.FaultKind.TheVariants as faults
use Rattle.asm_statement.specs.declared.statement.Section.{Section}
use Rattle.asm_statement.specs.declared.statement.Section.TheVariants as sections
use Rattle.asm_statement.specs.declared.statement.Body.TheVariants as bodies
use Rattle.asm_statement.specs.declared.statement.Directive.TheVariants as directives
use Rattle.asm_statement.specs.Statement.{StatementValue, BodyValue}
use Rattle.asm_statement.specs.Statements.{body, label_of, ends_statement, lines_ended, section_behind}

-- ---- a text, cut at the ends of statements
-- the lexemes between two ends, and the line on which they begin
pub record Part : Type 0 where
  pub line : ℕ
  pub lexemes : List Lexeme

-- none of the lexemes ends a statement
abbrev pub HasNoEnd : List Lexeme → Type 0
HasNoEnd [] = Unit {0}
HasNoEnd (l ∷ ls) = (ends_statement l ≡ false) × HasNoEnd ls

-- lexemes from a line on are these parts with one end between each two; each end of a line begins
-- the next line
abbrev pub AreParts : ℕ → List Lexeme → List Part → Type 0
AreParts line ls [] = ⊥
AreParts line ls (p ∷ []) = (p.line ≡ line) × HasNoEnd p.lexemes × (ls ≡ p.lexemes)
AreParts line ls (p ∷ q ∷ ps) =
    (p.line ≡ line) × HasNoEnd p.lexemes
    × ((end : Lexeme) × (rest : List Lexeme) × (ends_statement end ≡ true) × (ls ≡ p.lexemes ++ end ∷ rest)
    × AreParts (line + lines_ended end) rest (q ∷ ps))

-- ---- what a part says
-- a label in front of what follows it, and the lexemes of what follows
abbrev pub behind_label : Option BodyValue → List BodyValue × List Lexeme → List BodyValue × List Lexeme → List BodyValue × List Lexeme
behind_label (Some label) more alone = (label ∷ more.0, more.1)
behind_label None more alone = alone

-- the labels in front, and the lexemes behind them
unfoldable pub labelled : List Lexeme → List BodyValue × List Lexeme
labelled [] = ([], [])
labelled (l ∷ []) = ([], l ∷ [])
labelled (l ∷ m ∷ ls) = behind_label (label_of (l ∷ m ∷ ls)) (labelled ls) ([], l ∷ m ∷ ls)

-- labels and a body, where there is one; or what is wrong with the body
abbrev pub with_body : List BodyValue → Result (Option BodyValue) FaultKind → Result (List BodyValue) FaultKind
with_body labels (Ok None) = Ok labels
with_body labels (Ok (Some b)) = Ok (labels ++ b ∷ [])
with_body labels (Err kind) = Err kind

-- what a part says in a section: its labels and then its body, or its lowest fault
abbrev pub said_by_part : Section → Part → Result (List BodyValue) FaultKind
said_by_part section p = with_body (labelled p.lexemes).0 (body section (labelled p.lexemes).1)

-- the section behind what is said
abbrev pub section_after : Section → List BodyValue → Section
section_after section [] = section
section_after section (b ∷ bs) = section_after (section_behind section b) bs

-- what is said on a line of a source
abbrev pub on_line : ℕ → ℕ → List BodyValue → List StatementValue
on_line source line said = map (λ b. record { source = source; line = line; body = b }) said

-- ---- sources
-- the parts of a source from a section on say these statements, in their order
abbrev pub PartsSay : ℕ → Section → List Part → List StatementValue → Type 0
PartsSay source section [] ss = ss ≡ []
PartsSay source section (p ∷ ps) ss =
    (here : List BodyValue) × (more : List StatementValue) × (said_by_part section p ≡ Ok here)
    × (ss ≡ on_line source p.line here ++ more) × PartsSay source (section_after section here) ps more

-- a part is the first that is wrong, and has this fault; where the text has a fault of a token, its
-- last part has that
abbrev pub PartsFail : ℕ → Section → Bool → List Part → Fault → Type 0
PartsFail source section whole [] fault = ⊥
PartsFail source section false (p ∷ []) fault = fault ≡ record { kind = faults.Token; source = source; line = p.line }
PartsFail source section true (p ∷ []) fault =
    (kind : FaultKind) × (said_by_part section p ≡ Err kind) × (fault ≡ record { kind = kind; source = source; line = p.line })
PartsFail source section whole (p ∷ q ∷ ps) fault =
    ((kind : FaultKind) × (said_by_part section p ≡ Err kind) × (fault ≡ record { kind = kind; source = source; line = p.line }))
    ⊎ ((here : List BodyValue) × (said_by_part section p ≡ Ok here) × PartsFail source (section_after section here) whole (q ∷ ps) fault)

-- a source begins on line 1 in `.text`, has no fault of a token, and its parts say these statements
pub record SourceSays (source : ℕ) (text : List ℕ) (ss : List StatementValue) : Type 0 where
  pub whole : (lexed 0 text).whole ≡ true
  pub parts : List Part
  pub are_parts : AreParts 1 (lexed 0 text).lexemes parts
  pub say : PartsSay source sections.Text parts ss

-- or one of its parts is the first that is wrong
pub record SourceFails (source : ℕ) (text : List ℕ) (fault : Fault) : Type 0 where
  pub parts : List Part
  pub are_parts : AreParts 1 (lexed 0 text).lexemes parts
  pub fail : PartsFail source sections.Text (lexed 0 text).whole parts fault

-- the change to `.text` with which each source behind the first begins
abbrev pub beginning : ℕ → List StatementValue
beginning source =
    if source == 0 then []
    else record { source = source; line = 1; body = bodies.Directive (directives.Section sections.Text) } ∷ []

-- sources from an index on say these statements
abbrev pub TextsSay : ℕ → List (List ℕ) → List StatementValue → Type 0
TextsSay source [] ss = ss ≡ []
TextsSay source (text ∷ texts) ss =
    (here : List StatementValue) × (more : List StatementValue) × SourceSays source text here
    × (ss ≡ beginning source ++ (here ++ more)) × TextsSay (source + 1) texts more

-- the first source that is wrong has this fault
abbrev pub TextsFail : ℕ → List (List ℕ) → Fault → Type 0
TextsFail source [] fault = ⊥
TextsFail source (text ∷ texts) fault =
    SourceFails source text fault
    ⊎ ((here : List StatementValue) × SourceSays source text here × TextsFail (source + 1) texts fault)

-- ---- laws
-- sources either say statements, always the same, or have a fault, and never both
pub record IsDecided (texts : List (List ℕ)) : Type 0 where
  pub answered : ((ss : List StatementValue) × TextsSay 0 texts ss) ⊎ ((fault : Fault) × TextsFail 0 texts fault)
  pub once : (ss more : List StatementValue) → TextsSay 0 texts ss → TextsSay 0 texts more → ss ≡ more
  pub one_fault : (fault other : Fault) → TextsFail 0 texts fault → TextsFail 0 texts other → fault ≡ other
  pub not_both : (ss : List StatementValue) (fault : Fault) → TextsSay 0 texts ss → TextsFail 0 texts fault → ⊥
