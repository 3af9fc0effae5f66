-- The meaning of a statement's first name.
use Rattle.std.specs.Prelude.{ℕ, List, [], ◌∷◌, ◌++◌, map, flat_map, Option, codes, true, false}
use Rattle.isa_table.specs.Names.{name_of}
use Rattle.isa_table.specs.Table.{mnemonics}
use Rattle.isa_table.specs.declared.fields.Order.{Order}
use Rattle.isa_table.specs.declared.mnemonic.Mnemonic.{Mnemonic}
use Rattle.isa_table.specs.declared.mnemonic.Mnemonic.TheVariants as m
use Rattle.isa_table.specs.declared.mnemonic.BranchOp.TheVariants as branches
use Rattle.asm_statement.specs.declared.statement.Section.TheVariants as sections
use Rattle.asm_statement.specs.declared.heads.Head.{Head}
use Rattle.asm_statement.specs.declared.heads.Head.TheVariants as heads
use Rattle.asm_statement.specs.declared.heads.Operation.{Operation}
use Rattle.asm_statement.specs.declared.heads.Operation.TheVariants as ops
use Rattle.asm_statement.specs.declared.heads.Unary.TheVariants as unaries
use Rattle.asm_statement.specs.Names.{first_named}

-- the suffixes of a mnemonic of the A extension, and their orderings
abbrev pub suffixes : List (List ℕ × Order)
suffixes =
    ([], record { aq = false; rl = false }) ∷
    (codes ".aq", record { aq = true; rl = false }) ∷
    (codes ".rl", record { aq = false; rl = true }) ∷
    (codes ".aqrl", record { aq = true; rl = true }) ∷ []

-- a mnemonic without a suffix
abbrev pub without_suffix : Mnemonic → Operation → List (List ℕ × Head)
without_suffix mnemonic operation = (name_of mnemonic, heads.Operation operation) ∷ []

-- a mnemonic with each suffix
abbrev pub ordered : Mnemonic → (Order → Operation) → List (List ℕ × Head)
ordered mnemonic operation = map (λ s. (name_of mnemonic ++ s.0, heads.Operation (operation s.1))) suffixes

-- the names of a mnemonic
abbrev pub mnemonic_names : Mnemonic → List (List ℕ × Head)
mnemonic_names m.Lui = without_suffix m.Lui ops.Lui
mnemonic_names m.Auipc = without_suffix m.Auipc ops.Auipc
mnemonic_names m.Jal = without_suffix m.Jal ops.Jal
mnemonic_names m.Jalr = without_suffix m.Jalr ops.Jalr
mnemonic_names (m.Branch op) = without_suffix (m.Branch op) (ops.Branch op)
mnemonic_names (m.Load op) = without_suffix (m.Load op) (ops.Load op)
mnemonic_names (m.Store op) = without_suffix (m.Store op) (ops.Store op)
mnemonic_names (m.Immediate op) = without_suffix (m.Immediate op) (ops.Immediate op)
mnemonic_names (m.Shift op) = without_suffix (m.Shift op) (ops.Shift op)
mnemonic_names (m.Register op) = without_suffix (m.Register op) (ops.Register op)
mnemonic_names m.Fence = without_suffix m.Fence ops.Fence
mnemonic_names m.Ecall = without_suffix m.Ecall ops.Ecall
mnemonic_names m.Ebreak = without_suffix m.Ebreak ops.Ebreak
mnemonic_names m.LoadReserved = ordered m.LoadReserved ops.LoadReserved
mnemonic_names m.StoreConditional = ordered m.StoreConditional ops.StoreConditional
mnemonic_names (m.Amo op) = ordered (m.Amo op) (ops.Amo op)

-- FENCE.TSO, pseudo-instructions and directives
abbrev pub other_names : List (List ℕ × Head)
other_names =
    (codes "fence.tso", heads.Operation ops.FenceTso) ∷
    (codes "nop", heads.Operation ops.Nop) ∷
    (codes "ret", heads.Operation ops.Ret) ∷
    (codes "mv", heads.Operation (ops.Unary unaries.Move)) ∷
    (codes "not", heads.Operation (ops.Unary unaries.Not)) ∷
    (codes "neg", heads.Operation (ops.Unary unaries.Negate)) ∷
    (codes "seqz", heads.Operation (ops.Unary unaries.IsZero)) ∷
    (codes "snez", heads.Operation (ops.Unary unaries.IsNotZero)) ∷
    (codes "sltz", heads.Operation (ops.Unary unaries.IsNegative)) ∷
    (codes "sgtz", heads.Operation (ops.Unary unaries.IsPositive)) ∷
    (codes "beqz", heads.Operation (ops.BranchZero branches.Beq)) ∷
    (codes "bnez", heads.Operation (ops.BranchZero branches.Bne)) ∷
    (codes "bgez", heads.Operation (ops.BranchZero branches.Bge)) ∷
    (codes "bltz", heads.Operation (ops.BranchZero branches.Blt)) ∷
    (codes "blez", heads.Operation (ops.ZeroBranch branches.Bge)) ∷
    (codes "bgtz", heads.Operation (ops.ZeroBranch branches.Blt)) ∷
    (codes "bgt", heads.Operation (ops.SwappedBranch branches.Blt)) ∷
    (codes "ble", heads.Operation (ops.SwappedBranch branches.Bge)) ∷
    (codes "bgtu", heads.Operation (ops.SwappedBranch branches.Bltu)) ∷
    (codes "bleu", heads.Operation (ops.SwappedBranch branches.Bgeu)) ∷
    (codes "j", heads.Operation ops.Jump) ∷
    (codes "jr", heads.Operation ops.JumpRegister) ∷
    (codes "li", heads.Li) ∷
    (codes "la", heads.La) ∷
    (codes "call", heads.Call) ∷
    (codes "tail", heads.Tail) ∷
    (codes ".text", heads.Section sections.Text) ∷
    (codes ".data", heads.Section sections.Data) ∷
    (codes ".bss", heads.Section sections.Zeros) ∷
    (codes ".section", heads.NamedSection) ∷
    (codes ".word", heads.Words) ∷
    (codes ".half", heads.Halves) ∷
    (codes ".byte", heads.Bytes) ∷
    (codes ".zero", heads.Zero) ∷
    (codes ".space", heads.Zero) ∷
    (codes ".skip", heads.Zero) ∷
    (codes ".align", heads.Align) ∷
    (codes ".p2align", heads.Align) ∷
    (codes ".globl", heads.Global) ∷
    (codes ".global", heads.Global) ∷
    (codes ".ascii", heads.Ascii false) ∷
    (codes ".asciz", heads.Ascii true) ∷
    (codes ".string", heads.Ascii true) ∷
    (codes ".file", heads.Skipped) ∷
    (codes ".option", heads.Skipped) ∷
    (codes ".attribute", heads.Skipped) ∷
    (codes ".type", heads.Skipped) ∷
    (codes ".size", heads.Skipped) ∷
    (codes ".ident", heads.Skipped) ∷ []

-- all names, with their meanings
abbrev pub head_names : List (List ℕ × Head)
head_names = flat_map mnemonic_names mnemonics ++ other_names

unfoldable pub head_of : List ℕ → Option Head
head_of name = first_named head_names name
