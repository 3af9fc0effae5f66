-- The values that instructions compute. Numbers are words below 2 ^ 32; sums are modulo 2 ^ 32.
use Rattle.std.specs.Prelude.{ℕ, zero, suc, ◌+◌, ◌-◌, ◌*◌, ◌/◌, ◌%◌, ◌^◌, Bool, not, ◌==◌, nat_lt, if◌then◌else◌}
use Rattle.isa_table.specs.Ranges.{sign_extend}
use Rattle.isa_table.specs.declared.mnemonic.BranchOp.{BranchOp}
use Rattle.isa_table.specs.declared.mnemonic.BranchOp.TheVariants.{Beq, Bne, Blt, Bge, Bltu, Bgeu}
use Rattle.isa_table.specs.declared.mnemonic.LoadOp.{LoadOp}
use Rattle.isa_table.specs.declared.mnemonic.LoadOp.TheVariants.{Lb, Lh, Lw, Lbu, Lhu}
use Rattle.isa_table.specs.declared.mnemonic.StoreOp.{StoreOp}
use Rattle.isa_table.specs.declared.mnemonic.StoreOp.TheVariants.{Sb, Sh, Sw}
use Rattle.isa_table.specs.declared.mnemonic.ImmediateOp.{ImmediateOp}
use Rattle.isa_table.specs.declared.mnemonic.ImmediateOp.TheVariants.{Addi, Slti, Sltiu, Xori, Ori, Andi}
use Rattle.isa_table.specs.declared.mnemonic.ShiftOp.{ShiftOp}
use Rattle.isa_table.specs.declared.mnemonic.ShiftOp.TheVariants.{Slli, Srli, Srai}
use Rattle.isa_table.specs.declared.mnemonic.RegisterOp.{RegisterOp}
use Rattle.isa_table.specs.declared.mnemonic.RegisterOp.TheVariants.{Add, Sub, Sll, Slt, Sltu, Xor, Srl, Sra, Or, And}
use Rattle.isa_table.specs.declared.mnemonic.AmoOp.{AmoOp}
use Rattle.isa_table.specs.declared.mnemonic.AmoOp.TheVariants.{Amoswap, Amoadd, Amoxor, Amoand, Amoor, Amomin, Amomax, Amominu, Amomaxu}

-- a number as a word
abbrev pub wrap : ℕ → ℕ
wrap x = x % 2 ^ 32

-- the sum over the lowest n binary digits of `digit` of a's and b's
unfoldable pub bitwise : ℕ → (ℕ → ℕ → ℕ) → ℕ → ℕ → ℕ
bitwise zero digit a b = 0
bitwise (suc n) digit a b = digit (a % 2) (b % 2) + 2 * bitwise n digit (a / 2) (b / 2)

-- both of two binary digits
abbrev pub both : ℕ → ℕ → ℕ
both a b = a * b

-- either of two binary digits, or both
abbrev pub either : ℕ → ℕ → ℕ
either a b = a + b - a * b

-- exactly one of two binary digits
abbrev pub one_of : ℕ → ℕ → ℕ
one_of a b = if a == b then 0 else 1

-- a is below b as signed words: adding 2 ^ 31 moves the negative numbers below the others
abbrev pub signed_lt : ℕ → ℕ → Bool
signed_lt a b = nat_lt ((a + 2 ^ 31) % 2 ^ 32) ((b + 2 ^ 31) % 2 ^ 32)

-- an arithmetic right shift: the floor of the signed number by 2 ^ s
abbrev pub arithmetic_shift : ℕ → ℕ → ℕ
arithmetic_shift a s = a / 2 ^ s + (if nat_lt a (2 ^ 31) then 0 else 2 ^ 32 - 2 ^ (32 - s))

-- a truth value as a word
abbrev pub flag : Bool → ℕ
flag b = if b then 1 else 0

-- register-register operations (Unprivileged ISA, "Integer Register-Register Operations")
abbrev pub register_result : RegisterOp → ℕ → ℕ → ℕ
register_result Add a b = wrap (a + b)
register_result Sub a b = wrap (a + (2 ^ 32 - b))
register_result Sll a b = wrap (a * 2 ^ (b % 32))
register_result Slt a b = flag (signed_lt a b)
register_result Sltu a b = flag (nat_lt a b)
register_result Xor a b = bitwise 32 one_of a b
register_result Srl a b = a / 2 ^ (b % 32)
register_result Sra a b = arithmetic_shift a (b % 32)
register_result Or a b = bitwise 32 either a b
register_result And a b = bitwise 32 both a b

-- the register form of an operation with an immediate
abbrev pub immediate_form : ImmediateOp → RegisterOp
immediate_form Addi = Add
immediate_form Slti = Slt
immediate_form Sltiu = Sltu
immediate_form Xori = Xor
immediate_form Ori = Or
immediate_form Andi = And

-- the register form of a shift by an immediate
abbrev pub shift_form : ShiftOp → RegisterOp
shift_form Slli = Sll
shift_form Srli = Srl
shift_form Srai = Sra

-- whether a branch is taken (Unprivileged ISA, "Conditional Branches")
abbrev pub is_taken : BranchOp → ℕ → ℕ → Bool
is_taken Beq a b = a == b
is_taken Bne a b = not (a == b)
is_taken Blt a b = signed_lt a b
is_taken Bge a b = not (signed_lt a b)
is_taken Bltu a b = nat_lt a b
is_taken Bgeu a b = not (nat_lt a b)

-- the number of bytes that a load reads
abbrev pub load_size : LoadOp → ℕ
load_size Lb = 1
load_size Lh = 2
load_size Lw = 4
load_size Lbu = 1
load_size Lhu = 2

-- the word that a load makes of the number read (Unprivileged ISA, "Load and Store Instructions")
abbrev pub extended : LoadOp → ℕ → ℕ
extended Lb number = sign_extend 8 number
extended Lh number = sign_extend 16 number
extended Lw number = number
extended Lbu number = number
extended Lhu number = number

-- the number of bytes that a store writes
abbrev pub store_size : StoreOp → ℕ
store_size Sb = 1
store_size Sh = 2
store_size Sw = 4

-- the word that an AMO stores (Unprivileged ISA, "Atomic Memory Operations")
abbrev pub amo_result : AmoOp → ℕ → ℕ → ℕ
amo_result Amoswap old b = b
amo_result Amoadd old b = wrap (old + b)
amo_result Amoxor old b = bitwise 32 one_of old b
amo_result Amoand old b = bitwise 32 both old b
amo_result Amoor old b = bitwise 32 either old b
amo_result Amomin old b = if signed_lt b old then b else old
amo_result Amomax old b = if signed_lt old b then b else old
amo_result Amominu old b = if nat_lt b old then b else old
amo_result Amomaxu old b = if nat_lt old b then b else old
