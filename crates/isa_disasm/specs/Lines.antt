-- The canonical line of a word at an address.
use Rattle.std.specs.Prelude.{ℕ, ◌+◌, ◌%◌, ◌^◌, ◌==◌, ◌++◌, ◌&&◌, Bool, true, false, not, List, [], codes, ℤ, Option, Some, None, if◌then◌else◌}
use Rattle.std.specs.Fmt.{digits, signed_decimal, decimal}
use Rattle.isa_table.specs.Names.{name_of}
use Rattle.isa_table.specs.Signed.{signed_of}
use Rattle.isa_table.specs.Decoded.{decoded}
use Rattle.isa_table.specs.declared.instr.Instr.{Instr}
use Rattle.isa_table.specs.declared.instr.Instr.TheVariants as i
use Rattle.isa_table.specs.declared.mnemonic.Mnemonic.TheVariants as m
use Rattle.isa_names.specs.Names.{abi, set_name}
use Rattle.isa_names.specs.Digits.{word_text}

-- `.word 0x00000000`
abbrev pub word_line : ℕ → List ℕ
word_line word = codes ".word 0x" ++ word_text word

-- `lui rd, 0x12345`
abbrev pub upper_line : List ℕ → ℕ → ℕ → List ℕ
upper_line name rd high = name ++ (codes " " ++ (abi rd ++ (codes ", 0x" ++ digits 16 false high)))

-- the target address of an offset
abbrev pub target_of : ℕ → ℕ → ℕ
target_of at offset = (at + offset) % 2 ^ 32

-- `jal rd, 0x00010000`
abbrev pub jump_line : ℕ → ℕ → List ℕ
jump_line rd target = codes "jal " ++ (abi rd ++ (codes ", 0x" ++ word_text target))

-- `beq rs1, rs2, 0x00010000`
abbrev pub branch_line : List ℕ → ℕ → ℕ → ℕ → List ℕ
branch_line name rs1 rs2 target =
    name ++ (codes " " ++ (abi rs1 ++ (codes ", " ++ (abi rs2 ++ (codes ", 0x" ++ word_text target)))))

-- `lw rd, -4(rs1)`
abbrev pub memory_line : List ℕ → ℕ → ℤ → ℕ → List ℕ
memory_line name register offset base =
    name ++ (codes " " ++ (abi register ++ (codes ", " ++ (signed_decimal offset ++ (codes "(" ++ (abi base ++ codes ")"))))))

-- `addi rd, rs1, -1`
abbrev pub immediate_line : List ℕ → ℕ → ℕ → ℤ → List ℕ
immediate_line name rd rs1 number =
    name ++ (codes " " ++ (abi rd ++ (codes ", " ++ (abi rs1 ++ (codes ", " ++ signed_decimal number)))))

-- `slli rd, rs1, 3`
abbrev pub shift_line : List ℕ → ℕ → ℕ → ℕ → List ℕ
shift_line name rd rs1 amount =
    name ++ (codes " " ++ (abi rd ++ (codes ", " ++ (abi rs1 ++ (codes ", " ++ decimal amount)))))

-- `add rd, rs1, rs2`
abbrev pub register_line : List ℕ → ℕ → ℕ → ℕ → List ℕ
register_line name rd rs1 rs2 =
    name ++ (codes " " ++ (abi rd ++ (codes ", " ++ (abi rs1 ++ (codes ", " ++ abi rs2)))))

-- acquire and release
abbrev pub suffix : Bool → Bool → List ℕ
suffix true true = codes ".aqrl"
suffix true false = codes ".aq"
suffix false true = codes ".rl"
suffix false false = []

-- `lr.w.aq rd, (rs1)`
abbrev pub reserved_line : Bool → Bool → ℕ → ℕ → List ℕ
reserved_line aq rl rd rs1 =
    codes "lr.w" ++ (suffix aq rl ++ (codes " " ++ (abi rd ++ (codes ", (" ++ (abi rs1 ++ codes ")")))))

-- `amoswap.w.rl rd, rs2, (rs1)`
abbrev pub atomic_line : List ℕ → Bool → Bool → ℕ → ℕ → ℕ → List ℕ
atomic_line name aq rl rd rs2 rs1 =
    name ++ (suffix aq rl ++ (codes " " ++ (abi rd ++ (codes ", " ++ (abi rs2 ++ (codes ", (" ++ (abi rs1 ++ codes ")")))))))

-- `fence rw, rw`
abbrev pub sets_line : ℕ → ℕ → List ℕ
sets_line pred succ = codes "fence " ++ (set_name pred ++ (codes ", " ++ set_name succ))

-- a fence of two sets that are not empty, in which all else is 0
abbrev pub is_plain_fence : ℕ → ℕ → ℕ → ℕ → ℕ → Bool
is_plain_fence mode pred succ rs1 rd = mode == 0 && not (pred == 0) && not (succ == 0) && rs1 == 0 && rd == 0

-- the fence of total store order
abbrev pub is_tso_fence : ℕ → ℕ → ℕ → ℕ → ℕ → Bool
is_tso_fence mode pred succ rs1 rd = mode == 8 && pred == 3 && succ == 3 && rs1 == 0 && rd == 0

-- a fence; any other has no text of its own
abbrev pub fence_line : ℕ → ℕ → ℕ → ℕ → ℕ → ℕ → List ℕ
fence_line word mode pred succ rs1 rd =
    if is_plain_fence mode pred succ rs1 rd then sets_line pred succ
    else (if is_tso_fence mode pred succ rs1 rd then codes "fence.tso" else word_line word)

-- the line of an instruction at an address that a word spells, and of a word that spells none
abbrev pub instr_line : ℕ → ℕ → Option Instr → List ℕ
instr_line at word None = word_line word
instr_line at word (Some (i.Lui rd imm)) = upper_line (name_of m.Lui) rd imm
instr_line at word (Some (i.Auipc rd imm)) = upper_line (name_of m.Auipc) rd imm
instr_line at word (Some (i.Jal rd offset)) = jump_line rd (target_of at offset)
instr_line at word (Some (i.Jalr rd rs1 imm)) = memory_line (name_of m.Jalr) rd (signed_of imm) rs1
instr_line at word (Some (i.Branch op rs1 rs2 offset)) =
    branch_line (name_of (m.Branch op)) rs1 rs2 (target_of at offset)
instr_line at word (Some (i.Load op rd rs1 imm)) = memory_line (name_of (m.Load op)) rd (signed_of imm) rs1
instr_line at word (Some (i.Store op rs1 rs2 imm)) = memory_line (name_of (m.Store op)) rs2 (signed_of imm) rs1
instr_line at word (Some (i.Immediate op rd rs1 imm)) =
    immediate_line (name_of (m.Immediate op)) rd rs1 (signed_of imm)
instr_line at word (Some (i.Shift op rd rs1 amount)) = shift_line (name_of (m.Shift op)) rd rs1 amount
instr_line at word (Some (i.Register op rd rs1 rs2)) = register_line (name_of (m.Register op)) rd rs1 rs2
instr_line at word (Some (i.Fence mode pred succ rs1 rd)) = fence_line word mode pred succ rs1 rd
instr_line at word (Some i.Ecall) = codes "ecall"
instr_line at word (Some i.Ebreak) = codes "ebreak"
instr_line at word (Some (i.LoadReserved aq rl rd rs1)) = reserved_line aq rl rd rs1
instr_line at word (Some (i.StoreConditional aq rl rd rs1 rs2)) =
    atomic_line (name_of m.StoreConditional) aq rl rd rs2 rs1
instr_line at word (Some (i.Amo op aq rl rd rs1 rs2)) = atomic_line (name_of (m.Amo op)) aq rl rd rs2 rs1

-- the canonical line of a word at an address
unfoldable pub line_text : ℕ → ℕ → List ℕ
line_text at word = instr_line at word (decoded word)
